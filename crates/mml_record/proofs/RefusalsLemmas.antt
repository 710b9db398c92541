-- The reason that is read from the text of a refusal is the reason of this refusal.
use Rattle.std.proofs.{lemmas.Bool.Decides.nat_tests, Common.◌≡◌, Common.ℕ, Common.List, Common.arith}
use Rattle.mml_lab.specs.Rosters.{RosterValue}
use Rattle.mml_codec.specs.{declared.reply.Reply.Reply, Facts.object_text, Replies.text}
use Rattle.mml_record.specs.Refusals.{reason_told, reason_in}
use Rattle.mml_codec.specs.declared.reply.Reply.TheVariants as replies

pub reason_is : (ids : List ℕ) (roster : RosterValue) (r : Reply) → reason_told (text ids roster r) ≡ reason_in r
unfolding object_text reason_told
reason_is ids roster (replies.Deny d) = grind (arith, nat_tests)
reason_is ids roster r = grind (arith, nat_tests)
