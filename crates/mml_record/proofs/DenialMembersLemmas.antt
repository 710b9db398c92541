-- The members of a reply's JSON text from `clause` on. A denial has them, and no other reply.
use Rattle.std.proofs.{lemmas.Bool.Decides.nat_tests, Common.◌≡◌, Common.ℕ, Common.List, Common.decimal, Common.Option, Common.None, Common.arith}
use Rattle.mml_lab.specs.Rosters.{RosterValue}
use Rattle.mml_codec.specs.{declared.reply.Reply.Reply, Facts.object_text, Replies.text}
use Rattle.mml_journal.proofs.CuttingLemmas.{cut_here}
use Rattle.mml_record.specs.DenialMembers.{if_clause, after_comma, from_clause, denial_members}
use Rattle.mml_record.proofs.NumberedLemmas.{no_comma, numbered}
use Rattle.mml_codec.specs.declared.reply.Reply.TheVariants as replies

-- if the first member of a text is a number, its members from `clause` on are those after the number, if `clause` is
-- the first of these; otherwise there are none
pub behind_number : (n : ℕ) (rest : List ℕ) (m : Option (List ℕ)) → if_clause rest ≡ m → denial_members (numbered n rest) ≡ m
unfolding denial_members from_clause after_comma
behind_number n rest m h = rw (cut_here 44 (decimal n) rest (no_comma n)) h

-- the reply isn't a denial
abbrev pub IsOther : Reply → Type 0
IsOther (replies.Deny d) = ⊥
IsOther _ = Unit {0}

pub none_in : (ids : List ℕ) (roster : RosterValue) (r : Reply) → IsOther r → denial_members (text ids roster r) ≡ None
unfolding object_text denial_members from_clause if_clause
none_in ids roster r other = grind (arith, nat_tests, behind_number)
