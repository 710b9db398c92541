-- The lists that a program finds if it reads the text of a reply as JSON.
use Rattle.std.proofs.lemmas.{Bool.Decides.nat_tests, Option.same_Some}
use Rattle.std.proofs.Common.{◌≡◌, ℕ, List, Some, arith}
use Rattle.serde_json.specs.{Data.Data, Read.read}
use Rattle.mml_ids.specs.Ids.{IsTable}
use Rattle.mml_lab.specs.Rosters.{RosterValue, IsRoster}
use Rattle.mml_codec.specs.{declared.reply.Reply.Reply, Replies.IsAbout, ReplyValues.reply_value, ReplyValues.AreWritableCounts}
use Rattle.mml_codec.proofs.ReplyValuesLemmas.{read-reply}
use Rattle.mml_codec.specs.Replies as written
use Rattle.mml_laws.specs.Lists.{listed, HasLists}

has_lists : (ids : List ℕ) (roster : RosterValue) (r : Reply) → HasLists (reply_value ids roster r) (listed ids r)
has_lists ids roster r = grind (arith, nat_tests)

pub read_lists : (ids : List ℕ) (roster : RosterValue) (r : Reply) (d : Data) → IsTable ids → IsRoster roster → IsAbout ids roster r → AreWritableCounts roster r
    → read (written.text ids roster r) ≡ Some d → HasLists d (listed ids r)
read_lists ids roster r d table is about counts h = grind (arith, nat_tests, same_Some, read-reply, has_lists)
