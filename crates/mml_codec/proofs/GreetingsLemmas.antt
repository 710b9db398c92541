-- The participant that a connection is known as after a reply. A participant is known on a connection from a granted
-- hello to the bye.
use Rattle.std.proofs.{lemmas.Bool.Decides.nat_tests, Common.◌≡◌, Common.◌↔◌, Common.ℕ, Common.List, Common.Option, Common.None, Common.Some, Common.arith}
use Rattle.mml_lab.specs.{declared.who.Who.Who, Rosters.RosterValue, Rosters.IsRoster, RosterMeaning.IsKnownAs}
use Rattle.mml_lab.proofs.RosterMeaningLemmas.{principal-one}
use Rattle.mml_board.specs.declared.denial.Denial.{Denial}
use Rattle.mml_codec.specs.{declared.request.Request.Request, declared.greeting.Greeting.TheVariants.Answered, Greetings.admitted, Greetings.greeting}
use Rattle.mml_codec.specs.declared.request.Request.TheVariants as requests
use Rattle.mml_codec.specs.declared.reply.Reply.TheVariants as replies

granted : (found : Option Who) (who : Who) (known : Option Who) → admitted found ≡ Answered (replies.Hello who) known → (found ≡ Some who) × (known ≡ Some who)
granted found who known e = grind (arith, nat_tests)

-- if nobody is known yet, a hello is granted exactly to the participant who has its name and key, who is then known
pub hello_is_granted : (r : RosterValue) (name key : List ℕ) (who : Who) (known : Option Who) → IsRoster r
    → (greeting r None (requests.Hello name key) ≡ Answered (replies.Hello who) known) ↔ (IsKnownAs r who name key × (known ≡ Some who))
hello_is_granted r name key who known roster = grind (arith, nat_tests, granted, principal-one)

-- after a denial, the connection is known as before
pub denied_is_known_as_before : (r : RosterValue) (before : Option Who) (q : Request) (d : Denial) (known : Option Who)
    → greeting r before q ≡ Answered (replies.Deny d) known → known ≡ before
denied_is_known_as_before r before q d known e = grind (arith, nat_tests)
