-- The reply to an event names the event's place, which is its number in the list of events, and is short. A reply is
-- short if it is neither a look nor a report.
use Rattle.std.proofs.{lemmas.Bool.Decides.nat_tests, Common.◌≡◌, Common.ℕ, Common.true, Common.Some, Common.arith}
use Rattle.mml_board.specs.declared.done.Done.{Done}
use Rattle.mml_codec.specs.{Replies.place_in, Replies.is_short, Rulings.reply_of_done}

-- the reply to an event names the event's place
pub place_of_done : (at place : ℕ) (d : Done) → place_in (reply_of_done at place d) ≡ Some place
place_of_done at place d = grind (arith, nat_tests)

-- the reply to an event is short
pub short_done : (at place : ℕ) (d : Done) → is_short (reply_of_done at place d) ≡ true
short_done at place d = grind (arith, nat_tests)
