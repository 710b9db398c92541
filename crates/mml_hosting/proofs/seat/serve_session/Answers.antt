use Rattle.std.proofs.Common.{sym}
use Rattle.mml_hosting.proofs.seat.serve_session.Goals as goal

pub returns-clause-ended : goal.returns-clause-ended
returns-clause-ended g c = rw (c.hang_up.ensures.contents, sym c.reply_observer-replies.ensures.contents) c.serve_observed-ending.ensures.ended
