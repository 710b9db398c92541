-- Replies to lines that change nothing.
use Rattle.std.specs.Prelude.{◌≡◌, ◌⊎◌}
use Rattle.mml_board.specs.declared.denial.Denial.{Denial}
use Rattle.mml_codec.specs.declared.reply.Reply.{Reply}
use Rattle.mml_codec.specs.declared.reply.Reply.TheVariants as reply
use Rattle.mml_hall.specs.Turns as hall
use Rattle.mml_session.specs.Turns as session

-- the reply is `r`, or memory ran out while the line was read; the state doesn't change
abbrev pub IsTold : hall.State → Reply → hall.Outcome → Type 0
IsTold st r out = (out ≡ hall.replied st r) ⊎ (out ≡ hall.without_memory st)

-- the reply is the denial, or memory ran out while the line was read; the session doesn't change
abbrev pub IsDenied : Denial → session.Standing → Reply → session.Standing → Type 0
IsDenied d st r next = ((r ≡ reply.Deny d) × (next ≡ st)) ⊎ session.Unread st r next
