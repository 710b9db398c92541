-- The events that a window's reader has seen. A window is one session's view of the published events and board.
use Rattle.std.specs.Prelude.{Option, None, Some}
use Rattle.mml_window.specs.{declared.seeing.View.View, Rule.nothing_seen}

-- what the reader of a window has seen: nothing, if there is no reader
abbrev pub view_by : Option View → View
view_by None = nothing_seen
view_by (Some v) = v
