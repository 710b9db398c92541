-- Why a text of a class's record couldn't be read.
use Rattle.mml_lines.specs.declared.whole_reading.WholeFault.{WholeFault}
use Rattle.mml_record.specs.declared.pieces.PieceFault.{PieceFault}
use Rattle.mml_class.specs.declared.seats.SeatFault.{SeatFault}
use Rattle.mml_lines.specs.declared.whole_reading.WholeFault.TheVariants as whole
use Rattle.mml_record.specs.declared.pieces.PieceFault.TheVariants as pieces
use Rattle.mml_class.specs.declared.seats.SeatFault.TheVariants as seat

-- why a text that is read as a whole couldn't be read
abbrev pub of_whole : WholeFault → SeatFault
of_whole whole.Read = seat.Read
of_whole whole.TooLong = seat.Read
of_whole whole.Memory = seat.Memory

-- why a text that is read piece by piece couldn't be read
abbrev pub of_pieces : PieceFault → SeatFault
of_pieces pieces.Read = seat.Read
of_pieces pieces.TooLong = seat.Read
of_pieces pieces.Memory = seat.Memory
