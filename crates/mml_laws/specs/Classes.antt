-- The seats of a class, as its record describes them.
use Rattle.std.specs.{Prelude.List, Prelude.◌++◌, Prelude.map, Prelude.Option, Option.unwrap_or}
use Rattle.mml_session.specs.Records.{Kept}
use Rattle.mml_hosting.specs.{declared.hosted.Hosted.Hosted, declared.seat.SeatRecord.SeatRecord, declared.seat.ServedSession.ServedSession, Seats.sessions_of}
use Rattle.mml_record.specs.RecordedSeats.{RecordedSeat, fresh}

-- a seat's number, how its sessions ended, and what its recorder has kept
abbrev pub seat_of : {K C R W : Type 0} → (C → Option Kept) → (K → ServedSession R W) → SeatRecord K C → RecordedSeat
seat_of recorded shows r =
    record { number = r.number; ends = map (λ s. s.ending.end) (sessions_of shows r); kept = unwrap_or (recorded r.observer) fresh }

-- all seats of a class, the desk's first
abbrev pub seats_of : {S K C R W : Type 0} → (C → Option Kept) → (K → ServedSession R W) → Hosted S K C → List RecordedSeat
seats_of recorded shows house = map (seat_of recorded shows) (house.at_desk.items ++ house.others.items)
