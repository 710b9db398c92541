-- The lines that the host of a class writes, if the class is new or if it is resumed.
use Rattle.std.proofs.{lemmas.Bool.Decides.nat_tests, Common.arith}
use Rattle.std.{proofs.Common.◌≡◌, proofs.Common.ℕ, proofs.Common.false, proofs.Common.List, proofs.Common.length, proofs.Common.Option, specs.Io.KnownBytes.Appends}
use Rattle.mml_lab.specs.Labs.{LabValue}
use Rattle.mml_board.specs.{declared.event.Event.Event, Lists.world_in}
use Rattle.mml_window.specs.declared.log.Log.{Log}
use Rattle.mml_session.specs.Records.{Kept}
use Rattle.mml_serving.specs.Closings.{done_line}
use Rattle.mml_hosting.specs.{declared.seat.ServedSession.ServedSession, declared.hosted.Hosted.Hosted, Hosting.HostsFrom}
use Rattle.mml_resuming.specs.Resuming.{Resumes}
use Rattle.mml_host_program.specs.Telling.{EndsWell, ports_line, TellsResumed}

module _ {S K C R W : Type 0} (lab : LabValue) (given : ℕ → Option Kept) (sink : S → Option (List ℕ)) (remaining : R → Option (List ℕ))
    (contents : W → Option (List ℕ)) (recorded : C → Option Kept) (shows : K → ServedSession R W) (to_desk to_come : Option (List (R × W)))
    (wrote wrote' : Option (List ℕ)) (house : Hosted S K C) (log : Log S) (same : log ≡ house.log) (unhalted : house.log.halted ≡ false) where
  -- if a host has written its last line, its class ended well (`EndsWell`)
  pub ends_well : (begun : List Event) → HostsFrom begun given lab sink remaining contents recorded shows to_desk to_come house
      → Appends wrote wrote' (done_line (length house.log.events) (world_in lab house.log.events).number)
      → EndsWell (length begun) lab sink wrote wrote' log
  ends_well begun hosts last = grind (arith, nat_tests)

-- a host resumed a class, and wrote the line with the ports first
module _ {S K C R W : Type 0} (lab : LabValue) (old first : List ℕ) (given : ℕ → Option Kept) (sink : S → Option (List ℕ)) (remaining : R → Option (List ℕ))
    (contents : W → Option (List ℕ)) (recorded : C → Option Kept) (shows : K → ServedSession R W) (to_desk to_come : Option (List (R × W)))
    (wrote wrote' : Option (List ℕ)) (house : Hosted S K C) (log : Log S) (port desk : ℕ) where
  pub told_resumed : log ≡ house.log → house.log.halted ≡ false
      → Resumes lab old first given sink remaining contents recorded shows to_desk to_come wrote wrote' house → first ≡ ports_line port desk
      → TellsResumed lab sink old port desk wrote wrote' log
  told_resumed same unhalted r ports = grind (arith, nat_tests, ends_well)
