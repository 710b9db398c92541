-- What holds of a house that failed. The log of a house is its result at the end.
use Rattle.std.proofs.{lemmas.Bool.Decides.nat_tests, Common.arith, Common.ℕ, Common.List, Common.length, Common.Option}
use Rattle.mml_lab.specs.Labs.{LabValue}
use Rattle.mml_window.specs.{declared.log.Log.Log, Windows.WindowValue}
use Rattle.mml_serving.specs.{declared.connection.EndedSession.EndedSession, declared.serving.ServeFault.ServeFault, Closings.LacksLastLine, Closings.done_line}
use Rattle.mml_serving.specs.{Endings.EndsBadly, Endings.EndsEarly, Endings.EndsWithout, Serving.ServesHouse, Serving.ServesWindows}
use Rattle.mml_serving.specs.declared.serving.ServeFault.TheVariants as fault

module _ {S R W : Type 0} {lab : LabValue} (sink : S → Option (List ℕ)) {remaining : R → Option (List ℕ)} {contents : W → Option (List ℕ)}
    {to_come : Option (List (R × W))} {count : ℕ} (sessions : List (EndedSession R W)) where
  -- if the connections were served, but there is no log, the house ended early
  pub early_so : (windows : List WindowValue) → ServesWindows lab remaining contents to_come count sessions windows
      → (f : ServeFault) → EndsWithout lab sink windows f → EndsEarly lab sink remaining contents to_come count f
  early_so windows serves f without = grind (arith, nat_tests)

  -- if there is a log, the error is the reason why its last line wasn't written whole
  pub badly_logged : (log : Log S) → ServesHouse lab sink remaining contents to_come count sessions log → (wrote wrote' : Option (List ℕ)) (f : ServeFault)
      → LacksLastLine log.halted wrote wrote' (done_line (length log.events) log.board.number) f
      → EndsBadly lab sink remaining contents to_come count wrote wrote' f
  badly_logged log serves wrote wrote' fault.Memory lacks = lacks.1
  badly_logged log serves wrote wrote' fault.Halted lacks = (record { sessions = sessions; log = log; serves = serves; holds = lacks.0 }, lacks.1)
  badly_logged log serves wrote wrote' fault.Write lacks =
      record { sessions = sessions; log = log; serves = serves; holds = (lacks.0, rw serves.kept.board at lacks.1) }
  badly_logged log serves wrote wrote' _ lacks = absurd lacks
