use Rattle.std.proofs.Common.{◌≤◌, ◌-◌, vec_len}
use Rattle.mml_hosting.proofs.port_serving.new_marks.Given as goal

abbrev pub invariant-loop-marks : goal.invariant-loop-marks
invariant-loop-marks l = vec_len l.marks ≤ 256

abbrev pub decreases-loop-marks : goal.decreases-loop-marks
decreases-loop-marks l = 256 - vec_len l.marks
