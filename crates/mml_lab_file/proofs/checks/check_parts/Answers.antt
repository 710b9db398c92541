use Rattle.std.proofs.Common.{arith}
use Rattle.mml_lab_file.specs.{Reading.lab_from, Reading.checked, Reading.lab_in, Reading.network_in, inside.Checks.lab_with}
use Rattle.mml_lab_file.proofs.checks.check_parts.Goals as goal

pub returns : goal.returns
unfolding lab_from checked lab_in network_in lab_with
returns c = grind arith
