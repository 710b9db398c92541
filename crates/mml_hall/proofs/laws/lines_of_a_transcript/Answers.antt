use Rattle.std.proofs.Common.{map}
use Rattle.mml_lines.proofs.LinesOfLemmas.{all_lines, lines_first}
use Rattle.mml_hall.specs.ScriptLines.{script_line}
use Rattle.mml_hall.proofs.ScriptLinesLemmas.{scripts_unbroken}
use Rattle.mml_hall.proofs.laws.lines_of_a_transcript.Goals as goal

pub returns-clause-first : goal.returns-clause-first
returns-clause-first c lab t rest few = lines_first (map script_line t.lines) rest (scripts_unbroken lab.sessions t.lines few t.each)

pub returns-clause-all : goal.returns-clause-all
returns-clause-all c lab t rest few = all_lines (map script_line t.lines) rest (scripts_unbroken lab.sessions t.lines few t.each)
