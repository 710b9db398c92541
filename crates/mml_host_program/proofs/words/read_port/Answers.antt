use Rattle.std.proofs.Common.{rules}
use Rattle.mml_host_program.proofs.PortsLemmas.{names_none, zero_named}
use Rattle.mml_host_program.proofs.words.read_port.Goals as goal

pub returns-then-eq : goal.returns-then-eq
returns-then-eq c = search (rules, zero_named)

pub returns-in-None : goal.returns-in-None
returns-in-None c = search (rules, names_none)
