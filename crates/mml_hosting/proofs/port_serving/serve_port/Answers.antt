use Rattle.std.proofs.Common.{rules}
use Rattle.mml_hosting.proofs.port_serving.serve_port.Goals as goal

pub scoped-requires : goal.scoped-requires
scoped-requires g c = record { at = λ _. (c.requires.seats, (search rules, search rules, search rules, search rules, search rules, search rules, search rules, search rules, search rules, search rules, search rules, search rules, search rules, search rules)) }
