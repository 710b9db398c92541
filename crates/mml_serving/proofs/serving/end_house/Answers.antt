use Rattle.std.proofs.Common.{rules, ◌≡◌, ◌++◌, arith}
use Rattle.mml_serving.proofs.serving.end_house.Goals as goal

pub returns-in-Err-clause-without : goal.returns-in-Err-clause-without
returns-in-Err-clause-without g c =
    let all : c.args.windows.items ++ c.args.unused.items ≡ c.append.new.self.items = search rules in
    let left = c.in-Err.ensures.left in
    let places = rw left.2 at c.in-Err.ensures.astray.places in
    rw all (record { left = left.0; leaves = record { book = left.1; seen = left.3 }; places = places; few = omega (arith, left.5) })
