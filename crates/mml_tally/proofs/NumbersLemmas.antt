-- Each close, fault, link and cut leads to a new configuration, and no other event does. A grant chooses a move for a
-- node, a release drops it, and a close applies all chosen moves at once. A fault sets a node's registers, a link joins
-- two nodes, and a cut removes a link.
use Rattle.std.proofs.Common.{◌≡◌, ℕ, ◌+◌, List, [], ◌∷◌, arith}
use Rattle.std.{specs.Prelude.count_by, proofs.lemmas.Bool.Decides.nat_tests}
use Rattle.mml_board.specs.{declared.event.Event.Event, World.World, Events.after, Runs.world_of}
use Rattle.mml_convergence.specs.Moves.{is_close}
use Rattle.mml_tally.specs.Runs.{is_fault, is_link, is_cut}
use Rattle.mml_tally.proofs.CountsLemmas.{one, more}

-- the number of closes, faults, links and cuts together
abbrev pub changes : List Event → ℕ
changes es = count_by is_close es + count_by is_fault es + count_by is_link es + count_by is_cut es

-- `changes` is 1 more for a list with one more event in front, if this is a close, a fault, a link or a cut
one_more : (e : Event) (es : List Event) → changes (e ∷ es) ≡ one (is_close e) + one (is_fault e) + one (is_link e) + one (is_cut e) + changes es
one_more e es = omega (arith, more is_close e es, more is_fault e es, more is_link e es, more is_cut e es)

number_after : (w : World) (e : Event) → (after w e).number ≡ w.number + one (is_close e) + one (is_fault e) + one (is_link e) + one (is_cut e)
number_after w e = grind (arith, nat_tests)

pub numbers_are : (w : World) (es : List Event) → (world_of w es).number ≡ w.number + changes es
numbers_are w [] = omega arith
numbers_are w (e ∷ es) = omega (arith, numbers_are (after w e) es, number_after w e, one_more e es)
