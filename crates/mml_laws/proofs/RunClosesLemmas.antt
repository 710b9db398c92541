-- The marks of a student don't count more closes than the run has. The place of an event is its number in the list of
-- events, from 1.
use Rattle.std.proofs.Common.{◌≡◌, ℕ, ◌+◌, ◌<◌, ◌≤◌, Bool, List, [], ◌∷◌, length, arith}
use Rattle.std.{specs.Prelude.count_by, specs.List.filter, proofs.lemmas.Bool.Decides.nat_tests}
use Rattle.mml_rules.specs.{declared.rule.Rule.Rule, Rules.kind_of}
use Rattle.mml_board.specs.declared.event.Event.{Event}
use Rattle.mml_convergence.specs.Moves.{is_close}
use Rattle.mml_tally.specs.{declared.granted_move.Move.Move, Moves.fate_of, Moves.moves_from, Moves.moves, Marks.count_applying_closes, inside.Closes.close_of, inside.Closes.count_new}
use Rattle.mml_tally.proofs.{CountsLemmas.more, ClosesLemmas.next_close, ClosesLemmas.fate_next, ClosesLemmas.closes_counted}
use Rattle.mml_board.specs.declared.event.Event.TheVariants as event

module _ (test : Move → Bool) where
  -- how many closes applied moves that pass the test. The first of these events has place q, and `last` is the close
  -- that was counted last
  abbrev counted : ℕ → ℕ → List Event → ℕ
  counted last q es = count_new last (filter test (moves_from q es))

  -- the counted closes are at most as many as all closes; if the next close was counted already, they are fewer
  record AreFew (last q : ℕ) (es : List Event) : Type 0 where
    most : counted last q es ≤ count_by is_close es
    fewer : last ≡ next_close q es → next_close q es < q + length es → counted last q es + 1 ≤ count_by is_close es

  abbrev move_of : ℕ → ℕ → ℕ → Rule → List Event → Move
  move_of q s i rule es = record { place = q; who = s; node = i; kind = kind_of rule; fate = fate_of i (q + 1) es }

  few : (last q : ℕ) (es : List Event) → AreFew last q es
  few last q [] = record { most = omega arith; fewer = λ e lt. absurd (omega (arith, lt)) }
  few last q (event.Grant s i rule ∷ es) =
      let next = fate_next last i (q + 1) es in
      let counts = few (close_of last (fate_of i (q + 1) es)) (q + 1) es in
      grind (arith, nat_tests, test (move_of q s i rule es), few last (q + 1) es, next, counts, more is_close (event.Grant s i rule) es)
  few last q (e ∷ es) = grind (arith, nat_tests, few last (q + 1) es, more is_close e es)

pub closes_of_run : (test : Move → Bool) (es : List Event) → count_applying_closes (length es) (filter test (moves es)) ≤ count_by is_close es
closes_of_run test es = omega (arith, closes_counted test es, (few test 0 1 es).most)
