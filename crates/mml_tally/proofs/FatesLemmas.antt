-- A move is applied by a close exactly if no event between its grant and the close ends it. A grant chooses a move for
-- a node, a release drops it, and a close applies all chosen moves at once. A fault sets a node's registers, a link
-- joins two nodes, and a cut removes a link.
use Rattle.std.proofs.Common.{◌≡◌, ◌↔◌, ℕ, ◌+◌, true, ◌&&◌, List, [], ◌∷◌, ◌++◌, refl, ap, ◌∙◌, sym, arith, length}
use Rattle.std.{specs.List.list_all, proofs.lemmas.Bool.Decides.nat_tests}
use Rattle.mml_board.specs.declared.event.Event.{Event}
use Rattle.mml_tally.specs.{Moves.fate_of, Meaning.leaves, Meaning.IsNextClose}
use Rattle.mml_board.specs.declared.event.Event.TheVariants as event
use Rattle.mml_tally.specs.declared.fate.Fate.TheVariants as fate

-- if an event that doesn't end the move is put before the others, the next close stays the same
earlier : (i q p : ℕ) (e : Event) (es : List Event) → leaves i e ≡ true → IsNextClose i (q + 1) p es → IsNextClose i q p (e ∷ es)
earlier i q p e es here h = record {
  between = e ∷ h.between;
  later = h.later;
  events = ap (λ t. e ∷ t) h.events;
  leave = λ k. (here ∙ refl) k && h.leave k;
  place = omega (arith, h.place);
}

pub close_found : (i q p : ℕ) (es : List Event) → fate_of i q es ≡ fate.Applied p → IsNextClose i q p es
close_found i q p [] h = cc
close_found i q p (event.Close ∷ es) h = let same : q ≡ p = cc in record { between = []; later = es; events = refl; leave = refl; place = omega (arith, same) }
close_found i q p (e ∷ es) h = grind (arith, nat_tests, earlier i q p e es, close_found i (q + 1) p es)

applied_past : (i q : ℕ) (between later : List Event) → list_all (leaves i) between ≡ true
    → fate_of i q (between ++ event.Close ∷ later) ≡ fate.Applied (q + length between)
applied_past i q [] later h = ap fate.Applied (omega arith)
applied_past i q (e ∷ between) later h = grind (arith, nat_tests, applied_past i (q + 1) between later)

pub applied_by_close : (i q p : ℕ) (es : List Event) → (fate_of i q es ≡ fate.Applied p) ↔ IsNextClose i q p es
applied_by_close i q p es = (close_found i q p es, λ h. ap (fate_of i q) h.events ∙ applied_past i q h.between h.later h.leave ∙ ap fate.Applied (sym h.place))
