use Rattle.std.proofs.{Common.rules, Common.◌≡◌, Common.[], Common.arith, Common.ap, Common.length, Common.length-drop, lemmas.List.Elements.All-take}
use Rattle.mml_window.specs.Windows.{window}
use Rattle.mml_serving.proofs.{EndingsLemmas.early_so, ServingLemmas.each_long, ServingLemmas.serves_windows}
use Rattle.mml_serving.proofs.serving.serve_in_house.Goals as goal

pub serve_all-requires-clause-fresh : goal.serve_all-requires-clause-fresh
serve_all-requires-clause-fresh g c = λ _ _. rw c.in-Ok-split_off.ensures.items (All-take (λ w. w ≡ window [] []) _ _ c.in-Ok.ensures.windows)

pub end_house-requires : goal.end_house-requires
end_house-requires g c =
    let all = c.in-Ok-serve_all.ensures in
    let rest = simp length-drop at (ap length c.in-Ok-split_off.ensures.tail) in
    omega (arith, each_long _ _ _ _ all.served, all.all, c.requires.few, rest, c.from.ensures, c.in-Ok.ensures.count)

pub returns-in-Ok-end_house-clause-served : goal.returns-in-Ok-end_house-clause-served
returns-in-Ok-end_house-clause-served g c = record { windows = _; serves = search (rules, serves_windows); kept = c.in-Ok-end_house.ensures.log }

pub returns-in-Err-clause-early : goal.returns-in-Err-clause-early
returns-in-Err-clause-early g c =
    let start = c.in-Ok.ensures in
    let serves = serves_windows _ _ _ c.in-Ok-serve_all.ensures c.in-Ok-split_off.ensures.tail c.from.ensures start.count c.requires.few start.windows in
    early_so _ _ _ serves c.in-Err.fault c.in-Err.ensures.without
