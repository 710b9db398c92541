use Rattle.std.proofs.Common.{◌≡◌, ◌∙◌, ◌<◌, ℕ, List, map, length, get_or, [], ap, sym, subst, arith, All}
use Rattle.std.proofs.lemmas.List.{take_at, get_or-map, length-map, length-replicate}
use Rattle.mml_lab.proofs.OwnedLemmas.{no_nodes, one_node, all_nodes}
use Rattle.mml_lab.proofs.owned.owned_by_each.Goals as goal

pub loop-index-init : goal.loop-index-init
loop-index-init c = grind (arith, length-replicate, no_nodes)

pub give-requires : goal.give-requires
give-requires c =
    let owners = c.args.owners.now in
    let k = c.loop-index.index in
    let all : List (List ℕ) = map (λ v. v.items) owners in
    let here : get_or all k [] ≡ c.deref.result.now =
    get_or-map (λ v. v.items) owners k c.index-owners-index.result [] c.loop-index-test.true
    ∙ sym (ap (λ v. v.items) c.index-owners-index.is) ∙ sym c.deref.ensures.value in
    let within : k < length all = omega (arith, c.loop-index-test.true, length-map owners (λ v. v.items)) in
    let known : All (λ s. s < c.args.students) c.deref.result.now = subst (All (λ s. s < c.args.students)) here (c.requires.known k [] within) in
    let count = c.loop-index.invariant.count in
    let value = ap length c.deref_mut.ensures.value in
    λ j d lt. let below = known j d lt in omega arith

pub loop-index-preserved : goal.loop-index-preserved
loop-index-preserved c = grind (arith, get_or-map, take_at, one_node)

pub returns-clause-rows : goal.returns-clause-rows
returns-clause-rows c =
    all_nodes c.args.students c.loop-index.index (map (λ v. v.items) c.args.owners.now) c.loop-index.rows.items
    (omega (arith, c.loop-index-test.false, length-map c.args.owners.now (λ v. v.items))) c.loop-index.invariant.count c.loop-index.invariant.each
