use Rattle.std.proofs.Common.{◌≡◌, ◌∙◌, ap, arith, eqb, length, rules, vec_len}
use Rattle.mml_rules.specs.Rules.{enabled_kind}
use Rattle.mml_board.specs.World.{configuration}
use Rattle.mml_stable.specs.Reports.{each_below, privileged_at}
use Rattle.mml_stable.proofs.ReportsLemmas.{none_listed}
use Rattle.mml_stable.proofs.reporting.privileged_nodes.Goals as goal

pub returns-clause-stable : goal.returns-clause-stable
returns-clause-stable c =
    let d = configuration c.args.board.now in
    let over : c.loop-index.index ≡ d.size = omega arith in
    let count : vec_len c.loop-index.all ≡ length c.loop-index.all.items = search rules in
    c.is_empty-stable.ensures ∙ ap (λ k. eqb k 0) count ∙ ap (λ xs. eqb (length xs) 0) c.loop-index.invariant
    ∙ ap (λ n. eqb (length (each_below n (λ i. privileged_at i (enabled_kind d i)))) 0) over ∙ none_listed d.size (enabled_kind d)
