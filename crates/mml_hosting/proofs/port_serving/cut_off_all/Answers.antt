use Rattle.std.proofs.{Common.rules, Common.◌≡◌, Common.get_or, lemmas.List.take_all, lemmas.List.Elements.All-more}
use Rattle.mml_hosting.specs.declared.port_serving.Busy.{Busy}
use Rattle.mml_hosting.proofs.port_serving.cut_off_all.Goals as goal

pub loop-index-preserved : goal.loop-index-preserved
loop-index-preserved g c =
    let IsCut : Busy g.row.H.Denot g.row.Y-Kept.Denot g.row.Y-Observer.Denot g.row.Y-Reader.Denot g.row.Y-Writer.Denot g.row.Y-CutOff.Denot → Type 0 =
    λ b. g.Y.CutOff.CutOff.IsCutOff b.cut_off in
    let at : get_or c.args.busy.now.items c.loop-index.index c.index.result.now ≡ c.index.result.now = search rules in
    All-more IsCut _ _ c.index.result.now (search rules) c.loop-index.invariant (rw at c.cut_off.ensures)

pub returns : goal.returns
returns g c = search (rules, take_all)
