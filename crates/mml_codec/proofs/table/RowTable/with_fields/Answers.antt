use Rattle.std.proofs.Common.{◌++◌, ◌∙◌, ap, sym, codes, append_assoc}
use Rattle.mml_codec.proofs.TableLemmas.{key_put}
use Rattle.mml_codec.proofs.table.RowTable.with_fields.Goals as goal

pub returns-clause-text : goal.returns-clause-text
returns-clause-text g c rest =
    let ids = c.args.ids.now in
    let row = c.args.self.now in
    let later = g.T.Table.text ids (codes ",") row.rest rest in
    let value = g.V.ReplyValue.text ids row.value in
    c.with_fields.ensures.text rest ∙ ap (λ t. t ++ later) c.with_value-line.ensures.text ∙ append_assoc c.with_text-line-4.result.items value later
    ∙ ap (λ t. c.with_text-line-4.result.items ++ t) (sym (g.met.V.ReplyValue.tells ids row.value later))
    ∙ key_put _ _ _ _ _ _ _ _ c.with_text-line.ensures.text c.with_text-line-2.ensures.text c.with_text-line-3.ensures.text c.with_text-line-4.ensures.text
