use Rattle.std.proofs.Common.{◌≡◌, ◌||◌, ◌&&◌, ◌++◌, ◌∙◌, ℤ, pos, true, false, take, drop, length, get_or, sym, ap, w64, to_z, of_z, arith, rules}
use Rattle.std.proofs.lemmas.List.{take_at, get_or_default}
use Rattle.mml_ids.proofs.SearchLemmas.{first_next}
use Rattle.mml_rules.specs.{Configuration.holds, Network.neighbours_at}
use Rattle.mml_lab_file.specs.{Reading.is_link_again, inside.Checks.rank_at, inside.Checks.are_near}
use Rattle.mml_lab_file.proofs.{NeighboursLemmas.one_more, ChecksLemmas.again-at, ChecksLemmas.again-found, ChecksLemmas.again_none, ChecksLemmas.all_rows_are}
use Rattle.std.specs.FinSet as sets
use Rattle.mml_lab_file.proofs.links.neighbour_rows.Goals as goal

pub returns-then-are_near : goal.returns-then-are_near
returns-then-are_near c =
    let ids = c.args.ids.now in
    let links = c.args.links.now in
    let k = c.loop-index.index in
    let d : ℤ × ℤ = (pos 0, pos 0) in
    let a : c.rank_at.result ≡ rank_at ids (get_or links k d).0 = c.rank_at.ensures.rank ∙ ap (rank_at ids) (search rules) in
    let b : c.rank_at-in-loop-index.result ≡ rank_at ids (get_or links k d).1 = c.rank_at-in-loop-index.ensures.rank ∙ ap (rank_at ids) (search rules) in
    let again : is_link_again links k ≡ true =
    sym (again-at ids c.len.ensures.table links k c.loop-index.rows.items d c.loop-index-test.true c.requires c.loop-index.invariant.are)
    ∙ (λ t. are_near (sym c.deref.ensures.value t) (sym a t) (sym b t)) ∙ sym c.are_near.ensures ∙ c.if-are_near.true in
    record { tests = again-found ids links k c.loop-index.rows.items c.loop-index-test.true c.loop-index.invariant again; rows = tt }

pub loop-index-preserved : goal.loop-index-preserved
unfolding rank_at
loop-index-preserved c =
    let ids = c.args.ids.now in
    let links = c.args.links.now in
    let k = c.loop-index.index in
    let d : ℤ × ℤ = (pos 0, pos 0) in
    let link : ℤ × ℤ = get_or links k d in
    let read_a : to_z w64 (of_z w64 link.0) ≡ link.0 = search rules in
    let read_b : to_z w64 (of_z w64 link.1) ≡ link.1 = search rules in
    let a : c.rank_at.result ≡ rank_at ids link.0 = c.rank_at.ensures.rank ∙ ap (rank_at ids) read_a in
    let b : c.rank_at-in-loop-index.result ≡ rank_at ids link.1 = c.rank_at-in-loop-index.ensures.rank ∙ ap (rank_at ids) read_b in
    let apart : is_link_again links k ≡ false =
    sym (again-at ids c.len.ensures.table links k c.loop-index.rows.items d c.loop-index-test.true c.requires c.loop-index.invariant.are)
    ∙ (λ t. are_near (sym c.deref.ensures.value t) (sym a t) (sym b t)) ∙ sym c.are_near.ensures ∙ c.if-are_near.false in
    let old : c.deref_mut.result.now ≡ c.loop-index.rows.items = c.deref_mut.ensures.value in
    let long : length c.join.new.rows ≡ length c.loop-index.rows.items = c.join.auto.rows ∙ ap length old in
    let whole : take c.loop-index.rows.len (c.join.new.rows ++ drop (length c.join.new.rows) c.loop-index.rows.items) ≡ c.join.new.rows =
    take_at c.join.new.rows _ c.loop-index.rows.len (long ∙ sym c.loop-index.rows.ok.0) in
    rw whole (record {
      are =
          one_more ids c.len.ensures.table links k link c.loop-index.rows.items c.join.new.rows c.loop-index-test.true
          (get_or_default links k d link c.loop-index-test.true) long
          (λ i q. c.join.ensures i q
          ∙ (λ t. sets.contains (neighbours_at (old t) i) q || ((holds (a t) i && holds (b t) q) || (holds (b t) i && holds (a t) q))))
          c.loop-index.invariant.are;
      fresh = first_next (is_link_again links) k (length links) c.loop-index-test.true apart ∙ c.loop-index.invariant.fresh;
    })

pub returns : goal.returns
returns c = grind (arith, again_none, all_rows_are)
