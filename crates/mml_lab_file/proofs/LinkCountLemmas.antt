-- A network has as many links as its file, if the file has no error.
use Rattle.std.proofs.lemmas.{Bool.cases_order, Bool.lt-ltb, Option.slice_get-get_or, List.get_or_default, List.length-map, List.Folds.list_any_more, Bool.false_from_ne_true, Bool.or_right}
use Rattle.std.proofs.Common.{◌≡◌, ◌≢◌, ℕ, ℤ, pos, zero, suc, ◌+◌, ◌<◌, ◌≤◌, Bool, false, ◌||◌, ◌&&◌, List, length, get_or, take, sym, ap, ◌∙◌, subst, arith, inl, inr, add-one}
use Rattle.std.{specs.Prelude.slice_index, proofs.Math.Seq.take-length}
use Rattle.mml_ids.specs.Ids.{in_order, IsTable}
use Rattle.mml_rules.specs.Network.{configuration_of}
use Rattle.mml_lab_file.specs.{Shape.RawSpec, LabMeaning.Joins, LabMeaning.HasNode}
use Rattle.mml_lab_file.specs.Reading.{file_ids, joins, is_linked, is_link_again, registers_with, network_in, lab_in}
use Rattle.mml_lab.specs.Labs.{link_count}
use Rattle.mml_ids.proofs.{SearchLemmas.none-is}
use Rattle.mml_lab_file.proofs.{LabFaultLemmas.IsFaultless, LabMeaningLemmas.joins-means, LabMeaningLemmas.all_join, LabMeaningLemmas.ranked}
use Rattle.mml_lab_file.proofs.LabInLemmas.{is_linked_turned, linked-in, net, table}
use Rattle.mml_lab_file.proofs.LinksBelowLemmas.{pairs_below, links_below-pairs, pairs_same, pairs_one, no_pairs}

abbrev Link : Type 0
Link = ℤ × ℤ

-- the identifier of the node with a rank, as an end of a link
abbrev end_of : List ℕ → ℕ → ℤ
end_of ids i = pos (slice_index ids i)

-- the link joins the nodes with the ranks a and b, and a is the greater rank
record JoinsRanks (ids : List ℕ) (link : Link) (a b : ℕ) : Type 0 where
  within : a < length ids
  less : b < a
  joined : Joins (end_of ids a) (end_of ids b) link

-- some link joins the nodes of the two ranks
abbrev near : List ℕ → List Link → ℕ → ℕ → Bool
near ids links i j = is_linked links (end_of ids i) (end_of ids j)

same_rank : (ids : List ℕ) → IsTable ids → (i j : ℕ) → i < length ids → j < length ids → end_of ids i ≡ end_of ids j → i ≡ j
same_rank ids rises i j in_i in_j same = grind (arith, cases_order)

-- a link joins the nodes of only one pair of ranks
joins_one : (ids : List ℕ) → IsTable ids → (link : Link) (a b i j : ℕ) → JoinsRanks ids link a b → i < length ids → j < i
    → Joins (end_of ids i) (end_of ids j) link → (i ≡ a) × (j ≡ b)
joins_one ids rises link a b i j ranks lt below there =
    let same = same_rank ids rises in
    let joined = ranks.joined in
    grind (arith, same i a, same j b, same i b, same j a, ranks.within, ranks.less)

-- if a link doesn't repeat an earlier one, it increases the number of pairs of linked ranks by one
one_link : (ids : List ℕ) → IsTable ids → (links : List Link) (k : ℕ) (link : Link) (a b : ℕ) → k < length links → get_or links k link ≡ link
    → JoinsRanks ids link a b → is_linked (take k links) link.0 link.1 ≡ false
    → pairs_below (near ids (take (k + 1) links)) (length ids) ≡ pairs_below (near ids (take k links)) (length ids) + 1
one_link ids rises links k link a b lt here ranks apart =
    pairs_one (length ids) a b (near ids (take k links)) (near ids (take (k + 1) links)) ranks.within ranks.less (off ranks.joined)
    (more a b ∙ or_right _ _ ((joins-means (end_of ids a) (end_of ids b) link).1 ranks.joined))
    (λ i j in_i below other. let apart = false_from_ne_true (joins (end_of ids i) (end_of ids j) link) (λ holds.
    other (joins_one ids rises link a b i j ranks in_i below ((joins-means (end_of ids i) (end_of ids j) link).0 holds))) in
    grind (arith, more i j, apart))
  where
    more : (i j : ℕ) → near ids (take (k + 1) links) i j ≡ (near ids (take k links) i j || joins (end_of ids i) (end_of ids j) link)
    more i j = list_any_more (joins (end_of ids i) (end_of ids j)) links k link lt ∙ ap (λ l. near ids (take k links) i j || joins (end_of ids i) (end_of ids j) l) here

    off : Joins (end_of ids a) (end_of ids b) link → near ids (take k links) a b ≡ false
    off (inl p) = (λ t. is_linked (take k links) (sym p.0 t) (sym p.1 t)) ∙ apart
    off (inr p) = is_linked_turned (take k links) (end_of ids a) (end_of ids b) ∙ (λ t. is_linked (take k links) (sym p.0 t) (sym p.1 t)) ∙ apart

module _ (raw : RawSpec) (right : IsFaultless raw) where
  abbrev ids : List ℕ
  ids = in_order (file_ids raw.nodes)

  ranks_of : (link : Link) → HasNode raw link.0 → HasNode raw link.1 → link.0 ≢ link.1 → (a b : ℕ) × JoinsRanks ids link a b
  ranks_of link first second differ =
      let i = ranked raw.nodes (table raw right) link.0 first in
      let j = ranked raw.nodes (table raw right) link.1 second in
      elim (cases_order i.0 j.0) [
        | inl same ↦ absurd (differ (i.3 ∙ ap (end_of ids) same ∙ sym j.3))
        | inr (inl less) ↦ (j.0, i.0, record { within = j.1; less = less; joined = inr (i.3, j.3) })
        | inr (inr less) ↦ (i.0, j.0, record { within = i.1; less = less; joined = inl (i.3, j.3) })
      ]

  counted_to : (k : ℕ) → k ≤ length raw.links → pairs_below (near ids (take k raw.links)) (length ids) ≡ k
  counted_to zero le = no_pairs (length ids)
  counted_to (suc k) le =
      let lt : k < length raw.links = omega arith in
      let d : Link = (pos 0, pos 0) in
      let link = get_or raw.links k d in
      let ends = (all_join raw right).nodes k d lt in
      let ranks = ranks_of link ends.0 ends.1 ((all_join raw right).different k d lt) in
      let apart = rw (slice_get-get_or raw.links k d lt) at (none-is (is_link_again raw.links) (length raw.links) right.once k lt) in
      subst (λ m. pairs_below (near ids (take m raw.links)) (length ids) ≡ m) (add-one k)
      (one_link ids (table raw right) raw.links k link ranks.0 ranks.1 lt (get_or_default raw.links k link d lt) ranks.2 apart
      ∙ ap (λ m. m + 1) (counted_to k (omega arith)))

  pub links_counted : link_count (lab_in raw).network ≡ length raw.links
  unfolding lab_in network_in link_count
  links_counted =
      links_below-pairs (configuration_of (net raw right)) (length (net raw right).registers)
      ∙ ap (pairs_below (configuration_of (net raw right)).linked) (length-map ids (registers_with ids raw.nodes))
      ∙ pairs_same (length ids) (configuration_of (net raw right)).linked (near ids raw.links) (λ i j lt below.
      linked-in raw right i j lt ∙ ap (λ b. b && near ids raw.links i j) (lt-ltb j (length ids) (omega arith)))
      ∙ ap (λ links. pairs_below (near ids links) (length ids)) (sym (take-length raw.links))
      ∙ counted_to (length raw.links) (omega arith)
