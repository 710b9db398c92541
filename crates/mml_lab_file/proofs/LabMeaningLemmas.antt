-- The definitions of a lab agree with the logical statements.
use Rattle.std.proofs.lemmas.Bool.{Decides.nat_tests, Decides.Decides-int_eq, cases_order, eqb-true, eq-eqb, and_parts, and_from, or_cases, not-false, both_ways, lt-ltb}
use Rattle.std.proofs.Common.{◌≡◌, ◌≢◌, ◌↔◌, ℕ, ℤ, pos, ◌<◌, ◌==◌, Bool, true, false, not, List, [], length, get_or, map, Option, Some, None, Ok, inl, inr, sym, ap, ◌∙◌, subst, arith, Contains, All}
use Rattle.std.proofs.Common.{◌∷◌, refl}
use Rattle.std.specs.{Prelude.slice_index, Prelude.position, Prelude.unwrap_or, List.list_any, List.Any, Option.option_and_then, Option.option_map_or, Ordering.int_eq}
use Rattle.std.proofs.lemmas.List.{get_or-map, get_or_default, get_or-take, length-map, length-take-le, Folds.list_any_at, Folds.Any-from_list_any, Folds.list_any-from_Any}
use Rattle.mml_ids.proofs.{GivesLemmas.bind-ok, IdsLemmas.rank_of_id, IdsLemmas.sound, MapLemmas.list_any-map, FindLemmas.list_any-found}
use Rattle.mml_ids.specs.Ids.{in_order, rank_in, is_again_at, IsTable}
use Rattle.mml_rules.specs.{declared.regs.Regs.Regs, Network.registers_at, Network.configuration_of}
use Rattle.mml_lab_file.specs.{Shape.NodeSpec, Shape.RawSpec, Shape.spelled, LabMeaning.Joins, LabMeaning.HasLink, LabMeaning.HasNode, LabMeaning.JoinNodes}
use Rattle.mml_lab.specs.{Rosters.RosterValue, Rosters.has_name, Rosters.with_owners, Rosters.owns, Rosters.name_of, Labs.LabValue, Labs.IsLab}
use Rattle.mml_lab_file.specs.Reading.{number_of, file_ids, is_node, joins, is_linked, is_loop, lacks_owner, lacks_end, points_at_unlinked, node_with, registers_in, student_index, owners_with}
use Rattle.mml_lab_file.specs.Reading.{lab_from, lab_of}
use Rattle.mml_ids.proofs.SearchLemmas.{position-None, position-none, none-is}
use Rattle.mml_lab.proofs.RosterMeaningLemmas.{student_of_name, name_of_student}
use Rattle.mml_lab_file.proofs.LabFaultLemmas.{IsFaultless}
use Rattle.mml_lab_file.proofs.LabInLemmas.{positive, lawful_from, node_at, linked-in, net, table, roster, index-position, owners-known, listed, fails, owners-found, registers-found, from_in}
use Rattle.std.proofs.lemmas.{List.Elements.All-contains, Bool.false_from_ne_true, Bool.Decides.Decides-and}
use Rattle.mml_lab.specs.declared.who.Who.TheVariants as who

-- `joins` is true exactly if the link has these two ends
pub joins-means : (a b : ℤ) (link : ℤ × ℤ) → (joins a b link ≡ true) ↔ Joins a b link
joins-means a b link = grind (arith, nat_tests, or_cases, and_parts, Decides-int_eq, and_from)

pub any_means : {X : Type 0} (p : X → Bool) (P : X → Type 0) → ((x : X) → (p x ≡ true) ↔ P x) → (xs : List X) → (list_any p xs ≡ true) ↔ Any P xs
any_means p P means xs = grind (arith, nat_tests, Any-from_list_any, list_any-from_Any)

pub linked-means : (raw : RawSpec) (a b : ℤ) → (is_linked raw.links a b ≡ true) ↔ HasLink raw a b
linked-means raw a b = any_means (joins a b) (Joins a b) (joins-means a b) raw.links

-- `is_node` is true exactly if the file has a node with this identifier
pub node-means : (nodes : List NodeSpec) (id : ℤ) → (is_node nodes id ≡ true) ↔ Any (λ node. node.id ≡ id) nodes
node-means nodes id = any_means (λ node. int_eq node.id id) (λ node. node.id ≡ id) (λ node. Decides-int_eq node.id id) nodes

-- if an element fails the test exactly if P holds of it, a search finds none exactly if P holds of each element
none-all : {X : Type 0} (p : X → Bool) (P : X → Type 0) → ((x : X) → (p x ≡ false) ↔ P x) → (xs : List X) → (position p xs ≡ None) ↔ All P xs
none-all p P means xs = (λ none k d lt. (means (get_or xs k d)).0 (position-None p xs d none k lt), back xs)
  where
    back : (xs : List _) → All P xs → position p xs ≡ None
    back [] all = refl
    back (x ∷ xs) all = position-none p (x ∷ xs) x (λ k lt. (means (get_or (x ∷ xs) k x)).1 (all k x lt))

-- both ends of the link are nodes
abbrev pub HasEnds : List NodeSpec → ℤ × ℤ → Type 0
HasEnds nodes link = Any (λ node. node.id ≡ link.0) nodes × Any (λ node. node.id ≡ link.1) nodes

-- the test finds no missing end exactly if each link joins two nodes
pub ends-means : (nodes : List NodeSpec) (links : List (ℤ × ℤ)) → (position (lacks_end nodes) links ≡ None) ↔ All (HasEnds nodes) links
ends-means nodes links = none-all (lacks_end nodes) (HasEnds nodes) (λ link.
    let both = Decides-and (is_node nodes link.0) (is_node nodes link.1) (node-means nodes link.0) (node-means nodes link.1) in
    (λ e. both.0 (not-false _ e), λ ends. ap not (both.1 ends))) links

-- the tests find no missing end and no loop exactly if each link joins two different nodes
pub join-means : (raw : RawSpec) → ((position (lacks_end raw.nodes) raw.links ≡ None) × (position is_loop raw.links ≡ None)) ↔ JoinNodes raw
join-means raw =
    let ends = ends-means raw.nodes raw.links in
    let apart : (position is_loop raw.links ≡ None) ↔ All (λ link. link.0 ≢ link.1) raw.links = none-all is_loop (λ link. link.0 ≢ link.1) (λ link.
    let same = Decides-int_eq link.0 link.1 in
    (λ e q. both_ways (is_loop link) e (same.1 q), λ differ. false_from_ne_true (is_loop link) (λ e. differ (same.0 e)))) raw.links in
    (λ none. record { nodes = ends.0 none.0; different = apart.0 none.1 }, λ join. (ends.1 join.nodes, apart.1 join.different))

-- each identifier of the file has a rank in the table
pub ranked : (nodes : List NodeSpec) → IsTable (in_order (file_ids nodes)) → (z : ℤ) → Any (λ node. node.id ≡ z) nodes
    → (j : ℕ) × (j < length (in_order (file_ids nodes))) × (rank_in (in_order (file_ids nodes)) (number_of z) ≡ Some j)
    × (z ≡ pos (slice_index (in_order (file_ids nodes)) j))
ranked nodes table z node =
    let ids = in_order (file_ids nodes) in
    let n = number_of z in
    let same : number_of node.1.id ≡ n = ap number_of node.4 in
    let some : list_any (λ k. k == n) ids ≡ true =
    listed nodes n ∙ list_any-from_Any (λ (x : NodeSpec). number_of x.id == n) nodes (node.0, node.1, node.2, node.3, eq-eqb (number_of node.1.id) n same) in
    grind (arith, nat_tests, Any-from_list_any, get_or_default, eqb-true, rank_of_id, table, positive)

-- in a file without an error, each link joins two different nodes
pub all_join : (raw : RawSpec) → IsFaultless raw → JoinNodes raw
all_join raw right = (join-means raw).0 (right.ends, right.loops)

module _ (raw : RawSpec) (right : IsFaultless raw) where
  abbrev ids : List ℕ
  ids = in_order (file_ids raw.nodes)

  abbrev members : RosterValue
  members = with_owners raw.teacher raw.students (map (owners_with raw.students raw.nodes) ids)

  pub ids_same : (id : ℕ) → Contains ids id ↔ HasNode raw (pos id)
  ids_same id = (
    λ stands. let n = node_at raw right stands.0 stands.1 in
        let here : slice_index ids stands.0 ≡ id = get_or_default ids stands.0 0 id stands.1 ∙ stands.2 in
        (n.1.stands.0, n.0, n.1.stands.1, n.1.stands.2, n.1.named ∙ ap pos here),
    λ node. let r = ranked raw.nodes (table raw right) (pos id) node in (r.0, r.1, get_or_default ids r.0 id 0 r.1 ∙ ap number_of (sym r.3)),
  )

  -- two different nodes of the file have different identifiers
  one_index : (j k : ℕ) (x y : NodeSpec) → j < k → k < length raw.nodes → get_or raw.nodes j x ≡ x → get_or raw.nodes k y ≡ y → number_of x.id ≢ number_of y.id
  one_index j k x y less lt at_j at_k same =
      let ns : List ℕ = file_ids raw.nodes in
      let long : length ns ≡ length raw.nodes = length-map raw.nodes (λ node. number_of node.id) in
      let apart : is_again_at ns k ≡ false = none-is (is_again_at ns) (length ns) (sound ns right.ids).differ k (omega arith) in
      let first : get_or ns j 0 ≡ number_of x.id =
      get_or-map (λ node. number_of node.id) raw.nodes j x 0 (omega arith) ∙ ap (λ (n : NodeSpec). number_of n.id) at_j in
      grind (arith, nat_tests, get_or-map, length-take-le, both_ways, list_any_at, eq-eqb, get_or-take)

  module _ (i : ℕ) (node : NodeSpec) (lt : i < length ids) (stands : Contains raw.nodes node) (named : node.id ≡ pos (slice_index ids i)) where
    -- the search for the identifier of rank i finds the node that has it
    node_is : node_with raw.nodes (slice_index ids i) ≡ Some node
    node_is =
        let n = node_at raw right i lt in
        let at = n.1.stands in
        let same : number_of n.0.id ≡ number_of node.id = ap number_of (n.1.named ∙ sym named) in
        let here : at.0 ≡ stands.0 = elim (cases_order at.0 stands.0) [
          | inl here ↦ here
          | inr (inl less) ↦ absurd (one_index at.0 stands.0 n.0 node less stands.1 at.2 stands.2 same)
          | inr (inr less) ↦ absurd (one_index stands.0 at.0 node n.0 less at.1 stands.2 at.2 (sym same))
        ] in
        n.1.found ∙ ap Some (sym at.2 ∙ get_or_default raw.nodes at.0 n.0 node at.1 ∙ ap (λ k. get_or raw.nodes k node) here ∙ stands.2)

    -- the registers at the rank of the node are those that the file has for it
    pub registers_are : registers_at (net raw right).registers i ≡ registers_in ids node
    registers_are = registers-found raw right i node lt node_is

    pub p_is : (z : ℤ) → node.p ≡ Some z
        → (j : ℕ) × ((configuration_of (net raw right)).p i ≡ Some j) × (z ≡ pos (slice_index ids j)) × ((configuration_of (net raw right)).linked i j ≡ true)
    p_is z points =
        let kept = fails (points_at_unlinked raw.links) raw.nodes node right.pointers stands in
        let linked : is_linked raw.links node.id z ≡ true =
        not-false _ (ap (λ (o : Option ℤ). option_map_or (λ p. not (is_linked raw.links node.id p)) o false) (sym points) ∙ kept) in
        let link = (linked-means raw node.id z).0 linked in
        let ends = All-contains (HasEnds raw.nodes) raw.links link.1 (all_join raw right).nodes (link.0, link.2, link.3) in
        let target : HasNode raw z = elim link.4 [ inl e ↦ subst (HasNode raw) e.1 ends.1 | inr e ↦ subst (HasNode raw) e.0 ends.0 ] in
        let r = ranked raw.nodes (table raw right) z target in (
          r.0,
          ap (λ (g : Regs). g.p) registers_are ∙ ap (option_and_then (λ p. rank_in ids (number_of p))) points ∙ r.2,
          r.3,
          from_in raw right i r.0 lt r.1 ((λ t. is_linked raw.links (sym named t) (sym r.3 t)) ∙ linked),
        )

    pub owner_is : (s : ℕ) → s < length raw.students → (owns members (who.Student s) i ≡ true) ↔ Contains node.owners (name_of members (who.Student s))
    owner_is s in_s =
        let name : List ℕ = name_of members (who.Student s) in
        let owned = fails (lacks_owner raw.students) raw.nodes node right.owners stands in
        let test : owns members (who.Student s) i ≡ list_any (λ name. student_index raw.students name == s) node.owners =
        ap (list_any (λ o. o == s)) (owners-found raw right i node [] lt node_is) ∙ sym (list_any-map (λ o. o == s) (student_index raw.students) node.owners) in (
          λ holds. let found = list_any-found (λ name. student_index raw.students name == s) node.owners (sym test ∙ holds) in
              let at : Contains node.owners found.0 = (found.1.index, found.1.within, found.1.there) in
              let known = All-contains (λ n. list_any (has_name n) raw.students ≡ true) node.owners found.0 (owners-known raw.students node owned) at in
              let index = index-position raw.students found.0 known ∙ ap Some (eqb-true (student_index raw.students found.0) s found.1.passes) in
              (at.0, at.1, get_or_default node.owners at.0 name found.0 at.1 ∙ at.2 ∙ sym (name_of_student members found.0 s index)),
          λ among. let is : student_index raw.students name ≡ s = ap (λ o. unwrap_or o 0) (student_of_name members s (roster raw right) in_s) in
              test ∙ list_any_at (λ name. student_index raw.students name == s) node.owners among.0 name among.1
              (ap (λ n. student_index raw.students n == s) among.2 ∙ eq-eqb (student_index raw.students name) s is),
        )

  pub links_are : (i j : ℕ) → i < length ids → j < length ids
      → ((configuration_of (net raw right)).linked i j ≡ true) ↔ HasLink raw (pos (slice_index ids i)) (pos (slice_index ids j))
  links_are i j in_i in_j = grind (arith, linked-in, linked-means, pos, and_parts, and_from, lt-ltb)

-- each lab that `lab_of` returns is lawful
pub lawful : (bytes : List ℕ) (lab : LabValue) → lab_of bytes ≡ Ok lab → IsLab lab
unfolding lab_of
lawful bytes lab is = let raw = bind-ok (spelled bytes) lab_from lab is in lawful_from raw.0 lab raw.2
