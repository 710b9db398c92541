-- The lab of a file without an error is lawful.
use Rattle.std.proofs.Common.{◌≡◌, ℕ, ℤ, pos, negsuc, ◌<◌, ◌≤◌, ◌==◌, true, false, not, ◌&&◌, ltb, List, [], length, get_or, map, Option, Some, Ok, None, inl, inr, refl, sym, ap, ◌∙◌, subst, arith}
use Rattle.std.proofs.Common.{All, Bool, Contains}
use Rattle.std.specs.{Prelude.slice_index, Prelude.position, List.list_any, Option.option_and_then, Option.option_map_or}
use Rattle.std.proofs.lemmas.Bool.{cases_lt, cases_Bool, lt-ltb, ltb-true, leb-true, eqb-true, eq-eqb, and_parts, and_from, not-false, both_ways}
use Rattle.std.proofs.lemmas.List.{get_or-map, get_or_past, length-map, Elements.All-map, Folds.list_any_at, Sorted.list_any-IsPermutation, Quantifiers.position-Some}
use Rattle.mml_ids.specs.{Ids.in_order, Ids.rank_in, Ids.IsTable, inside.WordsLemmas.has_empty}
use Rattle.mml_ids.proofs.{IdsLemmas.id_of_rank, MapLemmas.list_any-map, SearchLemmas.position-None, InOrderLemmas.in_order-moves, InOrderTableLemmas.in_order-table}
use Rattle.mml_rules.specs.{declared.regs.Regs.Regs, Network.Network, Network.no_regs, Network.registers_at, Network.configuration_of, Network.IsNetwork}
use Rattle.mml_lab.specs.{declared.TheConstants.MAX_EVENTS, declared.TheConstants.MAX_SESSIONS, Labs.IsLab, Labs.LabValue}
use Rattle.mml_lab.specs.Rosters.{Account, has_name, no_account, with_owners, IsRoster}
use Rattle.mml_lab_file.specs.Shape.{NodeSpec, RawSpec}
use Rattle.mml_lab_file.specs.Reading.{number_of, file_ids, joins, is_linked, is_loop, is_within, lacks_owner, points_at_unlinked, node_with, student_index, owners_in, owners_with, registers_in}
use Rattle.mml_lab_file.specs.Reading.{registers_with, neighbours_of, network_in, lab_in, lab_from}
use Rattle.mml_lab_file.proofs.{FirstAgainLemmas.is_roster, NeighboursLemmas.has-neighbours_of, LabFaultLemmas.IsFaultless, LabFaultLemmas.faultless, LabFaultLemmas.made}
use Rattle.mml_ids.proofs.FindLemmas.{IsFound, find-is, find-some, list_any-found, list_any-same}
use Rattle.std.proofs.lemmas.{List.Elements.All-contains, Bool.false_from_ne_true}

-- if `number_of` returns a number n above 0, the integer is n
pub positive : (z : ℤ) (n : ℕ) → number_of z ≡ n → 0 < n → z ≡ pos n
positive z n e h = grind (arith, pos, negsuc)

-- a link between a and b is also a link between b and a
pub is_linked_turned : (links : List (ℤ × ℤ)) (a b : ℤ) → is_linked links a b ≡ is_linked links b a
is_linked_turned links a b = list_any-same (joins a b) (joins b a) links (grind arith)

-- if no link is a loop, no link joins a node to itself
pub no_loop : (links : List (ℤ × ℤ)) (a : ℤ) → position is_loop links ≡ None → is_linked links a a ≡ false
no_loop links a none = grind (arith, cases_Bool, list_any-found, and_parts, both_ways, position-None)

-- if the search finds no element, each element of the list fails the test
pub fails : {X : Type 0} (p : X → Bool) (xs : List X) (x : X) → position p xs ≡ None → Contains xs x → p x ≡ false
fails p xs x none stands = All-contains (λ y. p y ≡ false) xs x (λ k d lt. position-None p xs d none k lt) stands

-- a number is in the table exactly if it is the identifier of a node of the file
pub listed : (nodes : List NodeSpec) (n : ℕ) → list_any (λ k. k == n) (in_order (file_ids nodes)) ≡ list_any (λ node. number_of node.id == n) nodes
listed nodes n =
    sym (list_any-map (λ k. k == n) (λ (node : NodeSpec). number_of node.id) nodes
    ∙ list_any-IsPermutation (λ k. k == n) (file_ids nodes) (in_order (file_ids nodes)) (in_order-moves (file_ids nodes)))

-- `node` is the file's first node with the identifier id
pub record IsNodeAt (nodes : List NodeSpec) (id : ℕ) (node : NodeSpec) : Type 0 where
  pub found : node_with nodes id ≡ Some node
  pub stands : Contains nodes node
  pub named : node.id ≡ pos id

-- if some student has the name, `student_index` is the index of the first student with this name
pub index-position : (students : List Account) (name : List ℕ) → list_any (has_name name) students ≡ true
    → position (has_name name) students ≡ Some (student_index students name)
index-position students name some = grind (arith, IsFound, list_any-found, both_ways, position-None)

-- if `lacks_owner` is false, each owner is a student
pub owners-known : (students : List Account) (node : NodeSpec) → lacks_owner students node ≡ false → All (λ name. list_any (has_name name) students ≡ true) node.owners
owners-known students node right k d lt = grind (arith, cases_Bool, both_ways, list_any_at)

owners-in : (students : List Account) (node : NodeSpec) → lacks_owner students node ≡ false → All (λ s. s < length students) (owners_in students node)
owners-in students node right = All-map (λ s. s < length students) (student_index students) node.owners
    (λ k d lt. (position-Some _ students _ no_account (index-position students _ (owners-known students node right k d lt))).0)

module _ (raw : RawSpec) (right : IsFaultless raw) where
  abbrev pub ids : List ℕ
  ids = in_order (file_ids raw.nodes)

  pub table : IsTable ids
  table = in_order-table (file_ids raw.nodes) right.ids

  abbrev pub net : Network
  net = record { neighbours = map (neighbours_of ids raw.links) ids; registers = map (registers_with ids raw.nodes) ids }

  pub node_at : (i : ℕ) → i < length ids → (node : NodeSpec) × IsNodeAt raw.nodes (slice_index ids i) node
  node_at i lt =
      let id : ℕ = slice_index ids i in
      let some = sym (listed raw.nodes id) ∙ list_any_at (λ n. n == id) ids i 0 lt (eq-eqb id id refl) in
      let f = find-some (λ n. number_of n.id == id) raw.nodes some in
      let is = find-is (λ n. number_of n.id == id) raw.nodes f.0 f.1 in
      (f.0, record { found = f.1; stands = (is.index, is.within, is.there); named = positive f.0.id id (eqb-true _ id is.passes) (table.positive i lt) })

  -- the node that is found has the owners of its rank
  pub owners-found : (i : ℕ) (node : NodeSpec) (d : List ℕ) → i < length ids → node_with raw.nodes (slice_index ids i) ≡ Some node
      → get_or (map (owners_with raw.students raw.nodes) ids) i d ≡ owners_in raw.students node
  owners-found i node d lt found =
      get_or-map (owners_with raw.students raw.nodes) ids i 0 d lt ∙ ap (λ (o : Option NodeSpec). option_map_or (owners_in raw.students) o []) found

  -- the node that is found has the registers of its rank
  pub registers-found : (i : ℕ) (node : NodeSpec) → i < length ids → node_with raw.nodes (slice_index ids i) ≡ Some node
      → registers_at net.registers i ≡ registers_in ids node
  registers-found i node lt found =
      get_or-map (registers_with ids raw.nodes) ids i 0 no_regs lt ∙ ap (λ (o : Option NodeSpec). option_map_or (registers_in ids) o no_regs) found

  pub linked-in : (i j : ℕ) → i < length ids
      → (configuration_of net).linked i j ≡ (ltb j (length ids) && is_linked raw.links (pos (slice_index ids i)) (pos (slice_index ids j)))
  linked-in i j lt = grind (arith, get_or-map, has-neighbours_of)

  both_in : (i j : ℕ) → (configuration_of net).linked i j ≡ true
      → (i < length ids) × (j < length ids) × (is_linked raw.links (pos (slice_index ids i)) (pos (slice_index ids j)) ≡ true)
  both_in i j holds = grind (arith, cases_lt, and_parts, pos, linked-in, ltb-true, both_ways, length-map, get_or_past, has_empty)

  -- two nodes are linked if a link of the file joins their identifiers
  pub from_in : (i j : ℕ) → i < length ids → j < length ids → is_linked raw.links (pos (slice_index ids i)) (pos (slice_index ids j)) ≡ true
      → (configuration_of net).linked i j ≡ true
  from_in i j in_i in_j holds = linked-in i j in_i ∙ and_from _ _ (lt-ltb j (length ids) in_j) holds

  symmetric : (i j : ℕ) → (configuration_of net).linked i j ≡ true → (configuration_of net).linked j i ≡ true
  symmetric i j holds = let b = both_in i j holds in from_in j i b.1 b.0 (is_linked_turned raw.links (pos (slice_index ids j)) (pos (slice_index ids i)) ∙ b.2)

  not_itself : (i : ℕ) → (configuration_of net).linked i i ≡ false
  not_itself i = false_from_ne_true _ (λ holds. both_ways _ (no_loop raw.links (pos (slice_index ids i)) right.loops) (both_in i i holds).2)

  to_linked : (i j : ℕ) → (configuration_of net).p i ≡ Some j → (configuration_of net).linked i j ≡ true
  to_linked i j points = elim (cases_lt i (length ids)) [
    | inl lt ↦
        let n = node_at i lt in
        let same = ap (λ (r : Regs). r.p) (sym (registers-found i n.0 lt n.1.found)) in
        by i lt n.0 n.1.named n.0.p (same ∙ points) (fails (points_at_unlinked raw.links) raw.nodes n.0 right.pointers n.1.stands)
    | inr past ↦ grind (arith, length-map, get_or_past)
  ]
    where
      by : (i : ℕ) → i < length ids → (node : NodeSpec) → node.id ≡ pos (slice_index ids i) → (o : Option ℤ)
          → option_and_then (λ p. rank_in ids (number_of p)) o ≡ Some j
          → option_map_or (λ p. not (is_linked raw.links node.id p)) o false ≡ false → (configuration_of net).linked i j ≡ true
      by i lt node named None rank kept = absurd cc
      by i lt node named (Some z) rank kept = grind (arith, position-Some, id_of_rank, positive, not-false, from_in, table)

  pub network : IsNetwork net
  network = record {
    rows = length-map ids (neighbours_of ids raw.links) ∙ sym (length-map ids (registers_with ids raw.nodes));
    few = omega (arith, length-map ids (registers_with ids raw.nodes), table.few);
    lawful = record {
      in_range = λ i j holds. let b = both_in i j holds in let long = length-map ids (registers_with ids raw.nodes) in (omega (arith, b.0), omega (arith, b.1));
      symmetric = symmetric;
      no_loop = not_itself;
      to_linked = to_linked;
    };
  }

  pub owners-within : All (All (λ s. s < length raw.students)) (map (owners_with raw.students raw.nodes) ids)
  owners-within i d lt =
      let in_i : i < length ids = omega (arith, lt, length-map ids (owners_with raw.students raw.nodes)) in
      let n = node_at i in_i in
      subst (All (λ s. s < length raw.students)) (sym (owners-found i n.0 d in_i n.1.found))
      (owners-in raw.students n.0 (fails (lacks_owner raw.students) raw.nodes n.0 right.owners n.1.stands))

  pub roster : IsRoster (with_owners raw.teacher raw.students (map (owners_with raw.students raw.nodes) ids))
  roster = is_roster raw.teacher raw.students (map (owners_with raw.students raw.nodes) ids) right.students right.forms right.names owners-within

-- if `is_within` is true, the number is from 1 to the greatest
pub within : (greatest : ℕ) (z : ℤ) → is_within greatest z ≡ true → (0 < number_of z) × (number_of z ≤ greatest)
within greatest z holds = let parts = and_parts (ltb 0 (number_of z)) _ holds in (ltb-true 0 (number_of z) parts.0, leb-true (number_of z) greatest parts.1)

-- the lab of a file without an error is lawful
pub lab_in-lab : (raw : RawSpec) → IsFaultless raw → IsLab (lab_in raw)
unfolding lab_in network_in
lab_in-lab raw right = record {
  ids = table raw right;
  roster = roster raw right;
  network = network raw right;
  nodes = length-map (ids raw right) (registers_with (ids raw right) raw.nodes);
  owned = length-map (ids raw right) (owners_with raw.students raw.nodes);
  some_events = (within MAX_EVENTS raw.events right.events).0;
  few_events = (within MAX_EVENTS raw.events right.events).1;
  some_sessions = (within MAX_SESSIONS raw.sessions right.sessions).0;
  few_sessions = (within MAX_SESSIONS raw.sessions right.sessions).1;
}

-- each lab that `lab_from` returns is lawful
pub lawful_from : (raw : RawSpec) (lab : LabValue) → lab_from raw ≡ Ok lab → IsLab lab
lawful_from raw lab is = let m = made raw lab is in subst (λ l. IsLab l) m.1 (lab_in-lab raw (faultless raw m.0))
