-- The lists in replies, as a program reads them.
use Rattle.std.specs.Prelude.{◌≡◌, ℕ, List, [], ◌∷◌, map, filter, length, codes, slice_index, Some}
use Rattle.std.specs.List.{AllByRecursion, range_with_len}
use Rattle.serde_json.specs.{Data.Data, Data.boolean, Data.number, Data.unsigned, Data.string, Data.array, Find.get}
use Rattle.mml_board.specs.Vocabulary.{rule_name}
use Rattle.mml_codec.specs.{declared.reply.Reply.Reply, Facts.pointer_value, Objects.items_with, Objects.object_with}
use Rattle.std.specs.FinSet as set
use Rattle.mml_codec.specs.declared.reply.Reply.TheVariants as reply

-- an array of these values
abbrev pub values : List Data → Data
values ds = array (items_with ds)

-- the identifier of a node
abbrev pub id_value : List ℕ → ℕ → Data
id_value ids i = number (unsigned (slice_index ids i))

-- The keys of a reply that have lists, and their lists. A look has the neighbours of its node, with their registers. A
-- report has the free nodes, the open links with witness and rule, the pairs, and the privileged nodes with their
-- rules. The reply to a close has the nodes that moved, in rising order
abbrev pub listed : List ℕ → Reply → List (List ℕ × Data)
listed ids (reply.Look l) =
    (codes "near", values (map (λ n. object_with ((codes "m", boolean n.1.m) ∷ (codes "node", id_value ids n.0) ∷ (codes "p", pointer_value ids n.1.p) ∷ [])) l.near)) ∷ []
listed ids (reply.Report r) =
    (codes "free", values (map (id_value ids) r.free))
    ∷ (codes "open", values (map (λ o. values (id_value ids o.a ∷ id_value ids o.b ∷ id_value ids o.node ∷ string (rule_name o.kind) ∷ [])) r.open_links))
    ∷ (codes "pairs", values (map (λ p. values (id_value ids p.0 ∷ id_value ids p.1 ∷ [])) r.pairs))
    ∷ (codes "privileged", values (map (λ n. values (id_value ids n.0 ∷ string (rule_name n.1) ∷ [])) r.privileged)) ∷ []
listed ids (reply.Close at place moved) = (codes "moved", values (map (id_value ids) (filter (set.contains moved) (range_with_len 0 (length ids))))) ∷ []
listed ids _ = []

-- the value has each of the keys, and its list under it
abbrev pub HasLists : Data → List (List ℕ × Data) → Type 0
HasLists d fs = AllByRecursion (λ f. get f.0 d ≡ Some f.1) fs
