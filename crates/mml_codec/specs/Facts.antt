-- The facts (values of keys) in replies: the text of each, and the JSON value that has this text. A node is privileged
-- if some rule is enabled there.
use Rattle.std.specs.Prelude.{ℕ, ◌<◌, ◌^◌, List, [], ◌∷◌, ◌++◌, length, map, filter, flat_map, Bool, Option, None, Some, codes, decimal, slice_index}
use Rattle.std.specs.{List.concat, List.range_with_len, List.AllByRecursion, Ordering.nat_cmp, FinSet.FinSet}
use Rattle.serde_json.specs.Data.{Data, null, boolean, number, unsigned, string, array}
use Rattle.mml_ids.specs.Pieces.{truth_text}
use Rattle.mml_rules.specs.declared.{regs.Regs.Regs, rule.Kind.Kind}
use Rattle.mml_board.specs.Vocabulary.{rule_name}
use Rattle.mml_stable.specs.declared.open_link.OpenLink.{OpenLink}
use Rattle.mml_codec.specs.Objects.{items_with, array_of, object_with}
use Rattle.std.specs.FinSet as set

-- the value of a key in a reply. A clause is a condition under which a request is granted; its number is always small,
-- so it isn't stored as a count. The nodes that moved are a set, and are written in rising order
pub data Fact : Type 0 where
  count : ℕ → Fact
  clause : ℕ → Fact
  word : List ℕ → Fact
  truth : Bool → Fact
  node : ℕ → Fact
  pointer : Option ℕ → Fact
  rule : Kind → Fact
  rule_or_null : Option Kind → Fact
  moved : FinSet nat_cmp → Fact
  nodes : List ℕ → Fact
  near : List (ℕ × Regs) → Fact
  pairs : List (ℕ × ℕ) → Fact
  privileged : List (ℕ × Kind) → Fact
  open_links : List OpenLink → Fact

-- keys in byte order, each with its value
abbrev pub Fields : Type 0
Fields = List (List ℕ × Fact)

-- the nodes of a set that are among the first n, in rising order
abbrev pub members : ℕ → FinSet nat_cmp → List ℕ
members n s = filter (set.contains s) (range_with_len 0 n)

-- ---- texts

-- the identifier of a node, in decimal digits
abbrev pub node_text : List ℕ → ℕ → List ℕ
node_text ids i = decimal (slice_index ids i)

-- the identifier of the node that a register points at, or null
abbrev pub pointer_text : List ℕ → Option ℕ → List ℕ
pointer_text ids None = codes "null"
pointer_text ids (Some i) = node_text ids i

-- the word of a kind of rule, quoted
abbrev pub kind_text : Kind → List ℕ
kind_text k = codes "\"" ++ (rule_name k ++ codes "\"")

-- the word of a kind of rule, quoted, or null
abbrev pub kind_or_null : Option Kind → List ℕ
kind_or_null None = codes "null"
kind_or_null (Some k) = kind_text k

-- texts with commas between them
abbrev pub separated : List (List ℕ) → List ℕ
separated [] = []
separated (x ∷ xs) = x ++ flat_map (λ t. 44 ∷ t) xs

-- the text of the object for a neighbour of the node that is looked at
unfoldable pub near_text : List ℕ → ℕ × Regs → List ℕ
near_text ids n =
    concat (codes "{\"m\":" ∷ truth_text n.1.m ∷ codes ",\"node\":" ∷ node_text ids n.0 ∷ codes ",\"p\":" ∷ pointer_text ids n.1.p ∷ codes "}" ∷ [])

-- the text of the array for two nodes that point at each other
unfoldable pub pair_text : List ℕ → ℕ × ℕ → List ℕ
pair_text ids p = concat (codes "[" ∷ node_text ids p.0 ∷ codes "," ∷ node_text ids p.1 ∷ codes "]" ∷ [])

-- the text of the array for a privileged node and its rule
unfoldable pub privileged_text : List ℕ → ℕ × Kind → List ℕ
privileged_text ids n = concat (codes "[" ∷ node_text ids n.0 ∷ codes "," ∷ kind_text n.1 ∷ codes "]" ∷ [])

-- the text of the array for an open link (between two nodes that aren't in a pair), its witness (a privileged node,
-- which shows that the run isn't over), and the rule that is enabled at the witness
unfoldable pub open_link_text : List ℕ → OpenLink → List ℕ
open_link_text ids l =
    concat (codes "[" ∷ node_text ids l.a ∷ codes "," ∷ node_text ids l.b ∷ codes "," ∷ node_text ids l.node ∷ codes "," ∷ kind_text l.kind ∷ codes "]" ∷ [])

-- the texts as a list in brackets, with commas between them, and then the rest
abbrev pub list_then : List (List ℕ) → List ℕ → List ℕ
list_then texts rest = codes "[" ++ (separated texts ++ (codes "]" ++ rest))

-- the text of a value, and then the rest; words need no escapes
abbrev pub fact_then : List ℕ → Fact → List ℕ → List ℕ
fact_then ids (count n) rest = decimal n ++ rest
fact_then ids (clause n) rest = decimal n ++ rest
fact_then ids (word w) rest = codes "\"" ++ (w ++ (codes "\"" ++ rest))
fact_then ids (truth b) rest = truth_text b ++ rest
fact_then ids (node i) rest = node_text ids i ++ rest
fact_then ids (pointer p) rest = pointer_text ids p ++ rest
fact_then ids (rule k) rest = kind_text k ++ rest
fact_then ids (rule_or_null k) rest = kind_or_null k ++ rest
fact_then ids (moved s) rest = list_then (map (node_text ids) (members (length ids) s)) rest
fact_then ids (nodes is) rest = list_then (map (node_text ids) is) rest
fact_then ids (near ns) rest = list_then (map (near_text ids) ns) rest
fact_then ids (pairs ps) rest = list_then (map (pair_text ids) ps) rest
fact_then ids (privileged ns) rest = list_then (map (privileged_text ids) ns) rest
fact_then ids (open_links ls) rest = list_then (map (open_link_text ids) ls) rest

-- fields and the closing brace; `first` comes before the first field, and a comma before each other field
abbrev pub fields_after : List ℕ → List ℕ → Fields → List ℕ
fields_after ids first [] = codes "}"
fields_after ids first (f ∷ fs) = first ++ (codes "\"" ++ (f.0 ++ (codes "\":" ++ fact_then ids f.1 (fields_after ids (codes ",") fs))))

-- the text of an object with these fields
unfoldable pub object_text : List ℕ → Fields → List ℕ
object_text ids fs = codes "{" ++ fields_after ids [] fs

-- ---- values

-- the identifier of a node
abbrev pub node_value : List ℕ → ℕ → Data
node_value ids i = number (unsigned (slice_index ids i))

-- the identifier of the node that a register points at, or null
abbrev pub pointer_value : List ℕ → Option ℕ → Data
pointer_value ids None = null
pointer_value ids (Some i) = node_value ids i

-- the word of a kind of rule
abbrev pub kind_value : Kind → Data
kind_value k = string (rule_name k)

-- the word of a kind of rule, or null
abbrev pub kind_or_null_value : Option Kind → Data
kind_or_null_value None = null
kind_or_null_value (Some k) = kind_value k

-- the keys and values for a neighbour of the node that is looked at
abbrev pub near_keys : List ℕ → ℕ × Regs → List (List ℕ × Data)
near_keys ids n = (codes "m", boolean n.1.m) ∷ (codes "node", node_value ids n.0) ∷ (codes "p", pointer_value ids n.1.p) ∷ []

-- the object for a neighbour of the node that is looked at
abbrev pub near_value : List ℕ → ℕ × Regs → Data
near_value ids n = object_with (near_keys ids n)

-- the array for two nodes that point at each other
abbrev pub pair_value : List ℕ → ℕ × ℕ → Data
pair_value ids p = array (items_with (node_value ids p.0 ∷ node_value ids p.1 ∷ []))

-- the array for a privileged node and its rule
abbrev pub privileged_value : List ℕ → ℕ × Kind → Data
privileged_value ids n = array (items_with (node_value ids n.0 ∷ kind_value n.1 ∷ []))

-- the array for an open link, its witness, and the rule that is enabled there
abbrev pub open_link_value : List ℕ → OpenLink → Data
open_link_value ids l = array (items_with (node_value ids l.a ∷ node_value ids l.b ∷ node_value ids l.node ∷ kind_value l.kind ∷ []))

-- the JSON value of a fact
abbrev pub fact_value : List ℕ → Fact → Data
fact_value ids (count n) = number (unsigned n)
fact_value ids (clause n) = number (unsigned n)
fact_value ids (word w) = string w
fact_value ids (truth b) = boolean b
fact_value ids (node i) = node_value ids i
fact_value ids (pointer p) = pointer_value ids p
fact_value ids (rule k) = kind_value k
fact_value ids (rule_or_null k) = kind_or_null_value k
fact_value ids (moved s) = array_of (node_value ids) (members (length ids) s)
fact_value ids (nodes is) = array_of (node_value ids) is
fact_value ids (near ns) = array_of (near_value ids) ns
fact_value ids (pairs ps) = array_of (pair_value ids) ps
fact_value ids (privileged ns) = array_of (privileged_value ids) ns
fact_value ids (open_links ls) = array_of (open_link_value ids) ls

-- the JSON members: each key with the value of its fact
abbrev pub keys_of : List ℕ → Fields → List (List ℕ × Data)
keys_of ids fs = map (λ f. (f.0, fact_value ids f.1)) fs

-- the value fits 64 bits if it is a count; each other value is allowed
abbrev pub FitsCount : Fact → Type 0
FitsCount (count n) = n < 2 ^ 64
FitsCount _ = Unit {0}

-- each count among the fields fits 64 bits
abbrev pub HaveFittingCounts : Fields → Type 0
HaveFittingCounts fs = AllByRecursion (λ f. FitsCount f.1) fs
