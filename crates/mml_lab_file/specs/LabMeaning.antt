-- The definitions of a lab, as logical statements.
use Rattle.std.specs.Prelude.{◌≡◌, ◌≢◌, ◌<◌, ◌⊎◌, ℕ, ℤ, pos, List, length, slice_get, slice_index, slice_index_or, All, Contains, Ok, Some, None}
use Rattle.std.specs.List.{Any}
use Rattle.mml_lab_file.specs.{Shape.NodeSpec, Shape.RawSpec, Shape.spelled, Reading.lab_fault, Reading.lab_in}
use Rattle.mml_lab.specs.{Rosters.Account, Rosters.no_account, Labs.LabValue}

-- the link has these two ends, in either order
abbrev pub Joins : ℤ → ℤ → ℤ × ℤ → Type 0
Joins a b link = ((link.0 ≡ a) × (link.1 ≡ b)) ⊎ ((link.0 ≡ b) × (link.1 ≡ a))

-- some link of the file has these two ends
abbrev pub HasLink : RawSpec → ℤ → ℤ → Type 0
HasLink raw a b = Any (Joins a b) raw.links

-- some node of the file has that identifier
abbrev pub HasNode : RawSpec → ℤ → Type 0
HasNode raw id = Any (λ node. node.id ≡ id) raw.nodes

-- the identifier of a rank
abbrev pub id_at : LabValue → ℕ → ℕ
id_at lab rank = slice_index lab.ids rank

-- the file has that node, and it has that rank in the lab
pub record IsNodeOf (raw : RawSpec) (lab : LabValue) (rank : ℕ) (node : NodeSpec) : Type 0 where
  pub within : rank < length lab.ids
  pub stands : Contains raw.nodes node
  pub named : node.id ≡ pos (id_at lab rank)

-- the bytes have these contents, which have no error, and the lab is the one that they describe
pub record IsLabOfFile (bytes : List ℕ) (raw : RawSpec) (lab : LabValue) : Type 0 where
  pub spells : spelled bytes ≡ Ok raw
  pub faultless : lab_fault raw ≡ None
  pub built : lab ≡ lab_in raw

-- each link of the file joins two different nodes
pub record JoinNodes (raw : RawSpec) : Type 0 where
  pub nodes : All (λ link. HasNode raw link.0 × HasNode raw link.1) raw.links
  pub different : All (λ link. link.0 ≢ link.1) raw.links

-- the link at index k joins the same two nodes as an earlier link
pub record IsLinkAgain (links : List (ℤ × ℤ)) (k : ℕ) : Type 0 where
  pub earlier : ℕ
  pub before : earlier < k
  pub link : ℤ × ℤ
  pub again : ℤ × ℤ
  pub first : slice_get links earlier ≡ Some link
  pub second : slice_get links k ≡ Some again
  pub joins : Joins again.0 again.1 link

-- the link at index k joins the same two nodes as an earlier link, and k is the first such index
pub record IsFirstLinkAgain (links : List (ℤ × ℤ)) (k : ℕ) : Type 0 where
  pub again : IsLinkAgain links k
  pub first : (j : ℕ) → j < k → ¬ IsLinkAgain links j

-- the name of the account at index k
abbrev pub name_at : List Account → ℕ → List ℕ
name_at accounts k = (slice_index_or accounts k no_account).name

-- no two of the first n accounts have the same name
abbrev pub AreDistinctBelow : List Account → ℕ → Type 0
AreDistinctBelow accounts n = (j k : ℕ) → j < k → k < n → name_at accounts j ≢ name_at accounts k

-- the name at index k occurs at a lower index, too, and k is the first such index
pub record IsFirstAgain (accounts : List Account) (k : ℕ) : Type 0 where
  pub within : k < length accounts
  pub again : (j : ℕ) × (j < k) × (name_at accounts j ≡ name_at accounts k)
  pub first : AreDistinctBelow accounts k
