-- Why a command is denied, as logical statements: the clause of the denial doesn't hold, and all clauses before it
-- hold.
use Rattle.std.specs.Prelude.{◌≡◌, ◌≢◌, ◌↔◌, ◌⊎◌, ℕ, true, false, List, Option, None, Some}
use Rattle.mml_ids.specs.Ids.{rank_in}
use Rattle.mml_lab.specs.{declared.who.Who.Who, Rosters.RosterValue}
use Rattle.mml_board.specs.{declared.event.Event.Event, declared.denial.Denial.Denial, World.World, World.configuration, World.chosen_at}
use Rattle.mml_policy.specs.{declared.command.Command.Command, Verdicts.verdict, Meaning.IsNamed, Meaning.IsRegister}
use Rattle.mml_lab.specs.declared.who.Who.TheVariants as who
use Rattle.mml_board.specs.declared.denial.Denial.TheVariants as denial
use Rattle.mml_policy.specs.declared.verdict.Verdict.TheVariants as verdicts

-- an event is granted exactly if x is the teacher and May holds of the event; a denial is returned exactly if Denies
-- holds of it
pub record IsDecided (ids : List ℕ) (r : RosterValue) (w : World) (x : Who) (c : Command) (May : Event → Type 0) (Denies : Denial → Type 0) : Type 0 where
  pub granted : (e : Event) → (verdict ids r w x c ≡ verdicts.Grant e) ↔ ((x ≡ who.Teacher) × May e)
  pub denied : (d : Denial) → (verdict ids r w x c ≡ verdicts.Deny d) ↔ Denies d

-- the teacher asks, and i is the node with this identifier
pub record IsAskedOf (ids : List ℕ) (x : Who) (id i : ℕ) : Type 0 where
  pub teacher : x ≡ who.Teacher
  pub node : rank_in ids id ≡ Some i

-- the teacher asks, and a and b are the nodes with these identifiers
pub record IsAskedOfBoth (ids : List ℕ) (x : Who) (first second a b : ℕ) : Type 0 where
  pub teacher : x ≡ who.Teacher
  pub node_a : rank_in ids first ≡ Some a
  pub node_b : rank_in ids second ≡ Some b

-- why a close is denied: a student asks, or the teacher asks and no move is chosen
abbrev pub DeniesClose : World → Who → Denial → Type 0
DeniesClose w x denial.NotTeacher = x ≢ who.Teacher
DeniesClose w x denial.Empty = (x ≡ who.Teacher) × ((i : ℕ) → chosen_at w.chosen i ≡ None)
DeniesClose w x _ = ⊥

-- why a fault is denied: a student asks; no node has the identifier; or p is neither null nor a neighbour's identifier
abbrev pub DeniesFault : List ℕ → World → Who → ℕ → Option ℕ → Denial → Type 0
DeniesFault ids w x id p denial.NotTeacher = x ≢ who.Teacher
DeniesFault ids w x id p denial.NoNode = (x ≡ who.Teacher) × (rank_in ids id ≡ None)
DeniesFault ids w x id p denial.BadRegister = (i : ℕ) × IsAskedOf ids x id i × ((q : Option ℕ) → IsNamed ids p q → ¬ IsRegister w i q)
DeniesFault ids w x id p _ = ⊥

-- the teacher asks, and an end of the link is no node
abbrev pub LacksAnEnd : List ℕ → Who → ℕ → ℕ → Type 0
LacksAnEnd ids x first second = (x ≡ who.Teacher) × ((rank_in ids first ≡ None) ⊎ (rank_in ids second ≡ None))

-- why a link is denied: a student asks; an end is no node; both ends are the same node; or they are linked already
abbrev pub DeniesLink : List ℕ → World → Who → ℕ → ℕ → Denial → Type 0
DeniesLink ids w x first second denial.NotTeacher = x ≢ who.Teacher
DeniesLink ids w x first second denial.NoNode = LacksAnEnd ids x first second
DeniesLink ids w x first second denial.Loop = (i : ℕ) × IsAskedOfBoth ids x first second i i
DeniesLink ids w x first second denial.Linked =
    (a : ℕ) × (b : ℕ) × IsAskedOfBoth ids x first second a b × (a ≢ b) × ((configuration w).linked a b ≡ true)
DeniesLink ids w x first second _ = ⊥

-- why a cut is denied: a student asks; an end is no node; or the ends aren't linked
abbrev pub DeniesCut : List ℕ → World → Who → ℕ → ℕ → Denial → Type 0
DeniesCut ids w x first second denial.NotTeacher = x ≢ who.Teacher
DeniesCut ids w x first second denial.NoNode = LacksAnEnd ids x first second
DeniesCut ids w x first second denial.NotLinked =
    (a : ℕ) × (b : ℕ) × IsAskedOfBoth ids x first second a b × ((configuration w).linked a b ≡ false)
DeniesCut ids w x first second _ = ⊥

-- why a release is denied: a student asks; no node has the identifier; or the node has no chosen move
abbrev pub DeniesRelease : List ℕ → World → Who → ℕ → Denial → Type 0
DeniesRelease ids w x id denial.NotTeacher = x ≢ who.Teacher
DeniesRelease ids w x id denial.NoNode = (x ≡ who.Teacher) × (rank_in ids id ≡ None)
DeniesRelease ids w x id denial.NotChosen = (i : ℕ) × IsAskedOf ids x id i × (chosen_at w.chosen i ≡ None)
DeniesRelease ids w x id _ = ⊥

-- why a report is denied: a student asks
abbrev pub DeniesReport : Who → Denial → Type 0
DeniesReport x denial.NotTeacher = x ≢ who.Teacher
DeniesReport x _ = ⊥
