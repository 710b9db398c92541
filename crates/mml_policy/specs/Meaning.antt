-- The facts that hold if a command is granted or shown.
use Rattle.std.specs.Prelude.{◌≡◌, ◌≢◌, ◌⊎◌, ℕ, Bool, true, false, List, Option, None, Some, All}
use Rattle.mml_ids.specs.Ids.{rank_in}
use Rattle.mml_rules.specs.{declared.rule.Rule.Rule, Meaning.MayApply, Network.registers_at}
use Rattle.mml_lab.specs.{declared.who.Who.Who, Rosters.RosterValue, Rosters.owns}
use Rattle.mml_board.specs.{World.World, World.configuration, World.chosen_at, declared.event.Event.Event, declared.denial.Denial.Denial}
use Rattle.mml_policy.specs.{declared.command.Asked.Asked, declared.look.Look.Look, Visible.IsVisible, Visible.is_visible}
use Rattle.mml_rules.specs.declared.rule.Rule.TheVariants as rules
use Rattle.mml_lab.specs.declared.who.Who.TheVariants as who
use Rattle.mml_board.specs.declared.event.Event.TheVariants as event
use Rattle.mml_policy.specs.declared.command.Asked.TheVariants as asked
use Rattle.mml_board.specs.declared.denial.Denial.TheVariants as denial

-- q is the rule that is asked for; the partner of a marriage is the node with the identifier that was named
abbrev pub IsAsked : List ℕ → Asked → Rule → Type 0
IsAsked ids asked.Update q = q ≡ rules.Update
IsAsked ids (asked.Marriage id) q = (j : ℕ) × (rank_in ids id ≡ Some j) × (q ≡ rules.Marriage j)
IsAsked ids asked.Seduction q = q ≡ rules.Seduction
IsAsked ids asked.Abandonment q = q ≡ rules.Abandonment

-- x is student s, who owns i, the node with this identifier
pub record IsOwner (ids : List ℕ) (r : RosterValue) (x : Who) (id s i : ℕ) : Type 0 where
  pub student : x ≡ who.Student s
  pub node : rank_in ids id ≡ Some i
  pub owner : owns r (who.Student s) i ≡ true

-- the rule q is asked for, and may be applied at i
abbrev pub IsGuarded : List ℕ → World → ℕ → Asked → Rule → Type 0
IsGuarded ids w i asked q = IsAsked ids asked q × MayApply (configuration w) i q

-- student s owns node i, asks in the current configuration, no move is chosen for i, and the rule q may be applied
-- there
pub record MayMove (ids : List ℕ) (r : RosterValue) (w : World) (x : Who) (id : ℕ) (asked : Asked) (at s i : ℕ) (q : Rule) : Type 0 where
  pub own : IsOwner ids r x id s i
  pub current : at ≡ w.number
  pub free : chosen_at w.chosen i ≡ None
  pub guard : IsGuarded ids w i asked q

-- node i has a chosen move
abbrev pub IsChosen : World → ℕ → Type 0
IsChosen w i = (q : Rule) × (chosen_at w.chosen i ≡ Some q)

-- student s owns i, but asks in another configuration than the current one, whose number is n
pub record IsLate (ids : List ℕ) (r : RosterValue) (w : World) (x : Who) (id at n : ℕ) : Type 0 where
  pub s : ℕ
  pub i : ℕ
  pub own : IsOwner ids r x id s i
  pub late : at ≢ w.number
  pub told : n ≡ w.number

-- student s owns i and asks in the current configuration, but some move is chosen for i
pub record IsTaken (ids : List ℕ) (r : RosterValue) (w : World) (x : Who) (id at : ℕ) : Type 0 where
  pub s : ℕ
  pub i : ℕ
  pub own : IsOwner ids r x id s i
  pub current : at ≡ w.number
  pub chosen : IsChosen w i

-- student s owns i and asks in the current configuration, and no move is chosen for i, but the rule that is asked for
-- may not be applied there
pub record IsUnguarded (ids : List ℕ) (r : RosterValue) (w : World) (x : Who) (id : ℕ) (asked : Asked) (at : ℕ) : Type 0 where
  pub s : ℕ
  pub i : ℕ
  pub own : IsOwner ids r x id s i
  pub current : at ≡ w.number
  pub free : chosen_at w.chosen i ≡ None
  pub unfit : (q : Rule) → ¬ IsGuarded ids w i asked q

-- why a move is denied: the clause of the denial doesn't hold, and all clauses before it hold
abbrev pub DeniesMove : List ℕ → RosterValue → World → Who → ℕ → Asked → ℕ → Denial → Type 0
DeniesMove ids r w x id asked at denial.NotOwner = (s i : ℕ) → ¬ IsOwner ids r x id s i
DeniesMove ids r w x id asked at (denial.Stale n) = IsLate ids r w x id at n
DeniesMove ids r w x id asked at denial.Chosen = IsTaken ids r w x id at
DeniesMove ids r w x id asked at denial.Guard = IsUnguarded ids r w x id asked at
DeniesMove ids r w x id asked at _ = ⊥

-- there is a node with this identifier, and it is visible to x
abbrev pub MaySee : List ℕ → RosterValue → World → Who → ℕ → Type 0
MaySee ids r w x id = (i : ℕ) × (rank_in ids id ≡ Some i) × IsVisible r (configuration w) x i

-- there is a node with this identifier, and x owns it or is the teacher
abbrev pub MayLook : List ℕ → RosterValue → Who → ℕ → Type 0
MayLook ids r x id = (i : ℕ) × (rank_in ids id ≡ Some i) × ((x ≡ who.Teacher) ⊎ (owns r x i ≡ true))

-- the look shows the registers of nodes as they are in the world, and each of these nodes is visible to x
pub record ShowsWhatIsVisible (r : RosterValue) (w : World) (x : Who) (l : Look) : Type 0 where
  pub node : is_visible r (configuration w) x l.node ≡ true
  pub registers : l.regs ≡ registers_at w.network.registers l.node
  pub near : All (λ n. is_visible r (configuration w) x n.0 ≡ true) l.near
  pub near_registers : All (λ n. n.1 ≡ registers_at w.network.registers n.0) l.near

-- q is null if p is null, and otherwise q is the node with the identifier p
abbrev pub IsNamed : List ℕ → Option ℕ → Option ℕ → Type 0
IsNamed ids None q = q ≡ None
IsNamed ids (Some id) q = (j : ℕ) × (rank_in ids id ≡ Some j) × (q ≡ Some j)

-- the pointer is null or leads to a neighbour of i
abbrev pub IsRegister : World → ℕ → Option ℕ → Type 0
IsRegister w i None = Unit {0}
IsRegister w i (Some j) = (configuration w).linked i j ≡ true

-- some node has a chosen move, and the event is a close
pub record MayClose (w : World) (e : Event) : Type 0 where
  pub i : ℕ
  pub move : Rule
  pub chosen : chosen_at w.chosen i ≡ Some move
  pub granted : e ≡ event.Close

-- there is a node with this identifier, p is null or names one of its neighbours, and the event sets its registers to p
-- and m
pub record MayFault (ids : List ℕ) (w : World) (id : ℕ) (p : Option ℕ) (m : Bool) (e : Event) : Type 0 where
  pub i : ℕ
  pub q : Option ℕ
  pub node : rank_in ids id ≡ Some i
  pub named : IsNamed ids p q
  pub register : IsRegister w i q
  pub granted : e ≡ event.Fault i (record { p = q; m = m })

-- first and second name two different nodes that aren't linked, and the event links them
pub record MayLink (ids : List ℕ) (w : World) (first second : ℕ) (e : Event) : Type 0 where
  pub a : ℕ
  pub b : ℕ
  pub node_a : rank_in ids first ≡ Some a
  pub node_b : rank_in ids second ≡ Some b
  pub different : a ≢ b
  pub apart : (configuration w).linked a b ≡ false
  pub granted : e ≡ event.Link a b

-- first and second name two nodes that are linked, and the event cuts their link
pub record MayCut (ids : List ℕ) (w : World) (first second : ℕ) (e : Event) : Type 0 where
  pub a : ℕ
  pub b : ℕ
  pub node_a : rank_in ids first ≡ Some a
  pub node_b : rank_in ids second ≡ Some b
  pub linked : (configuration w).linked a b ≡ true
  pub granted : e ≡ event.Cut a b

-- the node with this identifier has a chosen move, and the event drops it
pub record MayRelease (ids : List ℕ) (w : World) (id : ℕ) (e : Event) : Type 0 where
  pub i : ℕ
  pub move : Rule
  pub node : rank_in ids id ≡ Some i
  pub chosen : chosen_at w.chosen i ≡ Some move
  pub granted : e ≡ event.Release i
