-- Students who combine what they are shown. Such a group is a coalition, given by a test of its members. A world is the
-- state of a run after some events: its network and its chosen moves. Two worlds are alike for a student if everything
-- that the student may see is the same in both. A participant is known on a connection from a granted hello to a bye.
use Rattle.std.specs.Prelude.{◌≡◌, ℕ, Bool, true, false, Option, None, Some, List, [], ◌∷◌}
use Rattle.mml_lab.specs.{declared.who.Who.Who, Labs.LabValue, Labs.IsLab, Rosters.RosterValue}
use Rattle.mml_board.specs.World.{World, opening_of}
use Rattle.mml_policy.specs.Alike.{Alike, IsWorldOf}
use Rattle.mml_hall.specs.{Turns.State, Turns.known_on, Turns.opening, Transcripts.Transcript}
use Rattle.mml_hidden.specs.{Twins.AreTwins, Mishaps.BefallenLine, Mishaps.turn_with, Mishaps.Befell}
use Rattle.mml_lab.specs.declared.who.Who.TheVariants as who

-- the worlds are alike for each member of the coalition
abbrev pub AlikeFor : RosterValue → (ℕ → Bool) → World → World → Type 0
AlikeFor r members w v = (s : ℕ) → members s ≡ true → Alike r s w v

-- a member of the coalition, or nobody, is known on the connection
abbrev pub is_theirs : (ℕ → Bool) → Option Who → Bool
is_theirs members None = true
is_theirs members (Some who.Teacher) = false
is_theirs members (Some (who.Student s)) = members s

-- the worlds have the lab's nodes and are alike for each member; the same participants are known on the connections,
-- and both journals are halted, or neither is
pub record StatesAlikeFor (lab : LabValue) (members : ℕ → Bool) (st su : State) : Type 0 where
  pub first : IsWorldOf lab.ids st.world
  pub second : IsWorldOf lab.ids su.world
  pub worlds : AlikeFor lab.roster members st.world su.world
  pub greeted : st.greeted ≡ su.greeted
  pub halted : st.halted ≡ su.halted

-- after each line of somebody else, the worlds of the two runs are alike for each member, and both journals are halted,
-- or neither is
abbrev pub StayAlikeFor : LabValue → LabValue → (ℕ → Bool) → State → State → List BefallenLine → Type 0
StayAlikeFor lab other members st su [] = Unit {0}
StayAlikeFor lab other members st su (b ∷ bs) =
    (is_theirs members (known_on st b.line.connection) ≡ false
    → AlikeFor lab.roster members (turn_with lab st b).state.world (turn_with other su b).state.world
    × ((turn_with lab st b).state.halted ≡ (turn_with other su b).state.halted))
    × StayAlikeFor lab other members (turn_with lab st b).state (turn_with other su b).state bs

-- when a line comes on a connection for which `some` is true, a member or nobody is known there
abbrev pub AreTheirsThroughout : LabValue → (ℕ → Bool) → (ℕ → Bool) → State → List BefallenLine → Type 0
AreTheirsThroughout lab members some st [] = Unit {0}
AreTheirsThroughout lab members some st (b ∷ bs) =
    (some b.line.connection ≡ true → is_theirs members (known_on st b.line.connection) ≡ true)
    × AreTheirsThroughout lab members some (turn_with lab st b).state bs

-- two labs that differ at most in the links and registers at the beginning, and whose first worlds are alike for each
-- member
pub record BeginAlikeFor (lab other : LabValue) (members : ℕ → Bool) : Type 0 where
  pub twins : AreTwins lab other
  pub first : IsLab lab
  pub second : IsLab other
  pub worlds : AlikeFor lab.roster members (opening_of lab.network) (opening_of other.network)

-- Two runs of one script in labs that begin alike for each member, with the same mishaps in the same lines. After each
-- line of somebody else, the worlds are alike, and both journals are halted, or neither is. When a line comes on a
-- connection for which `some` is true, a member or nobody is known there
pub record RunAlikeFor (lab other : LabValue) (members some : ℕ → Bool) (t : Transcript lab) (u : Transcript other) (bs : List BefallenLine) : Type 0 where
  pub labs : BeginAlikeFor lab other members
  pub first : Befell lab t bs
  pub second : Befell other u bs
  pub worlds : StayAlikeFor lab other members (opening lab) (opening other) bs
  pub theirs : AreTheirsThroughout lab members some (opening lab) bs
