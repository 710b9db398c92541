-- The turns of a script's lines with mishaps, and their output on the connections of one student. A mishap is what goes
-- wrong in a turn: memory runs out, or a write to the journal fails. A world is the state of a run after some events:
-- its network and its chosen moves. Two worlds are alike for a student if everything that the student may see is the
-- same in both. A participant is known on a connection from a granted hello to a bye. A transcript has the script lines
-- so far, with their replies.
use Rattle.std.specs.Prelude.{◌≡◌, ℕ, Bool, true, false, List, [], ◌∷◌, map}
use Rattle.mml_lab.specs.Labs.{LabValue}
use Rattle.mml_policy.specs.Alike.{Alike}
use Rattle.mml_codec.specs.declared.reply.Reply.{Reply}
use Rattle.mml_hall.specs.{Turns.State, Turns.Outcome, Turns.Mishap, Turns.RequestLine, Turns.turn, Turns.known_on, Turns.opening, Transcripts.Transcript}
use Rattle.mml_hidden.specs.{Twins.BeginAlike, Twins.is_hers, Scripted.replies_by, Scripted.end_by}

-- a line of a script, and the mishap in its turn
pub record BefallenLine : Type 0 where
  pub line : RequestLine
  pub mishap : Mishap

-- the turn of a line with its mishap
abbrev pub turn_with : LabValue → State → BefallenLine → Outcome
turn_with lab st b = turn b.mishap lab st b.line.connection b.line.request

-- the lines without their mishaps
abbrev pub lines_in : List BefallenLine → List RequestLine
lines_in bs = map (λ b. b.line) bs

-- the replies to lines with mishaps
abbrev pub replies_with : LabValue → State → List BefallenLine → List Reply
replies_with lab st bs = replies_by (turn_with lab) st bs

-- the state after lines with mishaps
abbrev pub end_with : LabValue → State → List BefallenLine → State
end_with lab st bs = end_by (turn_with lab) st bs

-- after each line of somebody else, the worlds of the two runs are alike for student s, and both journals are halted,
-- or neither is
abbrev pub StayAlikeWith : LabValue → LabValue → ℕ → State → State → List BefallenLine → Type 0
StayAlikeWith lab other s st su [] = Unit {0}
StayAlikeWith lab other s st su (b ∷ bs) =
    (is_hers s (known_on st b.line.connection) ≡ false
    → Alike lab.roster s (turn_with lab st b).state.world (turn_with other su b).state.world
    × ((turn_with lab st b).state.halted ≡ (turn_with other su b).state.halted))
    × StayAlikeWith lab other s (turn_with lab st b).state (turn_with other su b).state bs

-- when a line comes on a connection for which `some` is true, student s or nobody is known there
abbrev pub AreHersThroughout : LabValue → ℕ → (ℕ → Bool) → State → List BefallenLine → Type 0
AreHersThroughout lab s some st [] = Unit {0}
AreHersThroughout lab s some st (b ∷ bs) =
    (some b.line.connection ≡ true → is_hers s (known_on st b.line.connection) ≡ true) × AreHersThroughout lab s some (turn_with lab st b).state bs

-- for some choice of mishaps, the turns of the lines have these replies and lead to this end
pub record Befalls (lab : LabValue) (st : State) (lines : List RequestLine) (rs : List Reply) (end : State) : Type 0 where
  pub befallen : List BefallenLine
  pub lines_are : lines_in befallen ≡ lines
  pub replies_are : rs ≡ replies_with lab st befallen
  pub end_is : end ≡ end_with lab st befallen

-- the transcript's lines and replies are those of turns with these mishaps
pub record Befell (lab : LabValue) (t : Transcript lab) (bs : List BefallenLine) : Type 0 where
  pub lines_are : lines_in bs ≡ t.lines
  pub replies_are : t.replies ≡ replies_with lab (opening lab) bs

-- Two runs of one script in labs that begin alike for student s, with the same mishaps in the same lines. After each
-- line of somebody else, the worlds are alike, and both journals are halted, or neither is. When a line comes on a
-- connection for which `some` is true, student s or nobody is known there
pub record RunAlikeWith (lab other : LabValue) (s : ℕ) (some : ℕ → Bool) (t : Transcript lab) (u : Transcript other) (bs : List BefallenLine) : Type 0 where
  pub labs : BeginAlike lab other s
  pub first : Befell lab t bs
  pub second : Befell other u bs
  pub worlds : StayAlikeWith lab other s (opening lab) (opening other) bs
  pub hers : AreHersThroughout lab s some (opening lab) bs
