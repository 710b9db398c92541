-- Two sessions that look the same to a student. Each session has a window, which is what the session has seen of the
-- events of a house. A world is the state of a run after some events: its network and its chosen moves. Two worlds are
-- alike for a student if everything that the student may see is the same in both. A participant is known on a
-- connection from a granted hello to a bye.
use Rattle.std.specs.Prelude.{◌≢◌, ℕ, ◌-◌, true, ◌≡◌, List, [], ◌∷◌, length, take, Option}
use Rattle.mml_lab.specs.{declared.who.Who.Who, Labs.LabValue}
use Rattle.mml_board.specs.{declared.event.Event.Event, Lists.world_in}
use Rattle.mml_policy.specs.Alike.{Alike}
use Rattle.mml_codec.specs.declared.reply.Reply.{Reply, TheVariants.Refuse}
use Rattle.mml_window.specs.Windows.{WindowValue}
use Rattle.mml_session.specs.Turns.{Standing, places_in, Run}
use Rattle.mml_hidden.specs.Twins.{is_hers}
use Rattle.mml_codec.specs.declared.reply.Refused.TheVariants as refused

-- the events that a reply takes into account: all that the window has seen now, except for the event that the reply
-- names
abbrev pub seen_at : Reply → WindowValue → List Event
seen_at r w = take (length w.seen - length (places_in r)) w.seen

-- the reply is neither the refusal `memory` nor the refusal `journal`
abbrev pub IsUnhindered : Reply → Type 0
IsUnhindered r = (r ≢ Refuse refused.Memory) × (r ≢ Refuse refused.Journal)

-- A line on a connection on which student s or nobody is known, with its two replies. The worlds in which these were
-- made are alike for the student, and neither reply is the refusal `memory` or `journal`
pub record IsToldAlike (lab other : LabValue) (s : ℕ) (known : Option Who) (r q : Reply) (one two : WindowValue) : Type 0 where
  pub hers : is_hers s known ≡ true
  pub worlds : Alike lab.roster s (world_in lab (seen_at r one)) (world_in other (seen_at q two))
  pub first : IsUnhindered r
  pub second : IsUnhindered q

-- when a line comes, student s or nobody is known, and `IsToldAlike` is true for its two replies
abbrev pub AreToldAlike : (lab other : LabValue) → ℕ → (st su : Standing) (lines : List (List ℕ)) (rs qs : List Reply) (end fin : Standing)
    → Run lab st lines rs end → Run other su lines qs fin → Type 0
AreToldAlike lab other s st su [] rs qs end fin t u = Unit {0}
AreToldAlike lab other s st su (line ∷ lines) [] qs end fin t u = Unit {0}
AreToldAlike lab other s st su (line ∷ lines) (r ∷ rs) [] end fin t u = Unit {0}
AreToldAlike lab other s st su (line ∷ lines) (r ∷ rs) (q ∷ qs) end fin t u =
    IsToldAlike lab other s st.known r q t.0.window u.0.window × AreToldAlike lab other s t.0 u.0 lines rs qs end fin t.2 u.2
