-- The state of a hall, as contracts describe it. A hall answers requests in one thread. A participant is known on a
-- connection from a granted hello to a bye. A world is the state of a run after some events: its network and its chosen
-- moves.
use Rattle.std.specs.Prelude.{◌≡◌, ◌≤◌, true, length, All, IfSome}
use Rattle.mml_lab.specs.{Labs.LabValue, Labs.IsLab, Rosters.IsPrincipal}
use Rattle.mml_board.specs.{World.IsWorld, World.size, World.opening_of, Runs.is_legal_list, Runs.world_of}
use Rattle.mml_hall.specs.Turns.{State}

-- the lab, the state after all answers so far, and the journal's sink
pub record HallValue (S : Type 0) : Type 0 where
  pub lab : LabValue
  pub state : State
  pub sink : S

-- a lawful state: the events are legal, they lead from the lab's first world to the state's world, and all who are
-- known on connections are principals of the lab
pub record IsHall (lab : LabValue) (st : State) : Type 0 where
  pub is_lab : IsLab lab
  pub world : IsWorld st.world
  pub nodes : size st.world ≡ length lab.ids
  pub legal : is_legal_list lab.roster (opening_of lab.network) st.events ≡ true
  pub events : st.world ≡ world_of (opening_of lab.network) st.events
  pub few : length st.events ≤ lab.events
  pub connections : length st.greeted ≡ lab.sessions
  pub members : All (λ x. IfSome x (IsPrincipal lab.roster)) st.greeted
