-- When a run is over, and lists of events that lead to its end.
use Rattle.std.specs.{Prelude.◌≡◌, Prelude.ℕ, Prelude.◌<◌, Prelude.◌≤◌, Prelude.Bool, Prelude.true, Prelude.false, Prelude.List, Prelude.length, List.list_all}
use Rattle.mml_rules.specs.{declared.rule.Rule.Rule, Matching.IsStable}
use Rattle.mml_lab.specs.Rosters.{RosterValue, owners_of}
use Rattle.mml_board.specs.{declared.event.Event.Event, World.World, World.configuration, Events.is_legal, Runs.is_legal_list, Runs.world_of}
use Rattle.mml_board.specs.declared.event.Event.TheVariants as event

-- each node below n has an owner
abbrev pub EachHasOwner : RosterValue → ℕ → Type 0
EachHasOwner r n = (i : ℕ) → i < n → 0 < length (owners_of r i)

-- no grant of a move and no close is legal
pub record IsOver (r : RosterValue) (w : World) : Type 0 where
  pub no_grant : (s i : ℕ) (rule : Rule) → is_legal r w (event.Grant s i rule) ≡ false
  pub no_close : is_legal r w event.Close ≡ false

-- the event is a grant or a close
abbrev pub is_grant_or_close : Event → Bool
is_grant_or_close (event.Grant s i rule) = true
is_grant_or_close event.Close = true
is_grant_or_close _ = false

-- a legal list of at most n grants and closes after which no node is privileged
pub record LeadsToRest (r : RosterValue) (w : World) (n : ℕ) (es : List Event) : Type 0 where
  pub legal : is_legal_list r w es ≡ true
  pub forward : list_all is_grant_or_close es ≡ true
  pub stable : IsStable (configuration (world_of w es))
  pub few : length es ≤ n
