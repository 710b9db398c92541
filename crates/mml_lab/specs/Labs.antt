-- A lab: its identifiers, who takes part, the network at the beginning, and the limits of a run.
use Rattle.std.specs.Prelude.{◌≡◌, ℕ, zero, suc, ◌+◌, ◌<◌, ◌≤◌, List, length}
use Rattle.mml_ids.specs.{Search.count_below, Ids.IsTable}
use Rattle.mml_rules.specs.{Configuration.Configuration, Network.Network, Network.configuration_of, Network.IsNetwork}
use Rattle.mml_lab.specs.{declared.TheConstants.MAX_EVENTS, declared.TheConstants.MAX_SESSIONS, Rosters.RosterValue, Rosters.IsRoster}

-- a lab, in which each node is named by its rank
pub record LabValue : Type 0 where
  -- the identifiers of the nodes in rising order; a node's rank is its index here
  pub ids : List ℕ
  pub roster : RosterValue
  -- the links and registers at the beginning, by rank
  pub network : Network
  -- the greatest number of events that a run may have
  pub events : ℕ
  -- the greatest number of connections that there may be at once
  pub sessions : ℕ

-- the number of links between nodes with ranks below n
abbrev pub links_below : Configuration → ℕ → ℕ
links_below c zero = 0
links_below c (suc n) = links_below c n + count_below n (c.linked n)

-- the number of links of a network
unfoldable pub link_count : Network → ℕ
link_count network = links_below (configuration_of network) (length network.registers)

-- the identifiers are a table, the roster and the network are lawful and have as many nodes as there are identifiers,
-- and no limit is exceeded
pub record IsLab (lab : LabValue) : Type 0 where
  pub ids : IsTable lab.ids
  pub roster : IsRoster lab.roster
  pub network : IsNetwork lab.network
  pub nodes : length lab.network.registers ≡ length lab.ids
  pub owned : length lab.roster.owners ≡ length lab.ids
  pub some_events : 0 < lab.events
  pub few_events : lab.events ≤ MAX_EVENTS
  pub some_sessions : 0 < lab.sessions
  pub few_sessions : lab.sessions ≤ MAX_SESSIONS
