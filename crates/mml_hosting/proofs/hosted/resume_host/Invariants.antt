use Rattle.std.proofs.Common.{◌∷◌}
use Rattle.mml_hosting.specs.Seats.{kept_from}
use Rattle.mml_hosting.proofs.hosted.resume_host.Given as goal

-- the house that was just opened
abbrev pub ghosts-host_in_house-H-House : goal.ghosts-host_in_house-H-House
ghosts-host_in_house-H-House g a = record { name = a.house.name; lab = a.house.lab }

-- the events that came before, and what the observers had kept
abbrev pub ghosts-host_in_house-H-Begun : goal.ghosts-host_in_house-H-Begun
ghosts-host_in_house-H-Begun g a = record { begun = a.house.begun; given = kept_from g.Y.Observer.Observer.kept 1 (a.observers.at_desk ∷ a.observers.others.items) }
