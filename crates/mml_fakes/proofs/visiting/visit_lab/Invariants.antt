use Rattle.mml_fakes.proofs.visiting.visit_lab.Given as goal

-- the house that was just opened
abbrev pub ghosts-visit_house : goal.ghosts-visit_house
ghosts-visit_house g a = record { name = a.blank.name; lab = a.blank.lab }
