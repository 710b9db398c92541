use Rattle.mml_serving.proofs.serving.serve_arrivals.Given as goal

-- the house that was just opened
abbrev pub ghosts-serve_in_house : goal.ghosts-serve_in_house
ghosts-serve_in_house g a = record { name = a.blank.name; lab = a.blank.lab }
