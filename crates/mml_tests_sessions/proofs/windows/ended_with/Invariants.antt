use Rattle.mml_tests_sessions.proofs.windows.ended_with.Given as goal

-- the house that was just opened
abbrev pub ghosts-in_house : goal.ghosts-in_house
ghosts-in_house g a = record { name = a.blank.name; lab = a.blank.lab }
