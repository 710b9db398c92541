use Rattle.mml_tests_sessions.proofs.windows.a_window_that_outlives_its_house_is_closed.Given as goal

-- the house that was just opened
abbrev pub ghosts-is_closed_after : goal.ghosts-is_closed_after
ghosts-is_closed_after g a = record { name = a.blank.name; lab = a.blank.lab }
