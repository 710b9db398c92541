use Rattle.mml_tests_sessions.proofs.windows.a_book_decides_alone.Given as goal

-- the house that was just opened
abbrev pub ghosts-decides_alone : goal.ghosts-decides_alone
ghosts-decides_alone g a = record { name = a.blank.name; lab = a.blank.lab }
