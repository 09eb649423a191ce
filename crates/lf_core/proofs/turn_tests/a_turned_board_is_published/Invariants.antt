use Rattle.lf_core.proofs.turn_tests.a_turned_board_is_published.Given as goal

abbrev pub ghosts-row : goal.ghosts-row
ghosts-row g a = record { name = a.blank.name; parts = a.blank.parts }
