use Rattle.lf_board.proofs.tests.a_board_goes_from_version_to_version.Given as goal

abbrev pub ghosts-shared_blank : goal.ghosts-shared_blank
ghosts-shared_blank g a = record { name = a.blank.name; parts = a.blank.parts }
