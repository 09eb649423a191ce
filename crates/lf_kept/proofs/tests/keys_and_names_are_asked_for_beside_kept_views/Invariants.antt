use Rattle.lf_kept.proofs.tests.keys_and_names_are_asked_for_beside_kept_views.Given as goal

abbrev pub ghosts-asked_through : goal.ghosts-asked_through
ghosts-asked_through g a = record { name = a.blank.name; parts = a.blank.parts }
