use Rattle.lf_lists.proofs.tests.rings_and_shared_tails_are_no_lists.Given as goal

abbrev pub ghosts-no_lists : goal.ghosts-no_lists
ghosts-no_lists g a = record { name = a.blank.name; parts = a.blank.parts }
