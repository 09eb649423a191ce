use Rattle.lf_lists.proofs.tests.lists_stand_in_lists.Given as goal

abbrev pub ghosts-lists_in_a_list : goal.ghosts-lists_in_a_list
ghosts-lists_in_a_list g a = record { name = a.blank.name; parts = a.blank.parts }
