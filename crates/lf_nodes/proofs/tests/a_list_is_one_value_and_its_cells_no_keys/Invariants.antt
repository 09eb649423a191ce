use Rattle.lf_nodes.proofs.tests.a_list_is_one_value_and_its_cells_no_keys.Given as goal

abbrev pub ghosts-whole_list : goal.ghosts-whole_list
ghosts-whole_list g a = record { name = a.blank.name; parts = a.blank.parts }
