use Rattle.lf_nodes.proofs.tests.a_further_triple_makes_nodes_of_cells.Given as goal

abbrev pub ghosts-broken_list : goal.ghosts-broken_list
ghosts-broken_list g a = record { name = a.blank.name; parts = a.blank.parts }
