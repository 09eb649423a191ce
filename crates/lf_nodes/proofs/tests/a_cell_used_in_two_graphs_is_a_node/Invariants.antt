use Rattle.lf_nodes.proofs.tests.a_cell_used_in_two_graphs_is_a_node.Given as goal

abbrev pub ghosts-shared_cell : goal.ghosts-shared_cell
ghosts-shared_cell g a = record { name = a.blank.name; parts = a.blank.parts }
