use Rattle.lf_nodes.proofs.tests.the_name_of_a_graph_is_a_key_of_the_default_graph.Given as goal

abbrev pub ghosts-one_graph : goal.ghosts-one_graph
ghosts-one_graph g a = record { name = a.blank.name; parts = a.blank.parts }
