use Rattle.lf_lists.proofs.tests.a_list_lies_in_one_graph.Given as goal

abbrev pub ghosts-lists_of_graphs : goal.ghosts-lists_of_graphs
ghosts-lists_of_graphs g a = record { name = a.blank.name; parts = a.blank.parts }
