use Rattle.lf_kept.proofs.tests.the_views_of_a_node_in_two_graphs_are_kept_apart.Given as goal

abbrev pub ghosts-told_apart : goal.ghosts-told_apart
ghosts-told_apart g a = record { name = a.blank.name; parts = a.blank.parts }
