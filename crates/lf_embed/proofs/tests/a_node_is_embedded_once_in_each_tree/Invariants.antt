use Rattle.lf_embed.proofs.tests.a_node_is_embedded_once_in_each_tree.Given as goal

abbrev pub ghosts-once_per_tree : goal.ghosts-once_per_tree
ghosts-once_per_tree g a = record { name = a.blank.name; parts = a.blank.parts }
