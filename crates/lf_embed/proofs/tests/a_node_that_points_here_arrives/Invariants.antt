use Rattle.lf_embed.proofs.tests.a_node_that_points_here_arrives.Given as goal

abbrev pub ghosts-reverse_arrives : goal.ghosts-reverse_arrives
ghosts-reverse_arrives g a = record { name = a.blank.name; parts = a.blank.parts }
