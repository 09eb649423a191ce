use Rattle.lf_embed.proofs.tests.trees_share_a_blank_node.Given as goal

abbrev pub ghosts-shared_blank : goal.ghosts-shared_blank
ghosts-shared_blank g a = record { name = a.blank.name; parts = a.blank.parts }
