use Rattle.lf_embed.proofs.tests.a_graph_is_entered_where_the_frame_asks.Given as goal

abbrev pub ghosts-named_graph : goal.ghosts-named_graph
ghosts-named_graph g a = record { name = a.blank.name; parts = a.blank.parts }
