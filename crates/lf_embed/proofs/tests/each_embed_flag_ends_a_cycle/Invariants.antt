use Rattle.lf_embed.proofs.tests.each_embed_flag_ends_a_cycle.Given as goal

abbrev pub ghosts-cycle : goal.ghosts-cycle
ghosts-cycle g a = record { name = a.blank.name; parts = a.blank.parts }
