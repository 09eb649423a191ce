use Rattle.lf_embed.proofs.tests.trees_have_limits.Given as goal

abbrev pub ghosts-limits : goal.ghosts-limits
ghosts-limits g a = record { name = a.blank.name; parts = a.blank.parts }
