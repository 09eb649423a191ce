use Rattle.lf_embed.proofs.tests.patterns_take_their_values.Given as goal

abbrev pub ghosts-patterns : goal.ghosts-patterns
ghosts-patterns g a = record { name = a.blank.name; parts = a.blank.parts }
