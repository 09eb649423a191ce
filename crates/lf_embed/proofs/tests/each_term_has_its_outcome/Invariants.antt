use Rattle.lf_embed.proofs.tests.each_term_has_its_outcome.Given as goal

abbrev pub ghosts-each_outcome : goal.ghosts-each_outcome
ghosts-each_outcome g a = record { name = a.blank.name; parts = a.blank.parts }
