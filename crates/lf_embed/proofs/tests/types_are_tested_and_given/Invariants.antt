use Rattle.lf_embed.proofs.tests.types_are_tested_and_given.Given as goal

abbrev pub ghosts-types_and_flags : goal.ghosts-types_and_flags
ghosts-types_and_flags g a = record { name = a.blank.name; parts = a.blank.parts }
