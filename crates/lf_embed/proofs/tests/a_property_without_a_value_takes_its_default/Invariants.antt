use Rattle.lf_embed.proofs.tests.a_property_without_a_value_takes_its_default.Given as goal

abbrev pub ghosts-defaults : goal.ghosts-defaults
ghosts-defaults g a = record { name = a.blank.name; parts = a.blank.parts }
