use Rattle.lf_embed.proofs.tests.a_property_that_is_to_be_absent_is_null.Given as goal

abbrev pub ghosts-match_none : goal.ghosts-match_none
ghosts-match_none g a = record { name = a.blank.name; parts = a.blank.parts }
