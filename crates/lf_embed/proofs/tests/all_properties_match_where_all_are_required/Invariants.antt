use Rattle.lf_embed.proofs.tests.all_properties_match_where_all_are_required.Given as goal

abbrev pub ghosts-require_all : goal.ghosts-require_all
ghosts-require_all g a = record { name = a.blank.name; parts = a.blank.parts }
