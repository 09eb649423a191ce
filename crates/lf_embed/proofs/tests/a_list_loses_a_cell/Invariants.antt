use Rattle.lf_embed.proofs.tests.a_list_loses_a_cell.Given as goal

abbrev pub ghosts-loses_cell : goal.ghosts-loses_cell
ghosts-loses_cell g a = record { name = a.blank.name; parts = a.blank.parts }
