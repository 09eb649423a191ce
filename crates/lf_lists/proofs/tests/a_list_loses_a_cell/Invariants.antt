use Rattle.lf_lists.proofs.tests.a_list_loses_a_cell.Given as goal

abbrev pub ghosts-loses_a_cell : goal.ghosts-loses_a_cell
ghosts-loses_a_cell g a = record { name = a.blank.name; parts = a.blank.parts }
