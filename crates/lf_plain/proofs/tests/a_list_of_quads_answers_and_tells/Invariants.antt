use Rattle.lf_plain.proofs.tests.a_list_of_quads_answers_and_tells.Given as goal

abbrev pub ghosts-asked_three_times : goal.ghosts-asked_three_times
ghosts-asked_three_times g a = record { name = a.blank.name; parts = a.blank.parts }
