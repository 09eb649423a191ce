use Rattle.lf_index.proofs.tests.questions_are_answered_as_by_a_plain_list.Given as goal

abbrev pub ghosts-all_agree : goal.ghosts-all_agree
ghosts-all_agree g a = record { name = a.blank.name; parts = a.blank.parts }
