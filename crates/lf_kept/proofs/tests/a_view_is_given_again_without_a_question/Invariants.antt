use Rattle.lf_kept.proofs.tests.a_view_is_given_again_without_a_question.Given as goal

abbrev pub ghosts-asked_once : goal.ghosts-asked_once
ghosts-asked_once g a = record { name = a.blank.name; parts = a.blank.parts }
