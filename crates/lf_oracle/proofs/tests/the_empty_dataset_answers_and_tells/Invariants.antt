use Rattle.lf_oracle.proofs.tests.the_empty_dataset_answers_and_tells.Given as goal

abbrev pub ghosts-asked_twice : goal.ghosts-asked_twice
ghosts-asked_twice g a = record { name = a.blank.name; parts = a.blank.parts }
