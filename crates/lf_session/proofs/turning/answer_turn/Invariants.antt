use Rattle.lf_session.proofs.turning.answer_turn.Given as goal

abbrev pub ghosts-count_turn : goal.ghosts-count_turn
ghosts-count_turn g a = record { name = a.blank.name; parts = a.blank.parts }
