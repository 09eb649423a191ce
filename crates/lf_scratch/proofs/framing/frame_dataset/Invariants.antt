use Rattle.lf_scratch.proofs.framing.frame_dataset.Given as goal

abbrev pub ghosts-deciding_outcomes : goal.ghosts-deciding_outcomes
ghosts-deciding_outcomes a = record { name = a.blank.name; parts = a.blank.parts }
