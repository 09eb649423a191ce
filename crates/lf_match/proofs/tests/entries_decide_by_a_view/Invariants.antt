use Rattle.lf_match.proofs.tests.entries_decide_by_a_view.Given as goal

abbrev pub ghosts-all_fit : goal.ghosts-all_fit
ghosts-all_fit g a = record { name = a.blank.name; parts = a.blank.parts }
