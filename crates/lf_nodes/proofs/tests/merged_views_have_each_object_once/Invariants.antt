use Rattle.lf_nodes.proofs.tests.merged_views_have_each_object_once.Given as goal

abbrev pub ghosts-merged_views : goal.ghosts-merged_views
ghosts-merged_views g a = record { name = a.blank.name; parts = a.blank.parts }
