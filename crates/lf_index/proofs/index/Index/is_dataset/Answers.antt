use Rattle.std.proofs.Common.{subst, IsTrue}
use Rattle.lf_ptree.specs.Pairs.{keys}
use Rattle.def_datasets.specs.Dataset.{is_dataset}
use Rattle.def_datasets.proofs.SortedLaws.{ascends-set_of}
use Rattle.def_datasets.proofs.OrderLaws.{quad_strict}
use Rattle.lf_index.proofs.index.Index.is_dataset.Goals as goal

pub returns : goal.returns
returns c = subst (λ d. IsTrue (is_dataset d)) c.self.view_is (ascends-set_of quad_strict (keys c.self.inside.by_subject))
