use Rattle.lf_rdf.specs.Equality.{quad_eq}
use Rattle.def_datasets.proofs.Bools.{same_truth}
use Rattle.def_datasets.proofs.OrderLaws.{quad_decides}
use Rattle.lf_versions.proofs.change.ChangePartialEq.eq.Goals as goal

pub returns : goal.returns
returns c =
    let one = c.args.self.now.quad in
    let two = c.args.other.now.quad in
    same_truth c.is.result (quad_eq one two) (λ t. (quad_decides one two).1 (c.is.ensures.0 t)) (λ t. c.is.ensures.1 ((quad_decides one two).0 t))
