use Rattle.std.proofs.Common.{ap, ◌∙◌, nat_eq, ℕ}
use Rattle.def_datasets.specs.Cells.{with_predicate}
use Rattle.lf_lists.proofs.Shapes.{one_by_count}
use Rattle.lf_lists.proofs.shape.has_one.Goals as goal

pub returns : goal.returns
returns c = ap (λ (n : ℕ). nat_eq n 1) c.count_under.ensures ∙ one_by_count (with_predicate c.args.iri.now c.args.quads.now)
