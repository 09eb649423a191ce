use Rattle.std.proofs.Common.{ap, ◌∙◌}
use Rattle.def_datasets.specs.Dataset.{holds}
use Rattle.lf_index.proofs.IndexLemmas.{look_told}
use Rattle.lf_index.proofs.index.Index.has.Goals as goal

pub returns : goal.returns
returns c =
    let q = c.args.key.now in
    c.is_some.ensures ∙ look_told c.self.inside.by_subject q c.get.result c.get.ensures ∙ ap (λ d. holds d q) c.self.view_is
