use Rattle.std.proofs.Common.{◌∙◌, ap}
use Rattle.lf_rdf.specs.declared.question.GraphRef.TheVariants.{Merged}
use Rattle.def_datasets.specs.Sorted.{set_of}
use Rattle.def_datasets.specs.Order.{id_cmp}
use Rattle.def_datasets.specs.Views.{keys}
use Rattle.lf_lists.proofs.Hearings.{learnt}
use Rattle.lf_nodes.proofs.Listing.{merged_is}
use Rattle.lf_nodes.proofs.members.merged_keys.Goals as goal

pub returns-clause-keys : goal.returns-clause-keys
returns-clause-keys g c =
    learnt c.in_ok-all.ensures.keys (λ other. keys other Merged) _
    (λ other e. c.in_ok-found.ensures ∙ (ap (set_of id_cmp) (c.in_ok-by_id.ensures ∙ (c.as_slice.ensures ∙ e)) ∙ merged_is other))
