use Rattle.std.proofs.Common.{ap, ◌∙◌}
use Rattle.lf_rdf.specs.Equality.{term_eq}
use Rattle.def_datasets.specs.Sorted.{has}
use Rattle.def_datasets.proofs.OrderLaws.{id_strict}
use Rattle.lf_embed.proofs.Searching.{searched}
use Rattle.lf_embed.proofs.all_terms.is_among.Goals as goal

pub returns : goal.returns
returns c =
    c.is_ok.ensures.value
    ∙ (searched id_strict c.args.known.now c.in_ok-one.one c.requires c.binary_search-place.result c.binary_search-place.ensures.bound c.binary_search-place.ensures.position
    ∙ ap (has term_eq c.args.known.now) c.in_ok-one.ensures)
