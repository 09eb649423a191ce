use Rattle.std.proofs.Common.{rules}
use Rattle.lf_rdf.specs.Vocabulary.{rdf_type}
use Rattle.def_datasets.proofs.predicates.tells_type.Goals as goal

pub returns-in-Iri : goal.returns-in-Iri
unfolding rdf_type
returns-in-Iri c = search rules
