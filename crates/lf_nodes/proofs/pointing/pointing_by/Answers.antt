use Rattle.lf_nodes.proofs.Subjects.{by_iri}
use Rattle.lf_nodes.proofs.pointing.pointing_by.Goals as goal

pub returns-in_ok-found-in-Iri-clause-keys : goal.returns-in_ok-found-in-Iri-clause-keys
returns-in_ok-found-in-Iri-clause-keys g c = by_iri c.args.graph.now c.args.node.now c.in-Iri.is c.in_ok-found-in-Iri.ensures.keys
