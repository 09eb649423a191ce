use Rattle.lf_oracle.specs.Nearby.{IsNamed, IsNearOne}
use Rattle.lf_kept.proofs.Again.{untold_of}
use Rattle.lf_kept.proofs.kept_nodes.KeptNodesNodes.names_graph.Goals as goal

pub returns-clause-names : goal.returns-clause-names
returns-clause-names g c = untold_of (λ d. IsNearOne d (IsNamed c.args.name.now)) c.self.view_is c.in_ok-found.ensures.names
