use Rattle.lf_oracle.specs.Nearby.{IsNearOne, IsPointing}
use Rattle.lf_kept.proofs.Again.{untold_of}
use Rattle.lf_kept.proofs.kept_nodes.KeptNodesNodes.pointing.Goals as goal

pub returns-clause-keys : goal.returns-clause-keys
returns-clause-keys g c =
    untold_of (λ d. IsNearOne d (IsPointing d c.args.graph.now c.args.property.now c.args.id.now)) c.self.view_is c.in_ok-found.ensures.keys
