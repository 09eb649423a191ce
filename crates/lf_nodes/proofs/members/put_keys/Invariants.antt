use Rattle.lf_nodes.proofs.Listing.{KeysState}
use Rattle.lf_nodes.proofs.members.put_keys.Given as goal

abbrev pub invariant-loop-node : goal.invariant-loop-node
invariant-loop-node g l =
    KeysState (g.O.Oracle.quads l.initial.oracle) (g.O.Oracle.quads l.oracle) l.graph (g.O.Oracle.told l.initial.oracle)
    (g.O.Oracle.told l.oracle) l.initial.steps l.steps l.nodes l.node-index l.known l.initial.found l.found
