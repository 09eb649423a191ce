use Rattle.lf_nodes.proofs.Listing.{NamesState}
use Rattle.lf_nodes.proofs.members.all_named_keys.Given as goal

abbrev pub invariant-loop-name : goal.invariant-loop-name
invariant-loop-name g l =
    NamesState (g.O.Oracle.quads l.initial.oracle) (g.O.Oracle.quads l.oracle) (g.O.Oracle.told l.initial.oracle) (g.O.Oracle.told l.oracle)
    l.initial.steps l.steps l.names l.name-index l.initial.found l.found
