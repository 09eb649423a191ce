use Rattle.std.proofs.Common.{arith}
use Rattle.lf_nodes.proofs.Listing.{names_begun, names_done, names_more}
use Rattle.lf_nodes.proofs.members.all_named_keys.Goals as goal

pub loop-name-init : goal.loop-name-init
loop-name-init g c = names_begun _ _ _ _ _

pub loop-name-preserved : goal.loop-name-preserved
loop-name-preserved g c =
    names_more c.loop-name.invariant c.name-item.result c.loop-name-test.true c.name-item.is _ c.in_ok-put_named_keys.ensures.put
    c.in_ok-put_named_keys.ensures.quads_stay

pub returns-clause-put : goal.returns-clause-put
returns-clause-put g c = names_done c.loop-name.invariant (omega arith)
