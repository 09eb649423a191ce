use Rattle.std.proofs.Common.{arith}
use Rattle.lf_nodes.proofs.Listing.{keys_begun, keys_done, keys_known, keys_more}
use Rattle.lf_nodes.proofs.members.put_keys.Goals as goal

pub loop-node-init : goal.loop-node-init
loop-node-init g c = keys_begun _ _ _ _ _ _ _ c.new-known.ensures

pub put_key-requires : goal.put_key-requires
put_key-requires g c = record { graph = c.requires.graph; knows = keys_known c.loop-node.invariant }

pub loop-node-preserved : goal.loop-node-preserved
loop-node-preserved g c =
    keys_more c.loop-node.invariant c.requires.nodes c.node-item.result c.loop-node-test.true c.node-item.is _ _ c.in_ok-put_key.ensures.put
    c.in_ok-put_key.ensures.quads_stay

pub returns-clause-put : goal.returns-clause-put
returns-clause-put g c = keys_done c.loop-node.invariant c.requires.graph (omega arith)
