use Rattle.def_nested.specs.Unfolding.{nested}
use Rattle.lf_embed.proofs.TreeProofs.{framed_outcome}
use Rattle.lf_embed.proofs.outcomes.tree.Goals as goal

pub returns-clause-outcome : goal.returns-clause-outcome
returns-clause-outcome g c = framed_outcome (g.N.Nodes.quads c.args.nodes.now) (g.N.Nodes.told c.args.nodes.now) (g.N.Nodes.told c.outcome_in-made.new.nodes) c.args.steps.now c.outcome_in-made.new.steps c.args.frame.now.top_graph c.framed_graph-graph.result c.args.x.now (nested c.args.frame.now.nodes 0) c.outcome_in-made.result c.framed_graph-graph.ensures c.outcome_in-made.ensures.outcome
