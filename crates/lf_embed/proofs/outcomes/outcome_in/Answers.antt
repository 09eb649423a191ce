use Rattle.std.proofs.Common.{◌∙◌}
use Rattle.def_nested.specs.Unfolding.{nested}
use Rattle.lf_embed.proofs.TreeProofs.{outcome_made, outcome_refused, outcome_unseen}
use Rattle.lf_embed.proofs.outcomes.outcome_in.Goals as goal

pub returns-in-None-clause-outcome : goal.returns-in-None-clause-outcome
returns-in-None-clause-outcome g c = outcome_unseen c.args.graph.now c.args.x.now (nested c.args.frame.now.nodes 0) _ c.in-None.is c.in_ok-node.ensures.view

pub returns-then-branch-clause-outcome : goal.returns-then-branch-clause-outcome
returns-then-branch-clause-outcome g c = outcome_made (g.N.Nodes.told c.new_tree.new.nodes) c.new_tree.new.steps c.args.graph.now c.args.x.now (nested c.args.frame.now.nodes 0) _ c.in-Some.view _ c.new_tree.result c.in-Some.is c.if-branch.true c.in_ok-node.ensures.view c.node.ensures.quads_stay c.in_ok-view_matches-in-Some.ensures.matched (c.view_matches.ensures.quads_stay ∙ c.node.ensures.quads_stay) c.new_tree.ensures.outcome

pub returns-clause-outcome : goal.returns-clause-outcome
returns-clause-outcome g c = outcome_refused c.args.graph.now c.args.x.now (nested c.args.frame.now.nodes 0) _ c.in-Some.view _ c.in-Some.is c.if-branch.false c.in_ok-node.ensures.view c.node.ensures.quads_stay c.in_ok-view_matches-in-Some.ensures.matched
