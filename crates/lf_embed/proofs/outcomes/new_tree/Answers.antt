use Rattle.lf_oracle.specs.NodeViews.{view_data}
use Rattle.def_nested.specs.Unfolding.{nested}
use Rattle.lf_embed.specs.Walks.{path_of, state_of}
use Rattle.lf_embed.proofs.TreeProofs.{walk_begins}
use Rattle.lf_embed.proofs.outcomes.new_tree.Goals as goal

pub returns-clause-outcome : goal.returns-clause-outcome
returns-clause-outcome g c = walk_begins (g.N.Nodes.quads c.args.nodes.now) (g.N.Nodes.told c.args.nodes.now) (g.N.Nodes.told c.top_tree-made.new.nodes) c.args.steps.now c.top_tree-made.new.steps c.args.graph.now c.args.x.now (nested c.args.frame.now.nodes 0) (view_data c.args.view.now) (path_of c.new-walk.result) (state_of c.new-walk.result) c.top_tree-made.result c.new-walk.ensures.path c.new-walk.ensures.state c.top_tree-made.ensures.outcome
