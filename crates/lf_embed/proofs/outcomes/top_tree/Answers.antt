use Rattle.std.proofs.Common.{refl}
use Rattle.lf_model.specs.TreeBridge.{tree_data}
use Rattle.lf_oracle.specs.NodeViews.{view_data}
use Rattle.def_nested.specs.Unfolding.{nested}
use Rattle.def_framing.specs.Outcome.{matched, past}
use Rattle.def_framing.specs.Results.{gives, over}
use Rattle.lf_embed.specs.Walks.{path_of, state_of}
use Rattle.lf_embed.proofs.Gains.{at_limit}
use Rattle.lf_embed.proofs.TreeProofs.{top_outcome}
use Rattle.lf_embed.proofs.outcomes.top_tree.Goals as goal

pub returns-in-Ok-clause-outcome : goal.returns-in-Ok-clause-outcome
returns-in-Ok-clause-outcome g c = top_outcome c.args.graph.now c.args.x.now (nested c.args.frame.now.nodes 0) (view_data c.args.view.now) (path_of c.args.walk.now) (state_of c.args.walk.now) (gives (tree_data c.in-Ok.tree) (state_of c.embed_viewed.new.walk)) (matched (tree_data c.in-Ok.tree)) refl c.in-Ok.ensures.run

pub returns-in-Err-Over-clause-outcome : goal.returns-in-Err-Over-clause-outcome
returns-in-Err-Over-clause-outcome g c = top_outcome c.args.graph.now c.args.x.now (nested c.args.frame.now.nodes 0) (view_data c.args.view.now) (path_of c.args.walk.now) (state_of c.args.walk.now) (over c.in-Err-Over.limit) (past c.in-Err-Over.limit) refl (at_limit tree_data _ c.in-Err-Over.limit (state_of c.embed_viewed.new.walk) c.in-Err-Over.field-0-is c.in-Err-Over.ensures.run)
