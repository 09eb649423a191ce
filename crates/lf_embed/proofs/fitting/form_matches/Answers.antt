use Rattle.lf_oracle.specs.NodeViews.{view_data}
use Rattle.lf_oracle.proofs.Learning.{learns_nothing}
use Rattle.def_framing.specs.Views.{of_dataset}
use Rattle.lf_embed.proofs.FittingProofs.{none_matched, row_matched, wild_matched}
use Rattle.lf_embed.proofs.fitting.form_matches.Goals as goal

pub returns-in-Absent-clause-matched : goal.returns-in-Absent-clause-matched
returns-in-Absent-clause-matched g c =
    learns_nothing _ _ _ _ _ _ (λ other. none_matched (of_dataset other) c.args.graph.now c.args.frame.now.nodes c.args.form c.args.id.now (view_data c.args.view.now) c.in-Absent.is)

pub returns-in-Wild-clause-matched : goal.returns-in-Wild-clause-matched
returns-in-Wild-clause-matched g c =
    learns_nothing _ _ _ _ _ _ (λ other. wild_matched (of_dataset other) c.args.graph.now c.args.frame.now.nodes c.args.form _ c.args.id.now (view_data c.args.view.now) c.in-Wild.is)

pub returns-in-Row-clause-matched : goal.returns-in-Row-clause-matched
returns-in-Row-clause-matched g c =
    row_matched (g.N.Nodes.quads c.args.nodes.now) (g.N.Nodes.told c.args.nodes.now) (g.N.Nodes.told c.view_matches.new.nodes) c.args.steps.now
    c.view_matches.new.steps c.args.graph.now c.args.frame.now.nodes c.args.form _ c.args.id.now (view_data c.args.view.now) c.in-Row.is _
    c.view_matches.ensures.matched
