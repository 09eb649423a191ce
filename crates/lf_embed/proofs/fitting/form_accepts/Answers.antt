use Rattle.lf_model.specs.ValueBridge.{value_data}
use Rattle.lf_oracle.proofs.Learning.{learns_nothing}
use Rattle.def_framing.specs.Views.{of_dataset}
use Rattle.lf_embed.proofs.FittingProofs.{none_accepted, row_accepted, wild_accepted}
use Rattle.lf_embed.proofs.fitting.form_accepts.Goals as goal

pub returns-in-Absent-clause-accepted : goal.returns-in-Absent-clause-accepted
returns-in-Absent-clause-accepted g c =
    learns_nothing _ _ _ _ _ _ (λ other. none_accepted (of_dataset other) c.args.graph.now c.args.frame.now.nodes c.args.form (value_data c.args.value.now) c.in-Absent.is)

pub returns-in-Wild-clause-accepted : goal.returns-in-Wild-clause-accepted
returns-in-Wild-clause-accepted g c =
    learns_nothing _ _ _ _ _ _ (λ other. wild_accepted (of_dataset other) c.args.graph.now c.args.frame.now.nodes c.args.form _ (value_data c.args.value.now) c.in-Wild.is)

pub returns-in-Row-clause-accepted : goal.returns-in-Row-clause-accepted
returns-in-Row-clause-accepted g c =
    row_accepted (g.N.Nodes.quads c.args.nodes.now) (g.N.Nodes.told c.args.nodes.now) (g.N.Nodes.told c.accepts.new.nodes) c.args.steps.now
    c.accepts.new.steps c.args.graph.now c.args.frame.now.nodes c.args.form _ (value_data c.args.value.now) c.in-Row.is _
    c.accepts.ensures.accepted
