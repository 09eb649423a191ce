use Rattle.std.proofs.Common.{◌∙◌, ap}
use Rattle.std.proofs.lemmas.Result.{IfOk-weaker}
use Rattle.def_datasets.specs.Values.{value_of}
use Rattle.lf_lists.proofs.Hearings.{heard, learnt}
use Rattle.lf_model.specs.ValueBridge.{value_data}
use Rattle.lf_nodes.specs.Properties.{quad_value}
use Rattle.lf_nodes.proofs.Homes.{one_graph_from}
use Rattle.lf_nodes.proofs.values.value_of.Goals as goal

pub value_at-value-requires : goal.value_at-value-requires
value_at-value-requires g c = record { graph = one_graph_from c.in_ok-graph.graph c.args.quad.now c.in_ok-graph.ensures }

pub returns-clause-value : goal.returns-clause-value
returns-clause-value g c =
    IfOk-weaker c.value_at-value.result _ _
    (λ found e.
    learnt (heard e) (λ other. quad_value other c.args.quad.now) (value_data found)
    (λ other f. f ∙ ap (λ h. value_of other h c.args.quad.now.object) c.in_ok-graph.ensures))
    c.value_at-value.ensures.value
