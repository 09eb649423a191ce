use Rattle.std.proofs.Common.{◌≡◌, IfOk, List, map, subst, ◌∙◌}
use Rattle.lf_rdf.specs.declared.quad.Quad.{Quad}
use Rattle.def_framing.specs.Outcome.{outcome}
use Rattle.def_framing.specs.OutcomeBridge.{outcome_data}
use Rattle.def_framing.specs.Views.{of_dataset}
use Rattle.lf_board.proofs.evaluated.outcomes_over.Goals as goal

pub returns : goal.returns
returns g c =
    let quads : c.new-nodes.result ≡ c.args.index.now = c.new-nodes.ensures ∙ c.asker.ensures in
    subst (λ (d : List Quad). IfOk c.outcomes_of.result (λ outcomes. map outcome_data outcomes ≡ map (outcome (of_dataset d) c.args.frame.now) c.args.terms.now)) quads
    c.outcomes_of.ensures.outcomes
