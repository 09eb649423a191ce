use Rattle.std.proofs.Common.{◌≡◌, IfOk, List, map, subst, ◌∙◌}
use Rattle.lf_rdf.specs.declared.quad.Quad.{Quad}
use Rattle.lf_rdf.specs.declared.term.Term.{Term}
use Rattle.def_documents.specs.Document.{gathered}
use Rattle.def_framing.specs.Outcome.{outcome}
use Rattle.def_framing.specs.OutcomeBridge.{outcome_data}
use Rattle.def_framing.specs.Views.{of_dataset}
use Rattle.lf_scratch.proofs.framing.deciding_outcomes.Goals as goal

pub returns : goal.returns
returns g c =
    let quads : c.framed_keys.new.nodes ≡ c.args.index.now = c.in_ok-known.ensures.quads_stay ∙ (c.new-nodes.ensures ∙ c.asker.ensures) in
    subst (λ (ts : List Term). IfOk c.outcomes_until.result (λ made. gathered 0 (map outcome_data made) ≡ gathered 0 (map (outcome (of_dataset c.args.index.now) c.args.frame.now) ts))) (c.as_slice.ensures ∙ c.in_ok-terms.ensures)
    (subst (λ (d : List Quad). IfOk c.outcomes_until.result (λ made. gathered 0 (map outcome_data made) ≡ gathered 0 (map (outcome (of_dataset d) c.args.frame.now) c.as_slice.result.now))) quads
    c.outcomes_until.ensures)
