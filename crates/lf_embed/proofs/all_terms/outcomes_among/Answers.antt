use Rattle.std.proofs.Common.{ap, ◌∙◌}
use Rattle.def_framing.specs.Outcome.{outcome}
use Rattle.def_framing.specs.OutcomeBridge.{outcome_data}
use Rattle.def_framing.specs.Views.{of_dataset}
use Rattle.lf_embed.proofs.KeyProofs.{made_more}
use Rattle.lf_embed.proofs.all_terms.outcomes_among.Goals as goal

pub loop-term-preserved : goal.loop-term-preserved
loop-term-preserved g c =
    let frame = c.args.frame.now in
    let x = c.term-item.result in
    record {
      stays = c.in_ok-outcome.ensures.quads_stay ∙ c.loop-term.invariant.stays;
      made =
          made_more outcome_data (outcome (of_dataset (g.N.Nodes.quads c.args.nodes.now)) frame) c.args.terms.now c.loop-term.term-index x
          c.loop-term.made c.push.new.self c.in_ok-outcome.outcome
          c.loop-term-test.true c.term-item.is
          (c.in_ok-outcome.ensures.outcome ∙ ap (λ d. outcome (of_dataset d) frame x) c.loop-term.invariant.stays)
          c.loop-term.invariant.made c.in_ok-push.ensures.ok;
    }
