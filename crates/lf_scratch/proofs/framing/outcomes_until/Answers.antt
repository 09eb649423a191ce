use Rattle.std.proofs.Common.{sym, ap, ◌∙◌, ◌+◌, map, None, Some}
use Rattle.def_framing.specs.Outcome.{outcome}
use Rattle.def_framing.specs.OutcomeBridge.{outcome_data}
use Rattle.def_framing.specs.Views.{of_dataset}
use Rattle.lf_embed.proofs.KeyProofs.{made_more}
use Rattle.lf_scratch.proofs.Deciding.{first_decide, room_more}
use Rattle.lf_scratch.proofs.framing.outcomes_until.Goals as goal

pub returns-in-None : goal.returns-in-None
returns-in-None g c =
    let frame = c.args.frame.now in
    let x = c.term-item.result in
    first_decide (outcome (of_dataset (g.N.Nodes.quads c.args.nodes.now)) frame) c.args.terms.now (c.loop-term.term-index + 1)
    (map outcome_data c.push.new.self)
    (made_more outcome_data (outcome (of_dataset (g.N.Nodes.quads c.args.nodes.now)) frame) c.args.terms.now c.loop-term.term-index x
    c.loop-term.made c.push.new.self c.in_ok-outcome.outcome
    c.loop-term-test.true c.term-item.is
    (c.in_ok-outcome.ensures.outcome ∙ ap (λ d. outcome (of_dataset d) frame x) c.loop-term.invariant.stays)
    c.loop-term.invariant.made c.in_ok-push.ensures.ok)
    (room_more c.loop-term.made c.push.new.self c.in_ok-outcome.outcome c.loop-term.room None c.in_ok-push.ensures.ok c.loop-term.invariant.room
    (sym c.in-None.is ∙ c.room_left-left.ensures))

pub loop-term-preserved : goal.loop-term-preserved
loop-term-preserved g c =
    let frame = c.args.frame.now in
    let x = c.term-item.result in
    record {
      stays = c.in_ok-outcome.ensures.quads_stay ∙ c.loop-term.invariant.stays;
      made =
          made_more outcome_data (outcome (of_dataset (g.N.Nodes.quads c.args.nodes.now)) frame) c.args.terms.now c.loop-term.term-index x
          c.loop-term.made c.push.new.self c.in_ok-outcome.outcome
          c.loop-term-test.true c.term-item.is
          (c.in_ok-outcome.ensures.outcome ∙ ap (λ d. outcome (of_dataset d) frame x) c.loop-term.invariant.stays)
          c.loop-term.invariant.made c.in_ok-push.ensures.ok;
      room =
          room_more c.loop-term.made c.push.new.self c.in_ok-outcome.outcome c.loop-term.room (Some c.in-Some.more) c.in_ok-push.ensures.ok
          c.loop-term.invariant.room (sym c.in-Some.is ∙ c.room_left-left.ensures);
    }
