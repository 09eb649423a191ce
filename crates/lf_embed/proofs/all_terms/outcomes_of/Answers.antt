use Rattle.std.proofs.Common.{map, ◌∙◌}
use Rattle.def_framing.specs.Outcome.{outcome}
use Rattle.def_framing.specs.Views.{of_dataset}
use Rattle.lf_embed.proofs.all_terms.outcomes_of.Goals as goal

pub returns-clause-outcomes : goal.returns-clause-outcomes
returns-clause-outcomes g c =
    c.in_ok-made.ensures.outcomes
    ∙ (λ i. map (outcome (of_dataset (c.in_ok-known.ensures.quads_stay i)) c.args.frame.now) (c.as_slice.ensures i))
