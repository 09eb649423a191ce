use Rattle.std.proofs.Common.{◌++◌, ap, sym, ◌∙◌}
use Rattle.std.proofs.lemmas.List.{append-nil}
use Rattle.lf_context.proofs.draft.in_order.Goals as goal

pub returns : goal.returns
returns c =
    sym (append-nil c.loop-definition.found)
    ∙ ap (λ r. c.loop-definition.found ++ r) (sym c.in-None.ensures.steps.0)
    ∙ c.loop-definition.invariant
    ∙ ap (λ l. l ++ c.into_iter-definition-iterator.result) c.new-found.ensures
    ∙ c.into_iter-definition-iterator.ensures.into_iter_gives
    ∙ c.into_values-definition-items.ensures.rest
