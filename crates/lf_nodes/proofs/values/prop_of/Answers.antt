use Rattle.lf_lists.proofs.Hearings.{heard_as}
use Rattle.lf_nodes.proofs.values.prop_of.Goals as goal

pub returns-clause-prop : goal.returns-clause-prop
returns-clause-prop g c =
    heard_as (λ question near. near) (λ other e. λ i. record { property = c.in_ok-property.ensures i; values = e i }) c.in_ok-values.ensures.values
