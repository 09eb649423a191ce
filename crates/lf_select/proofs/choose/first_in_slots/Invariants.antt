use Rattle.std.proofs.Common.{◌≡◌, drop}
use Rattle.lf_select.specs.Keys.{key_of}
use Rattle.lf_select.specs.Shelves.{first_some, term_in}
use Rattle.lf_select.proofs.choose.first_in_slots.Given as goal

abbrev pub invariant-loop-name : goal.invariant-loop-name
invariant-loop-name l =
    first_some (λ name. term_in l.terms l.shelf (key_of l.container l.pick.kind name)) l.pick.preferred
    ≡ first_some (λ name. term_in l.terms l.shelf (key_of l.container l.pick.kind name)) (drop l.name-index l.pick.preferred)
