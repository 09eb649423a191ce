use Rattle.std.proofs.Common.{◌≡◌, drop}
use Rattle.lf_select.specs.Keys.{key_of}
use Rattle.lf_select.specs.Shelves.{first_some, term_in}
use Rattle.lf_select.proofs.choose.first_in_containers.Given as goal

abbrev pub invariant-loop-container : goal.invariant-loop-container
invariant-loop-container l =
    first_some
    (λ container. first_some (λ name. term_in l.terms l.shelf (key_of container l.pick.kind name)) l.pick.preferred) l.pick.containers
    ≡ first_some
    (λ container. first_some (λ name. term_in l.terms l.shelf (key_of container l.pick.kind name)) l.pick.preferred)
    (drop l.container-index l.pick.containers)
