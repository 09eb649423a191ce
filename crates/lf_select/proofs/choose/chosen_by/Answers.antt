use Rattle.std.proofs.Common.{◌≡◌, sym, ap, ◌∙◌}
use Rattle.std.specs.Option.{option_copied}
use Rattle.std.proofs.lemmas.Result.{IfOk-weaker}
use Rattle.def_selection.specs.Chosen.{chosen}
use Rattle.lf_select.specs.Keys.{key_of}
use Rattle.lf_select.specs.Shelves.{first_some, term_in}
use Rattle.lf_select.proofs.Choosing.{chosen-on_shelf, chosen-no_shelf}
use Rattle.lf_select.proofs.choose.chosen_by.Goals as goal

pub returns-in-Some : goal.returns-in-Some
returns-in-Some c =
    let pick = c.args.pick.now in
    let table = c.args.table.now in
    IfOk-weaker c.first_in_containers.result
    (λ found. option_copied found
    ≡ first_some
    (λ asked. first_some (λ name. term_in c.as_slice.result.now c.in-Some.shelf.now (key_of asked pick.kind name)) pick.preferred)
    pick.containers)
    (λ found. option_copied found ≡ chosen table c.args.iri.now pick)
    (λ found first.
    first
    ∙ ap
    (λ terms. first_some (λ asked. first_some (λ name. term_in terms c.in-Some.shelf.now (key_of asked pick.kind name)) pick.preferred) pick.containers)
    c.as_slice.ensures
    ∙ chosen-on_shelf table c.args.shelves.now c.args.iri.now pick c.requires c.in-Some.shelf.now (sym c.in-Some.ensures.value))
    c.first_in_containers.ensures

pub returns-in-None : goal.returns-in-None
returns-in-None c = chosen-no_shelf c.args.table.now c.args.shelves.now c.args.iri.now c.args.pick.now c.requires (sym c.in-None.ensures.value)
