use Rattle.std.proofs.Common.{◌≡◌, Ok, subst}
use Rattle.def_contexts.specs.Places.{term_at}
use Rattle.def_contexts.specs.GivenValues.{given}
use Rattle.lf_expand.specs.GivenData.{given_data}
use Rattle.lf_expand.specs.PlaceData.{place_data}
use Rattle.lf_expand.proofs.Steps.{scalar_found}
use Rattle.lf_expand.proofs.scalars.scalar_under.Goals as goal

pub returns : goal.returns
returns c =
    scalar_found c.args.rows.now.items c.place_row.new.rows.items (place_data c.args.place.now) c.args.terms.now.table.now (term_at (place_data c.args.place.now)) c.args.scalar
    (given_data c.in_ok-given.given) c.in_ok-row.row c.in_ok-number.number
    (subst (λ term. given c.args.terms.now.table.now term c.args.scalar ≡ Ok (given_data c.in_ok-given.given)) c.term.ensures c.in_ok-given.ensures)
    c.in_ok-row.ensures c.in_ok-number.ensures
