use Rattle.std.proofs.Common.{◌≡◌, ◌∙◌, ap, get_or, refl}
use Rattle.std.proofs.lemmas.Option.{slice_get_read}
use Rattle.std.proofs.lemmas.Result.{on_ok_weaker}
use Rattle.lf_select.proofs.Filed.{filed-none}
use Rattle.lf_select.proofs.shelves.file_term.Goals as goal

pub returns-in-Some : goal.returns-in-Some
returns-in-Some c =
    let terms = c.args.table.now.terms in
    let term = c.index-as_slice-place.result in
    let item : term ≡ get_or terms c.args.place term = c.index-as_slice-place.is ∙ ap (λ xs. get_or xs c.args.place term) c.as_slice.ensures in
    on_ok_weaker c.file_keys.result
    (λ filed. filed term (slice_get_read terms _ c.args.place term refl c.requires.here item) (ap (λ t. t.iri) c.index-as_slice-place.is ∙ c.in-Some.is))
    c.file_keys.ensures

pub returns-in-None : goal.returns-in-None
returns-in-None c =
    let terms = c.args.table.now.terms in
    let term = c.index-as_slice-place.result in
    let item : term ≡ get_or terms c.args.place term = c.index-as_slice-place.is ∙ ap (λ xs. get_or xs c.args.place term) c.as_slice.ensures in
    filed-none c.args.table.now c.args.shelves.now c.args.place term
    (slice_get_read terms _ c.args.place term refl c.requires.here item) (ap (λ t. t.iri) c.index-as_slice-place.is ∙ c.in-None.is) c.requires.filed
