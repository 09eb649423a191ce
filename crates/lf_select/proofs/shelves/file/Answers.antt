use Rattle.std.proofs.Common.{◌≡◌, ℕ, true, false, ◌&&◌, cond, List, Some, ◌∙◌, sym, subst}
use Rattle.std.proofs.lemmas.Option.{get_or_from_slice_get}
use Rattle.std.proofs.lemmas.Result.{on_ok_weaker}
use Rattle.lf_rdf.specs.Equality.{text_eq}
use Rattle.lf_select.specs.declared.key.SlotKey.{SlotKey}
use Rattle.lf_select.specs.Keys.{key_eq}
use Rattle.lf_select.specs.Shelves.{comes_first, place_at, term_at}
use Rattle.lf_select.proofs.Filed.{filed-before, filed-over}
use Rattle.lf_select.proofs.shelves.file.Goals as goal

pub returns-then-is_taken : goal.returns-then-is_taken
returns-then-is_taken c =
    λ term here.
    let terms = c.args.terms.now in
    let item : c.index-terms-place.result ≡ term = c.index-terms-place.is ∙ get_or_from_slice_get terms c.args.place term c.index-terms-place.result here in
    filed-before terms c.args.shelves.now c.args.iri.now c.args.key.now term
    (subst (λ t. comes_first t (term_at terms c.args.shelves.now c.args.iri.now c.args.key.now) ≡ true) item (sym c.if-is_taken.ensures))

pub returns : goal.returns
returns c =
    let terms = c.args.terms.now in
    on_ok_weaker c.put_place.result
    (λ put term here.
    let item : c.index-terms-place.result ≡ term = c.index-terms-place.is ∙ get_or_from_slice_get terms c.args.place term c.index-terms-place.result here in
    filed-over terms c.args.shelves.now c.put_place.new.shelves c.args.iri.now c.args.key.now c.args.place term here
    (subst (λ t. comes_first t (term_at terms c.args.shelves.now c.args.iri.now c.args.key.now) ≡ false) item (sym c.if-is_taken.ensures))
    (subst
    (λ own. (q : List ℕ) (k : SlotKey) → place_at c.put_place.new.shelves q k
    ≡ cond (text_eq c.args.iri.now q && key_eq own k) (Some c.args.place) (place_at c.args.shelves.now q k))
    c.in_ok-copy.ensures put))
    c.put_place.ensures
