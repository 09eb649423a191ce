use Rattle.std.proofs.Common.{◌≡◌, ℕ, List, ◌∙◌, ◌&&◌, ◌||◌, ap, subst, cond, Some, length, get_or, refl}
use Rattle.std.specs.Prelude.{nat_eq}
use Rattle.std.specs.List.{list_any}
use Rattle.std.proofs.lemmas.Option.{slice_get_read}
use Rattle.lf_rdf.specs.Equality.{text_eq}
use Rattle.lf_select.specs.Prefixes.{prefix_at, rank_eq, ranked}
use Rattle.lf_select.specs.declared.prefixes.Ranked.{Ranked}
use Rattle.lf_select.proofs.Grouped.{prefix-grouped, none-grouped}
use Rattle.lf_select.proofs.prefixes.add_prefix.Goals as goal

pub returns-in_ok-add_length : goal.returns-in_ok-add_length
returns-in_ok-add_length c =
    let terms = c.args.table.now.terms in
    let term = c.index-as_slice-place.result in
    let item : term ≡ get_or terms c.args.place term = c.index-as_slice-place.is ∙ ap (λ xs. get_or xs c.args.place term) c.as_slice.ensures in
    let bytes : c.as_bytes-bytes.result.now ≡ c.in-Some.iri = c.as_bytes-bytes.ensures.value ∙ c.as_str.ensures in
    let key : c.of-key.result ≡ ranked term.name = c.of-key.ensures ∙ ap ranked c.in_ok-copy.ensures in
    prefix-grouped c.args.table.now c.args.place term (slice_get_read terms _ c.args.place term refl c.requires.here item) c.in-Some.iri
    c.args.prefixes.now.groups c.put_prefix.new.groups c.args.prefixes.now.lengths.items c.add_length.new.lengths.items
    c.if-term.true c.in-Some.is
    (subst (λ w. (q : List ℕ) (k : Ranked) → prefix_at c.put_prefix.new.groups q k
    ≡ cond (text_eq w q && rank_eq (ranked term.name) k) (Some c.args.place) (prefix_at c.args.prefixes.now.groups q k)) bytes
    (subst (λ r. (q : List ℕ) (k : Ranked) → prefix_at c.put_prefix.new.groups q k
    ≡ cond (text_eq c.as_bytes-bytes.result.now q && rank_eq r k) (Some c.args.place) (prefix_at c.args.prefixes.now.groups q k)) key c.in_ok-put_prefix.ensures))
    (subst (λ m. (n : ℕ) → list_any (λ k. nat_eq k n) c.add_length.new.lengths.items
    ≡ (nat_eq m n || list_any (λ k. nat_eq k n) c.args.prefixes.now.lengths.items)) (c.as_bytes-bytes.ensures.len ∙ ap length c.as_str.ensures) c.in_ok-add_length.ensures)
    c.requires.grouped

pub returns-in_default : goal.returns-in_default
returns-in_default c =
    let terms = c.args.table.now.terms in
    let term = c.index-as_slice-place.result in
    let item : term ≡ get_or terms c.args.place term = c.index-as_slice-place.is ∙ ap (λ xs. get_or xs c.args.place term) c.as_slice.ensures in
    none-grouped c.args.table.now c.args.place term (slice_get_read terms _ c.args.place term refl c.requires.here item)
    c.args.prefixes.now.groups c.args.prefixes.now.lengths.items
    (λ iri may its. let none = c.in_default.is in cc (none, its))
    c.requires.grouped

pub returns-else-term : goal.returns-else-term
returns-else-term c =
    let terms = c.args.table.now.terms in
    let term = c.index-as_slice-place.result in
    let item : term ≡ get_or terms c.args.place term = c.index-as_slice-place.is ∙ ap (λ xs. get_or xs c.args.place term) c.as_slice.ensures in
    none-grouped c.args.table.now c.args.place term (slice_get_read terms _ c.args.place term refl c.requires.here item)
    c.args.prefixes.now.groups c.args.prefixes.now.lengths.items
    (λ iri may its. let no = c.if-term.false in cc (no, may))
    c.requires.grouped
