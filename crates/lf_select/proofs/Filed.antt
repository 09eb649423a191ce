-- What filing a term changes.
use Rattle.std.proofs.Common.{◌≡◌, ℕ, ◌+◌, ◌<◌, ◌≤◌, suc, Bool, true, false, ◌&&◌, ◌||◌, cond, List, [], ◌∷◌, Option, Some, None, refl, ap, sym, ◌∙◌, subst, arith, length, drop, get_or, take, nat_cmp, is_eq, is_lt, drop-cons}
use Rattle.std.specs.Prelude.{nat_eq, filter, slice_get}
use Rattle.std.specs.List.{list_any}
use Rattle.std.specs.Option.{option_and_then}
use Rattle.std.specs.Ordering.{ordering_then}
use Rattle.std.specs.Cmp.{tied_then, unsigned_ties}
use Rattle.std.specs.Cmp.Lexicographic.{slice_cmp}
use Rattle.std.specs.BTreeMap.{get}
use Rattle.std.proofs.lemmas.Bool.{and_parts}
use Rattle.std.proofs.lemmas.Bool.Decides.{Decides-eqb}
use Rattle.std.proofs.lemmas.Cmp.{tied_itself, nat_list_cmp_total}
use Rattle.std.proofs.lemmas.List.{take_all}
use Rattle.std.proofs.lemmas.List.Folds.{list_any_more}
use Rattle.std.proofs.lemmas.Map.Text.{is_eq-slice_cmp}
use Rattle.std.proofs.lemmas.Option.{get_or_from_slice_get, slice_get_within}
use Rattle.std.proofs.lemmas.Slice.Eq.{bytes_eq-Decides}
use Rattle.lf_rdf.specs.Equality.{text_eq, option_eq}
use Rattle.lf_model.specs.declared.table.TermTable.{TermTable}
use Rattle.lf_model.specs.declared.table.TermDef.{TermDef}
use Rattle.def_selection.specs.Chosen.{least, lesser, ranks_less}
use Rattle.lf_select.specs.declared.key.SlotKey.{SlotKey}
use Rattle.lf_select.specs.Keys.{key_cmp, key_eq, keys_of}
use Rattle.lf_select.specs.Shelves.{best_under, comes_first, is_under, name_rank, place_at, shelf_of, term_at, Files, IsFiledFrom, IsFiledUnder, Shelf, Shelves}

-- ---- keys

key-tie : (a b : SlotKey) → is_eq (key_cmp a b) ≡ key_eq a b
key-tie a b =
    sym (tied_then (nat_cmp a.kind b.kind) (ordering_then (nat_cmp a.container b.container) (slice_cmp nat_cmp a.slot b.slot)))
    ∙ (λ i. sym (unsigned_ties a.kind b.kind) i
    && (sym (tied_then (nat_cmp a.container b.container) (slice_cmp nat_cmp a.slot b.slot))
    ∙ (λ j. sym (unsigned_ties a.container b.container) j && is_eq-slice_cmp a.slot b.slot j)) i)

same-key : (a b : SlotKey) → key_eq a b ≡ true → a ≡ b
same-key a b e =
    let one = and_parts (nat_eq a.kind b.kind) (nat_eq a.container b.container && text_eq a.slot b.slot) e in
    let two = and_parts (nat_eq a.container b.container) (text_eq a.slot b.slot) one.1 in
    let kind = (Decides-eqb a.kind b.kind).0 one.0 in
    let container = (Decides-eqb a.container b.container).0 two.0 in
    let slot = (bytes_eq-Decides a.slot b.slot).0 two.1 in
    λ i. record { kind = kind i; container = container i; slot = slot i }

-- ---- a place under an IRI and a key

pub put-place : (before after : Shelves) (iri : List ℕ) (shelf : Shelf) (key : SlotKey) (place : ℕ)
    → ((q : List ℕ) → shelf_of after q ≡ cond (is_eq (slice_cmp nat_cmp iri q)) (Some shelf) (shelf_of before q))
    → ((k : SlotKey) → get key_cmp shelf k ≡ cond (is_eq (key_cmp key k)) (Some place) (place_at before iri k))
    → (q : List ℕ) (k : SlotKey) → place_at after q k ≡ cond (text_eq iri q && key_eq key k) (Some place) (place_at before q k)
put-place before after iri shelf key place outer inner q k =
    ap (option_and_then (λ s. get key_cmp s k)) (outer q)
    ∙ ap (λ b. option_and_then (λ s. get key_cmp s k) (cond b (Some shelf) (shelf_of before q))) (is_eq-slice_cmp iri q)
    ∙ go (text_eq iri q) refl
  where
    go : (b : Bool) → text_eq iri q ≡ b →
        option_and_then (λ s. get key_cmp s k) (cond b (Some shelf) (shelf_of before q)) ≡ cond (b && key_eq key k) (Some place) (place_at before q k)
    go true e =
        inner k
        ∙ ap (λ b. cond b (Some place) (place_at before iri k)) (key-tie key k)
        ∙ ap (λ w. cond (key_eq key k) (Some place) (place_at before w k)) ((bytes_eq-Decides iri q).0 e)
    go false e = refl

-- ---- a term under an IRI and a key

not-first : (term : TermDef) (o : Option TermDef) → comes_first term o ≡ false → lesser name_rank term o ≡ Some term
not-first term None e = refl
not-first term (Some other) e = ap (λ b. cond b (Some other) (Some term)) e

first-stays : (term : TermDef) (o : Option TermDef) → comes_first term o ≡ true → lesser name_rank term o ≡ o
first-stays term None e = cc
first-stays term (Some other) e = ap (λ b. cond b (Some other) (Some term)) e

-- what a test of the asked IRI and key says of what is asked
module _ (iri q : List ℕ) (key k : SlotKey) where
  same-asked : (P : List ℕ → SlotKey → Type 0) → (text_eq iri q && key_eq key k) ≡ true → P iri key → P q k
  same-asked P e held =
      let both = and_parts (text_eq iri q) (key_eq key k) e in
      subst (λ w. P w k) ((bytes_eq-Decides iri q).0 both.0) (subst (P iri) (same-key key k both.1) held)

pub filed-over : (terms : List TermDef) (before after : Shelves) (iri : List ℕ) (key : SlotKey) (place : ℕ) (term : TermDef)
    → slice_get terms place ≡ Some term → comes_first term (term_at terms before iri key) ≡ false
    → ((q : List ℕ) (k : SlotKey) → place_at after q k ≡ cond (text_eq iri q && key_eq key k) (Some place) (place_at before q k))
    → (q : List ℕ) (k : SlotKey) → term_at terms after q k
    ≡ cond (text_eq iri q && key_eq key k) (lesser name_rank term (term_at terms before q k)) (term_at terms before q k)
filed-over terms before after iri key place term here first put q k =
    ap (option_and_then (slice_get terms)) (put q k) ∙ go (text_eq iri q && key_eq key k) refl
  where
    go : (b : Bool) → (text_eq iri q && key_eq key k) ≡ b → option_and_then (slice_get terms) (cond b (Some place) (place_at before q k))
        ≡ cond b (lesser name_rank term (term_at terms before q k)) (term_at terms before q k)
    go true e =
        here ∙ sym (not-first term (term_at terms before q k) (same-asked iri q key k (λ w l. comes_first term (term_at terms before w l) ≡ false) e first))
    go false e = refl

pub filed-before : (terms : List TermDef) (before : Shelves) (iri : List ℕ) (key : SlotKey) (term : TermDef)
    → comes_first term (term_at terms before iri key) ≡ true
    → (q : List ℕ) (k : SlotKey) → term_at terms before q k
    ≡ cond (text_eq iri q && key_eq key k) (lesser name_rank term (term_at terms before q k)) (term_at terms before q k)
filed-before terms before iri key term first q k = go (text_eq iri q && key_eq key k) refl
  where
    go : (b : Bool) → (text_eq iri q && key_eq key k) ≡ b → term_at terms before q k
        ≡ cond b (lesser name_rank term (term_at terms before q k)) (term_at terms before q k)
    go true e = sym (first-stays term (term_at terms before q k) (same-asked iri q key k (λ w l. comes_first term (term_at terms before w l) ≡ true) e first))
    go false e = refl

-- ---- key after key

not-less-itself : (a : List ℕ) → ranks_less a a ≡ false
not-less-itself a = ap is_lt (tied_itself nat_list_cmp_total a)

once : (term : TermDef) (o : Option TermDef) → lesser name_rank term (lesser name_rank term o) ≡ lesser name_rank term o
once term None = ap (λ b. cond b (Some term) (Some term)) (not-less-itself (name_rank term))
once term (Some other) = go (ranks_less (name_rank other) (name_rank term)) refl
  where
    go : (b : Bool) → ranks_less (name_rank other) (name_rank term) ≡ b →
        lesser name_rank term (cond b (Some other) (Some term)) ≡ cond b (Some other) (Some term)
    go true e = ap (λ b. cond b (Some other) (Some term)) e
    go false e = ap (λ b. cond b (Some term) (Some term)) (not-less-itself (name_rank term))

pub one-key-more : (asked seen now : Bool) (term : TermDef) (base before after : Option TermDef)
    → before ≡ cond (asked && seen) (lesser name_rank term base) base
    → after ≡ cond (asked && now) (lesser name_rank term before) before
    → after ≡ cond (asked && (seen || now)) (lesser name_rank term base) base
one-key-more false seen now term base before after was step = step ∙ was
one-key-more true true true term base before after was step = step ∙ ap (lesser name_rank term) was ∙ once term base
one-key-more true true false term base before after was step = step ∙ was
one-key-more true false true term base before after was step = step ∙ ap (lesser name_rank term) was
one-key-more true false false term base before after was step = step ∙ was

pub keys-more : (table : TermTable) (xs : List TermDef) → xs ≡ table.terms → (before after : Shelves) (iri : List ℕ) (place i : ℕ)
    (own_keys : List SlotKey) (own : SlotKey) → i < length own_keys → own ≡ get_or own_keys i own
    → IsFiledUnder table before iri place (take i own_keys) → Files xs before after iri own place
    → IsFiledUnder table after iri place (take (i + 1) own_keys)
keys-more table xs same before after iri place i own_keys own below here was step term at q k =
    one-key-more (text_eq iri q) (list_any (λ o. key_eq o k) (take i own_keys)) (key_eq own k) term
    (best_under table (drop (place + 1) table.terms) q k) (term_at table.terms before q k) (term_at table.terms after q k)
    (was term at q k)
    (subst (λ ts. Files ts before after iri own place) same step term at q k)
    ∙ (λ j. cond (text_eq iri q && seen j) (lesser name_rank term (best_under table (drop (place + 1) table.terms) q k))
    (best_under table (drop (place + 1) table.terms) q k))
  where
    seen : (list_any (λ o. key_eq o k) (take i own_keys) || key_eq own k) ≡ list_any (λ o. key_eq o k) (take (i + 1) own_keys)
    seen =
        (λ j. list_any (λ o. key_eq o k) (take i own_keys) || key_eq (here j) k)
        ∙ sym (list_any_more (λ o. key_eq o k) own_keys i own below)

no-keys : (b : Bool) (x y : Option TermDef) → y ≡ cond (b && false) x y
no-keys true x y = refl
no-keys false x y = refl

pub keys-none : (table : TermTable) (shelves : Shelves) (iri : List ℕ) (place : ℕ) → IsFiledFrom table shelves (place + 1) → IsFiledUnder table shelves iri place []
keys-none table shelves iri place filed term at q k = filed q k ∙ no-keys (text_eq iri q) _ _

-- ---- term after term

one-more : (b : Bool) (term : TermDef) (xs : List TermDef) → least name_rank (cond b (term ∷ xs) xs) ≡ cond b (lesser name_rank term (least name_rank xs)) (least name_rank xs)
one-more true term xs = refl
one-more false term xs = refl

pub here-and-after : (terms : List TermDef) (place : ℕ) (term : TermDef) → slice_get terms place ≡ Some term → drop place terms ≡ term ∷ drop (place + 1) terms
here-and-after terms place term here =
    let below : place < length terms = slice_get_within terms place term here in
    drop-cons terms place term below ∙ (λ i. get_or_from_slice_get terms place term term here i ∷ drop (later i) terms)
  where
    later : suc place ≡ place + 1
    later = omega arith

pub filed-all : (table : TermTable) (shelves : Shelves) (place : ℕ) (term : TermDef) (iri : List ℕ)
    → slice_get table.terms place ≡ Some term → term.iri ≡ Some iri
    → ((q : List ℕ) (k : SlotKey) → term_at table.terms shelves q k
    ≡ cond (text_eq iri q && list_any (λ own. key_eq own k) (keys_of table term))
    (lesser name_rank term (best_under table (drop (place + 1) table.terms) q k))
    (best_under table (drop (place + 1) table.terms) q k))
    → IsFiledFrom table shelves place
filed-all table shelves place term iri here has_iri all q k =
    all q k
    ∙ (λ i. cond (option_eq text_eq (sym has_iri i) (Some q) && list_any (λ own. key_eq own k) (keys_of table term))
    (lesser name_rank term (best_under table (drop (place + 1) table.terms) q k))
    (best_under table (drop (place + 1) table.terms) q k))
    ∙ sym (one-more (is_under table q k term) term (filter (is_under table q k) (drop (place + 1) table.terms)))
    ∙ (λ i. best_under table (sym (here-and-after table.terms place term here) i) q k)

pub keys-done : (table : TermTable) (shelves : Shelves) (place n : ℕ) (term found : TermDef) (iri : List ℕ) (own_keys : List SlotKey)
    → slice_get table.terms place ≡ Some term → term.iri ≡ Some iri → found ≡ term → own_keys ≡ keys_of table found → length own_keys ≤ n
    → IsFiledUnder table shelves iri place (take n own_keys) → IsFiledFrom table shelves place
keys-done table shelves place n term found iri own_keys here has_iri same keys past under =
    filed-all table shelves place term iri here has_iri
    (λ q k. under term here q k
    ∙ (λ j. cond (text_eq iri q && list_any (λ own. key_eq own k) (all j))
    (lesser name_rank term (best_under table (drop (place + 1) table.terms) q k))
    (best_under table (drop (place + 1) table.terms) q k)))
  where
    all : take n own_keys ≡ keys_of table term
    all = take_all n own_keys past ∙ keys ∙ ap (keys_of table) same

pub filed-none : (table : TermTable) (shelves : Shelves) (place : ℕ) (term : TermDef)
    → slice_get table.terms place ≡ Some term → term.iri ≡ None
    → IsFiledFrom table shelves (place + 1) → IsFiledFrom table shelves place
filed-none table shelves place term here no_iri filed q k =
    filed q k
    ∙ (λ i. cond (option_eq text_eq (sym no_iri i) (Some q) && list_any (λ own. key_eq own k) (keys_of table term))
    (lesser name_rank term (best_under table (drop (place + 1) table.terms) q k))
    (best_under table (drop (place + 1) table.terms) q k))
    ∙ sym (one-more (is_under table q k term) term (filter (is_under table q k) (drop (place + 1) table.terms)))
    ∙ (λ i. best_under table (sym (here-and-after table.terms place term here) i) q k)
