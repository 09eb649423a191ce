-- Where the definition of a name stands among definitions in byte order of their names.
use Rattle.std.proofs.Common.{◌≡◌, ℕ, zero, suc, ◌<◌, ◌≤◌, Bool, true, false, List, [], ◌∷◌, length, get_or, Some, None, Result, Ok, Err, IfOk, OnErr, cond, slice_get, refl, sym, ap, ◌∙◌, inl, inr, true≢false, Ordering, Less, Equal, Greater, nat_cmp, arith}
use Rattle.std.specs.Cmp.Lexicographic.{slice_cmp, nat_list_cmp_total}
use Rattle.std.specs.List.{list_all}
use Rattle.std.specs.List.Sorted.{IsSearchInRange, IsBinarySearchResult, IsNonDecreasingBy}
use Rattle.std.specs.Ordering.{is_eq, is_lt, ordering_index}
use Rattle.std.proofs.lemmas.Bool.{cases_lt}
use Rattle.std.proofs.lemmas.Map.Text.{is_eq-slice_cmp}
use Rattle.lf_model.specs.declared.table.TermDef.{TermDef}
use Rattle.lf_rdf.specs.Equality.{text_eq}
use Rattle.def_contexts.specs.Expansion.{find_term}
use Rattle.def_contexts.specs.TableLaws.{is_before, ascends}
use Rattle.def_contexts.proofs.Expanding.{first_true, second_true}
use Rattle.lf_context.proofs.Order.{reversed, rises, below_equal}

abbrev name_cmp : List ℕ → List ℕ → Ordering
name_cmp = slice_cmp nat_cmp

before-less : (d e : TermDef) → is_before d e ≡ true → name_cmp d.name e.name ≡ Less
before-less d e h = by (name_cmp d.name e.name) h
  where
    by : (o : Ordering) → is_lt o ≡ true → o ≡ Less
    by Less h = refl
    by Equal h = absurd (true≢false (sym h))
    by Greater h = absurd (true≢false (sym h))

all-at : (test : TermDef → Bool) (terms : List TermDef) (j : ℕ) (d : TermDef) → j < length terms → list_all test terms ≡ true → test (get_or terms j d) ≡ true
all-at test [] j d within h = absurd (omega arith)
all-at test (e ∷ rest) zero d within h = first_true (test e) (list_all test rest) h
all-at test (e ∷ rest) (suc j) d within h = all-at test rest j d (omega arith) (second_true (test e) (list_all test rest) h)

-- an earlier name is below a later one
less-at : (terms : List TermDef) (i j : ℕ) (d : TermDef) → ascends terms ≡ true → i < j → j < length terms → name_cmp (get_or terms i d).name (get_or terms j d).name ≡ Less
less-at [] i j d h lt within = absurd (omega arith)
less-at (e ∷ rest) i zero d h lt within = absurd (omega arith)
less-at (e ∷ rest) zero (suc j) d h lt within =
    before-less e (get_or rest j d) (all-at (is_before e) rest j d (omega arith) (first_true (list_all (is_before e) rest) (ascends rest) h))
less-at (e ∷ rest) (suc i) (suc j) d h lt within = less-at rest i j d (second_true (list_all (is_before e) rest) (ascends rest) h) (omega arith) (omega arith)

comparisons-rise : (terms : List TermDef) (name : List ℕ) → ascends terms ≡ true → IsNonDecreasingBy (λ (d : TermDef). ordering_index (name_cmp d.name name)) terms
comparisons-rise terms name h i j d le within =
    elim (cases_lt i j) [
      | inl lt ↦ rises name_cmp nat_list_cmp_total _ _ name _ refl (less-at terms i j d h lt within)
      | inr least ↦ let same : i ≡ j = omega arith in rw same (omega arith)
    ]

other-name : (a b : List ℕ) (o : Ordering) → name_cmp a b ≡ o → is_eq o ≡ false → text_eq a b ≡ false
other-name a b o e other = sym (is_eq-slice_cmp a b) ∙ ap is_eq e ∙ other

found-there : (terms : List TermDef) (name : List ℕ) (place : ℕ) → ascends terms ≡ true → place < length terms → ((d : TermDef) → name_cmp (get_or terms place d).name name ≡ Equal) → slice_get terms place ≡ find_term name terms
found-there [] name place h within equal = absurd (omega arith)
found-there (e ∷ rest) name zero h within equal =
    let same : name_cmp name e.name ≡ Equal = reversed name_cmp nat_list_cmp_total e.name name Equal (equal e) in
    sym (ap (λ b. cond b (Some e) (find_term name rest)) (sym (is_eq-slice_cmp name e.name) ∙ ap is_eq same))
found-there (e ∷ rest) name (suc place) h within equal =
    let lower : name_cmp e.name (get_or rest place e).name ≡ Less = less-at (e ∷ rest) 0 (suc place) e h (omega arith) within in
    let above : name_cmp name e.name ≡ Greater = reversed name_cmp nat_list_cmp_total e.name name Less (below_equal name_cmp nat_list_cmp_total e.name _ name lower (equal e)) in
    found-there rest name place (second_true (list_all (is_before e) rest) (ascends rest) h) (omega arith) equal
    ∙ sym (ap (λ b. cond b (Some e) (find_term name rest)) (other-name name e.name Greater above refl))

-- none of these is the name
none-among : (terms : List TermDef) (name : List ℕ) (place : ℕ) → ((j : ℕ) (d : TermDef) → j < place → j < length terms → name_cmp (get_or terms j d).name name ≡ Less) → ((j : ℕ) (d : TermDef) → place ≤ j → j < length terms → name_cmp (get_or terms j d).name name ≡ Greater) → find_term name terms ≡ None
none-among [] name place lower greater = refl
none-among (e ∷ rest) name zero lower greater =
    ap (λ b. cond b (Some e) (find_term name rest)) (other-name name e.name Less (reversed name_cmp nat_list_cmp_total e.name name Greater (greater 0 e (omega arith) (omega arith))) refl)
    ∙ none-among rest name zero (λ j d lt within. absurd (omega arith)) (λ j d le within. greater (suc j) d (omega arith) (omega arith))
none-among (e ∷ rest) name (suc place) lower greater =
    ap (λ b. cond b (Some e) (find_term name rest)) (other-name name e.name Greater (reversed name_cmp nat_list_cmp_total e.name name Less (lower 0 e (omega arith) (omega arith))) refl)
    ∙ none-among rest name place (λ j d lt within. lower (suc j) d (omega arith) (omega arith)) (λ j d le within. greater (suc j) d (omega arith) (omega arith))

-- a search by halving finds the definition, or none
pub searched : (terms : List TermDef) (name : List ℕ) → ascends terms ≡ true → (r : Result ℕ ℕ) → IsSearchInRange r (length terms) → IsBinarySearchResult (λ (d : TermDef). name_cmp d.name name) terms r → IfOk r (λ place. slice_get terms place ≡ find_term name terms) × OnErr r (find_term name terms ≡ None)
searched terms name h (Ok place) within equal = (found-there terms name place h within equal, tt)
searched terms name h (Err place) within parted =
    let parts = parted (comparisons-rise terms name h) in
    (tt, none-among terms name place (λ j d lt within. parts.0 j d (omega arith) lt) (λ j d le within. parts.1 j d le within))
