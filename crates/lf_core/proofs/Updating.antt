-- The first item that passes a test is another.
use Rattle.std.proofs.Common.{◌≡◌, refl, sym, ◌∙◌, ap, zero, suc, ◌<◌, ℕ, List, [], ◌∷◌, length, Bool, true, false, cond, Option, Some, is_some, slice_index_or, slice_set, arith}
use Rattle.std.specs.List.{position}
use Rattle.std.proofs.lemmas.Bool.{false≢true}
use Rattle.std.proofs.lemmas.List.Quantifiers.{position-Some}
use Rattle.lf_core.specs.declared.frames.Kept.{Kept}
use Rattle.lf_core.specs.Kept.{find_kept, has_name, updated}

here : (name : List ℕ) (f : Kept → Kept) (x : Kept) (xs : List Kept) → has_name name x ≡ true → f x ∷ xs ≡ cond (has_name name x) (f x ∷ xs) (x ∷ updated name f xs)
here name f x xs e = rw e refl

later : (name : List ℕ) (f : Kept → Kept) (x : Kept) (xs : List Kept) → has_name name x ≡ false → x ∷ updated name f xs ≡ cond (has_name name x) (f x ∷ xs) (x ∷ updated name f xs)
later name f x xs e = rw e refl

pub set_first : (name : List ℕ) (f : Kept → Kept) (xs : List Kept) (i : ℕ) (d : Kept) → i < length xs → has_name name (slice_index_or xs i d) ≡ true
    → ((k : ℕ) → k < i → has_name name (slice_index_or xs k d) ≡ false) → slice_set xs i (f (slice_index_or xs i d)) ≡ updated name f xs
set_first name f [] i d low is before = absurd (omega (arith, low))
set_first name f (x ∷ xs) zero d low is before = here name f x xs is
set_first name f (x ∷ xs) (suc i) d low is before =
    ap (λ (w : List Kept). x ∷ w)
    (set_first name f xs i d (omega (arith, low)) is (λ k under. before (suc k) (omega (arith, under))))
    ∙ later name f x xs (before 0 (omega arith))

pub updated_at : (name : List ℕ) (f : Kept → Kept) (xs : List Kept) (i : ℕ) (x : Kept) → Some i ≡ position (has_name name) xs → x ≡ slice_index_or xs i x
    → slice_set xs i (f x) ≡ updated name f xs
updated_at name f xs i x found is =
    let told = position-Some (has_name name) xs i x (sym found) in
    ap (λ (w : Kept). slice_set xs i (f w)) is ∙ set_first name f xs i x told.0 told.1 told.2

-- none passes

none_here : (name : List ℕ) (f : Kept → Kept) (x : Kept) (xs : List Kept) (b : Bool) → is_some (cond b (Some x) (find_kept name xs)) ≡ false
    → (is_some (find_kept name xs) ≡ false → updated name f xs ≡ xs) → cond b (f x ∷ xs) (x ∷ updated name f xs) ≡ x ∷ xs
none_here name f x xs true none ih = absurd (false≢true (sym none))
none_here name f x xs false none ih = ap (λ (w : List Kept). x ∷ w) (ih none)

pub none_updated : (name : List ℕ) (f : Kept → Kept) (xs : List Kept) → is_some (find_kept name xs) ≡ false → updated name f xs ≡ xs
none_updated name f [] none = refl
none_updated name f (x ∷ xs) none = none_here name f x xs (has_name name x) none (none_updated name f xs)

-- what is found is what stands at the place

found_here : (name : List ℕ) (x : Kept) (xs : List Kept) → has_name name x ≡ true → cond (has_name name x) (Some x) (find_kept name xs) ≡ Some x
found_here name x xs e = rw e refl

found_later : (name : List ℕ) (x : Kept) (xs : List Kept) → has_name name x ≡ false → cond (has_name name x) (Some x) (find_kept name xs) ≡ find_kept name xs
found_later name x xs e = rw e refl

pub found_first : (name : List ℕ) (xs : List Kept) (i : ℕ) (d : Kept) → i < length xs → has_name name (slice_index_or xs i d) ≡ true
    → ((k : ℕ) → k < i → has_name name (slice_index_or xs k d) ≡ false) → find_kept name xs ≡ Some (slice_index_or xs i d)
found_first name [] i d low is before = absurd (omega (arith, low))
found_first name (x ∷ xs) zero d low is before = found_here name x xs is
found_first name (x ∷ xs) (suc i) d low is before =
    found_later name x xs (before 0 (omega arith))
    ∙ found_first name xs i d (omega (arith, low)) is (λ k under. before (suc k) (omega (arith, under)))

pub found_at : (name : List ℕ) (xs : List Kept) (i : ℕ) (x : Kept) → Some i ≡ position (has_name name) xs → x ≡ slice_index_or xs i x → find_kept name xs ≡ Some x
found_at name xs i x found is =
    let told = position-Some (has_name name) xs i x (sym found) in
    found_first name xs i x told.0 told.1 told.2 ∙ ap {B = Option Kept} Some (sym is)
