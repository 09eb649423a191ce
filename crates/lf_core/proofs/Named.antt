-- The frame of a name, its place, and the frames without it.
use Rattle.std.proofs.Common.{◌≡◌, refl, sym, ◌∙◌, ap, subst, zero, suc, ◌<◌, ℕ, List, [], ◌∷◌, ◌++◌, length, get_or, Bool, true, false, not, cond, Option, Some, None, is_some, unwrap_or, IsSome, nat_lt, arith}
use Rattle.std.specs.List.{filter, find, remove, position, position_or_len, slice_get}
use Rattle.std.proofs.lemmas.Bool.{false≢true, ltb-false}
use Rattle.std.proofs.lemmas.List.Folds.{find_at}
use Rattle.std.proofs.lemmas.Option.{slice_get_past}
use Rattle.def_histories.specs.declared.live.Live.{Live}
use Rattle.def_histories.specs.History.{find_frame, without}
use Rattle.std.specs.Option.{option_map}
use Rattle.lf_core.specs.declared.frames.Kept.{Kept}
use Rattle.lf_versions.specs.declared.commit.Commit.{Commit}
use Rattle.lf_core.specs.Kept.{live_of, lives, has_name, find_kept, without_kept, IsKept, AreKept}

pub some_from : {A : Type 0} (o : Option A) → is_some o ≡ true → IsSome o
some_from None e = absurd (false≢true e)
some_from (Some x) e = refl

-- where none passes, none is left out
kept_first : {X : Type 0} (p : X → Bool) (x : X) (rest : List X) (b : Bool)
    → (is_some (find p rest) ≡ false → filter (λ y. not (p y)) rest ≡ rest)
    → is_some (cond b (Some x) (find p rest)) ≡ false
    → cond (not b) (x ∷ filter (λ y. not (p y)) rest) (filter (λ y. not (p y)) rest) ≡ x ∷ rest
kept_first p x rest true ih e = absurd (false≢true (sym e))
kept_first {X} p x rest false ih e = ap (λ (w : List X). x ∷ w) (ih e)

pub none_left_out : {X : Type 0} (p : X → Bool) (xs : List X) → is_some (find p xs) ≡ false → filter (λ x. not (p x)) xs ≡ xs
none_left_out p [] e = refl
none_left_out p (x ∷ rest) e = kept_first p x rest (p x) (none_left_out p rest) e

-- an item that passes is found
passes : {X : Type 0} (p : X → Bool) (x : X) (xs : List X) (b : Bool) → (b ≡ false → is_some (find p xs) ≡ true)
    → is_some (cond b (Some x) (find p xs)) ≡ true
passes p x xs true ih = refl
passes p x xs false ih = ih refl

here : {X : Type 0} (p : X → Bool) (x : X) (xs : List X) → p x ≡ true → is_some (cond (p x) (Some x) (find p xs)) ≡ true
here p x xs e = rw e refl

pub found_at : {X : Type 0} (p : X → Bool) (xs : List X) (i : ℕ) (d : X) → i < length xs → p (get_or xs i d) ≡ true
    → is_some (find p xs) ≡ true
found_at p [] i d low e = absurd (omega (arith, low))
found_at p (x ∷ xs) zero d low e = here p x xs e
found_at p (x ∷ xs) (suc i) d low e = passes p x xs (p x) (λ _. found_at p xs i d (omega (arith, low)) e)

-- an item that fails is left out, also where it is taken out before
gone : {X : Type 0} (q : X → Bool) (x : X) (xs : List X) → q x ≡ false → filter q xs ≡ cond (q x) (x ∷ filter q xs) (filter q xs)
gone q x xs e = rw e refl

pub left_same : {X : Type 0} (q : X → Bool) (xs : List X) (i : ℕ) (d : X) → i < length xs → q (get_or xs i d) ≡ false
    → filter q (remove xs i) ≡ filter q xs
left_same q [] i d low e = absurd (omega (arith, low))
left_same q (x ∷ xs) zero d low e = gone q x xs e
left_same {X} q (x ∷ xs) (suc i) d low e =
    ap (λ (w : List X). cond (q x) (x ∷ w) w) (left_same q xs i d (omega (arith, low)) e)

-- no place is that of a name that isn't found
unplaced : {X : Type 0} (p : X → Bool) (xs : List X) (k : ℕ) (b : Bool) → nat_lt k (length xs) ≡ b → cond b (Some k) None ≡ None
    → slice_get xs k ≡ None
unplaced p xs k true low e = absurd (false≢true (sym (ap is_some e)))
unplaced p xs k false low e = slice_get_past xs k (ltb-false k (length xs) low)

pub no_place : {X : Type 0} (p : X → Bool) (xs : List X) → position p xs ≡ None → is_some (find p xs) ≡ false
no_place p xs e =
    ap is_some (find_at p xs ∙ unplaced p xs (position_or_len p xs) (nat_lt (position_or_len p xs) (length xs)) refl e)

-- ---- frames beside what their texts mean

find_first : (name : List ℕ) (kept : Kept) (rest : List Kept) (b : Bool)
    → option_map live_of (find_kept name rest) ≡ find_frame name (lives rest)
    → option_map live_of (cond b (Some kept) (find_kept name rest)) ≡ cond b (Some kept.live) (find_frame name (lives rest))
find_first name kept rest true ih = refl
find_first name kept rest false ih = ih

pub find_lives : (name : List ℕ) (frames : List Kept) → option_map live_of (find_kept name frames) ≡ find_frame name (lives frames)
find_lives name [] = refl
find_lives name (kept ∷ rest) = find_first name kept rest (has_name name kept) (find_lives name rest)

left_first : (name : List ℕ) (kept : Kept) (rest : List Kept) (b : Bool)
    → lives (without_kept name rest) ≡ without name (lives rest)
    → lives (cond b (kept ∷ without_kept name rest) (without_kept name rest)) ≡ cond b (kept.live ∷ without name (lives rest)) (without name (lives rest))
left_first name kept rest true ih = ap (λ (w : List Live). kept.live ∷ w) ih
left_first name kept rest false ih = ih

pub without_lives : (name : List ℕ) (frames : List Kept) → lives (without_kept name frames) ≡ without name (lives frames)
without_lives name [] = refl
without_lives name (kept ∷ rest) = left_first name kept rest (not (has_name name kept)) (without_lives name rest)

pub lives_length : (frames : List Kept) → length (lives frames) ≡ length frames
lives_length [] = refl
lives_length (kept ∷ rest) = ap suc (lives_length rest)

pub without_lives_length : (name : List ℕ) (frames : List Kept) → length (without_kept name frames) ≡ length (without name (lives frames))
without_lives_length name frames = sym (lives_length (without_kept name frames)) ∙ ap length (without_lives name frames)

pub lives_end : (frames : List Kept) (kept : Kept) → lives (frames ++ kept ∷ []) ≡ lives frames ++ kept.live ∷ []
lives_end [] kept = refl
lives_end (first ∷ rest) kept = ap (λ (w : List Live). first.live ∷ w) (lives_end rest kept)

found_first : (name : List ℕ) (commits : List Commit) (first kept : Kept) (rest : List Kept) (b : Bool) → IsKept commits first
    → (find_kept name rest ≡ Some kept → IsKept commits kept) → cond b (Some first) (find_kept name rest) ≡ Some kept → IsKept commits kept
found_first name commits first kept rest true is ih e = subst (IsKept commits) (ap (λ (o : Option Kept). unwrap_or o first) e) is
found_first name commits first kept rest false is ih e = ih e

pub found_is : (name : List ℕ) (commits : List Commit) (frames : List Kept) (kept : Kept) → AreKept commits frames → find_kept name frames ≡ Some kept
    → IsKept commits kept
found_is name commits [] kept all e = absurd (false≢true (ap is_some e))
found_is name commits (first ∷ rest) kept all e =
    found_first name commits first kept rest (has_name name first) all.0 (found_is name commits rest kept all.1) e

-- what is found is live
pub found_live : (name : List ℕ) (frames : List Kept) (kept : Kept) → find_kept name frames ≡ Some kept
    → find_frame name (lives frames) ≡ Some kept.live
found_live name frames kept e = sym (find_lives name frames) ∙ ap (option_map live_of) e

pub none_live : (name : List ℕ) (frames : List Kept) → find_kept name frames ≡ None → find_frame name (lives frames) ≡ None
none_live name frames e = sym (find_lives name frames) ∙ ap (option_map live_of) e

pub is_live : (name : List ℕ) (frames : List Kept) → is_some (find_kept name frames) ≡ is_some (find_frame name (lives frames))
is_live name frames = go (find_kept name frames) ∙ ap is_some (find_lives name frames)
  where
    go : (o : Option Kept) → is_some o ≡ is_some (option_map live_of o)
    go None = refl
    go (Some kept) = refl
