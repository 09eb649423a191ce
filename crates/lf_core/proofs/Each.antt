-- What holds of each item of a list, and filters that agree on each.
use Rattle.std.proofs.Common.{◌≡◌, refl, sym, ◌∙◌, ap, subst, List, [], ◌∷◌, ◌++◌, map, ℕ, Bool, true, false, cond, ◌&&◌, ◌||◌, Option, Some, is_some, unwrap_or, nat_eq}
use Rattle.std.proofs.lemmas.Bool.{eqb-true, false≢true}
use Rattle.std.specs.List.{filter, find, list_any, AllByRecursion}

pub each_given : {X : Type 0} (P Q : X → Type 0) (xs : List X) → ((x : X) → P x → Q x) → AllByRecursion P xs → AllByRecursion Q xs
each_given P Q [] on all = tt
each_given P Q (x ∷ xs) on all = (on x all.0, each_given P Q xs on all.1)

pub each_both : {X : Type 0} (P Q R : X → Type 0) (xs : List X) → ((x : X) → P x → Q x → R x) → AllByRecursion P xs → AllByRecursion Q xs
    → AllByRecursion R xs
each_both P Q R [] on one two = tt
each_both P Q R (x ∷ xs) on one two = (on x one.0 two.0, each_both P Q R xs on one.1 two.1)

pub each_end : {X : Type 0} (P : X → Type 0) (xs : List X) (x : X) → AllByRecursion P xs → P x → AllByRecursion P (xs ++ x ∷ [])
each_end P [] x all is = (is, tt)
each_end P (first ∷ xs) x all is = (all.0, each_end P xs x all.1 is)

each_first : {X : Type 0} (P : X → Type 0) (x : X) (xs : List X) (b : Bool) → P x → AllByRecursion P xs → AllByRecursion P (cond b (x ∷ xs) xs)
each_first P x xs true is all = (is, all)
each_first P x xs false is all = all

pub each_left : {X : Type 0} (P : X → Type 0) (p : X → Bool) (xs : List X) → AllByRecursion P xs → AllByRecursion P (filter p xs)
each_left P p [] all = tt
each_left P p (x ∷ xs) all = each_first P x (filter p xs) (p x) all.0 (each_left P p xs all.1)

pub each_map : {X Y : Type 0} (P : Y → Type 0) (f : X → Y) (xs : List X) → AllByRecursion (λ x. P (f x)) xs → AllByRecursion P (map f xs)
each_map P f [] all = tt
each_map P f (x ∷ xs) all = (all.0, each_map P f xs all.1)

pub each_of_map : {X Y : Type 0} (P : Y → Type 0) (f : X → Y) (xs : List X) → AllByRecursion P (map f xs) → AllByRecursion (λ x. P (f x)) xs
each_of_map P f [] all = tt
each_of_map P f (x ∷ xs) all = (all.0, each_of_map P f xs all.1)

found_first : {X : Type 0} (P : X → Type 0) (first x : X) (xs : List X) (p : X → Bool) (b : Bool) → P first
    → (find p xs ≡ Some x → P x) → cond b (Some first) (find p xs) ≡ Some x → P x
found_first {X} P first x xs p true is ih e = subst P (ap (λ (o : Option X). unwrap_or o first) e) is
found_first P first x xs p false is ih e = ih e

-- what holds of each holds of the one that is found
pub each_found : {X : Type 0} (P : X → Type 0) (p : X → Bool) (xs : List X) (x : X) → AllByRecursion P xs → find p xs ≡ Some x → P x
each_found P p [] x all e = absurd (false≢true (ap is_some e))
each_found P p (first ∷ xs) x all e = found_first P first x xs p (p first) all.0 (each_found P p xs x all.1) e

-- ---- filters

same_at : {X : Type 0} (x : X) (xs ys : List X) (b c : Bool) → b ≡ c → xs ≡ ys → cond b (x ∷ xs) xs ≡ cond c (x ∷ ys) ys
same_at x xs ys b c same e = λ i. cond (same i) (x ∷ e i) (e i)

-- filters that agree on each item
pub same_filter : {X : Type 0} (p q : X → Bool) (xs : List X) → AllByRecursion (λ x. p x ≡ q x) xs → filter p xs ≡ filter q xs
same_filter p q [] all = refl
same_filter p q (x ∷ xs) all = same_at x (filter p xs) (filter q xs) (p x) (q x) all.0 (same_filter p q xs all.1)

twice_at : {X : Type 0} (p q : X → Bool) (x : X) (xs : List X) (b c : Bool) → p x ≡ c → filter p (filter q xs) ≡ filter (λ y. q y && p y) xs
    → filter p (cond b (x ∷ filter q xs) (filter q xs)) ≡ cond (b && c) (x ∷ filter (λ y. q y && p y) xs) (filter (λ y. q y && p y) xs)
twice_at p q x xs true c is ih = same_at x (filter p (filter q xs)) (filter (λ y. q y && p y) xs) (p x) c is ih
twice_at p q x xs false c is ih = ih

-- a filter of a filter is one
pub filter_twice : {X : Type 0} (p q : X → Bool) (xs : List X) → filter p (filter q xs) ≡ filter (λ x. q x && p x) xs
filter_twice p q [] = refl
filter_twice p q (x ∷ xs) = twice_at p q x xs (q x) (p x) refl (filter_twice p q xs)

map_at : {X Y : Type 0} (p : Y → Bool) (f : X → Y) (x : X) (xs : List X) (b : Bool) → filter p (map f xs) ≡ map f (filter (λ y. p (f y)) xs)
    → cond b (f x ∷ filter p (map f xs)) (filter p (map f xs)) ≡ map f (cond b (x ∷ filter (λ y. p (f y)) xs) (filter (λ y. p (f y)) xs))
map_at {X} {Y} p f x xs true ih = ap (λ (w : List Y). f x ∷ w) ih
map_at p f x xs false ih = ih

-- a filter of what a function gives
pub filter_of_map : {X Y : Type 0} (p : Y → Bool) (f : X → Y) (xs : List X) → filter p (map f xs) ≡ map f (filter (λ x. p (f x)) xs)
filter_of_map p f [] = refl
filter_of_map p f (x ∷ xs) = map_at p f x xs (p (f x)) (filter_of_map p f xs)

-- ---- numbers among numbers

any_at : (n m : ℕ) (xs : List ℕ) (q : ℕ → Bool) (b c : Bool) → nat_eq n m ≡ b → q m ≡ c
    → list_any (nat_eq n) (filter q xs) ≡ (list_any (nat_eq n) xs && q n)
    → list_any (nat_eq n) (cond c (m ∷ filter q xs) (filter q xs)) ≡ ((b || list_any (nat_eq n) xs) && q n)
any_at n m xs q true true e is ih = rw e (sym (ap q (eqb-true n m e) ∙ is))
any_at n m xs q true false e is ih =
    ih ∙ (ap (λ (b : Bool). list_any (nat_eq n) xs && b) out ∙ (and_false (list_any (nat_eq n) xs) ∙ sym out))
  where
    out : q n ≡ false
    out = ap q (eqb-true n m e) ∙ is

    and_false : (a : Bool) → (a && false) ≡ false
    and_false true = refl
    and_false false = refl
any_at n m xs q false true e is ih = rw e ih
any_at n m xs q false false e is ih = ih

-- a number is among those that pass where it is among all and passes
pub any_filtered : (n : ℕ) (q : ℕ → Bool) (xs : List ℕ) → list_any (nat_eq n) (filter q xs) ≡ (list_any (nat_eq n) xs && q n)
any_filtered n q [] = refl
any_filtered n q (m ∷ xs) = any_at n m xs q (nat_eq n m) (q m) refl refl (any_filtered n q xs)
