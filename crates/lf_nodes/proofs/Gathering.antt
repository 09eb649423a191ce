-- Quads in order of properties, taken property by property.
use Rattle.std.proofs.Common.{◌≡◌, ℕ, suc, ◌+◌, ◌<◌, Bool, true, false, cond, not, ◌||◌, ◌&&◌, List, [], ◌∷◌, refl, ap, sym, ◌∙◌, subst, map, take, drop, filter, length, None, slice_get, IsSomeAnd, arith}
use Rattle.std.specs.Prelude.{⊤}
use Rattle.std.specs.declared.cmp.Ordering.{Ordering}
use Rattle.std.specs.declared.cmp.Ordering.TheVariants.{Less, Equal, Greater}
use Rattle.std.specs.Ordering.{is_eq, is_gt, is_lt, ordering_then}
use Rattle.std.specs.List.{AllByRecursion, list_all, list_any, position_or_len}
use Rattle.std.specs.Cmp.{tied_itself}
use Rattle.std.proofs.lemmas.Bool.{true≢false, false≢true, and_parts, and_from}
use Rattle.lf_rdf.specs.declared.quad.Quad.{Quad}
use Rattle.lf_rdf.specs.Equality.{text_eq}
use Rattle.lf_model.specs.ValueData.{ListValue}
use Rattle.def_datasets.specs.Sorted.{ascends, placed, put, put_all}
use Rattle.def_datasets.specs.Order.{text_cmp, term_cmp}
use Rattle.def_datasets.specs.Views.{ViewProperty, properties_in}
use Rattle.def_datasets.proofs.SortedLaws.{same_members, ascends-set_of}
use Rattle.def_datasets.proofs.OrderLaws.{text_strict}
use Rattle.def_datasets.proofs.ViewProofs.{any-filter, any-map}
use Rattle.lf_order.proofs.SetLemmas.{has-set_of, same_ties}
use Rattle.lf_nodes.specs.Properties.{entry_cmp, gathered, property_of, under}

abbrev group : List ℕ → List Quad → List Quad
group k xs = filter (under k) xs

abbrev others : List ℕ → List Quad → List Quad
others k xs = filter (λ q. not (under k q)) xs

-- no property is below k, and each is above it
abbrev Floor : List ℕ → List Quad → Type 0
Floor k xs = AllByRecursion (λ y. is_gt (text_cmp k (property_of y)) ≡ false) xs

abbrev Above : List ℕ → List Quad → Type 0
Above k xs = AllByRecursion (λ y. text_cmp k (property_of y) ≡ Less) xs

Rises : List Quad → Type 0
Rises [] = ⊤
Rises (x ∷ xs) = Floor (property_of x) xs × Rises xs

not_greater : (r s : Ordering) → is_lt (ordering_then r s) ≡ true → is_gt r ≡ false
not_greater Less s e = refl
not_greater Equal s e = refl
not_greater Greater s e = absurd (false≢true e)

floor_from : (x : Quad) (xs : List Quad) → list_all (λ y. is_lt (entry_cmp x y)) xs ≡ true → Floor (property_of x) xs
floor_from x [] e = tt
floor_from x (y ∷ ys) e =
    let parts = and_parts (is_lt (entry_cmp x y)) (list_all (λ z. is_lt (entry_cmp x z)) ys) e in
    (not_greater (text_cmp (property_of x) (property_of y)) (term_cmp x.object y.object) parts.0, floor_from x ys parts.1)

rises_from : (xs : List Quad) → ascends entry_cmp xs ≡ true → Rises xs
unfolding Rises
rises_from [] e = tt
rises_from (x ∷ xs) e =
    let parts = and_parts (list_all (λ y. is_lt (entry_cmp x y)) xs) (ascends entry_cmp xs) e in
    (floor_from x xs parts.0, rises_from xs parts.1)

-- ---- one key beside another

same_equal : (k : List ℕ) (x : Quad) → text_cmp k (property_of x) ≡ Equal → under k x ≡ true
same_equal k x e = same_ties text_strict k (property_of x) ∙ ap is_eq e

same_less : (k : List ℕ) (x : Quad) → text_cmp k (property_of x) ≡ Less → under k x ≡ false
same_less k x e = same_ties text_strict k (property_of x) ∙ ap is_eq e

own_key : (x : Quad) → under (property_of x) x ≡ true
own_key x = (text_strict.decides (property_of x) (property_of x)).1 refl

above_group : (k : List ℕ) (xs : List Quad) → Above k xs → group k xs ≡ []
above_group k [] h = refl
above_group k (x ∷ xs) h = ap (λ b. cond b (x ∷ group k xs) (group k xs)) (same_less k x h.0) ∙ above_group k xs h.1

above_others : (k : List ℕ) (xs : List Quad) → Above k xs → others k xs ≡ xs
above_others k [] h = refl
above_others k (x ∷ xs) h =
    ap (λ b. cond (not b) (x ∷ others k xs) (others k xs)) (same_less k x h.0) ∙ ap (λ l. x ∷ l) (above_others k xs h.1)

below_both : (k j : List ℕ) (y : Quad) → text_cmp k j ≡ Less → is_gt (text_cmp j (property_of y)) ≡ false → text_cmp k (property_of y) ≡ Less
below_both k j y e h = go (text_cmp j (property_of y)) refl h
  where
    go : (r : Ordering) → text_cmp j (property_of y) ≡ r → is_gt r ≡ false → text_cmp k (property_of y) ≡ Less
    go Less p g = text_strict.total.trans k j (property_of y) e p
    go Equal p g = subst (λ w. text_cmp k w ≡ Less) (text_strict.tells j (property_of y) p) e
    go Greater p g = absurd (true≢false g)

above_later : (k j : List ℕ) (xs : List Quad) → text_cmp k j ≡ Less → Floor j xs → Above k xs
above_later k j [] e h = tt
above_later k j (x ∷ xs) e h = (below_both k j x e h.0, above_later k j xs e h.1)

-- ---- where the first of another property stands, the run ends

abbrev run : List ℕ → List Quad → ℕ
run k xs = position_or_len (λ x. not (under k x)) xs

run_cut : (k : List ℕ) (xs : List Quad) → Rises xs → Floor k xs → (take (run k xs) xs ≡ group k xs) × (drop (run k xs) xs ≡ others k xs)
unfolding Rises
run_cut k [] up low = (refl, refl)
run_cut k (x ∷ xs) up low = go (text_cmp k (property_of x)) refl low.0 (run_cut k xs up.1 low.1)
  where
    at : Bool → Type 0
    at b =
        (take (cond (not (not b)) (1 + run k xs) 0) (x ∷ xs) ≡ cond b (x ∷ group k xs) (group k xs))
        × (drop (cond (not (not b)) (1 + run k xs) 0) (x ∷ xs) ≡ cond (not b) (x ∷ others k xs) (others k xs))

    go : (r : Ordering) → text_cmp k (property_of x) ≡ r → is_gt (text_cmp k (property_of x)) ≡ false → (take (run k xs) xs ≡ group k xs) × (drop (run k xs) xs ≡ others k xs) → at (under k x)
    go Less e h ih =
        let above = above_later k (property_of x) xs e up.0 in
        subst at (sym (same_less k x e)) (sym (above_group k xs above), ap (λ l. x ∷ l) (sym (above_others k xs above)))
    go Equal e h ih =
        let one : 1 + run k xs ≡ suc (run k xs) = omega arith in
        subst at (sym (same_equal k x e))
        (subst (λ n. (take n (x ∷ xs) ≡ x ∷ group k xs) × (drop n (x ∷ xs) ≡ others k xs)) (sym one) (ap (λ l. x ∷ l) ih.0, ih.1))
    go Greater e h ih = absurd (false≢true (sym h ∙ ap is_gt e))

first_floor : (k : List ℕ) (xs : List Quad) → Rises xs → IsSomeAnd (slice_get xs 0) (λ q. property_of q ≡ k) → Floor k xs
unfolding Rises
first_floor k [] up first = tt
first_floor k (x ∷ xs) up first =
    let at : Floor (property_of x) (x ∷ xs) = (ap is_gt (tied_itself text_strict.total (property_of x)), up.0) in
    subst (λ j. Floor j (x ∷ xs)) first at

pub cut_run : (k : List ℕ) (xs : List Quad) → ascends entry_cmp xs ≡ true → IsSomeAnd (slice_get xs 0) (λ q. property_of q ≡ k)
    → take (run k xs) xs ≡ filter (under k) xs
cut_run k xs up first = (run_cut k xs (rises_from xs up) (first_floor k xs (rises_from xs up) first)).0

pub cut_others : (k : List ℕ) (xs : List Quad) → ascends entry_cmp xs ≡ true → IsSomeAnd (slice_get xs 0) (λ q. property_of q ≡ k)
    → drop (run k xs) xs ≡ filter (λ q. not (under k q)) xs
cut_others k xs up first = (run_cut k xs (rises_from xs up) (first_floor k xs (rises_from xs up) first)).1

-- ---- the properties of the others

all_placed : (t : List ℕ → Bool) (x y : List ℕ) (ys later : List (List ℕ)) (r : Ordering) → t x ≡ true → (t y && list_all t ys) ≡ true → list_all t later ≡ true
    → list_all t (placed r x y ys later) ≡ true
all_placed t x y ys later Less a b c = and_from (t x) (t y && list_all t ys) a b
all_placed t x y ys later Equal a b c = b
all_placed t x y ys later Greater a b c = and_from (t y) (list_all t later) (and_parts (t y) (list_all t ys) b).0 c

all_put : (t : List ℕ → Bool) (x : List ℕ) (ys : List (List ℕ)) → t x ≡ true → list_all t ys ≡ true → list_all t (put text_cmp x ys) ≡ true
all_put t x [] a b = and_from (t x) true a refl
all_put t x (y ∷ ys) a b = all_placed t x y ys (put text_cmp x ys) (text_cmp x y) a b (all_put t x ys a (and_parts (t y) (list_all t ys) b).1)

all_put_all : (t : List ℕ → Bool) (xs ys : List (List ℕ)) → list_all t xs ≡ true → list_all t ys ≡ true → list_all t (put_all text_cmp xs ys) ≡ true
all_put_all t xs [] a b = a
all_put_all t xs (y ∷ ys) a b =
    let parts = and_parts (t y) (list_all t ys) b in
    all_put_all t (put text_cmp y xs) ys (all_put t y xs parts.0 a) parts.1

others_above : (k : List ℕ) (xs : List Quad) → Floor k xs → list_all (λ p. is_lt (text_cmp k p)) (map property_of (others k xs)) ≡ true
others_above k [] low = refl
others_above k (x ∷ xs) low = go (under k x) refl (text_cmp k (property_of x)) refl low.0 (others_above k xs low.1)
  where
    go : (b : Bool) → under k x ≡ b → (r : Ordering) → text_cmp k (property_of x) ≡ r → is_gt (text_cmp k (property_of x)) ≡ false
        → list_all (λ p. is_lt (text_cmp k p)) (map property_of (others k xs)) ≡ true
        → list_all (λ p. is_lt (text_cmp k p)) (map property_of (cond (not b) (x ∷ others k xs) (others k xs))) ≡ true
    go true e r f h ih = ih
    go false e Less f h ih = and_from (is_lt (text_cmp k (property_of x))) _ (ap is_lt f) ih
    go false e Equal f h ih = absurd (false≢true (sym e ∙ same_equal k x f))
    go false e Greater f h ih = absurd (false≢true (sym h ∙ ap is_gt f))

any_agree : {A : Type 0} (p r : A → Bool) (xs : List A) → ((x : A) → p x ≡ r x) → list_any p xs ≡ list_any r xs
any_agree p r xs same = λ i. list_any (λ x. same x i) xs

-- a key apart from k is among all where it is among the others
others_have : (k z : List ℕ) (xs : List Quad)
    → (text_eq z k || list_any (text_eq z) (map property_of xs)) ≡ (text_eq z k || list_any (text_eq z) (map property_of (others k xs)))
others_have k z xs = go (text_eq z k) refl
  where
    one : (y : Quad) → text_eq z k ≡ false → (a b : Bool) → under k y ≡ a → text_eq z (property_of y) ≡ b → text_eq z (property_of y) ≡ (not (under k y) && text_eq z (property_of y))
    one y apart true true e f =
        absurd (true≢false (sym ((text_strict.decides z k).1 ((text_strict.decides z (property_of y)).0 f ∙ sym ((text_strict.decides k (property_of y)).0 e))) ∙ apart))
    one y apart true false e f = f ∙ sym (λ i. not (e i) && f i)
    one y apart false b e f = sym (λ i. not (e i) && text_eq z (property_of y))

    go : (b : Bool) → text_eq z k ≡ b → (b || list_any (text_eq z) (map property_of xs)) ≡ (b || list_any (text_eq z) (map property_of (others k xs)))
    go true e = refl
    go false e =
        any-map (text_eq z) property_of xs
        ∙ (any_agree (λ y. text_eq z (property_of y)) (λ y. not (under k y) && text_eq z (property_of y)) xs (λ y. one y e (under k y) (text_eq z (property_of y)) refl refl)
        ∙ sym (any-map (text_eq z) property_of (others k xs) ∙ any-filter (λ y. text_eq z (property_of y)) (λ y. not (under k y)) xs))

own_others : (x : Quad) (xs : List Quad) → others (property_of x) (x ∷ xs) ≡ others (property_of x) xs
own_others x xs = ap (λ b. cond (not b) (x ∷ others (property_of x) xs) (others (property_of x) xs)) (own_key x)

abbrev above_all : List ℕ → List (List ℕ) → Bool
above_all k ps = list_all (λ p. is_lt (text_cmp k p)) ps

later_above : (k : List ℕ) (xs : List Quad) → Floor k xs → above_all k (properties_in (others k xs)) ≡ true
later_above k xs low = all_put_all (λ p. is_lt (text_cmp k p)) [] (map property_of (others k xs)) refl (others_above k xs low)

properties_first : (x : Quad) (xs : List Quad) → Floor (property_of x) xs → properties_in (x ∷ xs) ≡ property_of x ∷ properties_in (others (property_of x) xs)
properties_first x xs low =
    let k = property_of x in
    same_members text_strict (properties_in (x ∷ xs)) (k ∷ properties_in (others k xs)) (ascends-set_of text_strict (map property_of (x ∷ xs)))
    (and_from (above_all k (properties_in (others k xs))) (ascends text_cmp (properties_in (others k xs))) (later_above k xs low)
    (ascends-set_of text_strict (map property_of (others k xs))))
    (λ z.
    has-set_of text_strict (map property_of (x ∷ xs)) z
    ∙ (others_have k z xs ∙ ap (λ (w : Bool). text_eq z k || w) (sym (has-set_of text_strict (map property_of (others k xs)) z))))

group_others : (k j : List ℕ) (xs : List Quad) → text_eq k j ≡ false → group j xs ≡ group j (others k xs)
group_others k j [] e = refl
group_others k j (x ∷ xs) e = go (under k x) refl (under j x) refl (group_others k j xs e)
  where
    go : (b : Bool) → under k x ≡ b → (d : Bool) → under j x ≡ d → group j xs ≡ group j (others k xs) →
        cond d (x ∷ group j xs) (group j xs) ≡ group j (cond (not b) (x ∷ others k xs) (others k xs))
    go true p true q ih =
        absurd (false≢true (sym e ∙ (text_strict.decides k j).1 ((text_strict.decides k (property_of x)).0 p ∙ sym ((text_strict.decides j (property_of x)).0 q))))
    go true p false q ih = ih
    go false p d q ih =
        ap (λ l. cond d (x ∷ l) l) ih ∙ ap (λ c. cond c (x ∷ group j (others k xs)) (group j (others k xs))) (sym q)

less_apart : (k j : List ℕ) → is_lt (text_cmp k j) ≡ true → text_eq k j ≡ false
less_apart k j e = same_ties text_strict k j ∙ go (text_cmp k j) e
  where
    go : (r : Ordering) → is_lt r ≡ true → is_eq r ≡ false
    go Less h = refl
    go Equal h = absurd (false≢true h)
    go Greater h = absurd (false≢true h)

map_above : (k : List ℕ) (F G : List ℕ → ViewProperty) → ((p : List ℕ) → is_lt (text_cmp k p) ≡ true → F p ≡ G p) → (ps : List (List ℕ)) → above_all k ps ≡ true
    → map F ps ≡ map G ps
map_above k F G same [] e = refl
map_above k F G same (p ∷ ps) e =
    let parts = and_parts (is_lt (text_cmp k p)) (above_all k ps) e in
    λ i. same p parts.0 i ∷ map_above k F G same ps parts.1 i

abbrev entry_of : (Quad → ListValue) → List ℕ → List Quad → ViewProperty
entry_of value p quads = record { property = p; values = map value quads }

-- the first property, and then what the others give
gather_first : (value : Quad → ListValue) (x : Quad) (xs : List Quad) → Rises (x ∷ xs)
    → gathered value (x ∷ xs) ≡ entry_of value (property_of x) (filter (under (property_of x)) (x ∷ xs)) ∷ gathered value (others (property_of x) (x ∷ xs))
unfolding Rises
gather_first value x xs up =
    let k = property_of x in
    let rest : others k (x ∷ xs) ≡ others k xs = own_others x xs in
    ap (map (λ p. entry_of value p (group p (x ∷ xs)))) (properties_first x xs up.0)
    ∙ (ap (λ (l : List ViewProperty). entry_of value k (group k (x ∷ xs)) ∷ l)
    (map_above k (λ p. entry_of value p (group p (x ∷ xs))) (λ p. entry_of value p (group p (others k (x ∷ xs))))
    (λ p less. ap (entry_of value p) (group_others k p (x ∷ xs) (less_apart k p less))) (properties_in (others k xs)) (later_above k xs up.0)
    ∙ ap (λ (l : List Quad). map (λ p. entry_of value p (group p (others k (x ∷ xs)))) (properties_in l)) (sym rest)))

-- ---- a step of the loop

same_first : (k : List ℕ) (x : Quad) (xs : List Quad) → IsSomeAnd (slice_get (x ∷ xs) 0) (λ q. property_of q ≡ k) → property_of x ≡ k
same_first k x xs first = first

pub gather_step : (value : Quad → ListValue) (k : List ℕ) (xs : List Quad) → ascends entry_cmp xs ≡ true → IsSomeAnd (slice_get xs 0) (λ q. property_of q ≡ k)
    → gathered value xs ≡ entry_of value k (filter (under k) xs) ∷ gathered value (filter (λ q. not (under k q)) xs)
gather_step value k [] up first = absurd first
gather_step value k (x ∷ xs) up first =
    subst (λ j. gathered value (x ∷ xs) ≡ entry_of value j (filter (under j) (x ∷ xs)) ∷ gathered value (filter (λ q. not (under j q)) (x ∷ xs)))
    (same_first k x xs first) (gather_first value x xs (rises_from (x ∷ xs) up))

pub no_first : (xs : List Quad) → slice_get xs 0 ≡ None → xs ≡ []
no_first [] e = refl
no_first (x ∷ xs) e = absurd (cc)

shorter_filter : (t : Quad → Bool) (xs : List Quad) → length (filter t xs) < suc (length xs)
shorter_filter t [] = omega arith
shorter_filter t (x ∷ xs) = go (t x) (shorter_filter t xs)
  where
    go : (b : Bool) → length (filter t xs) < suc (length xs) → length (cond b (x ∷ filter t xs) (filter t xs)) < suc (suc (length xs))
    go true h = omega arith
    go false h = omega arith

pub fewer_others : (k : List ℕ) (xs : List Quad) → IsSomeAnd (slice_get xs 0) (λ q. property_of q ≡ k) → length (filter (λ q. not (under k q)) xs) < length xs
fewer_others k [] first = absurd first
fewer_others k (x ∷ xs) first =
    let is : property_of x ≡ k = same_first k x xs first in
    let own : under k x ≡ true = (text_strict.decides k (property_of x)).1 (sym is) in
    let short : length (filter (λ q. not (under k q)) xs) < suc (length xs) = shorter_filter (λ q. not (under k q)) xs in
    subst (λ (b : Bool). length (cond (not b) (x ∷ others k xs) (others k xs)) < length (x ∷ xs)) (sym own) short
