-- The least of a list by a rank that begins with a place: the first slot that holds anything decides, and in it the least.
use Rattle.std.proofs.Common.{◌≡◌, ℕ, ◌+◌, ◌<◌, Bool, true, false, ◌&&◌, ◌||◌, not, cond, List, [], ◌∷◌, Option, Some, None, refl, ap, sym, ◌∙◌, subst, arith, nat_cmp, is_lt, Less, Equal, Greater, Ordering}
use Rattle.std.specs.Prelude.{filter}
use Rattle.std.specs.List.{list_any, position_or_len, Contains}
use Rattle.std.specs.Option.{option_or}
use Rattle.std.specs.Ordering.{ordering_then, MatchOrdering}
use Rattle.std.specs.Cmp.{nat_cmp_is}
use Rattle.std.specs.Cmp.Lexicographic.{slice_cmp}
use Rattle.std.proofs.lemmas.Bool.{and_parts}
use Rattle.std.proofs.lemmas.Cmp.{ranked}
use Rattle.def_selection.specs.Chosen.{least, lesser, ranks_less}
use Rattle.def_selection.proofs.Members.{filter_in, in_filter, none_in}
use Rattle.def_selection.proofs.Least.{least_in, least_none}
use Rattle.lf_select.specs.Shelves.{first_some}

-- ---- numbers before ranks

zero-less : (n : ℕ) → Less ≡ nat_cmp 0 (1 + n)
zero-less n = nat_cmp_is 0 (1 + n) Less (omega arith)

more-than-zero : (n : ℕ) → Greater ≡ nat_cmp (1 + n) 0
more-than-zero n = nat_cmp_is (1 + n) 0 Greater (omega arith)

one-more-both : (m n : ℕ) → nat_cmp m n ≡ nat_cmp (1 + m) (1 + n)
one-more-both m n = go (nat_cmp m n) (ranked m n (nat_cmp m n) refl)
  where
    go : (r : Ordering) → MatchOrdering r (m < n) (m ≡ n) (n < m) → r ≡ nat_cmp (1 + m) (1 + n)
    go Less h = nat_cmp_is (1 + m) (1 + n) Less (omega arith)
    go Equal h = nat_cmp_is (1 + m) (1 + n) Equal (omega arith)
    go Greater h = nat_cmp_is (1 + m) (1 + n) Greater (omega arith)

-- how a place and a rank are less than others
ahead : (n : ℕ) (u v : List ℕ) → ranks_less (0 ∷ u) ((1 + n) ∷ v) ≡ true
ahead n u v = λ i. is_lt (ordering_then (sym (zero-less n) i) (slice_cmp nat_cmp u v))

behind : (n : ℕ) (u v : List ℕ) → ranks_less ((1 + n) ∷ u) (0 ∷ v) ≡ false
behind n u v = λ i. is_lt (ordering_then (sym (more-than-zero n) i) (slice_cmp nat_cmp u v))

level : (m n : ℕ) (u v : List ℕ) → ranks_less (m ∷ u) (n ∷ v) ≡ ranks_less ((1 + m) ∷ u) ((1 + n) ∷ v)
level m n u v = λ i. is_lt (ordering_then (one-more-both m n i) (slice_cmp nat_cmp u v))

-- ---- one slot after another

module _ {A C : Type 0} (r : A → List ℕ) (f : A → Bool) (q : A → C → Bool) where
  -- the least of a slot, and by the place of the slot among several
  abbrev in_slot : C → List A → Option A
  in_slot c xs = least r (filter (λ x. f x && q x c) xs)

  abbrev place_rank : List C → A → List ℕ
  place_rank cs x = position_or_len (q x) cs ∷ r x

  abbrev by_slot : List C → List A → Option A
  by_slot cs xs = least (place_rank cs) (filter (λ x. f x && list_any (q x) cs) xs)

  -- one more element, where it passes
  abbrev onto : (A → List ℕ) → Bool → A → Option A → Option A
  onto rank b x o = cond b (lesser rank x o) o

  least-onto : (rank : A → List ℕ) (b : Bool) (x : A) (xs : List A) → least rank (cond b (x ∷ xs) xs) ≡ onto rank b x (least rank xs)
  least-onto rank true x xs = refl
  least-onto rank false x xs = refl

  none-pass : (xs : List A) → filter (λ x. f x && false) xs ≡ []
  none-pass [] = refl
  none-pass (x ∷ xs) = go (f x) (none-pass xs)
    where
      go : (b : Bool) → filter (λ y. f y && false) xs ≡ [] → cond (b && false) (x ∷ filter (λ y. f y && false) xs) (filter (λ y. f y && false) xs) ≡ []
      go true ih = ih
      go false ih = ih

  module _ (c : C) (cs : List C) where
    abbrev place : Bool → ℕ → ℕ
    place hit n = cond (not hit) (1 + n) 0

    two-at : (a x : A) (ha hx : Bool) → q a c ≡ ha → q x c ≡ hx
        → lesser (place_rank (c ∷ cs)) x (Some a)
        ≡ cond (ranks_less (place ha (position_or_len (q a) cs) ∷ r a) (place hx (position_or_len (q x) cs) ∷ r x)) (Some a) (Some x)
    two-at a x ha hx e1 e2 =
        λ i. cond (ranks_less (place (e1 i) (position_or_len (q a) cs) ∷ r a) (place (e2 i) (position_or_len (q x) cs) ∷ r x)) (Some a) (Some x)

    kept : (b : Bool) (a x : A) (z : Option A) → option_or (cond b (Some a) (Some x)) z ≡ cond b (Some a) (Some x)
    kept true a x z = refl
    kept false a x z = refl

    -- the element is in the slot
    in-first : (x : A) (a b d : Option A) (other : Option A) → q x c ≡ true → option_or a b ≡ d
        → ((y : A) → a ≡ Some y → q y c ≡ true) → ((y : A) → a ≡ None → b ≡ Some y → q y c ≡ false)
        → option_or (lesser r x a) other ≡ lesser (place_rank (c ∷ cs)) x d
    in-first x None None d other here same first later = subst (λ w. Some x ≡ lesser (place_rank (c ∷ cs)) x w) same refl
    in-first x None (Some y) d other here same first later =
        subst (λ w. Some x ≡ lesser (place_rank (c ∷ cs)) x w) same
        (sym
        (two-at y x false true (later y refl refl) here
        ∙ ap (λ t. cond t (Some y) (Some x)) (behind (position_or_len (q y) cs) (r y) (r x))))
    in-first x (Some y) b d other here same first later =
        kept (ranks_less (r y) (r x)) y x other
        ∙ subst (λ w. cond (ranks_less (r y) (r x)) (Some y) (Some x) ≡ lesser (place_rank (c ∷ cs)) x w) same
        (sym (two-at y x true true (first y refl) here))

    -- the element is in a later slot
    in-later : (x : A) (a b d : Option A) → q x c ≡ false → option_or a b ≡ d
        → ((y : A) → a ≡ Some y → q y c ≡ true) → ((y : A) → a ≡ None → b ≡ Some y → q y c ≡ false)
        → option_or a (lesser (place_rank cs) x b) ≡ lesser (place_rank (c ∷ cs)) x d
    in-later x None None d absent same first later = subst (λ w. Some x ≡ lesser (place_rank (c ∷ cs)) x w) same refl
    in-later x None (Some y) d absent same first later =
        subst (λ w. lesser (place_rank cs) x (Some y) ≡ lesser (place_rank (c ∷ cs)) x w) same
        (ap (λ t. cond t (Some y) (Some x)) (level (position_or_len (q y) cs) (position_or_len (q x) cs) (r y) (r x))
        ∙ sym (two-at y x false false (later y refl refl) absent))
    in-later x (Some y) b d absent same first later =
        subst (λ w. Some y ≡ lesser (place_rank (c ∷ cs)) x w) same
        (sym
        (two-at y x true false (first y refl) absent
        ∙ ap (λ t. cond t (Some y) (Some x)) (ahead (position_or_len (q x) cs) (r y) (r x))))

    step : (x : A) (a b d : Option A) (passes here later : Bool) → q x c ≡ here → option_or a b ≡ d
        → ((y : A) → a ≡ Some y → q y c ≡ true) → ((y : A) → a ≡ None → b ≡ Some y → q y c ≡ false)
        → option_or (onto r (passes && here) x a) (onto (place_rank cs) (passes && later) x b)
        ≡ onto (place_rank (c ∷ cs)) (passes && (here || later)) x d
    step x a b d false here later e same first after = same
    step x a b d true true later e same first after = in-first x a b d (onto (place_rank cs) later x b) e same first after
    step x a b d true false true e same first after = in-later x a b d e same first after
    step x a b d true false false e same first after = same

    -- what the slots hold
    of-first : (xs : List A) (y : A) → in_slot c xs ≡ Some y → q y c ≡ true
    of-first xs y e = (and_parts (f y) (q y c) (filter_in (λ x. f x && q x c) xs y (least_in r _ y e)).1).1

    of-later : (xs : List A) (y : A) → in_slot c xs ≡ None → by_slot cs xs ≡ Some y → q y c ≡ false
    of-later xs y none e = go (q y c) refl
      where
        held : Contains xs y × ((f y && list_any (q y) cs) ≡ true)
        held = filter_in (λ x. f x && list_any (q x) cs) xs y (least_in (place_rank cs) _ y e)

        go : (b : Bool) → q y c ≡ b → b ≡ false
        go false same = refl
        go true same =
            let passes : f y ≡ true = (and_parts (f y) (list_any (q y) cs) held.1).0 in
            let both : (f y && q y c) ≡ true = λ i. passes i && same i in
            absurd (none_in y (subst (λ l. Contains l y) (least_none r _ none) (in_filter (λ x. f x && q x c) xs y held.0 both)))

    one-more : (xs : List A) → option_or (in_slot c xs) (by_slot cs xs) ≡ by_slot (c ∷ cs) xs
    one-more [] = refl
    one-more (x ∷ xs) =
        (λ i. option_or
        (least-onto r (f x && q x c) x (filter (λ y. f y && q y c) xs) i)
        (least-onto (place_rank cs) (f x && list_any (q x) cs) x (filter (λ y. f y && list_any (q y) cs) xs) i))
        ∙ step x (in_slot c xs) (by_slot cs xs) (by_slot (c ∷ cs) xs) (f x) (q x c) (list_any (q x) cs) refl (one-more xs) (of-first xs) (of-later xs)
        ∙ sym (least-onto (place_rank (c ∷ cs)) (f x && (q x c || list_any (q x) cs)) x (filter (λ y. f y && (q y c || list_any (q y) cs)) xs))

  -- the first slot that holds anything gives the least by the place of the slot
  pub first-least : (cs : List C) (xs : List A) → first_some (λ c. in_slot c xs) cs ≡ by_slot cs xs
  first-least [] xs = sym (ap (least (place_rank [])) (none-pass xs))
  first-least (c ∷ cs) xs = ap (option_or (in_slot c xs)) (first-least cs xs) ∙ one-more c cs xs
