-- A scan from the least value with given terms on passes just the values with these terms.
use Rattle.std.proofs.Common.{◌≡◌, refl, sym, ◌∙◌, ap, List, [], ◌∷◌, Bool, true, false, cond, Ordering, Less, Equal, Greater, filter}
use Rattle.std.specs.List.{take_while, AllByRecursion}
use Rattle.std.specs.List.Sorted.{IsStrictlySortedBy}
use Rattle.std.specs.Ordering.{is_eq, is_lt, ordering_then}
use Rattle.std.specs.Cmp.{IsTotalOrder, alike_right}
use Rattle.std.proofs.lemmas.Bool.{true≢false}
use Rattle.std.proofs.lemmas.List.Sums.{take_while-cons}
use Rattle.lf_order.proofs.Ties.{equal_from}
use Rattle.lf_ptree.specs.Pairs.{Ascends, keys, pairs_from}

-- A test that holds where the first places of an order tie with those of a least value.
pub record IsScan {K : Type 0} (cmp head tail : K → K → Ordering) (low : K) (p : K → Bool) : Type 0 where
  pub total : IsTotalOrder cmp
  pub heads : IsTotalOrder head
  pub split : (x y : K) → cmp x y ≡ ordering_then (head x y) (tail x y)
  pub least : (x : K) → is_lt (tail x low) ≡ false
  pub same : (x : K) → p x ≡ is_eq (head x low)

module _ {K : Type 0} {cmp head tail : K → K → Ordering} {low : K} {p : K → Bool} (h : IsScan cmp head tail low p) where
  -- what passes is not below the least value
  not_below : (x : K) → p x ≡ true → is_lt (cmp x low) ≡ false
  not_below x e =
      let tie : head x low ≡ Equal = equal_from (head x low) (sym (h.same x) ∙ e) in
      ap is_lt (h.split x low ∙ ap (λ (r : Ordering). ordering_then r (tail x low)) tie) ∙ h.least x

  between_case : (x y : K) (r : Ordering) → head x low ≡ r → head x y ≡ r → is_lt (cmp x low) ≡ false → cmp x y ≡ Less → p x ≡ true
  between_case x y Less a b above less =
      absurd (true≢false (sym (ap is_lt (h.split x low ∙ ap (λ (r : Ordering). ordering_then r (tail x low)) a)) ∙ above))
  between_case x y Equal a b above less = h.same x ∙ ap is_eq a
  between_case x y Greater a b above less =
      absurd (true≢false (sym (sym (ap is_lt (h.split x y ∙ ap (λ (r : Ordering). ordering_then r (tail x y)) b)) ∙ ap is_lt less)))

  -- what stands before something that passes, and not below the least value, passes
  between : (x y : K) → is_lt (cmp x low) ≡ false → cmp x y ≡ Less → p y ≡ true → p x ≡ true
  between x y above less e =
      let tie : head y low ≡ Equal = equal_from (head y low) (sym (h.same y) ∙ e) in
      between_case x y (head x low) refl (alike_right h.heads y low x tie) above less

  above_next : (x y : K) → is_lt (cmp x low) ≡ false → cmp x y ≡ Less → is_lt (cmp y low) ≡ false
  above_next x y above less = go (cmp y low) refl
    where
      go : (r : Ordering) → cmp y low ≡ r → is_lt r ≡ false
      go Less e = absurd (true≢false (sym (ap is_lt (h.total.trans x y low less e)) ∙ above))
      go Equal e = refl
      go Greater e = refl

module _ {K V : Type 0} {cmp head tail : K → K → Ordering} {low : K} {p : K → Bool} (h : IsScan cmp head tail low p) where
  none_later : (x : K) (es : List (K × V)) → p x ≡ false → is_lt (cmp x low) ≡ false → AllByRecursion (λ k. cmp x k ≡ Less) (keys es) → filter p (keys es) ≡ []
  none_later x [] out above all = refl
  none_later x (e ∷ es) out above all = go (p e.0) refl (none_later x es out above all.1)
    where
      go : (b : Bool) → p e.0 ≡ b → filter p (keys es) ≡ [] → cond b (e.0 ∷ filter p (keys es)) (filter p (keys es)) ≡ []
      go true f ih = absurd (true≢false (sym (between h x e.0 above all.0 f) ∙ out))
      go false f ih = ih

  prefix : (es : List (K × V)) → Ascends cmp es → (first : (e : K × V) (rest : List (K × V)) → es ≡ e ∷ rest → is_lt (cmp e.0 low) ≡ false)
      → take_while p (keys es) ≡ filter p (keys es)
  unfolding IsStrictlySortedBy
  prefix [] asc first = refl
  prefix (e ∷ es) asc first =
      take_while-cons p e.0 (keys es)
      ∙ go (p e.0) refl (prefix es asc.1 (λ f rest is. later f rest is))
    where
      here : is_lt (cmp e.0 low) ≡ false
      here = first e es refl

      at_first : (xs : List (K × V)) → AllByRecursion (λ k. cmp e.0 k ≡ Less) (keys xs) → (f : K × V) (rest : List (K × V)) → xs ≡ f ∷ rest → cmp e.0 f.0 ≡ Less
      at_first [] all f rest is = absurd (cc)
      at_first (x ∷ xs) all f rest is = let q : x ≡ f = cc in ap (λ (w : K × V). cmp e.0 w.0) (sym q) ∙ all.0

      later : (f : K × V) (rest : List (K × V)) → es ≡ f ∷ rest → is_lt (cmp f.0 low) ≡ false
      later f rest is = above_next h e.0 f.0 here (at_first es asc.0 f rest is)

      go : (b : Bool) → p e.0 ≡ b → take_while p (keys es) ≡ filter p (keys es)
          → cond b (e.0 ∷ take_while p (keys es)) [] ≡ cond b (e.0 ∷ filter p (keys es)) (filter p (keys es))
      go true f ih = ap (λ (l : List K). e.0 ∷ l) ih
      go false f ih = sym (none_later e.0 es f here asc.0)

  -- the scan from the least value on passes what passes the test
  pub scanned : (es : List (K × V)) → Ascends cmp es → take_while p (keys (pairs_from cmp low es)) ≡ filter p (keys es)
  unfolding IsStrictlySortedBy
  scanned [] asc = refl
  scanned (e ∷ es) asc = go (is_lt (cmp e.0 low)) refl (scanned es asc.1)
    where
      skip : (b : Bool) → p e.0 ≡ b → is_lt (cmp e.0 low) ≡ true → filter p (keys es) ≡ cond b (e.0 ∷ filter p (keys es)) (filter p (keys es))
      skip true f below = absurd (true≢false (sym below ∙ not_below h e.0 f))
      skip false f below = refl

      starts : is_lt (cmp e.0 low) ≡ false → (f : K × V) (rest : List (K × V)) → e ∷ es ≡ f ∷ rest → is_lt (cmp f.0 low) ≡ false
      starts above f rest is = let q : e ≡ f = cc in ap (λ (w : K × V). is_lt (cmp w.0 low)) (sym q) ∙ above

      go : (b : Bool) → is_lt (cmp e.0 low) ≡ b → take_while p (keys (pairs_from cmp low es)) ≡ filter p (keys es)
          → take_while p (keys (cond b (pairs_from cmp low es) (e ∷ es))) ≡ cond (p e.0) (e.0 ∷ filter p (keys es)) (filter p (keys es))
      go true f ih = ih ∙ skip (p e.0) refl f
      go false f ih = prefix (e ∷ es) asc (starts f)
