-- The laws of sets as ascending lists, over any order that tells any two values apart.
use Rattle.std.proofs.Common.{◌≡◌, refl, sym, ◌∙◌, ap, subst, List, [], ◌∷◌, Bool, true, false, not, ◌&&◌, ◌||◌, cond, Ordering, Less, Equal, Greater, is_lt, filter, Decides}
use Rattle.std.specs.Cmp.{IsTotalOrder}
use Rattle.std.specs.List.{list_all}
use Rattle.std.specs.Ordering.{ordering_reverse}
use Rattle.std.proofs.lemmas.Bool.{true≢false, false≢true, and_parts, and_from}
use Rattle.std.proofs.lemmas.Cmp.{tied_itself}
use Rattle.def_datasets.specs.Sorted.{has, without, ascends, placed, put, put_all, set_of}
use Rattle.def_datasets.proofs.Bools.{or_absorb, or_swap, or_regroup, and_false, and_swap, kept_head, dropped_head}

-- a total order that tells any two values apart, and the test of equality
pub record IsStrict {A : Type 0} (same : A → A → Bool) (cmp : A → A → Ordering) : Type 0 where
  pub total : IsTotalOrder cmp
  pub tells : (x y : A) → cmp x y ≡ Equal → x ≡ y
  pub decides : (x y : A) → Decides (same x y) (x ≡ y)

pub less_from : (r : Ordering) → is_lt r ≡ true → r ≡ Less
less_from Less e = refl
less_from Equal e = absurd (false≢true e)
less_from Greater e = absurd (false≢true e)

module _ {A : Type 0} {same : A → A → Bool} {cmp : A → A → Ordering} (o : IsStrict same cmp) where
  pub same_itself : (x : A) → same x x ≡ true
  same_itself x = (o.decides x x).1 refl

  -- ---- membership

  put_case : (x y : A) (ys : List A) (z : A) (r : Ordering) → cmp x y ≡ r
      → has same (put cmp x ys) z ≡ (same z x || has same ys z)
      → has same (placed r x y ys (put cmp x ys)) z ≡ (same z x || (same z y || has same ys z))
  put_case x y ys z Less e ih = refl
  put_case x y ys z Equal e ih =
      subst (λ (w : A). (same z y || has same ys z) ≡ (same z w || (same z y || has same ys z))) (sym (o.tells x y e)) (or_absorb (same z y) (has same ys z))
  put_case x y ys z Greater e ih = ap (λ (w : Bool). same z y || w) ih ∙ or_swap (same z y) (same z x) (has same ys z)

  pub has-put : (x : A) (xs : List A) (z : A) → has same (put cmp x xs) z ≡ (same z x || has same xs z)
  has-put x [] z = refl
  has-put x (y ∷ ys) z = put_case x y ys z (cmp x y) refl (has-put x ys z)

  pub has-put_all : (xs ys : List A) (z : A) → has same (put_all cmp xs ys) z ≡ (has same ys z || has same xs z)
  has-put_all xs [] z = refl
  has-put_all xs (y ∷ ys) z =
      has-put_all (put cmp y xs) ys z
      ∙ (ap (λ (w : Bool). has same ys z || w) (has-put y xs z) ∙ or_regroup (has same ys z) (same z y) (has same xs z))

  filter_case : (p : A → Bool) (x : A) (xs : List A) (z : A) (r : Bool) → p x ≡ r
      → has same (filter p xs) z ≡ (p z && has same xs z)
      → has same (cond r (x ∷ filter p xs) (filter p xs)) z ≡ (p z && (same z x || has same xs z))
  filter_case p x xs z true e ih =
      kept_head (same z x) (p z) (has same xs z) (has same (filter p xs) z) (λ s. ap p ((o.decides z x).0 s) ∙ e) ih
  filter_case p x xs z false e ih =
      dropped_head (same z x) (p z) (has same xs z) (has same (filter p xs) z) (λ s. ap p ((o.decides z x).0 s) ∙ e) ih

  pub has-filter : (p : A → Bool) (xs : List A) (z : A) → has same (filter p xs) z ≡ (p z && has same xs z)
  has-filter p [] z = and_false (p z)
  has-filter p (x ∷ xs) z = filter_case p x xs z (p x) refl (has-filter p xs z)

  pub has-without : (xs gone : List A) (z : A) → has same (without same xs gone) z ≡ (has same xs z && not (has same gone z))
  has-without xs gone z = has-filter (λ x. not (has same gone x)) xs z ∙ and_swap (not (has same gone z)) (has same xs z)

  -- ---- order

  abbrev below : A → List A → Bool
  below x xs = list_all (λ y. is_lt (cmp x y)) xs

  lt_trans : (x y z : A) → is_lt (cmp x y) ≡ true → is_lt (cmp y z) ≡ true → is_lt (cmp x z) ≡ true
  lt_trans x y z p q = ap is_lt (o.total.trans x y z (less_from (cmp x y) p) (less_from (cmp y z) q))

  below-trans : (x y : A) (ys : List A) → is_lt (cmp x y) ≡ true → below y ys ≡ true → below x ys ≡ true
  below-trans x y [] p q = refl
  below-trans x y (z ∷ zs) p q =
      let parts : (is_lt (cmp y z) ≡ true) × (below y zs ≡ true) = and_parts (is_lt (cmp y z)) (below y zs) q in
      and_from (is_lt (cmp x z)) (below x zs) (lt_trans x y z p parts.0) (below-trans x y zs p parts.1)

  below_case : (w x y : A) (ys : List A) (r : Ordering) → is_lt (cmp w x) ≡ true → is_lt (cmp w y) ≡ true → below w ys ≡ true
      → below w (put cmp x ys) ≡ true → below w (placed r x y ys (put cmp x ys)) ≡ true
  below_case w x y ys Less a b c d = and_from (is_lt (cmp w x)) _ a (and_from (is_lt (cmp w y)) (below w ys) b c)
  below_case w x y ys Equal a b c d = and_from (is_lt (cmp w y)) (below w ys) b c
  below_case w x y ys Greater a b c d = and_from (is_lt (cmp w y)) (below w (put cmp x ys)) b d

  below-put : (w x : A) (ys : List A) → is_lt (cmp w x) ≡ true → below w ys ≡ true → below w (put cmp x ys) ≡ true
  below-put w x [] a c = and_from (is_lt (cmp w x)) true a refl
  below-put w x (y ∷ ys) a c =
      let parts : (is_lt (cmp w y) ≡ true) × (below w ys ≡ true) = and_parts (is_lt (cmp w y)) (below w ys) c in
      below_case w x y ys (cmp x y) a parts.0 parts.1 (below-put w x ys a parts.1)

  greater_back : (x y : A) → cmp x y ≡ Greater → is_lt (cmp y x) ≡ true
  greater_back x y e = ap is_lt (o.total.antisymm y x ∙ ap ordering_reverse e)

  ascends_case : (x y : A) (ys : List A) (r : Ordering) → cmp x y ≡ r → below y ys ≡ true → ascends cmp ys ≡ true
      → ascends cmp (put cmp x ys) ≡ true → ascends cmp (placed r x y ys (put cmp x ys)) ≡ true
  ascends_case x y ys Less e a b c =
      let less : is_lt (cmp x y) ≡ true = ap is_lt e in
      and_from (below x (y ∷ ys)) (ascends cmp (y ∷ ys)) (and_from (is_lt (cmp x y)) (below x ys) less (below-trans x y ys less a)) (and_from (below y ys) (ascends cmp ys) a b)
  ascends_case x y ys Equal e a b c = and_from (below y ys) (ascends cmp ys) a b
  ascends_case x y ys Greater e a b c =
      and_from (below y (put cmp x ys)) (ascends cmp (put cmp x ys)) (below-put y x ys (greater_back x y e) a) c

  pub ascends-put : (x : A) (xs : List A) → ascends cmp xs ≡ true → ascends cmp (put cmp x xs) ≡ true
  ascends-put x [] a = refl
  ascends-put x (y ∷ ys) a =
      let parts : (below y ys ≡ true) × (ascends cmp ys ≡ true) = and_parts (below y ys) (ascends cmp ys) a in
      ascends_case x y ys (cmp x y) refl parts.0 parts.1 (ascends-put x ys parts.1)

  pub ascends-put_all : (xs ys : List A) → ascends cmp xs ≡ true → ascends cmp (put_all cmp xs ys) ≡ true
  ascends-put_all xs [] a = a
  ascends-put_all xs (y ∷ ys) a = ascends-put_all (put cmp y xs) ys (ascends-put y xs a)

  pub ascends-set_of : (xs : List A) → ascends cmp (set_of cmp xs) ≡ true
  ascends-set_of xs = ascends-put_all [] xs refl

  below_filter_case : (p : A → Bool) (w x : A) (xs : List A) (r : Bool) → is_lt (cmp w x) ≡ true → below w (filter p xs) ≡ true
      → below w (cond r (x ∷ filter p xs) (filter p xs)) ≡ true
  below_filter_case p w x xs true a b = and_from (is_lt (cmp w x)) (below w (filter p xs)) a b
  below_filter_case p w x xs false a b = b

  below-filter : (p : A → Bool) (w : A) (xs : List A) → below w xs ≡ true → below w (filter p xs) ≡ true
  below-filter p w [] a = refl
  below-filter p w (x ∷ xs) a =
      let parts : (is_lt (cmp w x) ≡ true) × (below w xs ≡ true) = and_parts (is_lt (cmp w x)) (below w xs) a in
      below_filter_case p w x xs (p x) parts.0 (below-filter p w xs parts.1)

  ascends_filter_case : (p : A → Bool) (x : A) (xs : List A) (r : Bool) → below x (filter p xs) ≡ true → ascends cmp (filter p xs) ≡ true
      → ascends cmp (cond r (x ∷ filter p xs) (filter p xs)) ≡ true
  ascends_filter_case p x xs true a b = and_from (below x (filter p xs)) (ascends cmp (filter p xs)) a b
  ascends_filter_case p x xs false a b = b

  pub ascends-filter : (p : A → Bool) (xs : List A) → ascends cmp xs ≡ true → ascends cmp (filter p xs) ≡ true
  ascends-filter p [] a = refl
  ascends-filter p (x ∷ xs) a =
      let parts : (below x xs ≡ true) × (ascends cmp xs ≡ true) = and_parts (below x xs) (ascends cmp xs) a in
      ascends_filter_case p x xs (p x) (below-filter p x xs parts.0) (ascends-filter p xs parts.1)

  -- ---- two ascending lists with the same members are one

  unequal_case : (x y : A) (s : Bool) → same x y ≡ s → is_lt (cmp x y) ≡ true → s ≡ false
  unequal_case x y false e p = refl
  unequal_case x y true e p =
      let alike : cmp x y ≡ Equal = subst (λ (w : A). cmp x w ≡ Equal) ((o.decides x y).0 e) (tied_itself o.total x) in
      absurd (false≢true (sym (ap is_lt alike) ∙ p))

  less_unequal : (x y : A) → is_lt (cmp x y) ≡ true → same x y ≡ false
  less_unequal x y p = unequal_case x y (same x y) refl p

  pub below_not_in : (x : A) (xs : List A) → below x xs ≡ true → has same xs x ≡ false
  below_not_in x [] a = refl
  below_not_in x (y ∷ ys) a =
      let parts : (is_lt (cmp x y) ≡ true) × (below x ys ≡ true) = and_parts (is_lt (cmp x y)) (below x ys) a in
      let first : same x y ≡ false = less_unequal x y parts.0 in
      let later : has same ys x ≡ false = below_not_in x ys parts.1 in
      ap (λ (w : Bool). w || has same ys x) first ∙ later

  in_head : (x : A) (xs : List A) → has same (x ∷ xs) x ≡ true
  in_head x xs = ap (λ (w : Bool). w || has same xs x) (same_itself x)

  head_less : (x y : A) (xs ys : List A) → is_lt (cmp x y) ≡ true → below y ys ≡ true
      → ((z : A) → has same (x ∷ xs) z ≡ has same (y ∷ ys) z) → ⊥
  head_less x y xs ys p b alike =
      let out : has same (y ∷ ys) x ≡ false = below_not_in x (y ∷ ys) (and_from (is_lt (cmp x y)) (below x ys) p (below-trans x y ys p b)) in
      true≢false (sym (in_head x xs) ∙ (alike x ∙ out))

  heads : (x y : A) (xs ys : List A) (r : Ordering) → cmp x y ≡ r → below x xs ≡ true → below y ys ≡ true
      → ((z : A) → has same (x ∷ xs) z ≡ has same (y ∷ ys) z) → x ≡ y
  heads x y xs ys Less e a b alike = absurd (head_less x y xs ys (ap is_lt e) b alike)
  heads x y xs ys Equal e a b alike = o.tells x y e
  heads x y xs ys Greater e a b alike = absurd (head_less y x ys xs (greater_back x y e) a (λ z. sym (alike z)))

  tail_case : (x : A) (xs ys : List A) (z : A) (s : Bool) → same z x ≡ s → below x xs ≡ true → below x ys ≡ true
      → (same z x || has same xs z) ≡ (same z x || has same ys z) → has same xs z ≡ has same ys z
  tail_case x xs ys z true e a b alike =
      let is : z ≡ x = (o.decides z x).0 e in
      (ap (has same xs) is ∙ below_not_in x xs a) ∙ sym (ap (has same ys) is ∙ below_not_in x ys b)
  tail_case x xs ys z false e a b alike =
      sym (ap (λ (w : Bool). w || has same xs z) e) ∙ (alike ∙ ap (λ (w : Bool). w || has same ys z) e)

  pub same_members : (xs ys : List A) → ascends cmp xs ≡ true → ascends cmp ys ≡ true
      → ((z : A) → has same xs z ≡ has same ys z) → xs ≡ ys
  same_members [] [] a b alike = refl
  same_members [] (y ∷ ys) a b alike = absurd (false≢true (alike y ∙ in_head y ys))
  same_members (x ∷ xs) [] a b alike = absurd (false≢true (sym (alike x) ∙ in_head x xs))
  same_members (x ∷ xs) (y ∷ ys) a b alike =
      let pa : (below x xs ≡ true) × (ascends cmp xs ≡ true) = and_parts (below x xs) (ascends cmp xs) a in
      let pb : (below y ys ≡ true) × (ascends cmp ys ≡ true) = and_parts (below y ys) (ascends cmp ys) b in
      let is : x ≡ y = heads x y xs ys (cmp x y) refl pa.0 pb.0 alike in
      let by : below x ys ≡ true = subst (λ (w : A). below w ys ≡ true) (sym is) pb.0 in
      let alike' : (z : A) → (same z x || has same xs z) ≡ (same z x || has same ys z) =
      λ z. subst (λ (w : A). (same z x || has same xs z) ≡ (same z w || has same ys z)) (sym is) (alike z) in
      let rest : xs ≡ ys = same_members xs ys pa.1 pb.1 (λ z. tail_case x xs ys z (same z x) refl pa.0 by (alike' z)) in
      cc
