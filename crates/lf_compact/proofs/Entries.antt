-- Entries in order of their keys are told by what is found at each key.
use Rattle.std.proofs.Common.{◌≡◌, ℕ, true, List, [], ◌∷◌, Option, Some, None, unwrap_or, refl, sym, ap, ◌∙◌, nat_cmp, is_eq, Ordering, Less, Equal, Greater, ⊎_elim}
use Rattle.std.specs.Cmp.Lexicographic.{slice_cmp}
use Rattle.std.specs.List.Sorted.{IsStrictlySortedBy}
use Rattle.std.specs.Map.{lookup, keys_of}
use Rattle.std.specs.Ordering.{eq_by_cmp, ordering_reverse}
use Rattle.std.specs.BTreeMap.{is_at}
use Rattle.std.proofs.lemmas.Bool.{cases_Bool}
use Rattle.std.proofs.lemmas.Cmp.{nat_list_cmp_total, tied_itself, eq_by_cmp_equiv}
use Rattle.std.proofs.lemmas.Map.{lookup-none}
use Rattle.std.proofs.lemmas.Map.Entries.{lookup_head, lookup_tail, none_past_head, none_below_head}
use Rattle.std.proofs.lemmas.Map.Keys.{sorted_tail, IsDistinct-from_sorted}
use Rattle.std.proofs.lemmas.Map.Lookups.{exact_bytes}

abbrev order : List ℕ → List ℕ → Ordering
order = slice_cmp nat_cmp

module _ {X : Type 0} where
  abbrev find : List (List ℕ × X) → List ℕ → Option X
  find es q = lookup (is_at (order q)) es

  at_head : (x : List ℕ × X) (xs : List (List ℕ × X)) → find (x ∷ xs) x.0 ≡ Some x.1
  at_head x xs = lookup_head (is_at (order x.0)) x xs (ap is_eq (tied_itself nat_list_cmp_total x.0))

  past_head : (q : List ℕ) (x : List ℕ × X) (xs : List (List ℕ × X)) → IsStrictlySortedBy order (keys_of (x ∷ xs)) → eq_by_cmp order q x.0 ≡ true → find xs q ≡ None
  past_head q x xs s t =
      lookup-none (is_at (order q)) xs (none_past_head (eq_by_cmp_equiv nat_list_cmp_total) q x xs (IsDistinct-from_sorted order _ s) t)

  module _ (x y : List ℕ × X) (xs ys : List (List ℕ × X)) (s : IsStrictlySortedBy order (keys_of (x ∷ xs))) (t : IsStrictlySortedBy order (keys_of (y ∷ ys)))
      (h : (q : List ℕ) → find (x ∷ xs) q ≡ find (y ∷ ys) q) where
    by_heads : (r : Ordering) → order x.0 y.0 ≡ r → order x.0 y.0 ≡ Equal
    by_heads Less p = cc (at_head x xs, h x.0, lookup-none (is_at (order x.0)) (y ∷ ys) (none_below_head nat_list_cmp_total x.0 y ys t p))
    by_heads Equal p = p
    by_heads Greater p =
        cc (
          at_head y ys,
          h y.0,
          lookup-none (is_at (order y.0)) (x ∷ xs) (none_below_head nat_list_cmp_total y.0 x xs s (nat_list_cmp_total.antisymm y.0 x.0 ∙ ap ordering_reverse p)),
        )

    heads : order x.0 y.0 ≡ Equal
    heads = by_heads (order x.0 y.0) refl

    values : x.1 ≡ y.1
    values = ap (λ u. unwrap_or u x.1) (sym (at_head x xs) ∙ h x.0 ∙ lookup_head (is_at (order x.0)) y ys (ap is_eq heads))

    tails : (q : List ℕ) → find xs q ≡ find ys q
    tails q =
        let t' = eq_by_cmp_equiv nat_list_cmp_total in
        let e : eq_by_cmp order q y.0 ≡ eq_by_cmp order q x.0 = t'.symm q y.0 ∙ sym (t'.congr x.0 y.0 q (ap is_eq heads)) ∙ t'.symm x.0 q in
        ⊎_elim
        (λ b. past_head q x xs s b ∙ sym (past_head q y ys t (e ∙ b)))
        (λ b. sym (lookup_tail (is_at (order q)) x xs b) ∙ h q ∙ lookup_tail (is_at (order q)) y ys (e ∙ b))
        (cases_Bool (eq_by_cmp order q x.0))

  pub same-entries : (es fs : List (List ℕ × X)) → IsStrictlySortedBy order (keys_of es) → IsStrictlySortedBy order (keys_of fs)
      → ((q : List ℕ) → find es q ≡ find fs q) → es ≡ fs
  same-entries [] [] s t h = refl
  same-entries [] (y ∷ ys) s t h = cc (h y.0, at_head y ys)
  same-entries (x ∷ xs) [] s t h = cc (h x.0, at_head x xs)
  same-entries (x ∷ xs) (y ∷ ys) s t h =
      let r = same-entries xs ys (sorted_tail order x.0 (keys_of xs) s) (sorted_tail order y.0 (keys_of ys) t) (tails x y xs ys s t h) in
      let k : x.0 ≡ y.0 = exact_bytes x.0 y.0 (heads x y xs ys s t h) in
      let v : x.1 ≡ y.1 = values x y xs ys s t h in
      λ i. (k i, v i) ∷ r i
