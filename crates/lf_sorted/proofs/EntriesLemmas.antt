-- Where a search ends among entries in order, and what a put there makes.
use Rattle.std.proofs.Common.{◌≡◌, ◌≢◌, ℕ, nat_eq, true, false, zero, suc, ◌<◌, List, [], ◌∷◌, length, get_or, set, Some, None, Result, Ok, Err, IfOk, IfErr, if◌then◌else◌, refl, sym, ap, subst, ◌∙◌, inl, inr, arith}
use Rattle.std.specs.Cmp.Lexicographic.{pointwise}
use Rattle.std.specs.List.{insert, AllByRecursion}
use Rattle.std.specs.List.Sorted.{IsStrictlySortedBy, IsSearchInRange, IsBinarySearchResult, IsNonDecreasingBy}
use Rattle.std.specs.Ordering.{is_eq, match_ordering, ordering_index}
use Rattle.std.specs.declared.cmp.Ordering.{Ordering}
use Rattle.std.specs.declared.cmp.Ordering.TheVariants.{Less, Equal, Greater}
use Rattle.std.proofs.lemmas.Bool.{cases_lt}
use Rattle.std.proofs.lemmas.Cmp.{nat_list_cmp_total, tied_itself}
use Rattle.std.proofs.lemmas.Map.Keys.{Less-from_sorted, sorted_tail}
use Rattle.std.proofs.lemmas.Map.Lookups.{exact_bytes}
use Rattle.std.proofs.lemmas.Map.Text.{is_eq-slice_cmp}
use Rattle.std.proofs.Math.ListN.{length-map, get_or-map}
use Rattle.lf_sorted.specs.declared.map.Entry.{Entry}
use Rattle.lf_sorted.specs.Entries.{text_cmp, entry, keys, Ascends, put_entry, value_at}
use Rattle.lf_sorted.specs.Place.{IsAt, IsGapFor}
use Rattle.lf_sorted.proofs.Ordered.{reversed, rises, below_equal}

-- equal keys are one text
same_key : (a b : List ℕ) → text_cmp a b ≡ Equal → pointwise nat_eq a b ≡ true
same_key a b equal = sym (is_eq-slice_cmp a b) ∙ ap is_eq equal

-- a key below or above another is another text
other_key : (a b : List ℕ) (r : Ordering) → text_cmp a b ≡ r → is_eq r ≡ false → pointwise nat_eq a b ≡ false
other_key a b r e other = sym (is_eq-slice_cmp a b) ∙ ap is_eq e ∙ other

-- what P gives of a key, of each
all_mapped : (P Q : List ℕ → Type 0) → ((k : List ℕ) → P k → Q k) → (ks : List (List ℕ)) → AllByRecursion P ks → AllByRecursion Q ks
all_mapped P Q f [] all = tt
all_mapped P Q f (k ∷ ks) all = (f k all.0, all_mapped P Q f ks all.1)

module _ {T : Type 0} where
  -- an earlier key is below a later one
  less_at : (es : List (Entry T)) → Ascends es → (i j : ℕ) (d : Entry T) → i < j → j < length es → text_cmp (get_or es i d).key (get_or es j d).key ≡ Less
  less_at es ascends i j d lt within =
      let less = Less-from_sorted text_cmp (keys es) i j d.key ascends lt (rw length-map within) in
      rw (get_or-map (λ (e : Entry T). e.key) es i d, get_or-map (λ (e : Entry T). e.key) es j d) at less

  -- the comparisons with a key rise along the entries, as a binary search asks
  comparisons_rise : (es : List (Entry T)) (key : List ℕ) → Ascends es → IsNonDecreasingBy (λ e. ordering_index (text_cmp e.key key)) es
  comparisons_rise es key ascends i j d le within =
      elim (cases_lt i j) [
        | inl lt ↦ rises text_cmp nat_list_cmp_total _ _ key _ refl (less_at es ascends i j d lt within)
        | inr least ↦ let same : i ≡ j = omega arith in rw same (omega arith)
      ]

  -- a binary search ends at the key, or at the gap for it
  pub searched : (es : List (Entry T)) (key : List ℕ) → Ascends es → (r : Result ℕ ℕ) → IsSearchInRange r (length es) → IsBinarySearchResult (λ e. text_cmp e.key key) es r → IfOk r (IsAt es key) × IfErr r (IsGapFor es key)
  searched es key ascends (Ok place) within equal = (record { in_range = within; has_key = equal }, tt)
  searched es key ascends (Err place) within parted =
      let parts = parted (comparisons_rise es key ascends) in
      (tt, record { in_range = within; lower_before = λ j d lt. parts.0 j d (omega arith) lt; greater_after = λ j d le lt. parts.1 j d le lt })

  -- a put at the key's place
  pub put_there : (es : List (Entry T)) (key : List ℕ) (value : T) (place : ℕ) → Ascends es → IsAt es key place → set es place (entry key value) ≡ put_entry key value es
  put_there [] key value place ascends at = absurd (omega (arith, at.in_range))
  put_there (e ∷ es) key value zero ascends at =
      let same : text_cmp key e.key ≡ Equal = reversed text_cmp nat_list_cmp_total e.key key Equal (at.has_key e) in
      rw same refl
  put_there (e ∷ es) key value (suc place) ascends at =
      let lower = less_at (e ∷ es) ascends 0 (suc place) e (omega arith) at.in_range in
      let above : text_cmp key e.key ≡ Greater = reversed text_cmp nat_list_cmp_total e.key key Less (below_equal text_cmp nat_list_cmp_total e.key _ key lower (at.has_key e)) in
      rw above (ap (λ rest. e ∷ rest) (put_there es key value place (sorted_tail text_cmp e.key (keys es) ascends) (record { in_range = omega (arith, at.in_range); has_key = at.has_key })))

  -- a put in the gap
  pub put_in_gap : (es : List (Entry T)) (key : List ℕ) (value : T) (place : ℕ) → IsGapFor es key place → insert es place (entry key value) ≡ put_entry key value es
  put_in_gap [] key value zero gap = refl
  put_in_gap [] key value (suc place) gap = absurd (omega (arith, gap.in_range))
  put_in_gap (e ∷ es) key value zero gap =
      let below : text_cmp key e.key ≡ Less = reversed text_cmp nat_list_cmp_total e.key key Greater (gap.greater_after 0 e (omega arith) (omega arith)) in
      rw below refl
  put_in_gap (e ∷ es) key value (suc place) gap =
      let above : text_cmp key e.key ≡ Greater = reversed text_cmp nat_list_cmp_total e.key key Less (gap.lower_before 0 e (omega arith)) in
      rw above (ap (λ rest. e ∷ rest) (put_in_gap es key value place (record {
        in_range = omega (arith, gap.in_range);
        lower_before = λ j d lt. gap.lower_before (suc j) d (omega arith);
        greater_after = λ j d le lt. gap.greater_after (suc j) d (omega arith) (omega arith);
      })))

  -- the value at the key's place
  pub value_there : (es : List (Entry T)) (key : List ℕ) (place : ℕ) (d : Entry T) → Ascends es → IsAt es key place → value_at key es ≡ Some (get_or es place d).value
  value_there [] key place d ascends at = absurd (omega (arith, at.in_range))
  value_there (e ∷ es) key zero d ascends at =
      rw (same_key key e.key (reversed text_cmp nat_list_cmp_total e.key key Equal (at.has_key e))) refl
  value_there (e ∷ es) key (suc place) d ascends at =
      let lower = less_at (e ∷ es) ascends 0 (suc place) e (omega arith) at.in_range in
      let above : text_cmp key e.key ≡ Greater = reversed text_cmp nat_list_cmp_total e.key key Less (below_equal text_cmp nat_list_cmp_total e.key _ key lower (at.has_key e)) in
      rw (other_key key e.key Greater above refl) (value_there es key place d (sorted_tail text_cmp e.key (keys es) ascends) (record { in_range = omega (arith, at.in_range); has_key = at.has_key }))

  -- no value where the key has a gap
  pub value_in_gap : (es : List (Entry T)) (key : List ℕ) (place : ℕ) → IsGapFor es key place → value_at key es ≡ None
  value_in_gap [] key place gap = refl
  value_in_gap (e ∷ es) key zero gap =
      let below : text_cmp key e.key ≡ Less = reversed text_cmp nat_list_cmp_total e.key key Greater (gap.greater_after 0 e (omega arith) (omega arith)) in
      rw (other_key key e.key Less below refl) (value_in_gap es key zero (record {
        in_range = omega arith;
        lower_before = λ j d lt. absurd (omega arith);
        greater_after = λ j d le lt. gap.greater_after (suc j) d (omega arith) (omega arith);
      }))
  value_in_gap (e ∷ es) key (suc place) gap =
      let above : text_cmp key e.key ≡ Greater = reversed text_cmp nat_list_cmp_total e.key key Less (gap.lower_before 0 e (omega arith)) in
      rw (other_key key e.key Greater above refl) (value_in_gap es key place (record {
        in_range = omega (arith, gap.in_range);
        lower_before = λ j d lt. gap.lower_before (suc j) d (omega arith);
        greater_after = λ j d le lt. gap.greater_after (suc j) d (omega arith) (omega arith);
      }))

  -- each key of a put, where it is so of the key and of each older one
  all_put : (P : List ℕ → Type 0) (key : List ℕ) (value : T) (es : List (Entry T)) → P key → AllByRecursion P (keys es) → AllByRecursion P (keys (put_entry key value es))
  all_put P key value [] here all = (here, tt)
  all_put P key value (e ∷ es) here all = go (all_put P key value es here all.1) (text_cmp key e.key)
    where
      go : AllByRecursion P (keys (put_entry key value es)) → (r : Ordering) → AllByRecursion P (keys (match_ordering r (entry key value ∷ e ∷ es) (entry key value ∷ es) (e ∷ put_entry key value es)))
      go later Less = (here, all)
      go later Equal = (here, all.1)
      go later Greater = (all.0, later)

  -- a put keeps the order
  pub ascends_put : (key : List ℕ) (value : T) (es : List (Entry T)) → Ascends es → Ascends (put_entry key value es)
  unfolding IsStrictlySortedBy
  ascends_put key value [] ascends = (tt, tt)
  ascends_put key value (e ∷ es) ascends = go (ascends_put key value es ascends.1) (text_cmp key e.key) refl
    where
      later : (k : List ℕ) → text_cmp e.key k ≡ Less → text_cmp key e.key ≡ Less → text_cmp key k ≡ Less
      later k above below = nat_list_cmp_total.trans key e.key k below above

      go : Ascends (put_entry key value es) → (r : Ordering) → text_cmp key e.key ≡ r → Ascends (match_ordering r (entry key value ∷ e ∷ es) (entry key value ∷ es) (e ∷ put_entry key value es))
      go rest Less below = ((below, all_mapped _ _ (λ k above. later k above below) (keys es) ascends.0), ascends)
      go rest Equal same = (all_mapped _ _ (λ k above. nat_list_cmp_total.congr key e.key k same ∙ above) (keys es) ascends.0, ascends.1)
      go rest Greater above =
          (all_put (λ k. text_cmp e.key k ≡ Less) key value es (reversed text_cmp nat_list_cmp_total key e.key Greater above) ascends.0, rest)

  -- the value that was put is found
  pub value_put : (key : List ℕ) (value : T) (es : List (Entry T)) → value_at key (put_entry key value es) ≡ Some value
  value_put key value [] = rw (same_key key key (tied_itself nat_list_cmp_total key)) refl
  value_put key value (e ∷ es) = go (value_put key value es) (text_cmp key e.key) refl
    where
      itself : pointwise nat_eq key key ≡ true
      itself = same_key key key (tied_itself nat_list_cmp_total key)

      go : value_at key (put_entry key value es) ≡ Some value → (r : Ordering) → text_cmp key e.key ≡ r → value_at key (match_ordering r (entry key value ∷ e ∷ es) (entry key value ∷ es) (e ∷ put_entry key value es)) ≡ Some value
      go later Less below = rw itself refl
      go later Equal same = rw itself refl
      go later Greater above = rw (other_key key e.key Greater above refl) later

  -- every other key has the value that it had
  pub value_elsewhere : (other key : List ℕ) (value : T) (es : List (Entry T)) → pointwise nat_eq other key ≡ false → value_at other (put_entry key value es) ≡ value_at other es
  value_elsewhere other key value [] apart = rw apart refl
  value_elsewhere other key value (e ∷ es) apart = go (value_elsewhere other key value es apart) (text_cmp key e.key) refl
    where
      go : value_at other (put_entry key value es) ≡ value_at other es → (r : Ordering) → text_cmp key e.key ≡ r → value_at other (match_ordering r (entry key value ∷ e ∷ es) (entry key value ∷ es) (e ∷ put_entry key value es)) ≡ value_at other (e ∷ es)
      go later Less below = rw apart refl
      go later Equal same = rw (apart, subst (λ k. pointwise nat_eq other k ≡ false) (exact_bytes key e.key same) apart) refl
      go later Greater above = ap (λ rest. if pointwise nat_eq other e.key then Some e.value else rest) later

  -- the same, where the keys differ
  pub value_of_others : (other key : List ℕ) (value : T) (es : List (Entry T)) → other ≢ key → value_at other (put_entry key value es) ≡ value_at other es
  value_of_others other key value es differ = go (text_cmp other key) refl
    where
      go : (r : Ordering) → text_cmp other key ≡ r → value_at other (put_entry key value es) ≡ value_at other es
      go Less e = value_elsewhere other key value es (other_key other key Less e refl)
      go Equal e = absurd (differ (exact_bytes other key e))
      go Greater e = value_elsewhere other key value es (other_key other key Greater e refl)
