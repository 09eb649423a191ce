-- Where a search ends among pairs in order, and what a put there makes.
use Rattle.std.proofs.Common.{◌≡◌, ℕ, zero, suc, ◌<◌, List, [], ◌∷◌, ◌++◌, map, length, get_or, set, Some, None, Result, Ok, Err, IfOk, IfErr, refl, sym, ap, ◌∙◌, inl, inr, arith}
use Rattle.std.specs.List.{insert, AllByRecursion}
use Rattle.std.specs.List.Sorted.{IsStrictlySortedBy, IsSearchInRange, IsBinarySearchResult, IsNonDecreasingBy}
use Rattle.std.specs.Ordering.{match_ordering, ordering_index}
use Rattle.std.specs.declared.cmp.Ordering.{Ordering}
use Rattle.std.specs.declared.cmp.Ordering.TheVariants.{Less, Equal, Greater}
use Rattle.std.specs.Cmp.{IsTotalOrder}
use Rattle.std.proofs.lemmas.Bool.{cases_lt}
use Rattle.std.proofs.lemmas.Map.Keys.{Less-from_sorted, sorted_tail}
use Rattle.std.proofs.Math.ListN.{length-map, get_or-map}
use Rattle.lf_ptree.specs.Pairs.{keys, Ascends, key_order, put_pair, value_at, IsAt, IsGapFor, AllBelow, BeginsAbove}
use Rattle.lf_ptree.proofs.Ordered.{reversed, rises, below_equal}

pub map-insert : {X Y : Type 0} (f : X → Y) (xs : List X) (i : ℕ) (x : X) → map f (insert xs i x) ≡ insert (map f xs) i (f x)
map-insert f xs zero x = refl
map-insert f [] (suc i) x = refl
map-insert f (y ∷ ys) (suc i) x = ap (λ l. f y ∷ l) (map-insert f ys i x)

all_mapped : {K : Type 0} (P Q : K → Type 0) → ((k : K) → P k → Q k) → (ks : List K) → AllByRecursion P ks → AllByRecursion Q ks
all_mapped P Q f [] all = tt
all_mapped P Q f (k ∷ ks) all = (f k all.0, all_mapped P Q f ks all.1)

-- what holds of an element's image whatever the default holds of the image at its place
pub at_mapped : {X Y : Type 0} (f : X → Y) (P : Y → Type 0) (xs : List X) (i : ℕ) (d : Y) → i < length xs → ((x : X) → P (f (get_or xs i x))) → P (get_or (map f xs) i d)
at_mapped f P [] i d within h = absurd (omega arith)
at_mapped f P (x ∷ xs) zero d within h = h x
at_mapped f P (x ∷ xs) (suc i) d within h = at_mapped f P xs i d (omega arith) h

module _ {K V : Type 0} (cmp : K → K → Ordering) (total : IsTotalOrder cmp) where
  -- an earlier key is below a later one
  pub less_at : (es : List (K × V)) → Ascends cmp es → (i j : ℕ) (d : K × V) → i < j → j < length es → cmp (get_or es i d).0 (get_or es j d).0 ≡ Less
  less_at es ascends i j d lt within =
      let less = Less-from_sorted cmp (keys es) i j d.0 ascends lt (rw length-map within) in
      rw (get_or-map (λ (e : K × V). e.0) es i d, get_or-map (λ (e : K × V). e.0) es j d) at less

  -- the comparisons with a key rise along the pairs, as a binary search asks
  comparisons_rise : (es : List (K × V)) (key : K) → Ascends cmp es → IsNonDecreasingBy (λ e. ordering_index (key_order cmp key e)) es
  comparisons_rise es key ascends i j d le within =
      elim (cases_lt i j) [
        | inl lt ↦ rises cmp total _ _ key _ refl (less_at es ascends i j d lt within)
        | inr least ↦ let same : i ≡ j = omega arith in rw same (omega arith)
      ]

  -- a binary search among what stands for pairs ends at the key, or at the gap for it
  pub searched : {X : Type 0} (f : X → K × V) (xs : List X) (key : K) → Ascends cmp (map f xs) → (r : Result ℕ ℕ) → IsSearchInRange r (length xs) → IsBinarySearchResult (λ x. key_order cmp key (f x)) xs r
      → IfOk r (IsAt cmp (map f xs) key) × IfErr r (IsGapFor cmp (map f xs) key)
  searched f xs key ascends (Ok place) within equal =
      (record { in_range = rw length-map within; has_key = λ d. at_mapped f (λ e. key_order cmp key e ≡ Equal) xs place d within equal }, tt)
  searched f xs key ascends (Err place) within parted =
      let parts = parted (λ i j d le inside. rw (get_or-map f xs i d, get_or-map f xs j d) at (comparisons_rise (map f xs) key ascends i j (f d) le (rw length-map inside))) in (
        tt,
        record {
          in_range = rw length-map within;
          lower_before = λ j d lt. at_mapped f (λ e. key_order cmp key e ≡ Less) xs j d (omega arith) (λ x. parts.0 j x (omega arith) lt);
          greater_after = λ j d le lt. let inside : j < length xs = rw length-map at lt in at_mapped f (λ e. key_order cmp key e ≡ Greater) xs j d inside (λ x. parts.1 j x le inside);
        },
      )

  -- a put at the key's place
  pub put_there : (es : List (K × V)) (key : K) (value : V) (place : ℕ) → Ascends cmp es → IsAt cmp es key place → set es place (key, value) ≡ put_pair cmp key value es
  put_there [] key value place ascends at = absurd (omega (arith, at.in_range))
  put_there (e ∷ es) key value zero ascends at = rw (at.has_key e) refl
  put_there (e ∷ es) key value (suc place) ascends at =
      let lower = less_at (e ∷ es) ascends 0 (suc place) e (omega arith) at.in_range in
      let below : cmp e.0 key ≡ Less = below_equal cmp total e.0 _ key lower (at.has_key e) in
      rw below (ap (λ rest. e ∷ rest) (put_there es key value place (sorted_tail cmp e.0 (keys es) ascends) (record { in_range = omega (arith, at.in_range); has_key = at.has_key })))

  -- a put in the gap
  pub put_in_gap : (es : List (K × V)) (key : K) (value : V) (place : ℕ) → IsGapFor cmp es key place → insert es place (key, value) ≡ put_pair cmp key value es
  put_in_gap [] key value zero gap = refl
  put_in_gap [] key value (suc place) gap = absurd (omega (arith, gap.in_range))
  put_in_gap (e ∷ es) key value zero gap = rw (gap.greater_after 0 e (omega arith) (omega arith)) refl
  put_in_gap (e ∷ es) key value (suc place) gap =
      rw (gap.lower_before 0 e (omega arith)) (ap (λ rest. e ∷ rest) (put_in_gap es key value place (record {
        in_range = omega (arith, gap.in_range);
        lower_before = λ j d lt. gap.lower_before (suc j) d (omega arith);
        greater_after = λ j d le lt. gap.greater_after (suc j) d (omega arith) (omega arith);
      })))

  -- the value at the key's place
  pub value_there : (es : List (K × V)) (key : K) (place : ℕ) (d : K × V) → Ascends cmp es → IsAt cmp es key place → value_at cmp key es ≡ Some (get_or es place d).1
  value_there [] key place d ascends at = absurd (omega (arith, at.in_range))
  value_there (e ∷ es) key zero d ascends at = rw (at.has_key e) refl
  value_there (e ∷ es) key (suc place) d ascends at =
      let lower = less_at (e ∷ es) ascends 0 (suc place) e (omega arith) at.in_range in
      let below : cmp e.0 key ≡ Less = below_equal cmp total e.0 _ key lower (at.has_key e) in
      rw below (value_there es key place d (sorted_tail cmp e.0 (keys es) ascends) (record { in_range = omega (arith, at.in_range); has_key = at.has_key }))

  -- no value where the key has a gap
  pub value_in_gap : (es : List (K × V)) (key : K) (place : ℕ) → IsGapFor cmp es key place → value_at cmp key es ≡ None
  value_in_gap [] key place gap = refl
  value_in_gap (e ∷ es) key zero gap =
      rw (gap.greater_after 0 e (omega arith) (omega arith)) (value_in_gap es key zero (record {
        in_range = omega arith;
        lower_before = λ j d lt. absurd (omega arith);
        greater_after = λ j d le lt. gap.greater_after (suc j) d (omega arith) (omega arith);
      }))
  value_in_gap (e ∷ es) key (suc place) gap =
      rw (gap.lower_before 0 e (omega arith)) (value_in_gap es key place (record {
        in_range = omega (arith, gap.in_range);
        lower_before = λ j d lt. gap.lower_before (suc j) d (omega arith);
        greater_after = λ j d le lt. gap.greater_after (suc j) d (omega arith) (omega arith);
      }))

  all_put : (P : K → Type 0) (key : K) (value : V) (es : List (K × V)) → P key → AllByRecursion P (keys es) → AllByRecursion P (keys (put_pair cmp key value es))
  all_put P key value [] here all = (here, tt)
  all_put P key value (e ∷ es) here all = go (all_put P key value es here all.1) (cmp e.0 key)
    where
      go : AllByRecursion P (keys (put_pair cmp key value es)) → (r : Ordering) → AllByRecursion P (keys (match_ordering r (e ∷ put_pair cmp key value es) ((key, value) ∷ es) ((key, value) ∷ e ∷ es)))
      go later Less = (all.0, later)
      go later Equal = (here, all.1)
      go later Greater = (here, all)

  -- a put keeps the order
  pub ascends_put : (key : K) (value : V) (es : List (K × V)) → Ascends cmp es → Ascends cmp (put_pair cmp key value es)
  unfolding IsStrictlySortedBy
  ascends_put key value [] ascends = (tt, tt)
  ascends_put key value (e ∷ es) ascends = go (ascends_put key value es ascends.1) (cmp e.0 key) refl
    where
      go : Ascends cmp (put_pair cmp key value es) → (r : Ordering) → cmp e.0 key ≡ r → Ascends cmp (match_ordering r (e ∷ put_pair cmp key value es) ((key, value) ∷ es) ((key, value) ∷ e ∷ es))
      go rest Less below = (all_put (λ k. cmp e.0 k ≡ Less) key value es below ascends.0, rest)
      go rest Equal same = (all_mapped _ _ (λ k above. sym (total.congr e.0 key k same) ∙ above) (keys es) ascends.0, ascends.1)
      go rest Greater above =
          let under : cmp key e.0 ≡ Less = reversed cmp total e.0 key Greater above in
          ((under, all_mapped _ _ (λ k over. total.trans key e.0 k under over) (keys es) ascends.0), ascends)

-- ---- parts of the pairs

module _ {K V : Type 0} (cmp : K → K → Ordering) where
  -- pairs that are all below the key stay before a put
  pub put-after_below : (key : K) (value : V) (before rest : List (K × V)) → AllBelow cmp key before → put_pair cmp key value (before ++ rest) ≡ before ++ put_pair cmp key value rest
  put-after_below key value [] rest below = refl
  put-after_below key value (e ∷ es) rest below = rw below.0 (ap (λ l. e ∷ l) (put-after_below key value es rest below.1))

  pub appended : (o : Ordering) (a b c rest : List (K × V)) → match_ordering o (a ++ rest) (b ++ rest) (c ++ rest) ≡ match_ordering o a b c ++ rest
  appended Less a b c rest = refl
  appended Equal a b c rest = refl
  appended Greater a b c rest = refl

  alone : (key : K) (value : V) (rest : List (K × V)) → BeginsAbove cmp key rest → put_pair cmp key value rest ≡ (key, value) ∷ rest
  alone key value [] above = refl
  alone key value (e ∷ es) above = rw above refl

  -- pairs that begin above the key stay behind a put
  pub put-before_above : (key : K) (value : V) (here rest : List (K × V)) → BeginsAbove cmp key rest → put_pair cmp key value (here ++ rest) ≡ put_pair cmp key value here ++ rest
  put-before_above key value [] rest above = alone key value rest above
  put-before_above key value (e ∷ es) rest above =
      ap (λ l. match_ordering (cmp e.0 key) (e ∷ l) ((key, value) ∷ (es ++ rest)) ((key, value) ∷ e ∷ (es ++ rest))) (put-before_above key value es rest above)
      ∙ appended (cmp e.0 key) (e ∷ put_pair cmp key value es) ((key, value) ∷ es) ((key, value) ∷ e ∷ es) rest

  -- ---- pairs that are put at the end

  pub ascends_last : (es : List (K × V)) (key : K) (value : V) → Ascends cmp es → AllBelow cmp key es → Ascends cmp (es ++ (key, value) ∷ [])
  unfolding IsStrictlySortedBy
  ascends_last [] key value ascends below = (tt, tt)
  ascends_last (e ∷ es) key value ascends below = (all_last es ascends.0, ascends_last es key value ascends.1 below.1)
    where
      all_last : (rest : List (K × V)) → AllByRecursion (λ k. cmp e.0 k ≡ Less) (keys rest) → AllByRecursion (λ k. cmp e.0 k ≡ Less) (keys (rest ++ (key, value) ∷ []))
      all_last [] all = (below.0, tt)
      all_last (r ∷ rs) all = (all.0, all_last rs all.1)

module _ {K V : Type 0} (cmp : K → K → Ordering) (total : IsTotalOrder cmp) where
  pub below_last : (es : List (K × V)) (key next : K) (value : V) → AllBelow cmp key es → cmp key next ≡ Less → AllBelow cmp next (es ++ (key, value) ∷ [])
  below_last [] key next value below less = (less, tt)
  below_last (e ∷ es) key next value below less = (total.trans e.0 key next below.0 less, below_last es key next value below.1 less)
