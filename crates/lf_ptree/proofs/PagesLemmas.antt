-- Where a key stands among groups of pairs, and groups written anew.
use Rattle.std.proofs.Common.{◌≡◌, ℕ, zero, suc, ◌<◌, ◌≤◌, List, [], ◌∷◌, ◌++◌, map, length, take, drop, get_or, set, Some, None, Result, Ok, Err, refl, sym, ap, subst, ◌∙◌, inl, inr, arith, append_assoc, ◌-◌, cond, Bool, true}
use Rattle.std.specs.List.{insert, AllByRecursion, take_while}
use Rattle.std.specs.List.Sorted.{IsStrictlySortedBy, IsSearchInRange, IsBinarySearchResult, IsNonDecreasingBy}
use Rattle.std.specs.Ordering.{ordering_index, match_ordering, is_eq}
use Rattle.std.specs.Arc.{arc_value}
use Rattle.std.specs.declared.alloc.Global.{Global}
use Rattle.std.specs.declared.sync.Arc.{Arc}
use Rattle.std.specs.declared.cmp.Ordering.{Ordering}
use Rattle.std.specs.declared.cmp.Ordering.TheVariants.{Less, Equal, Greater}
use Rattle.std.specs.Cmp.{IsTotalOrder}
use Rattle.std.proofs.lemmas.Bool.{cases_lt}
use Rattle.std.proofs.lemmas.List.{map-append, map-set, append-nil}
use Rattle.std.proofs.lemmas.List.Sums.{take_while-cons}
use Rattle.std.proofs.Math.ListN.{length-map, get_or-map}
use Rattle.lf_ptree.specs.Pairs.{keys, pairs_of, Ascends, put_pair, value_at, AllBelow, BeginsAbove}
use Rattle.lf_ptree.specs.Pages.{join, HasPair, IsGrouped, IsGroupFor, head_order, IsRebuilt, groups, page_pairs, with_group}
use Rattle.lf_ptree.specs.declared.page.Page.{Page}
use Rattle.lf_ptree.proofs.Ordered.{reversed, rises, below_equal}
use Rattle.lf_ptree.proofs.PairsLemmas.{at_mapped, put-after_below, put-before_above, map-insert}

-- the place that a search of groups gives
abbrev pub picked : Result ℕ ℕ → ℕ
picked (Ok at) = at
picked (Err zero) = 0
picked (Err (suc at)) = at

pub picked-Err : (at : ℕ) → picked (Err at) ≡ at - 1
picked-Err zero = omega arith
picked-Err (suc at) = omega arith

pub all_front : {P : Type 0} (Q : P → Type 0) (xs ys : List P) → AllByRecursion Q (xs ++ ys) → AllByRecursion Q xs
all_front Q [] ys all = tt
all_front Q (x ∷ xs) ys all = (all.0, all_front Q xs ys all.1)

pub all_back : {P : Type 0} (Q : P → Type 0) (xs ys : List P) → AllByRecursion Q (xs ++ ys) → AllByRecursion Q ys
all_back Q [] ys all = all
all_back Q (x ∷ xs) ys all = all_back Q xs ys all.1

pub all_both : {P : Type 0} (Q : P → Type 0) (xs ys : List P) → AllByRecursion Q xs → AllByRecursion Q ys → AllByRecursion Q (xs ++ ys)
all_both Q [] ys one two = two
all_both Q (x ∷ xs) ys one two = (one.0, all_both Q xs ys one.1 two)

module _ {K V : Type 0} (cmp : K → K → Ordering) where
  all_keys : (Q : K → Type 0) (es : List (K × V)) → AllByRecursion Q (keys es) → AllByRecursion (λ e. Q e.0) es
  all_keys Q [] all = tt
  all_keys Q (e ∷ es) all = (all.0, all_keys Q es all.1)

  ascends_back : (xs ys : List (K × V)) → Ascends cmp (xs ++ ys) → Ascends cmp ys
  unfolding IsStrictlySortedBy
  ascends_back [] ys h = h
  ascends_back (x ∷ xs) ys h = ascends_back xs ys h.1

  first_below : (e : K × V) (es : List (K × V)) → Ascends cmp (e ∷ es) → AllByRecursion (λ y. cmp e.0 y.0 ≡ Less) es
  unfolding IsStrictlySortedBy
  first_below e es h = all_keys (λ k. cmp e.0 k ≡ Less) es h.0

  ascends_next : (e : K × V) (es : List (K × V)) → Ascends cmp (e ∷ es) → Ascends cmp es
  unfolding IsStrictlySortedBy
  ascends_next e es h = h.1

  -- the first pair of the group, which is not empty, is above the key
  abbrev HeadAbove : K → List (K × V) → Type 0
  HeadAbove key [] = ⊥
  HeadAbove key (x ∷ xs) = cmp key x.0 ≡ Less

  head_of_all : (key : K) (g rest : List (K × V)) → HasPair g → AllByRecursion (λ y. cmp key y.0 ≡ Less) (g ++ rest) → HeadAbove key g
  head_of_all key [] rest some all = some
  head_of_all key (x ∷ xs) rest some all = all.0

  -- a key that is below all pairs is below the first of each group
  below_head : (key : K) (gs : List (List (K × V))) (j : ℕ) (d : List (K × V)) → AllByRecursion HasPair gs → AllByRecursion (λ y. cmp key y.0 ≡ Less) (join gs) → j < length gs → HeadAbove key (get_or gs j d)
  below_head key [] j d some all within = absurd (omega arith)
  below_head key (g ∷ gs) zero d some all within = head_of_all key g (join gs) some.0 all
  below_head key (g ∷ gs) (suc j) d some all within = below_head key gs j d some.1 (all_back (λ y. cmp key y.0 ≡ Less) g (join gs) all) (omega arith)

module _ {K V : Type 0} (cmp : K → K → Ordering) (total : IsTotalOrder cmp) where
  -- the comparison of a group's first key with one above it
  head_rises : (e : K × V) (es g : List (K × V)) (key : K) → HeadAbove cmp e.0 g → ordering_index (head_order cmp key (e ∷ es)) ≤ ordering_index (head_order cmp key g)
  head_rises e es [] key above = absurd above
  head_rises e es (x ∷ xs) key above = rises cmp total e.0 x.0 key _ refl above

  heads_rise_by : (gs : List (List (K × V))) (key : K) (i j : ℕ) (d : List (K × V)) → AllByRecursion HasPair gs → Ascends cmp (join gs) → i < j → j < length gs
      → ordering_index (head_order cmp key (get_or gs i d)) ≤ ordering_index (head_order cmp key (get_or gs j d))
  heads_rise_by [] key i j d some asc lt within = absurd (omega arith)
  heads_rise_by ([] ∷ gs) key i j d some asc lt within = absurd some.0
  heads_rise_by ((e ∷ es) ∷ gs) key zero zero d some asc lt within = absurd (omega arith)
  heads_rise_by ((e ∷ es) ∷ gs) key zero (suc j) d some asc lt within =
      head_rises e es (get_or gs j d) key (below_head cmp e.0 gs j d some.1 (all_back (λ y. cmp e.0 y.0 ≡ Less) es (join gs) (first_below cmp e (es ++ join gs) asc)) (omega arith))
  heads_rise_by ((e ∷ es) ∷ gs) key (suc i) zero d some asc lt within = absurd (omega arith)
  heads_rise_by ((e ∷ es) ∷ gs) key (suc i) (suc j) d some asc lt within = heads_rise_by gs key i j d some.1 (ascends_back cmp (e ∷ es) (join gs) asc) (omega arith) (omega arith)

  pub heads_rise : (gs : List (List (K × V))) (key : K) → IsGrouped cmp gs → IsNonDecreasingBy (λ g. ordering_index (head_order cmp key g)) gs
  heads_rise gs key h i j d le within =
      elim (cases_lt i j) [
        | inl lt ↦ heads_rise_by gs key i j d h.no_empty h.ascends lt within
        | inr least ↦ let same : i ≡ j = omega arith in rw same (omega arith)
      ]

  -- a key below a first key that is not above the key is below the key
  under : (k key : K) (g : List (K × V)) (r : Ordering) → head_order cmp key g ≡ r → ordering_index r ≤ 1 → HeadAbove cmp k g → cmp k key ≡ Less
  under k key [] r e le above = absurd above
  under k key (x ∷ xs) Less e le above = total.trans k x.0 key above e
  under k key (x ∷ xs) Equal e le above = below_equal cmp total k x.0 key above e
  under k key (x ∷ xs) Greater e le above = absurd (omega arith)

  -- the pairs before a first key that is not above the key are below it
  group_below : (g : List (K × V)) (gs : List (List (K × V))) (key : K) (n : ℕ) (d : List (K × V)) → AllByRecursion HasPair gs → Ascends cmp (g ++ join gs) → n < length gs
      → ordering_index (head_order cmp key (get_or gs n d)) ≤ 1 → AllBelow cmp key g
  group_below [] gs key n d some asc within le = tt
  group_below (e ∷ es) gs key n d some asc within le = (
    under e.0 key (get_or gs n d) _ refl le (below_head cmp e.0 gs n d some (all_back (λ y. cmp e.0 y.0 ≡ Less) es (join gs) (first_below cmp e (es ++ join gs) asc)) within),
    group_below es gs key n d some (ascends_next cmp e (es ++ join gs) asc) within le,
  )

  pub groups_below : (gs : List (List (K × V))) (key : K) (n : ℕ) (d : List (K × V)) → AllByRecursion HasPair gs → Ascends cmp (join gs) → n < length gs → ordering_index (head_order cmp key (get_or gs n d)) ≤ 1
      → AllBelow cmp key (join (take n gs))
  groups_below [] key n d some asc within le = absurd (omega arith)
  groups_below (g ∷ gs) key zero d some asc within le = tt
  groups_below (g ∷ gs) key (suc n) d some asc within le =
      all_both (λ e. cmp e.0 key ≡ Less) g (join (take n gs))
      (group_below g gs key n d some.1 asc (omega arith) le)
      (groups_below gs key n d some.1 (ascends_back cmp g (join gs) asc) (omega arith) le)

  head_greater : (g rest : List (K × V)) (key : K) → HasPair g → head_order cmp key g ≡ Greater → BeginsAbove cmp key (g ++ rest)
  head_greater [] rest key some e = absurd some
  head_greater (x ∷ xs) rest key some e = e

  pub groups_above : (gs : List (List (K × V))) (key : K) (n : ℕ) → AllByRecursion HasPair gs → ((d : List (K × V)) → n < length gs → head_order cmp key (get_or gs n d) ≡ Greater) → BeginsAbove cmp key (join (drop n gs))
  groups_above [] key zero some h = tt
  groups_above [] key (suc n) some h = tt
  groups_above (g ∷ gs) key zero some h = head_greater g (join gs) key some.0 (h [] (omega arith))
  groups_above (g ∷ gs) key (suc n) some h = groups_above gs key n some.1 (λ d lt. h d (omega arith))

  -- the head behind one that is equal to the key is above it
  above_equal : (g : List (K × V)) (x : K × V) (key : K) → cmp x.0 key ≡ Equal → HeadAbove cmp x.0 g → head_order cmp key g ≡ Greater
  above_equal [] x key e above = absurd above
  above_equal (y ∷ ys) x key e above = reversed cmp total key y.0 Less (sym (total.congr x.0 key y.0 e) ∙ above)

  next_above : (gs : List (List (K × V))) (key : K) (n : ℕ) (d : List (K × V)) → AllByRecursion HasPair gs → Ascends cmp (join gs) → head_order cmp key (get_or gs n d) ≡ Equal → suc n < length gs
      → head_order cmp key (get_or gs (suc n) d) ≡ Greater
  next_above [] key n d some asc e within = absurd (omega arith)
  next_above ([] ∷ gs) key n d some asc e within = absurd some.0
  next_above ((x ∷ xs) ∷ gs) key zero d some asc e within =
      above_equal (get_or gs 0 d) x key e (below_head cmp x.0 gs 0 d some.1 (all_back (λ y. cmp x.0 y.0 ≡ Less) xs (join gs) (first_below cmp x (xs ++ join gs) asc)) (omega arith))
  next_above ((x ∷ xs) ∷ gs) key (suc n) d some asc e within = next_above gs key n d some.1 (ascends_back cmp (x ∷ xs) (join gs) asc) e (omega arith)

  -- the group that a binary search picks
  pub group_picked : {X : Type 0} (f : X → List (K × V)) (xs : List X) (key : K) → IsGrouped cmp (map f xs) → 0 < length xs → (r : Result ℕ ℕ) → IsSearchInRange r (length xs)
      → IsBinarySearchResult (λ x. head_order cmp key (f x)) xs r → IsGroupFor cmp (map f xs) key (picked r)
  group_picked f xs key h some (Ok at) within equal =
      let gs = map f xs in
      let is : (d : List (K × V)) → head_order cmp key (get_or gs at d) ≡ Equal = λ d. at_mapped f (λ g. head_order cmp key g ≡ Equal) xs at d within equal in
      record {
        in_range = rw length-map within;
        below = groups_below gs key at [] h.no_empty h.ascends (rw length-map within) (rw (is []) (omega arith));
        above = groups_above gs key (suc at) h.no_empty (λ d lt. next_above gs key at d h.no_empty h.ascends (is d) lt);
      }
  group_picked f xs key h some (Err zero) within parted =
      let gs = map f xs in
      let parts = parted (λ i j d le inside. rw (get_or-map f xs i d, get_or-map f xs j d) at (heads_rise gs key h i j (f d) le (rw length-map inside))) in
      record {
        in_range = rw length-map some;
        below = tt;
        above = groups_above gs key 1 h.no_empty (λ d lt. let inside : 1 < length xs = rw length-map at lt in at_mapped f (λ g. head_order cmp key g ≡ Greater) xs 1 d inside (λ x. parts.1 1 x (omega arith) inside));
      }
  group_picked f xs key h some (Err (suc n)) within parted =
      let gs = map f xs in
      let parts = parted (λ i j d le inside. rw (get_or-map f xs i d, get_or-map f xs j d) at (heads_rise gs key h i j (f d) le (rw length-map inside))) in
      let inside : n < length xs = omega arith in
      let less : head_order cmp key (get_or gs n []) ≡ Less = at_mapped f (λ g. head_order cmp key g ≡ Less) xs n [] inside (λ x. parts.0 n x (omega arith) (omega arith)) in
      record {
        in_range = rw length-map inside;
        below = groups_below gs key n [] h.no_empty h.ascends (rw length-map inside) (rw less (omega arith));
        above = groups_above gs key (suc n) h.no_empty (λ d lt. let more : suc n < length xs = rw length-map at lt in at_mapped f (λ g. head_order cmp key g ≡ Greater) xs (suc n) d more (λ x. parts.1 (suc n) x (omega arith) more));
      }

-- ---- groups written anew

pub split-at : {P : Type 0} (gs : List (List P)) (n : ℕ) (d : List P) → n < length gs → join gs ≡ join (take n gs) ++ (get_or gs n d ++ join (drop (suc n) gs))
split-at [] n d within = absurd (omega arith)
split-at (g ∷ gs) zero d within = refl
split-at (g ∷ gs) (suc n) d within = ap (λ l. g ++ l) (split-at gs n d (omega arith)) ∙ sym (append_assoc g (join (take n gs)) (get_or gs n d ++ join (drop (suc n) gs)))

pub set-rebuilt : {P : Type 0} (gs : List (List P)) (n : ℕ) (g : List P) → n < length gs → HasPair g → IsRebuilt gs n g (set gs n g)
set-rebuilt [] n g within some = absurd (omega arith)
set-rebuilt (h ∷ gs) zero g within some = record { joined = refl; no_empty = λ all. (some, all.1) }
set-rebuilt (h ∷ gs) (suc n) g within some =
    let rest = set-rebuilt gs n g (omega arith) some in
    record {
      joined = ap (λ l. h ++ l) rest.joined ∙ sym (append_assoc h (join (take n gs)) (g ++ join (drop (suc n) gs)));
      no_empty = λ all. (all.0, rest.no_empty all.1);
    }

pub halves-rebuilt : {P : Type 0} (gs : List (List P)) (n : ℕ) (g lower upper : List P) → n < length gs → HasPair lower → HasPair upper → g ≡ lower ++ upper → IsRebuilt gs n g (insert (set gs n lower) (suc n) upper)
halves-rebuilt [] n g lower upper within low up whole = absurd (omega arith)
halves-rebuilt (h ∷ gs) zero g lower upper within low up whole =
    record { joined = sym (append_assoc lower upper (join gs)) ∙ ap (λ l. l ++ join gs) (sym whole); no_empty = λ all. (low, (up, all.1)) }
halves-rebuilt (h ∷ gs) (suc n) g lower upper within low up whole =
    let rest = halves-rebuilt gs n g lower upper (omega arith) low up whole in
    record {
      joined = ap (λ l. h ++ l) rest.joined ∙ sym (append_assoc h (join (take n gs)) (g ++ join (drop (suc n) gs)));
      no_empty = λ all. (all.0, rest.no_empty all.1);
    }

module _ {K V : Type 0} (cmp : K → K → Ordering) where
  pub has_pair-put : (key : K) (value : V) (es : List (K × V)) → HasPair (put_pair cmp key value es)
  has_pair-put key value [] = tt
  has_pair-put key value (e ∷ es) = go (cmp e.0 key)
    where
      go : (o : Ordering) → HasPair (match_ordering o (e ∷ put_pair cmp key value es) ((key, value) ∷ es) ((key, value) ∷ e ∷ es))
      go Less = tt
      go Equal = tt
      go Greater = tt

  -- a put is one in the group in which the key stands or would stand
  pub put-joined : (key : K) (value : V) (gs : List (List (K × V))) (n : ℕ) (d : List (K × V)) → IsGroupFor cmp gs key n
      → join (take n gs) ++ (put_pair cmp key value (get_or gs n d) ++ join (drop (suc n) gs)) ≡ put_pair cmp key value (join gs)
  put-joined key value gs n d at =
      sym (
      ap (put_pair cmp key value) (split-at gs n d at.in_range)
      ∙ put-after_below cmp key value (join (take n gs)) (get_or gs n d ++ join (drop (suc n) gs)) at.below
      ∙ ap (λ l. join (take n gs) ++ l) (put-before_above cmp key value (get_or gs n d) (join (drop (suc n) gs)) at.above)
      )

  ascends_front : (xs ys : List (K × V)) → Ascends cmp (xs ++ ys) → Ascends cmp xs
  unfolding IsStrictlySortedBy
  ascends_front [] ys h = tt
  ascends_front (x ∷ xs) ys h = (all_front (λ k. cmp x.0 k ≡ Less) (keys xs) (keys ys) (subst (AllByRecursion (λ k. cmp x.0 k ≡ Less)) (map-append (λ (e : K × V). e.0) xs ys) h.0), ascends_front xs ys h.1)

  pub group_ascends : (gs : List (List (K × V))) (n : ℕ) (d : List (K × V)) → n < length gs → Ascends cmp (join gs) → Ascends cmp (get_or gs n d)
  group_ascends gs n d within asc =
      ascends_front (get_or gs n d) (join (drop (suc n) gs)) (ascends_back cmp (join (take n gs)) (get_or gs n d ++ join (drop (suc n) gs)) (subst (Ascends cmp) (split-at gs n d within) asc))

module _ {K V : Type 0} (cmp : K → K → Ordering) (total : IsTotalOrder cmp) where
  value-after_below : (key : K) (before rest : List (K × V)) → AllBelow cmp key before → value_at cmp key (before ++ rest) ≡ value_at cmp key rest
  value-after_below key [] rest below = refl
  value-after_below key (e ∷ es) rest below = rw below.0 (value-after_below key es rest below.1)

  no_value : (key : K) (rest : List (K × V)) → AllByRecursion (λ e. cmp key e.0 ≡ Less) rest → value_at cmp key rest ≡ None
  no_value key [] all = refl
  no_value key (e ∷ es) all = rw (reversed cmp total key e.0 Less all.0) (no_value key es all.1)

  trans_all : (key k : K) (rest : List (K × V)) → cmp key k ≡ Less → AllByRecursion (λ e. cmp k e.0 ≡ Less) rest → AllByRecursion (λ e. cmp key e.0 ≡ Less) rest
  trans_all key k [] less all = tt
  trans_all key k (e ∷ es) less all = (total.trans key k e.0 less all.0, trans_all key k es less all.1)

  value-above : (key : K) (rest : List (K × V)) → BeginsAbove cmp key rest → Ascends cmp rest → value_at cmp key rest ≡ None
  value-above key [] above asc = refl
  value-above key (e ∷ es) above asc =
      let less : cmp key e.0 ≡ Less = reversed cmp total e.0 key Greater above in
      no_value key (e ∷ es) (less, trans_all key e.0 es less (first_below cmp e es asc))

  value-before : (key : K) (here rest : List (K × V)) → value_at cmp key rest ≡ None → value_at cmp key (here ++ rest) ≡ value_at cmp key here
  value-before key [] rest none = none
  value-before key (e ∷ es) rest none = ap (λ o. cond (is_eq (cmp e.0 key)) (Some e.1) o) (value-before key es rest none)

  -- the value at a key is that in its group
  pub value-joined : (key : K) (gs : List (List (K × V))) (n : ℕ) (d : List (K × V)) → Ascends cmp (join gs) → IsGroupFor cmp gs key n → value_at cmp key (join gs) ≡ value_at cmp key (get_or gs n d)
  value-joined key gs n d asc at =
      let parts = subst (Ascends cmp) (split-at gs n d at.in_range) asc in
      let behind = ascends_back cmp (get_or gs n d) (join (drop (suc n) gs)) (ascends_back cmp (join (take n gs)) (get_or gs n d ++ join (drop (suc n) gs)) parts) in
      ap (value_at cmp key) (split-at gs n d at.in_range)
      ∙ value-after_below key (join (take n gs)) (get_or gs n d ++ join (drop (suc n) gs)) at.below
      ∙ value-before key (get_or gs n d) (join (drop (suc n) gs)) (value-above key (join (drop (suc n) gs)) at.above behind)

-- ---- groups of pages

pub groups_alike : {K V : Type 0} (pages : List (Arc (Page K V) Global)) → map (λ p. page_pairs (arc_value p)) pages ≡ groups pages
groups_alike [] = refl
groups_alike (p ∷ ps) = ap (λ gs. page_pairs (arc_value p) ∷ gs) (groups_alike ps)

pub page_group : {K V : Type 0} (pages : List (Arc (Page K V) Global)) (n : ℕ) (p : Arc (Page K V) Global) (page : Page K V) (items : List (Arc (K × V) Global)) → items ≡ page.pairs.items → page ≡ arc_value p → p ≡ get_or pages n p
    → pairs_of items ≡ get_or (groups pages) n (page_pairs (arc_value p))
page_group pages n p page items of_page of_handle here =
    ap pairs_of of_page ∙ ap page_pairs (of_handle ∙ ap arc_value here ∙ sym (get_or-map arc_value pages n p)) ∙ sym (get_or-map page_pairs (map arc_value pages) n (arc_value p))

pub pages_set : {K V : Type 0} (pages made : List (Arc (Page K V) Global)) (n : ℕ) (page : Page K V) → map arc_value made ≡ set (map arc_value pages) n page → groups made ≡ set (groups pages) n (page_pairs page)
pages_set pages made n page e = ap (map page_pairs) e ∙ map-set page_pairs (map arc_value pages) n page

pub pages_insert : {K V : Type 0} (pages made : List (Arc (Page K V) Global)) (n : ℕ) (page : Page K V) → map arc_value made ≡ insert (map arc_value pages) n page → groups made ≡ insert (groups pages) n (page_pairs page)
pages_insert pages made n page e = ap (map page_pairs) e ∙ map-insert page_pairs (map arc_value pages) n page

pub has_pair-from_length : {P : Type 0} (xs : List P) → 0 < length xs → HasPair xs
has_pair-from_length [] h = absurd (omega arith)
has_pair-from_length (x ∷ xs) h = tt

pub one_group : {K V : Type 0} (cmp : K → K → Ordering) (e : K × V) → IsGrouped cmp ((e ∷ []) ∷ [])
unfolding IsStrictlySortedBy
one_group cmp e = record { no_empty = (tt, tt); ascends = (tt, tt) }

pub no_group : {K V : Type 0} (cmp : K → K → Ordering) → IsGrouped {K = K} {V = V} cmp []
unfolding IsStrictlySortedBy
no_group cmp = record { no_empty = tt; ascends = tt }

pub has_pair-handles : {P : Type 0} (handles : List (Arc P Global)) → 0 < length handles → HasPair (pairs_of handles)
has_pair-handles [] h = absurd (omega arith)
has_pair-handles (x ∷ xs) h = tt

pub take_while-first : {P : Type 0} (p : P → Bool) (x : P) (xs : List P) → p x ≡ true → take_while p (x ∷ xs) ≡ x ∷ take_while p xs
take_while-first p x xs e = take_while-cons p x xs ∙ ap (λ b. cond b (x ∷ take_while p xs) []) e

-- ---- groups that are built from pairs in order

-- the closed groups, the pairs of the open one and those that are left
pub record IsBuilding {P : Type 0} (gs : List (List P)) (open_group left all : List P) : Type 0 where
  pub no_empty : AllByRecursion HasPair gs
  pub whole : join gs ++ (open_group ++ left) ≡ all

join-last : {P : Type 0} (gs : List (List P)) (g : List P) → join (gs ++ g ∷ []) ≡ join gs ++ g
join-last [] g = append-nil g
join-last (h ∷ gs) g = ap (λ l. h ++ l) (join-last gs g) ∙ sym (append_assoc h (join gs) g)

has_pair-last : {P : Type 0} (gs : List (List P)) (g : List P) → AllByRecursion HasPair gs → HasPair g → AllByRecursion HasPair (gs ++ g ∷ [])
has_pair-last gs g all some = all_both HasPair gs (g ∷ []) all (some, tt)

pub building_more : {P : Type 0} (gs : List (List P)) (page left later more all : List P) (x : P) → IsBuilding gs page left all → left ≡ x ∷ later → more ≡ page ++ x ∷ [] → IsBuilding gs more later all
building_more gs page left later more all x h front grown =
    record {
      no_empty = h.no_empty;
      whole = ap (λ p. join gs ++ (p ++ later)) grown ∙ ap (λ l. join gs ++ l) (append_assoc page (x ∷ []) later ∙ ap (λ l. page ++ l) (sym front)) ∙ h.whole;
    }

pub building_closed : {P : Type 0} (gs new : List (List P)) (page left all empty : List P) → IsBuilding gs page left all → HasPair page → new ≡ gs ++ page ∷ [] → empty ≡ [] → IsBuilding new empty left all
building_closed gs new page left all empty h some closed none =
    record {
      no_empty = subst (AllByRecursion HasPair) (sym closed) (has_pair-last gs page h.no_empty some);
      whole = ap (λ p. join new ++ (p ++ left)) none ∙ ap (λ n. join n ++ left) closed ∙ ap (λ l. l ++ left) (join-last gs page) ∙ append_assoc (join gs) page left ∙ h.whole;
    }

pub built_whole : {P : Type 0} (gs : List (List P)) (page left all : List P) → IsBuilding gs page left all → left ≡ [] → join (with_group gs page) ≡ all
built_whole gs [] left all h none = sym (append-nil (join gs)) ∙ ap (λ l. join gs ++ l) (sym none) ∙ h.whole
built_whole gs (e ∷ es) left all h none = join-last gs (e ∷ es) ∙ ap (λ l. join gs ++ l) (sym (append-nil (e ∷ es)) ∙ ap (λ l. (e ∷ es) ++ l) (sym none)) ∙ h.whole

pub built_no_empty : {P : Type 0} (gs : List (List P)) (page left all : List P) → IsBuilding gs page left all → AllByRecursion HasPair (with_group gs page)
built_no_empty gs [] left all h = h.no_empty
built_no_empty gs (e ∷ es) left all h = has_pair-last gs (e ∷ es) h.no_empty tt
