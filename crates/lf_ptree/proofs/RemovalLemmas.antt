-- Pairs that are taken out, level by level.
use Rattle.std.proofs.Common.{◌≡◌, ℕ, zero, suc, ◌<◌, List, [], ◌∷◌, ◌++◌, map, length, take, drop, get_or, refl, sym, ap, subst, ◌∙◌, arith, append_assoc}
use Rattle.std.specs.List.{remove, AllByRecursion}
use Rattle.std.specs.List.Sorted.{IsStrictlySortedBy}
use Rattle.std.specs.Ordering.{match_ordering}
use Rattle.std.specs.Arc.{arc_value}
use Rattle.std.specs.Cmp.{IsTotalOrder}
use Rattle.std.specs.declared.alloc.Global.{Global}
use Rattle.std.specs.declared.sync.Arc.{Arc}
use Rattle.std.specs.declared.cmp.Ordering.{Ordering}
use Rattle.std.specs.declared.cmp.Ordering.TheVariants.{Less, Equal, Greater}
use Rattle.std.proofs.lemmas.Map.Keys.{sorted_tail}
use Rattle.lf_ptree.specs.declared.page.Page.{Page}
use Rattle.lf_ptree.specs.declared.root.Middle.{Middle}
use Rattle.lf_ptree.specs.Pairs.{keys, Ascends, without_key, IsAt, IsGapFor, AllBelow, BeginsAbove}
use Rattle.lf_ptree.specs.Pages.{join, groups, page_pairs, IsGroupFor, IsRebuilt}
use Rattle.lf_ptree.specs.Roots.{mid_groups, mid_pairs, AllFull, HasFullPages}
use Rattle.lf_ptree.proofs.Ordered.{below_equal}
use Rattle.lf_ptree.proofs.PairsLemmas.{less_at, appended}
use Rattle.lf_ptree.proofs.PagesLemmas.{split-at}

pub map-remove : {X Y : Type 0} (f : X → Y) (xs : List X) (i : ℕ) → map f (remove xs i) ≡ remove (map f xs) i
map-remove f [] zero = refl
map-remove f [] (suc i) = refl
map-remove f (y ∷ ys) zero = refl
map-remove f (y ∷ ys) (suc i) = ap (λ l. f y ∷ l) (map-remove f ys i)

all_remove : {P : Type 0} (Q : P → Type 0) (xs : List P) (n : ℕ) → AllByRecursion Q xs → AllByRecursion Q (remove xs n)
all_remove Q [] zero all = tt
all_remove Q [] (suc n) all = tt
all_remove Q (y ∷ ys) zero all = all.1
all_remove Q (y ∷ ys) (suc n) all = (all.0, all_remove Q ys n all.1)

module _ {K V : Type 0} (cmp : K → K → Ordering) (total : IsTotalOrder cmp) where
  -- the pair at the key's place is taken out
  pub without_there : (es : List (K × V)) (key : K) (place : ℕ) → Ascends cmp es → IsAt cmp es key place → remove es place ≡ without_key cmp key es
  without_there [] key place ascends at = absurd (omega (arith, at.in_range))
  without_there (e ∷ es) key zero ascends at = rw (at.has_key e) refl
  without_there (e ∷ es) key (suc place) ascends at =
      let lower = less_at cmp total (e ∷ es) ascends 0 (suc place) e (omega arith) at.in_range in
      let below : cmp e.0 key ≡ Less = below_equal cmp total e.0 _ key lower (at.has_key e) in
      rw below (ap (λ rest. e ∷ rest) (without_there es key place (sorted_tail cmp e.0 (keys es) ascends) (record { in_range = omega (arith, at.in_range); has_key = at.has_key })))

module _ {K V : Type 0} (cmp : K → K → Ordering) where
  -- where the key has a gap, nothing is taken out
  pub without_in_gap : (es : List (K × V)) (key : K) (place : ℕ) → IsGapFor cmp es key place → es ≡ without_key cmp key es
  without_in_gap [] key place gap = refl
  without_in_gap (e ∷ es) key zero gap = rw (gap.greater_after 0 e (omega arith) (omega arith)) refl
  without_in_gap (e ∷ es) key (suc place) gap =
      rw (gap.lower_before 0 e (omega arith)) (ap (λ rest. e ∷ rest) (without_in_gap es key place (record {
        in_range = omega (arith, gap.in_range);
        lower_before = λ j d lt. gap.lower_before (suc j) d (omega arith);
        greater_after = λ j d le lt. gap.greater_after (suc j) d (omega arith) (omega arith);
      })))

  all_without : (P : K → Type 0) (key : K) (es : List (K × V)) → AllByRecursion P (keys es) → AllByRecursion P (keys (without_key cmp key es))
  all_without P key [] all = tt
  all_without P key (e ∷ es) all = go (all_without P key es all.1) (cmp e.0 key)
    where
      go : AllByRecursion P (keys (without_key cmp key es)) → (r : Ordering) → AllByRecursion P (keys (match_ordering r (e ∷ without_key cmp key es) es (e ∷ es)))
      go later Less = (all.0, later)
      go later Equal = all.1
      go later Greater = all

  pub ascends_without : (key : K) (es : List (K × V)) → Ascends cmp es → Ascends cmp (without_key cmp key es)
  unfolding IsStrictlySortedBy
  ascends_without key [] ascends = tt
  ascends_without key (e ∷ es) ascends = go (ascends_without key es ascends.1) (cmp e.0 key)
    where
      go : Ascends cmp (without_key cmp key es) → (r : Ordering) → Ascends cmp (match_ordering r (e ∷ without_key cmp key es) es (e ∷ es))
      go rest Less = (all_without (λ k. cmp e.0 k ≡ Less) key es ascends.0, rest)
      go rest Equal = ascends.1
      go rest Greater = ascends

  without-after_below : (key : K) (before rest : List (K × V)) → AllBelow cmp key before → without_key cmp key (before ++ rest) ≡ before ++ without_key cmp key rest
  without-after_below key [] rest below = refl
  without-after_below key (e ∷ es) rest below = rw below.0 (ap (λ l. e ∷ l) (without-after_below key es rest below.1))

  stays : (key : K) (rest : List (K × V)) → BeginsAbove cmp key rest → without_key cmp key rest ≡ rest
  stays key [] above = refl
  stays key (e ∷ es) above = rw above refl

  without-before_above : (key : K) (here rest : List (K × V)) → BeginsAbove cmp key rest → without_key cmp key (here ++ rest) ≡ without_key cmp key here ++ rest
  without-before_above key [] rest above = stays key rest above
  without-before_above key (e ∷ es) rest above =
      ap (λ l. match_ordering (cmp e.0 key) (e ∷ l) (es ++ rest) (e ∷ (es ++ rest))) (without-before_above key es rest above)
      ∙ appended cmp (cmp e.0 key) (e ∷ without_key cmp key es) es (e ∷ es) rest

  -- what is taken out is taken out of the group in which the key stands or would stand
  pub without-joined : (key : K) (gs : List (List (K × V))) (n : ℕ) (d : List (K × V)) → IsGroupFor cmp gs key n
      → join (take n gs) ++ (without_key cmp key (get_or gs n d) ++ join (drop (suc n) gs)) ≡ without_key cmp key (join gs)
  without-joined key gs n d at =
      sym (
      ap (without_key cmp key) (split-at gs n d at.in_range)
      ∙ without-after_below key (join (take n gs)) (get_or gs n d ++ join (drop (suc n) gs)) at.below
      ∙ ap (λ l. join (take n gs) ++ l) (without-before_above key (get_or gs n d) (join (drop (suc n) gs)) at.above)
      )

-- ---- groups without one

removed-rebuilt : {P : Type 0} (gs : List (List P)) (n : ℕ) → n < length gs → IsRebuilt gs n [] (remove gs n)
removed-rebuilt [] n within = absurd (omega arith)
removed-rebuilt (h ∷ gs) zero within = record { joined = refl; no_empty = λ all. all.1 }
removed-rebuilt (h ∷ gs) (suc n) within =
    let rest = removed-rebuilt gs n (omega arith) in
    record {
      joined = ap (λ l. h ++ l) rest.joined ∙ sym (append_assoc h (join (take n gs)) (join (drop (suc n) gs)));
      no_empty = λ all. (all.0, rest.no_empty all.1);
    }

pub gone-rebuilt : {P : Type 0} (gs : List (List P)) (n : ℕ) (g : List P) → n < length gs → g ≡ [] → IsRebuilt gs n g (remove gs n)
gone-rebuilt gs n g within none = subst (λ l. IsRebuilt gs n l (remove gs n)) (sym none) (removed-rebuilt gs n within)

module _ {K V : Type 0} where
  pub pages_remove : (pages made : List (Arc (Page K V) Global)) (n : ℕ) → map arc_value made ≡ remove (map arc_value pages) n → groups made ≡ remove (groups pages) n
  pages_remove pages made n e = ap (map page_pairs) e ∙ map-remove page_pairs (map arc_value pages) n

  pub mids_remove : (ms made : List (Arc (Middle K V) Global)) (n : ℕ) → map arc_value made ≡ remove (map arc_value ms) n → mid_groups made ≡ remove (mid_groups ms) n
  mids_remove ms made n e = ap (map mid_pairs) e ∙ map-remove mid_pairs (map arc_value ms) n

  pub full_remove : (ms made : List (Arc (Middle K V) Global)) (n : ℕ) → map arc_value made ≡ remove (map arc_value ms) n → AllFull ms → AllFull made
  full_remove ms made n e full = subst (AllByRecursion (λ x. HasFullPages x.pages.items)) (sym e) (all_remove (λ x. HasFullPages x.pages.items) (map arc_value ms) n full)
