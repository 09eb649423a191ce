-- The pairs from a key on, level by level.
use Rattle.std.proofs.Common.{◌≡◌, ℕ, zero, suc, List, [], ◌∷◌, ◌++◌, map, take, drop, get_or, refl, sym, ap, ◌∙◌, arith, Bool, true, false, cond}
use Rattle.std.specs.Ordering.{is_lt}
use Rattle.std.specs.Arc.{arc_value}
use Rattle.std.specs.Cmp.{IsTotalOrder}
use Rattle.std.specs.declared.alloc.Global.{Global}
use Rattle.std.specs.declared.sync.Arc.{Arc}
use Rattle.std.specs.declared.cmp.Ordering.{Ordering}
use Rattle.std.specs.declared.cmp.Ordering.TheVariants.{Less}
use Rattle.std.proofs.lemmas.Map.Keys.{sorted_tail}
use Rattle.lf_ptree.specs.declared.page.Page.{Page}
use Rattle.lf_ptree.specs.declared.root.Middle.{Middle}
use Rattle.lf_ptree.specs.Pairs.{keys, Ascends, pairs_from, IsAt, IsGapFor, AllBelow, BeginsAbove}
use Rattle.lf_ptree.specs.Pages.{join, groups, page_pairs, IsGroupFor}
use Rattle.lf_ptree.specs.Roots.{mid_groups, mid_pairs}
use Rattle.lf_ptree.proofs.Ordered.{below_equal}
use Rattle.lf_ptree.proofs.PairsLemmas.{less_at}
use Rattle.lf_ptree.proofs.PagesLemmas.{split-at}

pub map-drop : {X Y : Type 0} (f : X → Y) (n : ℕ) (xs : List X) → map f (drop n xs) ≡ drop n (map f xs)
map-drop f zero xs = refl
map-drop f (suc n) [] = refl
map-drop f (suc n) (x ∷ xs) = map-drop f n xs

module _ {K V : Type 0} (cmp : K → K → Ordering) (total : IsTotalOrder cmp) where
  -- from the key's place on
  pub from_there : (es : List (K × V)) (key : K) (place : ℕ) → Ascends cmp es → IsAt cmp es key place → drop place es ≡ pairs_from cmp key es
  from_there [] key place ascends at = absurd (omega (arith, at.in_range))
  from_there (e ∷ es) key zero ascends at = rw (at.has_key e) refl
  from_there (e ∷ es) key (suc place) ascends at =
      let lower = less_at cmp total (e ∷ es) ascends 0 (suc place) e (omega arith) at.in_range in
      let below : cmp e.0 key ≡ Less = below_equal cmp total e.0 _ key lower (at.has_key e) in
      rw below (from_there es key place (sorted_tail cmp e.0 (keys es) ascends) (record { in_range = omega (arith, at.in_range); has_key = at.has_key }))

module _ {K V : Type 0} (cmp : K → K → Ordering) where
  begins_here : (key : K) (rest : List (K × V)) → BeginsAbove cmp key rest → pairs_from cmp key rest ≡ rest
  begins_here key [] above = refl
  begins_here key (e ∷ es) above = rw above refl

  -- from the gap on
  pub from_in_gap : (es : List (K × V)) (key : K) (place : ℕ) → IsGapFor cmp es key place → drop place es ≡ pairs_from cmp key es
  from_in_gap [] key zero gap = refl
  from_in_gap [] key (suc place) gap = refl
  from_in_gap (e ∷ es) key zero gap = sym (begins_here key (e ∷ es) (gap.greater_after 0 e (omega arith) (omega arith)))
  from_in_gap (e ∷ es) key (suc place) gap =
      rw (gap.lower_before 0 e (omega arith)) (from_in_gap es key place (record {
        in_range = omega (arith, gap.in_range);
        lower_before = λ j d lt. gap.lower_before (suc j) d (omega arith);
        greater_after = λ j d le lt. gap.greater_after (suc j) d (omega arith) (omega arith);
      }))

  from-after_below : (key : K) (before rest : List (K × V)) → AllBelow cmp key before → pairs_from cmp key (before ++ rest) ≡ pairs_from cmp key rest
  from-after_below key [] rest below = refl
  from-after_below key (e ∷ es) rest below = rw below.0 (from-after_below key es rest below.1)

  chosen : (b : Bool) (xs ys rest : List (K × V)) → cond b (xs ++ rest) (ys ++ rest) ≡ cond b xs ys ++ rest
  chosen true xs ys rest = refl
  chosen false xs ys rest = refl

  from-before_above : (key : K) (here rest : List (K × V)) → BeginsAbove cmp key rest → pairs_from cmp key (here ++ rest) ≡ pairs_from cmp key here ++ rest
  from-before_above key [] rest above = begins_here key rest above
  from-before_above key (e ∷ es) rest above =
      ap (λ l. cond (is_lt (cmp e.0 key)) l (e ∷ (es ++ rest))) (from-before_above key es rest above)
      ∙ chosen (is_lt (cmp e.0 key)) (pairs_from cmp key es) (e ∷ es) rest

  -- the pairs from a key on are those of its group, and the groups behind it
  pub from-joined : (key : K) (gs : List (List (K × V))) (n : ℕ) (d : List (K × V)) → IsGroupFor cmp gs key n
      → pairs_from cmp key (get_or gs n d) ++ join (drop (suc n) gs) ≡ pairs_from cmp key (join gs)
  from-joined key gs n d at =
      sym (
      ap (pairs_from cmp key) (split-at gs n d at.in_range)
      ∙ from-after_below key (join (take n gs)) (get_or gs n d ++ join (drop (suc n) gs)) at.below
      ∙ from-before_above key (get_or gs n d) (join (drop (suc n) gs)) at.above
      )

module _ {K V : Type 0} where
  pub groups-drop : (n : ℕ) (pages : List (Arc (Page K V) Global)) → groups (drop n pages) ≡ drop n (groups pages)
  groups-drop n pages = ap (map page_pairs) (map-drop arc_value n pages) ∙ map-drop page_pairs n (map arc_value pages)

  pub mids-drop : (n : ℕ) (ms : List (Arc (Middle K V) Global)) → mid_groups (drop n ms) ≡ drop n (mid_groups ms)
  mids-drop n ms = ap (map mid_pairs) (map-drop arc_value n ms) ∙ map-drop mid_pairs n (map arc_value ms)
