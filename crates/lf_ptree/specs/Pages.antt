-- Pages of pairs.
use Rattle.std.specs.Prelude.{◌≡◌, ◌<◌, ℕ, suc, List, [], ◌∷◌, ◌++◌, map, length, take, drop, ⊤}
use Rattle.std.specs.declared.cmp.Ordering.{Ordering}
use Rattle.std.specs.declared.cmp.Ordering.TheVariants.{Less}
use Rattle.std.specs.Arc.{arc_value}
use Rattle.std.specs.declared.alloc.Global.{Global}
use Rattle.std.specs.declared.sync.Arc.{Arc}
use Rattle.std.specs.List.{AllByRecursion}
use Rattle.lf_ptree.specs.declared.page.Page.{Page}
use Rattle.lf_ptree.specs.Pairs.{pairs_of, Ascends, AllBelow, BeginsAbove}

-- the lists one after another
abbrev pub join : {P : Type 0} → List (List P) → List P
join [] = []
join (g ∷ gs) = g ++ join gs

abbrev pub HasPair : {P : Type 0} → List P → Type 0
HasPair [] = ⊥
HasPair (e ∷ es) = ⊤

module _ {K V : Type 0} where
  abbrev pub page_pairs : Page K V → List (K × V)
  page_pairs page = pairs_of page.pairs.items

  -- the pairs of each page
  abbrev pub groups : List (Arc (Page K V) Global) → List (List (K × V))
  groups pages = map page_pairs (map arc_value pages)

  -- all pairs, page after page
  abbrev pub flat : List (Arc (Page K V) Global) → List (K × V)
  flat pages = join (groups pages)

  module _ (cmp : K → K → Ordering) where
    -- no group is empty, and the pairs are in order
    pub record IsGrouped (gs : List (List (K × V))) : Type 0 where
      pub no_empty : AllByRecursion HasPair gs
      pub ascends : Ascends cmp (join gs)

    abbrev pub IsMap : List (Arc (Page K V) Global) → Type 0
    IsMap pages = IsGrouped (groups pages)

    -- how the first pair of a group stands to a key
    abbrev pub head_order : K → List (K × V) → Ordering
    head_order key [] = Less
    head_order key (e ∷ es) = cmp e.0 key

    -- the group in which the key stands or would stand
    pub record IsGroupFor (gs : List (List (K × V))) (key : K) (place : ℕ) : Type 0 where
      pub in_range : place < length gs
      pub below : AllBelow cmp key (join (take place gs))
      pub above : BeginsAbove cmp key (join (drop (suc place) gs))

-- the groups with the one at the place written anew, as one group or two
pub record IsRebuilt {P : Type 0} (old : List (List P)) (place : ℕ) (pairs : List P)
    (new : List (List P)) : Type 0 where
  pub joined : join new ≡ join (take place old) ++ (pairs ++ join (drop (suc place) old))
  pub no_empty : AllByRecursion HasPair old → AllByRecursion HasPair new

-- the groups and one more, unless that is empty
abbrev pub with_group : {P : Type 0} → List (List P) → List P → List (List P)
with_group gs [] = gs
with_group gs (e ∷ es) = gs ++ (e ∷ es) ∷ []
