-- Pages of pages.
use Rattle.std.specs.Prelude.{◌≡◌, List, [], ◌∷◌, ◌++◌, map, Vec}
use Rattle.std.specs.declared.cmp.Ordering.{Ordering}
use Rattle.std.specs.Arc.{arc_value}
use Rattle.std.specs.declared.alloc.Global.{Global}
use Rattle.std.specs.declared.sync.Arc.{Arc}
use Rattle.std.specs.List.{AllByRecursion}
use Rattle.lf_ptree.specs.declared.page.Page.{Page}
use Rattle.lf_ptree.specs.declared.root.Middle.{Middle}
use Rattle.lf_ptree.specs.Pages.{join, flat, groups, HasPair, IsGrouped}

module _ {K V : Type 0} where
  abbrev pub mid_pairs : Middle K V → List (K × V)
  mid_pairs middle = flat middle.pages.items

  -- the pairs of each middle page
  abbrev pub mid_groups : List (Arc (Middle K V) Global) → List (List (K × V))
  mid_groups middles = map mid_pairs (map arc_value middles)

  abbrev pub all_pairs : List (Arc (Middle K V) Global) → List (K × V)
  all_pairs middles = join (mid_groups middles)

  abbrev pub HasFullPages : List (Arc (Page K V) Global) → Type 0
  HasFullPages pages = AllByRecursion HasPair (groups pages)

  -- no page of any middle page is empty
  abbrev pub AllFull : List (Arc (Middle K V) Global) → Type 0
  AllFull middles = AllByRecursion (λ m. HasFullPages m.pages.items) (map arc_value middles)

  -- one middle page with one page with this pair
  pub record IsFirst (middles : List (Arc (Middle K V) Global)) (pair : K × V) : Type 0 where
    pub only : mid_groups middles ≡ (pair ∷ []) ∷ []
    pub full : AllFull middles

  pub record IsRoot (cmp : K → K → Ordering) (middles : List (Arc (Middle K V) Global)) :
      Type 0 where
    pub full : AllFull middles
    pub grouped : IsGrouped cmp (mid_groups middles)

  abbrev pub middle_of : Vec (Arc (Page K V) Global) Global → Middle K V
  middle_of pages = record { pages = pages }

  -- closed middle pages, the pages of the open one and those that are left, of all pages
  pub record IsGathering (closed : List (Arc (Middle K V) Global))
      (gathered left all : List (Arc (Page K V) Global)) : Type 0 where
    pub full : AllFull closed
    pub no_empty : AllByRecursion HasPair (mid_groups closed)
    pub gathered_full : HasFullPages gathered
    pub left_full : HasFullPages left
    pub whole : all_pairs closed ++ (flat gathered ++ flat left) ≡ flat all
