-- Pairs in order of their keys.
use Rattle.std.specs.Prelude.{◌≡◌, ◌<◌, ◌≤◌, ℕ, List, [], ◌∷◌, map, length, Option, Some, None, slice_index_or, ⊤, if◌then◌else◌, take_while}
use Rattle.std.specs.Arc.{arc_value}
use Rattle.std.specs.declared.alloc.Global.{Global}
use Rattle.std.specs.declared.cmp.Ordering.{Ordering}
use Rattle.std.specs.declared.cmp.Ordering.TheVariants.{Less, Equal, Greater}
use Rattle.std.specs.declared.sync.Arc.{Arc}
use Rattle.std.specs.List.{AllByRecursion}
use Rattle.std.specs.List.Sorted.{IsStrictlySortedBy}
use Rattle.std.specs.Ordering.{match_ordering, is_eq, is_lt}

-- the pairs behind handles
abbrev pub pairs_of : {P : Type 0} → List (Arc P Global) → List P
pairs_of = map arc_value

module _ {K V : Type 0} where
  abbrev pub keys : List (K × V) → List K
  keys = map (λ e. e.0)

  module _ (cmp : K → K → Ordering) where
    -- each key is below all later keys
    abbrev pub Ascends : List (K × V) → Type 0
    Ascends pairs = IsStrictlySortedBy cmp (keys pairs)

    -- how a pair's key stands to a key
    abbrev pub key_order : K → K × V → Ordering
    key_order key pair = cmp pair.0 key

    -- the pairs with this one: in the place of an older one of its key, or before the first greater
    -- key
    abbrev pub put_pair : K → V → List (K × V) → List (K × V)
    put_pair key value [] = (key, value) ∷ []
    put_pair key value (first ∷ rest) =
        match_ordering (cmp first.0 key) (first ∷ put_pair key value rest) ((key, value) ∷ rest)
        ((key, value) ∷ first ∷ rest)

    -- the value at a key
    abbrev pub value_at : K → List (K × V) → Option V
    value_at key [] = None
    value_at key (first ∷ rest) =
        if is_eq (cmp first.0 key) then Some first.1 else value_at key rest

    -- the pairs without that of the key
    abbrev pub without_key : K → List (K × V) → List (K × V)
    without_key key [] = []
    without_key key (first ∷ rest) =
        match_ordering (cmp first.0 key) (first ∷ without_key key rest) rest (first ∷ rest)

    -- the pairs from the first one on whose key isn't below the key
    abbrev pub pairs_from : K → List (K × V) → List (K × V)
    pairs_from low [] = []
    pairs_from low (first ∷ rest) =
        if is_lt (cmp first.0 low) then pairs_from low rest else first ∷ rest

    -- the pairs up to the first one whose key isn't below the key
    abbrev pub pairs_below : K → List (K × V) → List (K × V)
    pairs_below high = take_while (λ e. is_lt (cmp e.0 high))

    -- the pair at the place has the key
    pub record IsAt (pairs : List (K × V)) (key : K) (place : ℕ) : Type 0 where
      pub in_range : place < length pairs
      pub has_key : (d : K × V) → key_order key (slice_index_or pairs place d) ≡ Equal

    -- the key would go at the place: lower keys before it, and greater keys from it on
    pub record IsGapFor (pairs : List (K × V)) (key : K) (place : ℕ) : Type 0 where
      pub in_range : place ≤ length pairs
      pub lower_before :
          (j : ℕ) (d : K × V) → j < place → key_order key (slice_index_or pairs j d) ≡ Less
      pub greater_after :
          (j : ℕ) (d : K × V) → place ≤ j → j < length pairs →
          key_order key (slice_index_or pairs j d) ≡ Greater

    -- every key is below the key
    abbrev pub AllBelow : K → List (K × V) → Type 0
    AllBelow key pairs = AllByRecursion (λ e. cmp e.0 key ≡ Less) pairs

    -- the first pair, if there is one, is above the key
    abbrev pub BeginsAbove : K → List (K × V) → Type 0
    BeginsAbove key [] = ⊤
    BeginsAbove key (first ∷ rest) = cmp first.0 key ≡ Greater
