-- Where a key stands among entries, or would stand.
use Rattle.std.specs.Prelude.{◌≡◌, ◌<◌, ◌≤◌, ℕ, List, length, slice_index_or}
use Rattle.std.specs.declared.cmp.Ordering.TheVariants.{Less, Equal, Greater}
use Rattle.lf_sorted.specs.declared.map.Entry.{Entry}
use Rattle.lf_sorted.specs.Entries.{text_cmp}

-- the entry at the place has the key
pub record IsAt {T : Type 0} (entries : List (Entry T)) (key : List ℕ) (place : ℕ) : Type 0 where
  pub in_range : place < length entries
  pub has_key : (d : Entry T) → text_cmp (slice_index_or entries place d).key key ≡ Equal

-- the key would go at the place: lower keys before it, and greater keys from it on
pub record IsGapFor {T : Type 0} (entries : List (Entry T)) (key : List ℕ) (place : ℕ) : Type 0 where
  pub in_range : place ≤ length entries
  pub lower_before : (j : ℕ) (d : Entry T) → j < place → text_cmp (slice_index_or entries j d).key key ≡ Less
  pub greater_after : (j : ℕ) (d : Entry T) → place ≤ j → j < length entries → text_cmp (slice_index_or entries j d).key key ≡ Greater
