-- The number under a label.
use Rattle.std.specs.Prelude.{List, ℕ, unwrap_or}
use Rattle.std.specs.Ordering.{nat_cmp}
use Rattle.std.specs.Cmp.Lexicographic.{slice_cmp}
use Rattle.std.specs.BTreeMap.{get}
use Rattle.lf_tidy.specs.declared.counts.Counts.{Counts}

-- how often a label is counted; none is 0
abbrev pub count_in : Counts → List ℕ → ℕ
count_in counts label = unwrap_or (get (slice_cmp nat_cmp) counts.numbers label) 0
