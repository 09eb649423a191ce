-- What an iterator over a map has left.
use Rattle.std.specs.Prelude.{List, ◌++◌}
use Rattle.std.specs.declared.cmp.Ordering.{Ordering}
use Rattle.lf_ptree.specs.declared.range.Pairs.{Pairs}
use Rattle.lf_ptree.specs.declared.range.Range.{Range}
use Rattle.lf_ptree.specs.Pairs.{pairs_of, pairs_below}
use Rattle.lf_ptree.specs.Pages.{flat}
use Rattle.lf_ptree.specs.Roots.{all_pairs}

-- the pairs of the open page, of the other pages of its middle page, and of the other middle pages
abbrev pub pairs_left : {K V : Type 0} → Pairs K V → List (K × V)
pairs_left p = pairs_of p.here.now ++ (flat p.pages.now ++ all_pairs p.middles.now)

-- those of them whose keys are below the end
abbrev pub range_left : {K V : Type 0} → (K → K → Ordering) → Range K V → List (K × V)
range_left cmp r = pairs_below cmp r.high.now (pairs_left r.pairs)
