use Rattle.std.proofs.Common.{Some, sym, ap}
use Rattle.lf_sorted.proofs.EntriesLemmas.{value_there, value_in_gap}
use Rattle.lf_sorted.proofs.map.MapOf.get.Goals as goal

-- the value at the key's place
pub returns-in-Ok : goal.returns-in-Ok
returns-in-Ok g c =
    let there = rw c.as_slice.ensures.value at c.in-Ok.ensures.found in
    let value = value_there _ _ _ c.index.result.now c.self.invariant there in
    rw (← c.self.view_is, value) (ap (λ e. Some e.value) c.index.ensures)

-- the key is not there
pub returns-in-Err : goal.returns-in-Err
returns-in-Err g c =
    let gap = rw (c.as_slice.ensures.value, c.self.view_is) at c.in-Err.ensures.absent in
    sym (value_in_gap _ _ _ gap)
