use Rattle.std.proofs.Common.{sym, subst, ◌∙◌}
use Rattle.lf_sorted.specs.Entries.{Ascends}
use Rattle.lf_sorted.proofs.EntriesLemmas.{put_there, put_in_gap, ascends_put}
use Rattle.lf_sorted.proofs.map.MapOf.put.Goals as goal

-- the key was there, and its entry is written over
pub invariant_of-self : goal.invariant_of-self
invariant_of-self g c =
    let there = rw (c.as_slice.ensures.value, c.as_str.ensures) at c.in-Ok.ensures.found in
    subst Ascends (sym (put_there _ _ c.args.value _ c.self.invariant there)) (ascends_put _ _ _ c.self.invariant)

pub returns-in-Ok-clause-ok : goal.returns-in-Ok-clause-ok
returns-in-Ok-clause-ok g c =
    let there = rw (c.as_slice.ensures.value, c.as_str.ensures) at c.in-Ok.ensures.found in
    rw (← c.self.view_is) (put_there _ _ c.args.value _ c.self.invariant there)

-- the entry is put in the gap
pub invariant_of-self-in-Err : goal.invariant_of-self-in-Err
invariant_of-self-in-Err g c =
    let gap = rw (c.as_slice.ensures.value, c.as_str.ensures) at c.in-Err.ensures.absent in
    rw (c.in_ok-insert-in-Err.ensures.items, put_in_gap _ _ c.args.value _ gap) (ascends_put _ _ _ c.self.invariant)

pub returns-in_ok-insert-in-Err-clause-ok : goal.returns-in_ok-insert-in-Err-clause-ok
returns-in_ok-insert-in-Err-clause-ok g c =
    let gap = rw (c.as_slice.ensures.value, c.as_str.ensures) at c.in-Err.ensures.absent in
    rw (← c.self.view_is) (c.in_ok-insert-in-Err.ensures.items ∙ put_in_gap _ _ c.args.value _ gap)
