use Rattle.std.proofs.Common.{◌≡◌, None, drop}
use Rattle.std.specs.List.{fold}
use Rattle.std.specs.Option.{option_copied}
use Rattle.lf_core.specs.Kept.{better_kept}
use Rattle.lf_core.proofs.turns.next_kept.Given as goal

abbrev pub invariant-loop-kept : goal.invariant-loop-kept
invariant-loop-kept l =
    fold (better_kept l.newest) (option_copied l.best) (drop l.kept-index l.frames) ≡ fold (better_kept l.newest) None l.frames
