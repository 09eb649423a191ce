use Rattle.std.proofs.Common.{◌≡◌, ◌+◌, drop}
use Rattle.std.specs.List.{prefix_len}
use Rattle.lf_nquads.specs.Patches.{is_inside}
use Rattle.lf_nquads.proofs.patch.line_len.Given as goal

abbrev pub invariant-loop-place : goal.invariant-loop-place
invariant-loop-place l = l.place + prefix_len is_inside (drop l.place l.text) ≡ prefix_len is_inside l.text
