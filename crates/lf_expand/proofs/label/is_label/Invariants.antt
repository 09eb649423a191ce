use Rattle.std.proofs.Common.{◌≡◌, IsUtf8, false}
use Rattle.std.specs.Str.{chars}
use Rattle.std.specs.Str.Iter.{chars_rest}
use Rattle.lf_expand.proofs.Labels.{label_from}
use Rattle.lf_expand.proofs.label.is_label.Given as goal

abbrev pub invariant-loop-c : goal.invariant-loop-c
invariant-loop-c l =
    IsUtf8 (chars_rest l.c-iterator) × (label_from l.begun l.ends (chars (chars_rest l.c-iterator)) ≡ label_from false false (chars l.text))
