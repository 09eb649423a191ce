use Rattle.std.proofs.Common.{◌≡◌, ◌+◌, drop}
use Rattle.std.specs.List.{prefix_len}
use Rattle.def_patch_texts.specs.Characters.{is_string_char}
use Rattle.lf_nquads.proofs.cursor.raw_string_len.Given as goal

abbrev pub invariant-loop-place : goal.invariant-loop-place
invariant-loop-place l = l.place + prefix_len is_string_char (drop l.place l.bytes) ≡ prefix_len is_string_char l.bytes
