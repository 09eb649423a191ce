use Rattle.std.proofs.Common.{◌≡◌, ◌+◌, drop}
use Rattle.std.specs.List.{prefix_len}
use Rattle.def_patch_texts.specs.Characters.{is_iri_char}
use Rattle.lf_nquads.proofs.cursor.raw_iri_len.Given as goal

abbrev pub invariant-loop-place : goal.invariant-loop-place
invariant-loop-place l = l.place + prefix_len is_iri_char (drop l.place l.bytes) ≡ prefix_len is_iri_char l.bytes
