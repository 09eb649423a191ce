use Rattle.std.proofs.Common.{◌≡◌, drop}
use Rattle.std.specs.List.{list_all}
use Rattle.def_contexts.specs.Texts.{is_letter}
use Rattle.lf_context.proofs.text.are_letters.Given as goal

abbrev pub invariant-loop-byte : goal.invariant-loop-byte
invariant-loop-byte l = list_all is_letter (drop l.byte-index l.bytes) ≡ list_all is_letter l.bytes
