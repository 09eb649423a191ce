use Rattle.std.proofs.Common.{◌≡◌, drop}
use Rattle.def_contexts.specs.Texts.{ends_scheme}
use Rattle.lf_context.proofs.text.ends_scheme.Given as goal

abbrev pub invariant-loop-byte : goal.invariant-loop-byte
invariant-loop-byte l = ends_scheme (drop l.byte-index l.bytes) ≡ ends_scheme l.bytes
