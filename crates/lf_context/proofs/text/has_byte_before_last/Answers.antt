use Rattle.std.proofs.Common.{ap, ◌∙◌, arith}
use Rattle.def_contexts.specs.Texts.{has_byte}
use Rattle.lf_context.proofs.Texts.{front-of}
use Rattle.lf_context.proofs.text.has_byte_before_last.Goals as goal

pub returns-in-len1-up : goal.returns-in-len1-up
returns-in-len1-up c = c.has_byte.ensures ∙ ap (has_byte c.args.byte) (front-of c.args.bytes.now _ (omega (arith, c.in-len1-up.len_at_least)))
