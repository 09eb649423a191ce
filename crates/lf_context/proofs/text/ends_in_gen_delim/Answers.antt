use Rattle.std.proofs.Common.{ap, sym, ◌∙◌, arith}
use Rattle.def_contexts.specs.Texts.{ends_in_gen_delim}
use Rattle.lf_context.proofs.Texts.{ends-at}
use Rattle.lf_context.proofs.text.ends_in_gen_delim.Goals as goal

pub returns-in-len1-up : goal.returns-in-len1-up
returns-in-len1-up c =
    c.is_gen_delim.ensures ∙ sym (ends-at c.as_bytes.result.now _ _ (omega (arith, c.in-len1-up.len_at_least))) ∙ ap ends_in_gen_delim c.as_bytes.ensures.value
