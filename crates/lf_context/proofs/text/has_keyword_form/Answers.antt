use Rattle.std.proofs.Common.{ap, ◌∙◌, arith}
use Rattle.def_contexts.specs.Keywords.{has_keyword_form}
use Rattle.lf_context.proofs.Texts.{form-none, form-then}
use Rattle.lf_context.proofs.text.has_keyword_form.Goals as goal

pub returns-in-empty : goal.returns-in-empty
returns-in-empty c = form-none c.as_bytes.result.now c.in-empty.len_below ∙ ap has_keyword_form c.as_bytes.ensures.value

pub returns-then-first-eq64 : goal.returns-then-first-eq64
returns-then-first-eq64 c =
    c.are_some_letters.ensures
    ∙ form-then c.as_bytes.result.now _ (omega (arith, c.in-len1-up.len_at_least)) c.in-len1-up.len_at_least c.if-first-eq64.true
    ∙ ap has_keyword_form c.as_bytes.ensures.value
