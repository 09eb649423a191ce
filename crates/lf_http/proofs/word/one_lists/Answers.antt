use Rattle.std.proofs.Common.{rules, tests, ◌∙◌, sym}
use Rattle.std.proofs.lemmas.Iterator.{YieldsList-from_slice}
use Rattle.std.proofs.lemmas.Iterator.Search.{any_from_yields_List}
use Rattle.httparse.specs.declared.spans.Span.{Span}
use Rattle.httparse.specs.Spans.{span_bytes}
use Rattle.lf_http.specs.Fields.{has_word}
use Rattle.lf_http.proofs.Lists.{list_any-map}
use Rattle.lf_http.proofs.word.one_lists.Goals as goal

pub returns : goal.returns
returns c =
    any_from_yields_List (λ (span : Span). has_word c.args.word.now (span_bytes c.args.buf.now span)) _ _ _ c.any.ensures.ran
    (YieldsList-from_slice c.args.values.now.items cc) (λ x b q k. search (rules, tests))
    ∙ sym (list_any-map (has_word c.args.word.now) (span_bytes c.args.buf.now) c.args.values.now.items)
