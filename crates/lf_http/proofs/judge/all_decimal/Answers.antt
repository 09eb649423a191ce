use Rattle.std.proofs.Common.{rules, tests, ◌∙◌, sym}
use Rattle.std.proofs.lemmas.List.Folds.{list_all-map}
use Rattle.std.proofs.lemmas.Iterator.{YieldsList-from_slice}
use Rattle.std.proofs.lemmas.Iterator.Search.{all_from_yields_List}
use Rattle.httparse.specs.declared.spans.Span.{Span}
use Rattle.httparse.specs.Spans.{span_bytes}
use Rattle.lf_http.specs.Fields.{is_number}
use Rattle.lf_http.proofs.judge.all_decimal.Goals as goal

pub returns : goal.returns
returns c =
    all_from_yields_List (λ (span : Span). is_number (span_bytes c.args.buf.now span)) _ _ _ c.all.ensures.ran
    (YieldsList-from_slice c.args.values.now.items cc) (λ x b q k. search (rules, tests))
    ∙ sym (list_all-map is_number (span_bytes c.args.buf.now) c.args.values.now.items)
