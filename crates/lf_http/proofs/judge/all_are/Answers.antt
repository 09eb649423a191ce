use Rattle.std.proofs.Common.{rules, tests, ◌∙◌, sym, List, ℕ}
use Rattle.std.proofs.lemmas.List.Folds.{list_all-map}
use Rattle.std.proofs.lemmas.Iterator.{YieldsList-from_slice}
use Rattle.std.proofs.lemmas.Iterator.Search.{all_from_yields_List}
use Rattle.httparse.specs.declared.spans.Span.{Span}
use Rattle.httparse.specs.Spans.{span_bytes}
use Rattle.lf_http.specs.Judge.{is_text}
use Rattle.lf_http.proofs.judge.all_are.Goals as goal

pub returns : goal.returns
returns c =
    all_from_yields_List (λ (span : Span). is_text (span_bytes c.args.buf.now span) c.args.text.now) _ _ _ c.all.ensures.ran
    (YieldsList-from_slice c.args.values.now.items cc) (λ x b q k. search (rules, tests))
    ∙ sym (list_all-map (λ (value : List ℕ). is_text value c.args.text.now) (span_bytes c.args.buf.now) c.args.values.now.items)
