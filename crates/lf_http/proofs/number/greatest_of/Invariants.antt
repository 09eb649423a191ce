use Rattle.std.proofs.Common.{◌≡◌, map, drop}
use Rattle.httparse.specs.Spans.{span_bytes}
use Rattle.lf_http.specs.Fields.{greater, greatest}
use Rattle.lf_http.proofs.number.greatest_of.Given as goal

abbrev pub invariant-loop-span : goal.invariant-loop-span
invariant-loop-span l =
    greatest (map (span_bytes l.buf) l.spans) ≡ greater l.best (greatest (map (span_bytes l.buf) (drop l.span-index l.spans)))
