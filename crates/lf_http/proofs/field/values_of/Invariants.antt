use Rattle.std.proofs.Common.{◌≡◌, ◌≤◌, length, take, map}
use Rattle.httparse.specs.Spans.{header_bytes, span_bytes}
use Rattle.lf_http.specs.Fields.{values}
use Rattle.lf_http.proofs.field.values_of.Given as goal

abbrev pub invariant-loop-line : goal.invariant-loop-line
invariant-loop-line l =
    (map (span_bytes l.buf) l.found.items ≡ values l.name (map (header_bytes l.buf) (take l.line-index l.lines)))
    × (length l.found.items ≤ l.line-index)
