use Rattle.std.proofs.Common.{◌≡◌, map, drop, string_bytes}
use Rattle.std.specs.List.{list_any}
use Rattle.lf_app.specs.Words.{begins_with_dash}
use Rattle.lf_app.proofs.words.has_dash.Given as goal

abbrev pub invariant-loop-word : goal.invariant-loop-word
invariant-loop-word l =
    list_any begins_with_dash (map string_bytes (drop l.word-index l.words)) ≡ list_any begins_with_dash (map string_bytes l.words)
