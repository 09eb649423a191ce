use Rattle.std.proofs.Common.{sym, ◌∙◌}
use Rattle.lf_nquads.proofs.Readers.{string_in_one}
use Rattle.lf_nquads.proofs.cursor.Cursor.string_text.Goals as goal

pub returns-then-begins : goal.returns-then-begins
returns-then-begins c =
    string_in_one c.here-ahead.result c.args.self.now _ c.raw_string-raw.new.self c.here-ahead.ensures (c.in_ok-value.ensures ∙ c.raw_string-raw.ensures.text) c.raw_string-raw.ensures.rest
    (sym c.begins.ensures ∙ c.if-begins.true)
