use Rattle.std.proofs.Common.{sym, ◌∙◌}
use Rattle.lf_nquads.proofs.Readers.{iri_in_one}
use Rattle.lf_nquads.proofs.cursor.Cursor.iri_text.Goals as goal

pub returns-then-begins : goal.returns-then-begins
returns-then-begins c =
    iri_in_one c.here-ahead.result c.args.self.now _ c.raw_iri-raw.new.self c.here-ahead.ensures (c.in_ok-iri.ensures ∙ c.raw_iri-raw.ensures.text) c.raw_iri-raw.ensures.rest
    (sym c.begins.ensures ∙ c.if-begins.true)
