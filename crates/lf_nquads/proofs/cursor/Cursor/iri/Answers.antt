use Rattle.lf_nquads.proofs.Readers.{iri_is_absolute, iri_is_relative}
use Rattle.lf_nquads.proofs.cursor.Cursor.iri.Goals as goal

pub returns-then-not-is_absolute : goal.returns-then-not-is_absolute
returns-then-not-is_absolute c =
    iri_is_relative c.args.self.now c.expect.new.self c.in_ok-iri.iri c.iri_text.new.self c.expect-2.new.self c.as_str.result.now c.is_absolute.result
    c.in_ok-expect.ensures c.in_ok-iri.ensures c.in_ok-expect-2.ensures c.as_str.utf8 c.as_str.ensures c.is_absolute.ensures c.if-not-is_absolute.true

pub returns : goal.returns
returns c =
    iri_is_absolute c.args.self.now c.expect.new.self c.in_ok-iri.iri c.iri_text.new.self c.expect-2.new.self c.as_str.result.now c.is_absolute.result
    c.in_ok-expect.ensures c.in_ok-iri.ensures c.in_ok-expect-2.ensures c.as_str.utf8 c.as_str.ensures c.is_absolute.ensures c.if-not-is_absolute.false
