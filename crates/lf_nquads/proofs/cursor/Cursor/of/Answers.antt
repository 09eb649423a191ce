use Rattle.std.proofs.lemmas.Str.{is_utf8-from_IsUtf8}
use Rattle.lf_nquads.proofs.cursor.Cursor.of.Goals as goal

pub invariant_of-result : goal.invariant_of-result
invariant_of-result c = is_utf8-from_IsUtf8 c.args.line.now c.utf8.line
