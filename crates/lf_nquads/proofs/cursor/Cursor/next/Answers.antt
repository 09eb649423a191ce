use Rattle.std.proofs.lemmas.Str.{is_utf8-from_IsUtf8}
use Rattle.lf_nquads.proofs.Places.{next_char}
use Rattle.lf_nquads.proofs.cursor.Cursor.next.Goals as goal

pub returns : goal.returns
returns c =
    next_char c.args.self.now c.self.inside.rest.now _ _ c.as_str-self-inside.result.now c.in_ok-taken.taken c.self.invariant c.self.view_is
    c.chars-characters.ensures.rest c.in_ok-taken.ensures.steps.0 c.as_str-self-inside.ensures

pub invariant_of-self : goal.invariant_of-self
invariant_of-self c = is_utf8-from_IsUtf8 c.as_str-self-inside.result.now c.as_str-self-inside.utf8
