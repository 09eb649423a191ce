use Rattle.std.proofs.Common.{map, ap, ◌∙◌}
use Rattle.std.specs.Char.{to_ascii_lowercase}
use Rattle.lf_nquads.proofs.Readers.{tag_lowers}
use Rattle.lf_nquads.proofs.cursor.Cursor.tag.Goals as goal

pub returns : goal.returns
returns c =
    tag_lowers c.expect.new.self c.in_ok-tag.tag.now c.tag_front.new.self _ c.in_ok-tag.ensures
    (c.in_ok-from_string.ensures ∙ c.make_ascii_lowercase.ensures.bytes ∙ ap (map to_ascii_lowercase) c.in_ok-lower.ensures.ok)
    c.args.self.now c.in_ok-expect.ensures
