use Rattle.std.specs.String.{string_bytes}
use Rattle.lf_nquads.proofs.WrittenProofs.{escapes_more}
use Rattle.lf_nquads.proofs.write.push_escaped.Goals as goal

pub loop-character-preserved : goal.loop-character-preserved
loop-character-preserved c =
    escapes_more (string_bytes c.args.out.now) (string_bytes c.loop-character.out) (string_bytes c.push_escaped_char.new.out)
    c.loop-character.yielded c.in-Some.character c.loop-character.invariant c.in_ok-push_escaped_char.ensures
