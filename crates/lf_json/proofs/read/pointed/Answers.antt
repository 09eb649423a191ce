use Rattle.std.proofs.Common.{◌≡◌, ◌++◌, IfOk, ap, subst, ◌∙◌, string_bytes}
use Rattle.std.specs.Str.Iter.{chars_rest}
use Rattle.lf_json.specs.Reading.{pointer_key}
use Rattle.lf_json.proofs.Walks.{one_char_more, no_char_left}
use Rattle.lf_json.proofs.read.pointed.Goals as goal

pub loop-c-preserved : goal.loop-c-preserved
loop-c-preserved c =
    one_char_more (pointer_key c.args.key.now) (chars_rest c.loop-c.c-iterator) (chars_rest c.next.new.self) (string_bytes c.loop-c.path) _ c.in-Some.c c.loop-c.invariant.0 c.in-Some.ensures.steps.0 c.loop-c.invariant.1 c.in_ok-push_escaped.ensures

pub returns : goal.returns
returns c =
    let whole : string_bytes c.loop-c.path ≡ pointer_key c.args.key.now = no_char_left (pointer_key c.args.key.now) (chars_rest c.loop-c.c-iterator) (string_bytes c.loop-c.path) c.in-None.ensures.steps.0.0 c.loop-c.invariant.1 in
    subst (λ bytes. IfOk c.from_string.result (λ path. path ≡ bytes)) (c.in_ok-push_str.ensures.bytes ∙ ap (λ p. p ++ c.args.rest.now) whole) c.from_string.ensures
