use Rattle.std.proofs.Common.{◌≡◌, ◌&&◌, true, false, not, nat_eq, sym, ap, ◌∙◌}
use Rattle.std.specs.Str.{chars}
use Rattle.std.specs.Str.Iter.{chars_rest}
use Rattle.std.proofs.lemmas.Str.{IsUtf8-past_char}
use Rattle.lf_expand.specs.LabelTest.{is_fit}
use Rattle.lf_expand.proofs.Labels.{label_from, whole_label, label_more, label_end}
use Rattle.lf_expand.proofs.label.is_label.Goals as goal

pub returns-then-not-is_fit : goal.returns-then-not-is_fit
returns-then-not-is_fit c =
    let rest = chars (chars_rest c.next.new.self) in
    let unfit : is_fit c.loop-c.begun c.in-Some.c ≡ false = cc in
    sym (ap (λ b. b && label_from true (not (nat_eq c.in-Some.c 46)) rest) unfit)
    ∙ label_more c.loop-c.begun c.loop-c.ends (chars_rest c.loop-c.c-iterator) (chars_rest c.next.new.self) c.in-Some.c _ c.loop-c.invariant.0 c.in-Some.ensures.steps.0 c.loop-c.invariant.1
    ∙ whole_label (chars c.args.text.now)

pub loop-c-preserved : goal.loop-c-preserved
loop-c-preserved c =
    let rest = chars (chars_rest c.next.new.self) in
    let fit : is_fit c.loop-c.begun c.in-Some.c ≡ true = cc in (
      IsUtf8-past_char (chars_rest c.loop-c.c-iterator) (chars_rest c.next.new.self) c.in-Some.c c.loop-c.invariant.0 c.in-Some.ensures.steps.0,
      sym (ap (λ b. b && label_from true (not (nat_eq c.in-Some.c 46)) rest) fit)
          ∙ label_more c.loop-c.begun c.loop-c.ends (chars_rest c.loop-c.c-iterator) (chars_rest c.next.new.self) c.in-Some.c _ c.loop-c.invariant.0 c.in-Some.ensures.steps.0 c.loop-c.invariant.1,
    )

pub returns : goal.returns
returns c =
    label_end c.loop-c.begun c.loop-c.ends _ (chars_rest c.loop-c.c-iterator) c.in-None.ensures.steps.0.0 c.loop-c.invariant.1
    ∙ whole_label (chars c.args.text.now)
