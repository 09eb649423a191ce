use Rattle.std.proofs.Common.{ap, ◌∙◌}
use Rattle.json.specs.Print.{print}
use Rattle.lf_session.proofs.Printed.{fractional-printed}
use Rattle.lf_session.proofs.texts.fractional_text.Goals as goal

pub returns : goal.returns
returns c =
    c.in_ok-text_of.ensures ∙ ap print c.in_ok-write_fractional.ensures.tokens ∙ fractional-printed c.args.path.now
