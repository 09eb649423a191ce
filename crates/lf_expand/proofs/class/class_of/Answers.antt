use Rattle.std.proofs.Common.{sym, ap, ◌∙◌}
use Rattle.lf_model.specs.JsonBridge.{members_data}
use Rattle.def_contexts.specs.FrameKeys.{kept}
use Rattle.lf_expand.specs.KeptKeys.{class_by}
use Rattle.lf_expand.proofs.Kept.{class_is}
use Rattle.lf_expand.proofs.class.class_of.Goals as goal

pub returns : goal.returns
returns c =
    c.class.ensures ∙ ap class_by c.in_ok-keys.ensures
    ∙ sym (class_is (kept c.args.terms.now.table.now (members_data c.args.members.now)))
