use Rattle.std.proofs.Common.{sym}
use Rattle.lf_model.specs.declared.frame.FrameKind.TheVariants as frame_kind
use Rattle.lf_model.specs.ValueData.{reference}
use Rattle.lf_embed.proofs.ChoiceProofs.{no_row_takes, row_takes}
use Rattle.lf_embed.proofs.FittingProofs.{none_accepted, wild_accepted}
use Rattle.lf_embed.proofs.choices.reference_rule.Goals as goal

pub returns-in-Absent : goal.returns-in-Absent
returns-in-Absent c = λ views g id. sym (none_accepted views g c.args.frame.now.nodes c.args.form (reference id) c.in-Absent.is)

pub returns-in-Wild : goal.returns-in-Wild
returns-in-Wild c = λ views g id. sym (wild_accepted views g c.args.frame.now.nodes c.args.form _ (reference id) c.in-Wild.is)

pub returns-in-None : goal.returns-in-None
returns-in-None c = λ views g id. no_row_takes views g c.args.frame.now.nodes c.args.form _ id c.in-Row.is c.in-None.ensures.item

pub returns-in-Wild-kind : goal.returns-in-Wild-kind
returns-in-Wild-kind c = λ views g id. row_takes views g c.args.frame.now.nodes c.args.form _ _ id frame_kind.Wild c.in-Row.is c.in-Some.ensures.item c.in-Wild-kind.is

pub returns-in-Node : goal.returns-in-Node
returns-in-Node c = λ views g id. row_takes views g c.args.frame.now.nodes c.args.form _ _ id frame_kind.Node c.in-Row.is c.in-Some.ensures.item c.in-Node.is

pub returns-in-Value : goal.returns-in-Value
returns-in-Value c = λ views g id. row_takes views g c.args.frame.now.nodes c.args.form _ _ id (frame_kind.Value c.in-Value.field-0) c.in-Row.is c.in-Some.ensures.item c.in-Value.is

pub returns-in-List : goal.returns-in-List
returns-in-List c = λ views g id. row_takes views g c.args.frame.now.nodes c.args.form _ _ id (frame_kind.List c.in-List.field-0) c.in-Row.is c.in-Some.ensures.item c.in-List.is
