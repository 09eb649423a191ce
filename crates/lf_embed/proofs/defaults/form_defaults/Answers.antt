use Rattle.std.proofs.Common.{map, refl}
use Rattle.lf_model.specs.TreeBridge.{property_data}
use Rattle.lf_embed.proofs.DefaultProofs.{row_defaults, run_same}
use Rattle.lf_embed.proofs.FormProofs.{form_no_row}
use Rattle.lf_embed.specs.Runs.{run_of}
use Rattle.lf_embed.specs.Walks.{state_of}
use Rattle.lf_embed.proofs.defaults.form_defaults.Goals as goal

pub returns-in-Absent-clause-run : goal.returns-in-Absent-clause-run
returns-in-Absent-clause-run c = rw (c.in-Absent.is, c.new.ensures) refl

pub returns-in-Wild-clause-run : goal.returns-in-Wild-clause-run
returns-in-Wild-clause-run c = rw (c.in-Wild.is, c.new-in-Wild.ensures) refl

pub returns-in-None-clause-run : goal.returns-in-None-clause-run
returns-in-None-clause-run c = rw ((form_no_row _ _ _ c.in-Row.is c.in-None.ensures.item), c.new-in-None.ensures) refl

pub returns-in-Some-clause-run : goal.returns-in-Some-clause-run
returns-in-Some-clause-run c = run_same (run_of (map property_data) c.default_props.result (state_of c.default_props.new.walk)) _ _ (row_defaults c.args.frame.now.nodes c.args.form _ c.in-Some.row.now (map property_data c.args.values.now) (state_of c.args.walk.now) c.in-Row.is c.in-Some.ensures.item) c.default_props.ensures.run
