use Rattle.std.proofs.Common.{map}
use Rattle.lf_model.specs.TreeBridge.{property_data}
use Rattle.lf_embed.proofs.DefaultProofs.{run_same, step_left, step_taken}
use Rattle.lf_embed.specs.Forms.{form_of}
use Rattle.lf_embed.specs.Runs.{run_of}
use Rattle.lf_embed.specs.Walks.{state_of}
use Rattle.def_nested.specs.Unfolding.{above, nested}
use Rattle.lf_embed.proofs.defaults.next_default.Goals as goal

pub returns-then-takes_default-clause-run : goal.returns-then-takes_default-clause-run
returns-then-takes_default-clause-run c = run_same (run_of (λ u. map property_data c.add_default.new.done) c.add_default.result (state_of c.add_default.new.walk)) _ _ (step_taken (form_of c.args.frame.now.nodes c.args.form) (map property_data c.args.values.now) (above c.args.at (nested c.args.frame.now.nodes)) (map property_data c.args.done.now) c.args.prop.now (state_of c.args.walk.now) _ _ c.numbered-sub.ensures c.takes_default.ensures c.if-takes_default.true) c.add_default.ensures.run

pub returns-else-takes_default-clause-run : goal.returns-else-takes_default-clause-run
returns-else-takes_default-clause-run c = step_left (form_of c.args.frame.now.nodes c.args.form) (map property_data c.args.values.now) (above c.args.at (nested c.args.frame.now.nodes)) (map property_data c.args.done.now) c.args.prop.now (state_of c.args.walk.now) _ _ c.numbered-sub.ensures c.takes_default.ensures c.if-takes_default.false
