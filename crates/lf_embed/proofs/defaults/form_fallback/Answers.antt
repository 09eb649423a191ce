use Rattle.std.proofs.Common.{map, sym, ap}
use Rattle.lf_model.specs.TreeBridge.{entry_data}
use Rattle.lf_embed.proofs.DefaultProofs.{run_same}
use Rattle.lf_embed.proofs.FormProofs.{form_no_row, form_row}
use Rattle.lf_embed.specs.Forms.{form_of}
use Rattle.lf_embed.specs.Runs.{run_of}
use Rattle.lf_embed.specs.Walks.{state_of}
use Rattle.def_nested.specs.Nested.{flags_of}
use Rattle.def_framing.specs.Parts.{default_entries}
use Rattle.lf_embed.proofs.defaults.form_fallback.Goals as goal

pub returns-in-Absent-clause-run : goal.returns-in-Absent-clause-run
returns-in-Absent-clause-run c = run_same (run_of (map entry_data) c.null_entry.result (state_of c.null_entry.new.walk)) _ _ (ap (λ f. default_entries (flags_of (form_of c.args.frame.now.nodes f)).fallback (state_of c.args.walk.now)) (sym c.in-Absent.is)) c.null_entry.ensures.run

pub returns-in-Wild-clause-run : goal.returns-in-Wild-clause-run
returns-in-Wild-clause-run c = run_same (run_of (map entry_data) c.null_entry-in-Wild.result (state_of c.null_entry-in-Wild.new.walk)) _ _ (ap (λ f. default_entries (flags_of (form_of c.args.frame.now.nodes f)).fallback (state_of c.args.walk.now)) (sym c.in-Wild.is)) c.null_entry-in-Wild.ensures.run

pub returns-in-None-clause-run : goal.returns-in-None-clause-run
returns-in-None-clause-run c = run_same (run_of (map entry_data) c.null_entry-in-None.result (state_of c.null_entry-in-None.new.walk)) _ _ (ap (λ f. default_entries (flags_of f).fallback (state_of c.args.walk.now)) (sym (form_no_row _ _ _ c.in-Row.is c.in-None.ensures.item))) c.null_entry-in-None.ensures.run

pub returns-in-Some-clause-run : goal.returns-in-Some-clause-run
returns-in-Some-clause-run c = run_same (run_of (map entry_data) c.fallback_entries.result (state_of c.fallback_entries.new.walk)) _ _ (ap (λ f. default_entries (flags_of f).fallback (state_of c.args.walk.now)) (sym (form_row _ _ _ _ c.in-Row.is c.in-Some.ensures.item))) c.fallback_entries.ensures.run
