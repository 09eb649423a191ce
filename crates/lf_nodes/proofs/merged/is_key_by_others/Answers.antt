use Rattle.std.proofs.Common.{sym, ◌∙◌, true, ◌||◌}
use Rattle.def_datasets.specs.Questions.{named}
use Rattle.lf_lists.proofs.Hearings.{followed, heard, learnt, moved}
use Rattle.lf_nodes.specs.Keys.{used_away}
use Rattle.lf_nodes.proofs.OneGraph.{one_or, other_or}
use Rattle.lf_nodes.proofs.merged.is_key_by_others.Goals as goal

pub returns-then-names-clause-key : goal.returns-then-names-clause-key
returns-then-names-clause-key g c =
    learnt (heard c.in_ok-names.ensures.names) (λ other. named other c.args.node.now || used_away other c.args.home.now c.args.node.now) true
    (λ other e. one_or (named other c.args.node.now) (used_away other c.args.home.now c.args.node.now) (sym c.if-names.true ∙ e))

pub returns-clause-key : goal.returns-clause-key
returns-clause-key g c =
    learnt (followed (heard c.in_ok-names.ensures.names) (moved c.in_ok-names.ensures.quads_stay (heard c.in_ok-used.ensures.used)))
    (λ other. named other c.args.node.now || used_away other c.args.home.now c.args.node.now) c.in_ok-used.used
    (λ other e. other_or (named other c.args.node.now) (used_away other c.args.home.now c.args.node.now) c.in_ok-used.used (sym c.if-names.false ∙ e.0) e.1)
