use Rattle.std.proofs.Common.{sym, ◌∙◌, true, ◌||◌}
use Rattle.lf_lists.proofs.Hearings.{followed, heard, learnt, moved}
use Rattle.lf_nodes.specs.Keys.{names_in, used_in}
use Rattle.lf_nodes.proofs.OneGraph.{one_or, other_or}
use Rattle.lf_nodes.proofs.keys.is_key_by_others.Goals as goal

pub returns-then-used-clause-key : goal.returns-then-used-clause-key
returns-then-used-clause-key g c =
    learnt (heard c.in_ok-used.ensures.used) (λ other. used_in other c.args.graph.now c.args.node.now || names_in other c.args.graph.now c.args.node.now) true
    (λ other e. one_or (used_in other c.args.graph.now c.args.node.now) (names_in other c.args.graph.now c.args.node.now) (sym c.if-used.true ∙ e))

pub returns-clause-key : goal.returns-clause-key
returns-clause-key g c =
    learnt (followed (heard c.in_ok-used.ensures.used) (moved c.in_ok-used.ensures.quads_stay (heard c.in_ok-names.ensures.names)))
    (λ other. used_in other c.args.graph.now c.args.node.now || names_in other c.args.graph.now c.args.node.now) c.in_ok-names.names
    (λ other e.
    other_or (used_in other c.args.graph.now c.args.node.now) (names_in other c.args.graph.now c.args.node.now) c.in_ok-names.names (sym c.if-used.false ∙ e.0) e.1)
