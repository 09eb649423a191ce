use Rattle.std.proofs.Common.{sym, ◌∙◌, ap, false}
use Rattle.std.specs.List.{list_any}
use Rattle.lf_lists.proofs.Hearings.{heard, learnt, unheard}
use Rattle.lf_nodes.specs.Keys.{away, used_away}
use Rattle.lf_nodes.proofs.OneGraph.{away_nil, away_by}
use Rattle.lf_nodes.proofs.merged.is_used_away.Goals as goal

pub returns-then-is_nil-clause-used : goal.returns-then-is_nil-clause-used
returns-then-is_nil-clause-used g c =
    learnt (unheard _ _ _ _ _ (λ other. away_nil other c.args.home.now c.args.node.now (sym c.is_nil.ensures ∙ c.if-is_nil.true)))
    (λ other. used_away other c.args.home.now c.args.node.now) false (λ other e. e)

pub returns-clause-used : goal.returns-clause-used
returns-clause-used g c =
    learnt (heard c.in_ok-uses.ensures.quads) (λ other. used_away other c.args.home.now c.args.node.now) _
    (λ other e.
    (c.any_away.ensures ∙ ap (list_any (away c.args.home.now)) c.as_slice.ensures)
    ∙ away_by other c.args.home.now c.args.node.now _ (sym c.is_nil.ensures ∙ c.if-is_nil.false) e)
