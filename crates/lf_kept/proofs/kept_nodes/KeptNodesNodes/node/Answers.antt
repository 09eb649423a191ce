use Rattle.std.proofs.Common.{ap, subst, ◌∙◌, ◌+◌}
use Rattle.lf_kept.specs.Views.{IsAgain, ViewIsLearnt}
use Rattle.lf_kept.proofs.Again.{kept_again, kept_of}
use Rattle.lf_kept.proofs.kept_nodes.KeptNodesNodes.node.Goals as goal

pub invariant_of-self-in-None : goal.invariant_of-self-in-None
invariant_of-self-in-None g c =
    let quads = g.O.Oracle.quads c.self.inside.telling.oracle in
    kept_of quads (g.O.Oracle.quads c.first_view.new.telling.oracle) c.keep_dear.new.kept c.in_ok-first-in-None.ensures.quads_stay
    (c.in_ok-found-in-None.ensures.kept quads c.self.invariant c.in_ok-first-in-None.ensures.kept)

pub returns-in-Some-clause-view : goal.returns-in-Some-clause-view
returns-in-Some-clause-view g c =
    let quads = g.O.Oracle.quads c.self.inside.telling.oracle in
    subst (λ d. ViewIsLearnt d c.args.graph.now c.args.id.now c.args.steps.now c.again.new.steps c.in-Some.found) c.self.view_is
    (subst (IsAgain quads c.args.graph.now c.args.id.now c.args.steps.now c.again.new.steps) c.in-Some.is
    (c.in_ok-found.ensures quads c.self.invariant))

pub returns-in_ok-found-in-None-clause-view : goal.returns-in_ok-found-in-None-clause-view
returns-in_ok-found-in-None-clause-view g c =
    let quads = g.O.Oracle.quads c.self.inside.telling.oracle in
    let first = c.in_ok-first-in-None.first in
    let unasked =
    subst (IsAgain quads c.args.graph.now c.args.id.now c.args.steps.now c.again.new.steps) c.in-None.is
    (c.in_ok-found.ensures quads c.self.invariant) in
    subst (λ d. ViewIsLearnt d c.args.graph.now c.args.id.now c.args.steps.now c.first_view.new.steps c.in_ok-found-in-None.found) c.self.view_is
    (kept_again quads first c.args.graph.now c.args.id.now c.args.steps.now c.first_view.new.steps c.in_ok-found-in-None.found
    c.in_ok-first-in-None.ensures.kept c.in_ok-first-in-None.ensures.of.0 c.in_ok-first-in-None.ensures.of.1 c.in_ok-found-in-None.ensures.found
    (c.in_ok-first-in-None.ensures.counts ∙ ap (λ n. n + first.asked) unasked))
