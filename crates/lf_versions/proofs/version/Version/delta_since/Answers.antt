use Rattle.std.proofs.Common.{◌∙◌, ap}
use Rattle.std.specs.Arc.{arc_value}
use Rattle.std.proofs.lemmas.Result.{IfOk-weaker}
use Rattle.lf_versions.specs.Changes.{quads_of}
use Rattle.lf_versions.proofs.Deltas.{delta-is}
use Rattle.lf_versions.proofs.version.Version.delta_since.Goals as goal

pub returns-clause-differ : goal.returns-clause-differ
returns-clause-differ c =
    IfOk-weaker c.quads.result _ _ (λ found e.
    (delta-is c.self.inside.commits (arc_value c.self.inside.index) c.index.result.now c.index-2.result.now found c.self.inside.number c.number.result
    c.args.older.now c.args.self.now c.self.invariant c.self.view_is c.requires.begun c.number.ensures c.index.ensures.quads c.index-2.ensures.quads
    (e ∙ (ap quads_of c.as_slice.ensures.keys ∙ c.in_ok-changes.ensures))).0
    ) c.quads.ensures

pub returns-clause-once : goal.returns-clause-once
returns-clause-once c =
    IfOk-weaker c.quads.result _ _ (λ found e.
    (delta-is c.self.inside.commits (arc_value c.self.inside.index) c.index.result.now c.index-2.result.now found c.self.inside.number c.number.result
    c.args.older.now c.args.self.now c.self.invariant c.self.view_is c.requires.begun c.number.ensures c.index.ensures.quads c.index-2.ensures.quads
    (e ∙ (ap quads_of c.as_slice.ensures.keys ∙ c.in_ok-changes.ensures))).1
    ) c.quads.ensures
