use Rattle.std.proofs.Common.{refl, sym, ap, ◌∙◌}
use Rattle.lf_rdf.specs.declared.question.Question.TheVariants as ask
use Rattle.lf_rdf.specs.declared.question.Answer.TheVariants.{Flag}
use Rattle.def_datasets.specs.Questions.{answer}
use Rattle.lf_ptree.specs.Pairs.{value_at}
use Rattle.lf_index.specs.Orders.{term_order}
use Rattle.lf_index.proofs.IndexLemmas.{name_told}
use Rattle.lf_index.proofs.AskLemmas.{objects_same, out_by, out_any_by, inward_by, inward_any_by, uses_by, names_same, members_by}
use Rattle.lf_index.proofs.index.Index.answer.Goals as goal

pub returns-in_ok-quads_of_subject-in-Out : goal.returns-in_ok-quads_of_subject-in-Out
returns-in_ok-quads_of_subject-in-Out c =
    let given = c.in_ok-quads_of_subject-in-Out in
    out_by c.self.inside.by_subject c.args.self.now c.self.view_is c.args.question.now given.field-0 _ c.in-Out.graph c.in-Out.subject c.in-Out.is
    c.label_in.ensures c.requires given.ensures.order given.ensures.found

pub returns-in_ok-quads_of_subject-in-OutAny : goal.returns-in_ok-quads_of_subject-in-OutAny
returns-in_ok-quads_of_subject-in-OutAny c =
    let given = c.in_ok-quads_of_subject-in-OutAny in
    out_any_by c.self.inside.by_subject c.args.self.now c.self.view_is c.args.question.now given.field-0 _ c.in-OutAny.subject c.in-OutAny.is
    refl given.ensures.order given.ensures.found

pub returns-in_ok-quads_of_object-in-Inward : goal.returns-in_ok-quads_of_object-in-Inward
returns-in_ok-quads_of_object-in-Inward c =
    let given = c.in_ok-quads_of_object-in-Inward in
    let inside = c.self.inside in
    inward_by inside.by_object c.args.self.now
    (objects_same inside.by_subject inside.by_object inside.by_graph inside.names inside.count c.args.self.now c.self.invariant (sym c.self.view_is))
    c.args.question.now given.field-0 _ c.in-Inward.graph c.in_ok-of-in-Inward.field-0 c.in-Inward.object
    (c.in-Inward.is ∙ ap (λ p. ask.Inward c.in-Inward.graph p c.in-Inward.object) (sym c.in_ok-of-in-Inward.ensures))
    c.label_in-in-Inward.ensures c.requires given.ensures.order given.ensures.found

pub returns-in_ok-quads_of_object-in-InwardAny : goal.returns-in_ok-quads_of_object-in-InwardAny
returns-in_ok-quads_of_object-in-InwardAny c =
    let given = c.in_ok-quads_of_object-in-InwardAny in
    let inside = c.self.inside in
    inward_any_by inside.by_object c.args.self.now
    (objects_same inside.by_subject inside.by_object inside.by_graph inside.names inside.count c.args.self.now c.self.invariant (sym c.self.view_is))
    c.args.question.now given.field-0 _ c.in_ok-of-in-InwardAny.field-0 c.in-InwardAny.object
    (c.in-InwardAny.is ∙ ap (λ p. ask.InwardAny p c.in-InwardAny.object) (sym c.in_ok-of-in-InwardAny.ensures))
    refl given.ensures.order given.ensures.found

pub returns-in_ok-quads_of_object-in-Uses : goal.returns-in_ok-quads_of_object-in-Uses
returns-in_ok-quads_of_object-in-Uses c =
    let given = c.in_ok-quads_of_object-in-Uses in
    let inside = c.self.inside in
    uses_by inside.by_object c.args.self.now
    (objects_same inside.by_subject inside.by_object inside.by_graph inside.names inside.count c.args.self.now c.self.invariant (sym c.self.view_is))
    c.args.question.now given.field-0 _ c.in_ok-least-in-Uses.field-0 c.in-Uses.object c.in-Uses.is
    c.in_ok-least-in-Uses.ensures refl given.ensures.order given.ensures.found

pub returns-in_ok-key-in-Named : goal.returns-in_ok-key-in-Named
returns-in_ok-key-in-Named c =
    let inside = c.self.inside in
    let now = c.args.self.now in
    ap Flag (
    c.is_some.ensures
    ∙ name_told inside.names now c.in-Named.name c.get.result
    (names_same inside.by_subject inside.by_object inside.by_graph inside.names inside.count now c.self.invariant (sym c.self.view_is))
    (c.get.ensures ∙ ap (λ key. value_at term_order key inside.names) c.in_ok-key-in-Named.ensures)
    )
    ∙ ap (answer now) (sym c.in-Named.is)

pub returns-in_ok-members_of-in-Members : goal.returns-in_ok-members_of-in-Members
returns-in_ok-members_of-in-Members c =
    let given = c.in_ok-members_of-in-Members in
    let inside = c.self.inside in
    members_by inside.by_subject inside.by_object inside.by_graph inside.names inside.count c.args.self.now c.self.invariant (sym c.self.view_is)
    c.args.question.now given.field-0 c.in-Members.graph c.in-Members.is c.requires given.ensures.order given.ensures.found
