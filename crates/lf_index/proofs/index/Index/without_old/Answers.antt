use Rattle.std.proofs.Common.{◌≡◌, sym, ap, ◌∙◌, [], ◌∷◌, true}
use Rattle.lf_ptree.specs.Pairs.{keys}
use Rattle.lf_rdf.specs.Equality.{quad_eq}
use Rattle.def_datasets.specs.Sorted.{without}
use Rattle.def_datasets.specs.Dataset.{holds}
use Rattle.lf_index.specs.Indexed.{quads_of, without_label}
use Rattle.lf_index.proofs.IndexLemmas.{held, quads_without, indexed_without_by}
use Rattle.lf_index.proofs.index.Index.without_old.Goals as goal

pub invariant_of-result : goal.invariant_of-result
invariant_of-result c =
    let q = c.args.keys.now.subject in
    let inside = c.self.inside in
    let here : holds (keys inside.by_subject) q ≡ true = sym (held inside.by_subject q) ∙ (ap (λ d. holds d q) c.self.view_is ∙ c.requires.present) in
    rw c.saturating_sub.ensures (
    indexed_without_by q c.args.keys.now.object c.args.keys.now.graph inside.by_subject inside.by_object inside.by_graph inside.names inside.count
    c.in_ok-remove.field-0 c.in_ok-remove-2.field-0 c.in_ok-by_graph.by_graph c.in_ok-names.names
    c.self.invariant c.ascends.ensures c.ascends-2.ensures c.ascends-3.ensures c.ascends-4.ensures
    here c.requires.object c.requires.graph c.in_ok-remove.ensures c.in_ok-remove-2.ensures c.in_ok-by_graph.ensures
    (c.in_ok-names.ensures ∙ ap (λ w. without_label w.graph (keys c.in_ok-by_graph.by_graph) inside.names) c.row.ensures)
    )

pub returns : goal.returns
returns c =
    let q = c.args.keys.now.subject in
    ap quads_of c.in_ok-remove.ensures ∙ (quads_without q c.self.inside.by_subject c.ascends.ensures ∙ ap (λ d. without quad_eq d (q ∷ [])) c.self.view_is)
