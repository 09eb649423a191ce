use Rattle.std.proofs.Common.{◌≡◌, sym, ap, ◌∙◌, false}
use Rattle.lf_ptree.specs.Pairs.{keys}
use Rattle.def_datasets.specs.Dataset.{holds, with_quad}
use Rattle.lf_index.specs.Indexed.{quads_of, with_label}
use Rattle.lf_index.proofs.IndexLemmas.{held, quads_put, indexed_put_by}
use Rattle.lf_index.proofs.index.Index.with_new.Goals as goal

pub invariant_of-result : goal.invariant_of-result
invariant_of-result c =
    let q = c.args.keys.subject in
    let inside = c.self.inside in
    let out : holds (keys inside.by_subject) q ≡ false = sym (held inside.by_subject q) ∙ (ap (λ d. holds d q) c.self.view_is ∙ c.requires.absent) in
    indexed_put_by q c.args.keys.object c.args.keys.graph inside.by_subject inside.by_object inside.by_graph inside.names inside.count
    c.in_ok-insert.field-0 c.in_ok-insert-2.field-0 c.in_ok-insert-3.field-0 c.in_ok-names.names
    c.self.invariant out c.requires.object c.requires.graph c.in_ok-insert.ensures c.in_ok-insert-2.ensures c.in_ok-insert-3.ensures
    (c.in_ok-names.ensures ∙ ap (λ w. with_label w.graph inside.names) c.row.ensures)

pub returns : goal.returns
returns c =
    let q = c.args.keys.subject in
    ap quads_of c.in_ok-insert.ensures ∙ (quads_put q c.self.inside.by_subject ∙ ap (with_quad q) c.self.view_is)
