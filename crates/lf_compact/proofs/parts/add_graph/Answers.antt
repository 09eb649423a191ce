use Rattle.std.proofs.Common.{◌≡◌, ◌∷◌, [], ◌∙◌, ap, cond, length, not}
use Rattle.std.specs.Prelude.{nat_eq}
use Rattle.std.proofs.lemmas.Result.{on_ok_weaker}
use Rattle.def_selection.specs.Iris.{short_keyword}
use Rattle.def_selection.specs.Keywords.{at_graph}
use Rattle.lf_compact.proofs.Added.{adds-same}
use Rattle.lf_compact.proofs.NodeParts.{graph-part}
use Rattle.lf_compact.proofs.parts.add_graph.Goals as goal

pub returns : goal.returns
unfolding at_graph
returns c =
    let table = c.args.inverse.now in
    let key : c.in_ok-key.key ≡ short_keyword table at_graph = c.in_ok-key.ensures in
    let some : c.has_any-some.result ≡ not (nat_eq (length c.args.graph.items) 0) =
    c.has_any-some.ensures ∙ ap (λ l. not (nat_eq (length l) 0)) c.as_slice.ensures.value in
    on_ok_weaker c.add_where.result
    (adds-same c.args.members.now c.add_where.new.members _ _
    ((λ i. cond (some i) ((key i, c.array_json.ensures i) ∷ []) []) ∙ graph-part table c.args.graph.items))
    c.add_where.ensures
