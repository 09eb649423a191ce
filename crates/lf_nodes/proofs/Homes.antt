-- The one graph in which a node is a cell.
use Rattle.std.proofs.Common.{◌≡◌, refl, sym, ◌∙◌, ap, subst, List, [], ◌∷◌, Bool, true, false, not, ◌&&◌, Option, Some, None}
use Rattle.std.proofs.lemmas.Bool.{true≢false, false≢true, and_parts}
use Rattle.lf_rdf.specs.declared.term.Term.{Term}
use Rattle.lf_rdf.specs.declared.quad.Quad.{Quad}
use Rattle.lf_rdf.specs.declared.question.GraphRef.{GraphRef}
use Rattle.lf_rdf.specs.declared.question.GraphRef.TheVariants as graph
use Rattle.lf_rdf.specs.Equality.{term_eq, option_eq}
use Rattle.def_datasets.specs.Terms.{is_blank, lies_in, graph_named, graph_of, uses}
use Rattle.def_datasets.specs.Questions.{answers_of, named, out}
use Rattle.def_datasets.specs.Cells.{enough, has_list_form, is_one_in, is_shaped, is_cell}
use Rattle.def_datasets.proofs.OrderLaws.{term_decides}
use Rattle.def_datasets.proofs.CellProofs.{shape, rounds_are_shaped, cells_are_proper, cells_are_used_once}
use Rattle.lf_oracle.specs.Asking.{is_one_graph}
use Rattle.lf_nodes.specs.Keys.{IsHome, only_quad}

-- ---- graphs of quads

label_lies : (label other : Option Term) → option_eq term_eq label other ≡ true → label ≡ other
label_lies None None e = refl
label_lies None (Some b) e = absurd (false≢true e)
label_lies (Some a) None e = absurd (false≢true e)
label_lies (Some a) (Some b) e = ap Some ((term_decides a b).0 e)

label_itself : (label : Option Term) → option_eq term_eq label label ≡ true
label_itself None = refl
label_itself (Some a) = (term_decides a a).1 refl

lies_by_label : (label : Option Term) (q : Quad) → lies_in (graph_named label) q ≡ option_eq term_eq label q.graph
lies_by_label None q = refl
lies_by_label (Some name) q = refl

-- a quad lies in its own graph, and in no other one
pub lies_itself : (q : Quad) → lies_in (graph_of q) q ≡ true
lies_itself q = lies_by_label q.graph q ∙ label_itself q.graph

pub same_graph : (q r : Quad) → lies_in (graph_of q) r ≡ true → graph_of q ≡ graph_of r
same_graph q r e = ap graph_named (label_lies q.graph r.graph (sym (lies_by_label q.graph r) ∙ e))

default_lies : (label : Option Term) → option_eq term_eq None label ≡ true → graph.Default ≡ graph_named label
default_lies None e = refl
default_lies (Some name) e = absurd (false≢true e)

named_lies : (name : Term) (label : Option Term) → option_eq term_eq (Some name) label ≡ true → graph.Named name ≡ graph_named label
named_lies name None e = absurd (false≢true e)
named_lies name (Some other) e = ap graph.Named ((term_decides name other).0 e)

pub graph_lies : (g : GraphRef) (q : Quad) → is_one_graph g ≡ true → lies_in g q ≡ true → g ≡ graph_of q
graph_lies graph.Default q one e = default_lies q.graph e
graph_lies (graph.Named name) q one e = named_lies name q.graph e
graph_lies graph.Merged q one e = absurd (false≢true one)

one_by_label : (label : Option Term) → is_one_graph (graph_named label) ≡ true
one_by_label None = refl
one_by_label (Some name) = refl

pub one_graph_of : (q : Quad) → is_one_graph (graph_of q) ≡ true
one_graph_of q = one_by_label q.graph

pub one_graph_from : (g : GraphRef) (q : Quad) → g ≡ graph_of q → is_one_graph g ≡ true
one_graph_from g q e = ap is_one_graph e ∙ one_graph_of q

-- ---- cells

cell_shape : (d : List Quad) (g : GraphRef) (b : Term) → is_cell d g b ≡ true → is_shaped d g b ≡ true
cell_shape d g b e = rounds_are_shaped (answers_of d) g (enough d) b (cells_are_proper d g b e)

pub cell_blank : (d : List Quad) (g : GraphRef) (b : Term) → is_cell d g b ≡ true → is_blank b ≡ true
cell_blank d g b e = (shape (answers_of d) g b (cell_shape d g b e)).blank

-- what isn't a cell because of a cause
pub no_cell : (d : List Quad) (g : GraphRef) (b : Term) → (is_cell d g b ≡ true → ⊥) → is_cell d g b ≡ false
no_cell d g b not_so = go (is_cell d g b) refl
  where
    go : (r : Bool) → is_cell d g b ≡ r → r ≡ false
    go true e = absurd (not_so e)
    go false e = refl

pub not_blank : (d : List Quad) (g : GraphRef) (b : Term) → is_blank b ≡ false → is_cell d g b ≡ false
not_blank d g b e = no_cell d g b (λ cell. true≢false (sym (cell_blank d g b cell) ∙ e))

-- a cell names no graph
pub cell_unnamed : (d : List Quad) (g : GraphRef) (b : Term) → named d b ≡ true → is_cell d g b ≡ false
cell_unnamed d g b e = no_cell d g b (λ cell. true≢false (sym e ∙ unnamed (cell_shape d g b cell)))
  where
    falsely : (x : Bool) → not x ≡ true → x ≡ false
    falsely true h = absurd (false≢true h)
    falsely false h = refl

    unnamed : is_shaped d g b ≡ true → named d b ≡ false
    unnamed h =
        let x = and_parts (is_blank b && not (named d b) && has_list_form (out d g b)) (is_one_in g (uses d b)) h in
        let y = and_parts (is_blank b && not (named d b)) (has_list_form (out d g b)) x.0 in
        let z = and_parts (is_blank b) (not (named d b)) y.0 in
        falsely (named d b) z.1

-- ---- home

pub no_home : (d : List Quad) (b : Term) → ((g : GraphRef) → is_cell d g b ≡ false) → IsHome d b None
no_home d b none q = none (graph_of q)

first_same : (u v : Quad) → u ∷ [] ≡ v ∷ [] → v ≡ u
first_same u v e = cc

-- a cell of the graph of a quad is used just by a quad of that graph
use_there : (d : List Quad) (b : Term) (u q : Quad) → uses d b ≡ u ∷ [] → is_cell d (graph_of q) b ≡ true → graph_of q ≡ graph_of u
use_there d b u q one cell =
    let (v, alone, lies) = cells_are_used_once d (graph_of q) b cell in
    let is : v ≡ u = first_same u v (sym one ∙ alone) in
    same_graph q u (subst (λ (w : Quad). lies_in (graph_of q) w ≡ true) is lies)

pub home_found : (d : List Quad) (b : Term) (u : Quad) → uses d b ≡ u ∷ [] → is_cell d (graph_of u) b ≡ true → IsHome d b (Some (graph_of u))
home_found d b u one cell q = go (lies_in (graph_of u) q) refl
  where
    go : (r : Bool) → lies_in (graph_of u) q ≡ r → is_cell d (graph_of q) b ≡ r
    go true e = ap (λ (g : GraphRef). is_cell d g b) (sym (same_graph u q e)) ∙ cell
    go false e =
        no_cell d (graph_of q) b
        (λ h.
        let is : graph_of q ≡ graph_of u = use_there d b u q one h in
        true≢false (sym (lies_itself q) ∙ (ap (λ (g : GraphRef). lies_in g q) is ∙ e)))

pub home_lacks : (d : List Quad) (b : Term) (u : Quad) → uses d b ≡ u ∷ [] → is_cell d (graph_of u) b ≡ false → IsHome d b None
home_lacks d b u one none q =
    no_cell d (graph_of q) b
    (λ h. true≢false (sym h ∙ (ap (λ (g : GraphRef). is_cell d g b) (use_there d b u q one h) ∙ none)))

only_lacks : (quads : List Quad) (u : Quad) → None ≡ only_quad quads → quads ≡ u ∷ [] → ⊥
only_lacks [] u e f = cc
only_lacks (q ∷ []) u e f = cc
only_lacks (q ∷ r ∷ rest) u e f = cc

pub only_found : (quads : List Quad) (u : Quad) → Some u ≡ only_quad quads → quads ≡ u ∷ []
only_found [] u e = absurd (cc)
only_found (q ∷ []) u e = cc
only_found (q ∷ r ∷ rest) u e = absurd (cc)

pub home_shared : (d : List Quad) (b : Term) → None ≡ only_quad (uses d b) → IsHome d b None
home_shared d b none q =
    no_cell d (graph_of q) b
    (λ h. let (v, alone, lies) = cells_are_used_once d (graph_of q) b h in only_lacks (uses d b) v none alone)
