-- The key of one graph by its parts.
use Rattle.std.proofs.Common.{◌≡◌, refl, sym, ◌∙◌, ap, List, Bool, true, false, not, ◌&&◌, ◌||◌, Option, Some, None}
use Rattle.std.specs.List.{list_any}
use Rattle.std.proofs.lemmas.Bool.{true≢false, false≢true}
use Rattle.lf_rdf.specs.declared.term.Term.{Term}
use Rattle.lf_rdf.specs.declared.quad.Quad.{Quad}
use Rattle.lf_rdf.specs.declared.question.GraphRef.{GraphRef}
use Rattle.lf_rdf.specs.declared.question.GraphRef.TheVariants as graph
use Rattle.lf_rdf.specs.Vocabulary.{rdf_nil}
use Rattle.def_datasets.specs.Terms.{is_node, is_iri, lies_in, uses}
use Rattle.def_datasets.specs.Questions.{answers_of, named, out}
use Rattle.def_datasets.specs.Cells.{enough, is_cell}
use Rattle.def_datasets.specs.Views.{is_some_quad, is_default, is_key, quads_of}
use Rattle.lf_oracle.specs.Asking.{is_one_graph}
use Rattle.lf_nodes.specs.Keys.{away, kept_if, key_quads, names_in, used_away, used_in}

-- a key of one graph: a node that isn't a cell, and has quads, is used or names a graph there
pub one_key : (d : List Quad) (g : GraphRef) (s : Term) → is_one_graph g ≡ true
    → is_key d g s ≡ (is_node s && not (is_cell d g s) && (is_some_quad (out d g s) || used_in d g s || names_in d g s))
one_key d graph.Default s one = refl
one_key d (graph.Named name) s one = refl
one_key d graph.Merged s one = absurd (false≢true one)

pub one_quads : (d : List Quad) (g : GraphRef) (s : Term) → is_one_graph g ≡ true → quads_of (answers_of d) (enough d) g s ≡ out d g s
one_quads d graph.Default s one = refl
one_quads d (graph.Named name) s one = refl
one_quads d graph.Merged s one = absurd (false≢true one)

one_key_quads : (d : List Quad) (g : GraphRef) (s : Term) → is_one_graph g ≡ true
    → key_quads d g s ≡ kept_if (is_node s && not (is_cell d g s) && (is_some_quad (out d g s) || used_in d g s || names_in d g s)) (out d g s)
one_key_quads d g s one = λ i. kept_if (one_key d g s one i) (one_quads d g s one i)

no_node : (n c b u m : Bool) (quads : List Quad) → n ≡ false → None ≡ kept_if (n && not c && (b || u || m)) quads
no_node true c b u m quads e = absurd (true≢false e)
no_node false c b u m quads e = refl

a_cell : (n c b u m : Bool) (quads : List Quad) → true ≡ c → None ≡ kept_if (n && not c && (b || u || m)) quads
a_cell true true b u m quads e = refl
a_cell false true b u m quads e = refl
a_cell n false b u m quads e = absurd (true≢false e)

by_quads : (n c b u m : Bool) (quads : List Quad) → n ≡ true → false ≡ c → b ≡ true → Some quads ≡ kept_if (n && not c && (b || u || m)) quads
by_quads true false true u m quads x y z = refl
by_quads false c b u m quads x y z = absurd (false≢true x)
by_quads true true b u m quads x y z = absurd (false≢true y)
by_quads true false false u m quads x y z = absurd (false≢true z)

by_others : (n c b u m : Bool) (quads : List Quad) → n ≡ true → false ≡ c → b ≡ false → true ≡ (u || m) → Some quads ≡ kept_if (n && not c && (b || u || m)) quads
by_others true false false true m quads x y z w = refl
by_others true false false false true quads x y z w = refl
by_others true false false false false quads x y z w = absurd (true≢false w)
by_others false c b u m quads x y z w = absurd (false≢true x)
by_others true true b u m quads x y z w = absurd (false≢true y)
by_others true false true u m quads x y z w = absurd (true≢false z)

by_nothing : (n c b u m : Bool) (quads : List Quad) → b ≡ false → false ≡ (u || m) → None ≡ kept_if (n && not c && (b || u || m)) quads
by_nothing true true b u m quads z w = refl
by_nothing false c b u m quads z w = refl
by_nothing true false false false false quads z w = refl
by_nothing true false false true m quads z w = absurd (false≢true w)
by_nothing true false false false true quads z w = absurd (false≢true w)
by_nothing true false true u m quads z w = absurd (true≢false z)

module _ (d : List Quad) (g : GraphRef) (s : Term) (one : is_one_graph g ≡ true) where
  pub none_for_literal : is_node s ≡ false → None ≡ key_quads d g s
  none_for_literal e =
      no_node (is_node s) (is_cell d g s) (is_some_quad (out d g s)) (used_in d g s) (names_in d g s) (out d g s) e ∙ sym (one_key_quads d g s one)

  pub none_for_cell : true ≡ is_cell d g s → None ≡ key_quads d g s
  none_for_cell e =
      a_cell (is_node s) (is_cell d g s) (is_some_quad (out d g s)) (used_in d g s) (names_in d g s) (out d g s) e ∙ sym (one_key_quads d g s one)

  pub some_by_quads : (told : List Quad) → is_node s ≡ true → false ≡ is_cell d g s → told ≡ out d g s → is_some_quad told ≡ true → Some told ≡ key_quads d g s
  some_by_quads told node cell same there =
      ap Some same
      ∙ (by_quads (is_node s) (is_cell d g s) (is_some_quad (out d g s)) (used_in d g s) (names_in d g s) (out d g s) node cell
      (ap is_some_quad (sym same) ∙ there)
      ∙ sym (one_key_quads d g s one))

  pub some_by_others : (told : List Quad) → is_node s ≡ true → false ≡ is_cell d g s → told ≡ out d g s → is_some_quad told ≡ false
      → true ≡ (used_in d g s || names_in d g s) → Some told ≡ key_quads d g s
  some_by_others told node cell same none seen =
      ap Some same
      ∙ (by_others (is_node s) (is_cell d g s) (is_some_quad (out d g s)) (used_in d g s) (names_in d g s) (out d g s) node cell
      (ap is_some_quad (sym same) ∙ none) seen
      ∙ sym (one_key_quads d g s one))

  pub none_by_others : (told : List Quad) → told ≡ out d g s → is_some_quad told ≡ false → false ≡ (used_in d g s || names_in d g s) → None ≡ key_quads d g s
  none_by_others told same none seen =
      by_nothing (is_node s) (is_cell d g s) (is_some_quad (out d g s)) (used_in d g s) (names_in d g s) (out d g s)
      (ap is_some_quad (sym same) ∙ none) seen
      ∙ sym (one_key_quads d g s one)

-- ---- used, or a name of a graph

pub used_nil : (d : List Quad) (g : GraphRef) (s : Term) → is_iri rdf_nil s ≡ true → false ≡ used_in d g s
used_nil d g s e = ap (λ (b : Bool). not b && list_any (lies_in g) (uses d s)) (sym e)

pub used_by : (d : List Quad) (g : GraphRef) (s : Term) (quads : List Quad) → is_iri rdf_nil s ≡ false → quads ≡ uses d s → list_any (lies_in g) quads ≡ used_in d g s
used_by d g s quads e same = ap (list_any (lies_in g)) same ∙ ap (λ (b : Bool). not b && list_any (lies_in g) (uses d s)) (sym e)

pub no_name : (d : List Quad) (g : GraphRef) (s : Term) → is_default g ≡ false → false ≡ names_in d g s
no_name d g s e = ap (λ (b : Bool). b && named d s) (sym e)

pub a_name : (d : List Quad) (g : GraphRef) (s : Term) → is_default g ≡ true → named d s ≡ names_in d g s
a_name d g s e = ap (λ (b : Bool). b && named d s) (sym e)

pub one_or : (a b : Bool) → true ≡ a → true ≡ (a || b)
one_or true b e = refl
one_or false b e = absurd (true≢false e)

pub other_or : (a b x : Bool) → false ≡ a → x ≡ b → x ≡ (a || b)
other_or true b x e f = absurd (false≢true e)
other_or false b x e f = f

pub away_nil : (d : List Quad) (home : Option GraphRef) (s : Term) → is_iri rdf_nil s ≡ true → false ≡ used_away d home s
away_nil d home s e = ap (λ (b : Bool). not b && list_any (away home) (uses d s)) (sym e)

pub away_by : (d : List Quad) (home : Option GraphRef) (s : Term) (quads : List Quad) → is_iri rdf_nil s ≡ false → quads ≡ uses d s → list_any (away home) quads ≡ used_away d home s
away_by d home s quads e same = ap (list_any (away home)) same ∙ ap (λ (b : Bool). not b && list_any (away home) (uses d s)) (sym e)
