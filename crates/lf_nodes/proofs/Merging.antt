-- The keys of the merged graph by a node's quads and uses outside the graph in which it is a cell.
use Rattle.std.proofs.Common.{◌≡◌, refl, sym, ◌∙◌, ap, cond, List, [], ◌∷◌, ◌++◌, map, filter, Bool, true, false, not, ◌&&◌, ◌||◌, ⊎_elim, Option, Some, None}
use Rattle.std.specs.List.{list_any}
use Rattle.std.proofs.lemmas.Bool.{true≢false, false≢true, and_parts, and_from, or_cases, or_left, or_right}
use Rattle.lf_rdf.specs.declared.term.Term.{Term}
use Rattle.lf_rdf.specs.declared.quad.Quad.{Quad}
use Rattle.lf_rdf.specs.declared.question.GraphRef.{GraphRef}
use Rattle.lf_rdf.specs.declared.question.GraphRef.TheVariants as graph
use Rattle.lf_rdf.specs.Vocabulary.{rdf_nil}
use Rattle.lf_rdf.specs.Equality.{term_eq, quad_eq}
use Rattle.def_datasets.specs.Sorted.{has}
use Rattle.def_datasets.specs.Dataset.{holds}
use Rattle.def_datasets.specs.Terms.{is_node, is_iri, lies_in, graph_of, uses}
use Rattle.def_datasets.specs.Questions.{answers_of, named, out, out_any}
use Rattle.def_datasets.specs.Cells.{enough, is_cell}
use Rattle.def_datasets.specs.Views.{is_some_quad, is_default, key_in, is_key, quads_of}
use Rattle.def_datasets.proofs.Bools.{same_truth}
use Rattle.def_datasets.proofs.SortedLaws.{has-filter, same_itself}
use Rattle.def_datasets.proofs.OrderLaws.{quad_strict}
use Rattle.def_datasets.proofs.QuestionProofs.{any-append}
use Rattle.def_datasets.proofs.ViewProofs.{any_mono, any-filter, any-map, any_found}
use Rattle.lf_oracle.specs.Asking.{is_one_graph}
use Rattle.lf_nodes.specs.Keys.{IsHome, away, used_away, used_in, names_in, kept_if, key_quads}
use Rattle.lf_nodes.proofs.Homes.{lies_itself, graph_lies, one_graph_of, cell_unnamed}

-- ---- filters

pub in_own : (q : Quad) → quad_eq q q ≡ true
in_own q = same_itself quad_strict q

pub filter_agree : (p r : Quad → Bool) (xs : List Quad) → ((q : Quad) → has quad_eq xs q ≡ true → p q ≡ r q) → filter p xs ≡ filter r xs
filter_agree p r [] same = refl
filter_agree p r (x ∷ xs) same =
    let here : p x ≡ r x = same x (or_left (quad_eq x x) (has quad_eq xs x) (in_own x)) in
    let rest : filter p xs ≡ filter r xs = filter_agree p r xs (λ q h. same q (or_right (quad_eq q x) (has quad_eq xs q) h)) in
    λ i. cond (here i) (x ∷ rest i) (rest i)

some_case : (r : Quad → Bool) (q : Quad) (xs : List Quad) (b : Bool) → r q ≡ b → is_some_quad (filter r xs) ≡ list_any r xs
    → is_some_quad (cond b (q ∷ filter r xs) (filter r xs)) ≡ (r q || list_any r xs)
some_case r q xs true e ih = λ i. sym e i || list_any r xs
some_case r q xs false e ih = ih ∙ (λ i. sym e i || list_any r xs)

pub some-filter : (r : Quad → Bool) (xs : List Quad) → is_some_quad (filter r xs) ≡ list_any r xs
some-filter r [] = refl
some-filter r (q ∷ xs) = some_case r q xs (r q) refl (some-filter r xs)

pub some_by : (xs : List Quad) (q : Quad) → has quad_eq xs q ≡ true → is_some_quad xs ≡ true
some_by [] q e = absurd (false≢true e)
some_by (x ∷ xs) q e = refl

-- ---- a key of one graph, by what is true of it

module _ (d : List Quad) (s : Term) where
  abbrev pub key_at : GraphRef → Bool
  key_at g = key_in (answers_of d) (enough d) g s

  pub key_from : (g : GraphRef) → is_node s ≡ true → is_cell d g s ≡ false
      → (is_some_quad (out d g s) || used_in d g s || names_in d g s) ≡ true → key_at g ≡ true
  key_from g node none cause = and_from _ _ (and_from _ _ node (ap not none)) cause

  pub key_of_own : (q : Quad) → has quad_eq (out_any d s) q ≡ true → is_node s ≡ true → key_at (graph_of q) ≡ not (is_cell d (graph_of q) s)
  key_of_own q there node =
      let parts = and_parts (term_eq q.subject s) (holds d q) (sym (has-filter quad_strict (λ q. term_eq q.subject s) d q) ∙ there) in
      let here : has quad_eq (out d (graph_of q) s) q ≡ true =
      has-filter quad_strict (λ r. lies_in (graph_of q) r && term_eq r.subject s) d q
      ∙ and_from _ _ (and_from (lies_in (graph_of q) q) (term_eq q.subject s) (lies_itself q) parts.0) parts.1 in
      let some : is_some_quad (out d (graph_of q) s) ≡ true = some_by (out d (graph_of q) s) q here in
      shape (is_node s) (is_cell d (graph_of q) s) (is_some_quad (out d (graph_of q) s)) (used_in d (graph_of q) s) (names_in d (graph_of q) s) node some
    where
      shape : (n c b u m : Bool) → n ≡ true → b ≡ true → (n && not c && (b || u || m)) ≡ not c
      shape true true true u m x y = refl
      shape true false true u m x y = refl
      shape false c b u m x y = absurd (false≢true x)
      shape true c false u m x y = absurd (false≢true y)

-- ---- the merged graph

module _ (d : List Quad) (s : Term) (home : Option GraphRef) (node : is_node s ≡ true) (is : IsHome d s home) where
  abbrev own : List Quad
  own = out_any d s

  abbrev test : Quad → Bool
  test q = key_at d s (graph_of q)

  away_is : (q : Quad) → not (is_cell d (graph_of q) s) ≡ away home q
  away_is q = ap not (is q)

  own_away : filter test own ≡ filter (away home) own
  own_away = filter_agree test (away home) own (λ q there. key_of_own d s q there node ∙ away_is q)

  own_some : list_any test own ≡ is_some_quad (filter (away home) own)
  own_some = sym (some-filter test own) ∙ ap is_some_quad own_away

  abbrev T : Bool
  T = key_at d s graph.Default

  abbrev O : Bool
  O = list_any test own

  abbrev U : Bool
  U = list_any test (uses d s)

  abbrev N : Bool
  N = named d s

  abbrev W : Bool
  W = used_away d home s

  falsely : (x : Bool) → not x ≡ true → x ≡ false
  falsely true h = absurd (false≢true h)
  falsely false h = refl

  -- a key of one graph has a cause
  cause : (g : GraphRef) → is_one_graph g ≡ true → key_at d s g ≡ true → (O || (N || W)) ≡ true
  cause g one e =
      let x = and_parts (is_node s && not (is_cell d g s)) (is_some_quad (out d g s) || used_in d g s || names_in d g s) e in
      let none : is_cell d g s ≡ false = falsely (is_cell d g s) (and_parts (is_node s) (not (is_cell d g s)) x.0).1 in
      ⊎_elim
      (λ bu.
      ⊎_elim
      (λ b.
      or_left O (N || W)
      (any-filter test (λ q. term_eq q.subject s) d
      ∙ any_mono (λ q. lies_in g q && term_eq q.subject s) (λ q. term_eq q.subject s && test q)
      (λ q h.
      let p = and_parts (lies_in g q) (term_eq q.subject s) h in
      and_from (term_eq q.subject s) (test q) p.1 (ap (key_at d s) (sym (graph_lies g q one p.0)) ∙ e))
      d (sym (some-filter (λ q. lies_in g q && term_eq q.subject s) d) ∙ b)))
      (λ u.
      let p = and_parts (not (is_iri rdf_nil s)) (list_any (lies_in g) (uses d s)) u in
      or_right O (N || W)
      (or_right N W
      (and_from (not (is_iri rdf_nil s)) (list_any (away home) (uses d s)) p.0
      (any_mono (lies_in g) (away home)
      (λ q h. sym (away_is q) ∙ ap not (ap (λ (k : GraphRef). is_cell d k s) (sym (graph_lies g q one h)) ∙ none)) (uses d s) p.1))))
      (or_cases (is_some_quad (out d g s)) (used_in d g s) bu))
      (λ m. or_right O (N || W) (or_left N W (and_parts (is_default g) (named d s) m).1))
      (or_cases (is_some_quad (out d g s) || used_in d g s) (names_in d g s) x.1)

  forth : (T || (O || U)) ≡ true → (O || (N || W)) ≡ true
  forth e =
      ⊎_elim (λ t. cause graph.Default refl t)
      (λ ou.
      ⊎_elim (λ o. or_left O (N || W) o)
      (λ u. let (q, passes, among) = any_found test (uses d s) u in cause (graph_of q) (one_graph_of q) passes)
      (or_cases O U ou))
      (or_cases T (O || U) e)

  by_name : N ≡ true → T ≡ true
  by_name n =
      key_from d s graph.Default node (cell_unnamed d graph.Default s n)
      (or_right (is_some_quad (out d graph.Default s) || used_in d graph.Default s) (names_in d graph.Default s) n)

  by_use : W ≡ true → U ≡ true
  by_use w =
      let p = and_parts (not (is_iri rdf_nil s)) (list_any (away home) (uses d s)) w in
      let (q, far, among) = any_found (away home) (uses d s) p.1 in
      let g : GraphRef = graph_of q in
      let none : is_cell d g s ≡ false = falsely (is_cell d g s) (away_is q ∙ far) in
      let used : used_in d g s ≡ true = and_from (not (is_iri rdf_nil s)) (list_any (lies_in g) (uses d s)) p.0 (among (lies_in g) (lies_itself q)) in
      among test
      (key_from d s g node none
      (or_left (is_some_quad (out d g s) || used_in d g s) (names_in d g s) (or_right (is_some_quad (out d g s)) (used_in d g s) used)))

  back : (O || (N || W)) ≡ true → (T || (O || U)) ≡ true
  back e =
      ⊎_elim (λ o. or_right T (O || U) (or_left O U o))
      (λ nw. ⊎_elim (λ n. or_left T (O || U) (by_name n)) (λ w. or_right T (O || U) (or_right O U (by_use w))) (or_cases N W nw))
      (or_cases O (N || W) e)

  merged_key : is_key d graph.Merged s ≡ (is_some_quad (filter (away home) own) || (named d s || used_away d home s))
  merged_key =
      ap (λ (w : Bool). T || w) (any-map (key_at d s) graph_of (own ++ uses d s) ∙ any-append test own (uses d s))
      ∙ (same_truth (T || (O || U)) (O || (N || W)) forth back ∙ ap (λ (w : Bool). w || (N || W)) own_some)

  merged_own : quads_of (answers_of d) (enough d) graph.Merged s ≡ filter (away home) own
  merged_own = own_away

  merged_whole : key_quads d graph.Merged s ≡ kept_if (is_some_quad (filter (away home) own) || (named d s || used_away d home s)) (filter (away home) own)
  merged_whole = λ i. kept_if (merged_key i) (merged_own i)

  pub merged_by_quads : (told kept : List Quad) → told ≡ out_any d s → kept ≡ filter (away home) told → is_some_quad kept ≡ true → Some kept ≡ key_quads d graph.Merged s
  merged_by_quads told kept same keeps some =
      let all : kept ≡ filter (away home) own = keeps ∙ ap (filter (away home)) same in
      ap Some all ∙ (case (is_some_quad (filter (away home) own)) (N || W) (ap is_some_quad (sym all) ∙ some) ∙ sym merged_whole)
    where
      case : (a b : Bool) → a ≡ true → Some (filter (away home) own) ≡ kept_if (a || b) (filter (away home) own)
      case true b x = refl
      case false b x = absurd (false≢true x)

  pub merged_by_others : (told kept : List Quad) → told ≡ out_any d s → kept ≡ filter (away home) told → is_some_quad kept ≡ false
      → true ≡ (named d s || used_away d home s) → Some kept ≡ key_quads d graph.Merged s
  merged_by_others told kept same keeps none seen =
      let all : kept ≡ filter (away home) own = keeps ∙ ap (filter (away home)) same in
      ap Some all ∙ (case (is_some_quad (filter (away home) own)) (N || W) (ap is_some_quad (sym all) ∙ none) seen ∙ sym merged_whole)
    where
      case : (a b : Bool) → a ≡ false → true ≡ b → Some (filter (away home) own) ≡ kept_if (a || b) (filter (away home) own)
      case false true x y = refl
      case false false x y = absurd (true≢false y)
      case true b x y = absurd (true≢false x)

  pub merged_none : (told kept : List Quad) → told ≡ out_any d s → kept ≡ filter (away home) told → is_some_quad kept ≡ false
      → false ≡ (named d s || used_away d home s) → None ≡ key_quads d graph.Merged s
  merged_none told kept same keeps none unseen =
      let all : kept ≡ filter (away home) own = keeps ∙ ap (filter (away home)) same in
      case (is_some_quad (filter (away home) own)) (N || W) (ap is_some_quad (sym all) ∙ none) unseen ∙ sym merged_whole
    where
      case : (a b : Bool) → a ≡ false → false ≡ b → None ≡ kept_if (a || b) (filter (away home) own)
      case false false x y = refl
      case false true x y = absurd (false≢true y)
      case true b x y = absurd (true≢false x)

pub merged_literal : (d : List Quad) (s : Term) → is_node s ≡ false → None ≡ key_quads d graph.Merged s
merged_literal d s e = ap (λ (b : Bool). kept_if b (quads_of (answers_of d) (enough d) graph.Merged s)) (sym none)
  where
    never : (g : GraphRef) → key_in (answers_of d) (enough d) g s ≡ false
    never g = ap (λ (b : Bool). b && not (is_cell d g s) && (is_some_quad (out d g s) || used_in d g s || names_in d g s)) e

    all_false : (gs : List GraphRef) → list_any (λ g. key_in (answers_of d) (enough d) g s) gs ≡ false
    all_false [] = refl
    all_false (g ∷ gs) = λ i. never g i || all_false gs i

    none : is_key d graph.Merged s ≡ false
    none = all_false (graph.Default ∷ map graph_of (out_any d s ++ uses d s))
