-- The keys that point at a node, by the quads that may point.
use Rattle.std.proofs.Common.{◌≡◌, refl, sym, ◌∙◌, ap, subst, cond, ℕ, List, [], ◌∷◌, map, filter, Bool, true, false, not, ◌&&◌, ◌||◌}
use Rattle.std.specs.List.{list_any}
use Rattle.std.proofs.lemmas.Bool.{true≢false, false≢true, not-true, and_parts, and_from}
use Rattle.lf_rdf.specs.declared.term.Term.{Term}
use Rattle.lf_rdf.specs.declared.term.Term.TheVariants.{Iri, Blank, Literal}
use Rattle.lf_rdf.specs.declared.quad.Quad.{Quad}
use Rattle.lf_rdf.specs.declared.question.GraphRef.{GraphRef}
use Rattle.lf_rdf.specs.Vocabulary.{rdf_first, rdf_rest, rdf_nil, rdf_type, rdf_list}
use Rattle.lf_rdf.specs.Canonical.{id_of}
use Rattle.lf_rdf.specs.Equality.{text_eq, term_eq, quad_eq}
use Rattle.def_datasets.specs.Sorted.{has, set_of}
use Rattle.def_datasets.specs.Order.{id_cmp}
use Rattle.def_datasets.specs.Dataset.{holds}
use Rattle.def_datasets.specs.Terms.{is_node, is_iri, tells_type, lies_in, graph_of, is_use, uses}
use Rattle.def_datasets.specs.Questions.{answers_of, inward, out, out_any}
use Rattle.def_datasets.specs.Cells.{at_most_list_type, enough, is_cell, is_one, other_quads, with_predicate}
use Rattle.def_datasets.specs.Values.{value_of}
use Rattle.def_datasets.specs.Views.{is_some_quad, is_type_quad, is_key, is_reference_to, pointing}
use Rattle.def_datasets.specs.ViewLaws.{points}
use Rattle.def_datasets.proofs.Bools.{and_false, same_truth}
use Rattle.def_datasets.proofs.SortedLaws.{has-filter, same_members, ascends-set_of}
use Rattle.def_datasets.proofs.OrderLaws.{id_strict, quad_decides, quad_strict, term_decides, text_strict}
use Rattle.def_datasets.proofs.CellProofs.{Shape, shape, rounds_are_shaped, cells_are_proper}
use Rattle.def_datasets.proofs.ValueProofs.{cell_values, literal_values, nil_value, reference_values}
use Rattle.def_datasets.proofs.ViewProofs.{any-filter, any-map, any_found}
use Rattle.def_datasets.proofs.TellProofs.{shared_objects}
use Rattle.def_datasets.proofs.PointingProofs.{pointing_in_order, pointing_is_told}
use Rattle.lf_order.proofs.SetLemmas.{has-set_of}
use Rattle.lf_nodes.specs.Keys.{used_in, names_in}
use Rattle.lf_nodes.specs.Pointing.{arrows, begins_plainly, is_arrow, is_link, is_plain, is_referred, subject_test}
use Rattle.lf_nodes.proofs.Homes.{lies_itself, no_cell, one_graph_of}
use Rattle.lf_nodes.proofs.Merging.{key_at, key_of_own, in_own}
use Rattle.lf_nodes.proofs.OneGraph.{one_key}

-- ---- the question for a plain property

plain_start : (p : List ℕ) (label : List ℕ) → begins_plainly p ≡ true → text_eq p (95 ∷ 58 ∷ label) ≡ false
plain_start [] label e = absurd (false≢true e)
plain_start (b ∷ rest) label e = go (text_eq (b ∷ rest) (95 ∷ 58 ∷ label)) refl
  where
    go : (r : Bool) → text_eq (b ∷ rest) (95 ∷ 58 ∷ label) ≡ r → r ≡ false
    go true h =
        let is : (b ∷ rest) ≡ (95 ∷ 58 ∷ label) = (text_strict.decides (b ∷ rest) (95 ∷ 58 ∷ label)).0 h in
        absurd (false≢true (ap begins_plainly (sym is) ∙ e))
    go false h = refl

plain_some : (p : List ℕ) → begins_plainly p ≡ true → text_eq p [] ≡ false
plain_some [] e = absurd (false≢true e)
plain_some (b ∷ rest) e = refl

text_turned : (a b : List ℕ) → text_eq a b ≡ text_eq b a
text_turned a b =
    same_truth (text_eq a b) (text_eq b a) (λ e. (text_strict.decides b a).1 (sym ((text_strict.decides a b).0 e)))
    (λ e. (text_strict.decides a b).1 (sym ((text_strict.decides b a).0 e)))

-- only an IRI has a plain id
plain_id : (p : List ℕ) (t : Term) → begins_plainly p ≡ true → text_eq p (id_of t) ≡ term_eq t (Iri p)
plain_id p (Iri iri) e = text_turned p iri
plain_id p (Blank label) e = plain_start p label e
plain_id p (Literal a d l) e = plain_some p e

plain_type : (p : List ℕ) (t : Term) → text_eq rdf_type p ≡ false → term_eq t (Iri p) ≡ true → is_iri rdf_type t ≡ false
plain_type p (Iri iri) other e = ap (text_eq rdf_type) ((text_strict.decides iri p).0 e) ∙ other
plain_type p (Blank label) other e = refl
plain_type p (Literal a d l) other e = refl

plain_arrow : (g : GraphRef) (p : List ℕ) (node : Term) (q : Quad) → is_plain p ≡ true
    → (lies_in g q && (term_eq q.predicate (Iri p) && term_eq q.object node)) ≡ is_arrow g p node q
plain_arrow g p node q e =
    let parts = and_parts (begins_plainly p) (not (text_eq rdf_type p)) e in
    let other : text_eq rdf_type p ≡ false = not-true (text_eq rdf_type p) parts.1 in
    (λ i. lies_in g q && go (term_eq q.predicate (Iri p)) refl other i)
    ∙ ap (λ (w : Bool). lies_in g q && (not (is_type_quad q) && (w && term_eq q.object node))) (sym (plain_id p q.predicate parts.0))
  where
    go : (b : Bool) → term_eq q.predicate (Iri p) ≡ b → text_eq rdf_type p ≡ false
        → (term_eq q.predicate (Iri p) && term_eq q.object node) ≡ (not (is_type_quad q) && (term_eq q.predicate (Iri p) && term_eq q.object node))
    go true h other =
        ap (λ (w : Bool). not (w && is_node q.object) && (term_eq q.predicate (Iri p) && term_eq q.object node)) (sym (plain_type p q.predicate other h))
    go false h other =
        ap (λ (w : Bool). w && term_eq q.object node) h
        ∙ (and_false (not (is_type_quad q)) ∙ ap (λ (w : Bool). not (is_type_quad q) && (w && term_eq q.object node)) (sym h))

pub plain_arrows : (d : List Quad) (g : GraphRef) (p : List ℕ) (node : Term) → is_plain p ≡ true → inward d g (Iri p) node ≡ arrows d g p node
plain_arrows d g p node e = λ i. filter (λ q. plain_arrow g p node q e i) d

-- ---- the question for another one

filter_within : (p r : Quad → Bool) (xs : List Quad) → ((q : Quad) → p q ≡ true → r q ≡ true) → filter p (filter r xs) ≡ filter p xs
filter_within p r [] within = refl
filter_within p r (x ∷ xs) within = go (r x) refl (p x) refl (filter_within p r xs within)
  where
    go : (b : Bool) → r x ≡ b → (c : Bool) → p x ≡ c → filter p (filter r xs) ≡ filter p xs
        → filter p (cond b (x ∷ filter r xs) (filter r xs)) ≡ cond c (x ∷ filter p xs) (filter p xs)
    go true e c f ih = ap (λ (w : Bool). cond w (x ∷ filter p (filter r xs)) (filter p (filter r xs))) f ∙ ap (λ (l : List Quad). cond c (x ∷ l) l) ih
    go false e true f ih = absurd (false≢true (sym e ∙ within x f))
    go false e false f ih = ih

-- what is known of a quad that may point
pub record IsArrow (g : GraphRef) (p : List ℕ) (node : Term) (q : Quad) : Type 0 where
  pub lies : lies_in g q ≡ true
  pub plain : is_type_quad q ≡ false
  pub under : text_eq p (id_of q.predicate) ≡ true
  pub object : term_eq q.object node ≡ true

arrow_from : (g : GraphRef) (p : List ℕ) (node : Term) (q : Quad) → is_arrow g p node q ≡ true → IsArrow g p node q
arrow_from g p node q e =
    let a = and_parts (lies_in g q) (not (is_type_quad q) && (text_eq p (id_of q.predicate) && term_eq q.object node)) e in
    let b = and_parts (not (is_type_quad q)) (text_eq p (id_of q.predicate) && term_eq q.object node) a.1 in
    let c = and_parts (text_eq p (id_of q.predicate)) (term_eq q.object node) b.1 in
    record { lies = a.0; plain = not-true (is_type_quad q) b.0; under = c.0; object = c.1 }

no_type : (a b : Bool) → b ≡ true → (a && b) ≡ false → a ≡ false
no_type true b e f = absurd (true≢false (sym e ∙ f))
no_type false b e f = refl

arrow_uses : (g : GraphRef) (p : List ℕ) (node : Term) (q : Quad) → is_node node ≡ true → is_arrow g p node q ≡ true → is_use node q ≡ true
arrow_uses g p node q there e =
    let a = arrow_from g p node q e in
    let object : is_node q.object ≡ true = ap is_node ((term_decides q.object node).0 a.object) ∙ there in
    and_from (term_eq q.object node) (not (tells_type q)) a.object (ap not (no_type (tells_type q) (is_node q.object) object a.plain))

pub used_arrows : (d : List Quad) (g : GraphRef) (p : List ℕ) (node : Term) → is_node node ≡ true → filter (is_arrow g p node) (uses d node) ≡ arrows d g p node
used_arrows d g p node there = filter_within (is_arrow g p node) (is_use node) d (λ q e. arrow_uses g p node q there e)

-- ---- a quad that may point is in the dataset

pub arrow_in : (d : List Quad) (g : GraphRef) (p : List ℕ) (node : Term) (q : Quad) → has quad_eq (arrows d g p node) q ≡ true → (holds d q ≡ true) × IsArrow g p node q
arrow_in d g p node q e =
    let parts = and_parts (is_arrow g p node q) (holds d q) (sym (has-filter quad_strict (is_arrow g p node) d q) ∙ e) in
    (parts.1, arrow_from g p node q parts.0)

-- ---- the node's value

value_case : (d : List Quad) (g : GraphRef) (node : Term) (n c : Bool) → is_node node ≡ true → is_iri rdf_nil node ≡ n → is_cell d g node ≡ c
    → is_reference_to node (value_of d g node) ≡ (not n && not c)
value_case d g (Iri iri) true c there nil cell =
    let is : rdf_nil ≡ iri = (text_strict.decides rdf_nil iri).0 nil in
    ap (is_reference_to (Iri iri)) (ap (λ (i : List ℕ). value_of d g (Iri i)) (sym is) ∙ nil_value d g)
value_case d g (Blank label) true c there nil cell = absurd (false≢true nil)
value_case d g (Literal a t l) n c there nil cell = absurd (false≢true there)
value_case d g (Iri iri) false false there nil cell = ap (is_reference_to (Iri iri)) (reference_values d g (Iri iri) there nil cell) ∙ (term_decides (Iri iri) (Iri iri)).1 refl
value_case d g (Blank label) false false there nil cell =
    ap (is_reference_to (Blank label)) (reference_values d g (Blank label) there nil cell) ∙ (term_decides (Blank label) (Blank label)).1 refl
value_case d g (Iri iri) false true there nil cell =
    let (item, rest, items, one, two, three, whole) = cell_values d g (Iri iri) cell in
    ap (is_reference_to (Iri iri)) whole
value_case d g (Blank label) false true there nil cell =
    let (item, rest, items, one, two, three, whole) = cell_values d g (Blank label) cell in
    ap (is_reference_to (Blank label)) whole

pub refers_is : (d : List Quad) (g : GraphRef) (node : Term) → is_node node ≡ true → is_reference_to node (value_of d g node) ≡ is_referred d g node
refers_is d g node there = value_case d g node (is_iri rdf_nil node) (is_cell d g node) there refl refl

-- all quads that may point tell one value
pub same_reference : (d : List Quad) (g : GraphRef) (p : List ℕ) (node : Term) (q r : Quad) → has quad_eq (arrows d g p node) q ≡ true → has quad_eq (arrows d g p node) r ≡ true
    → is_reference_to node (value_of d (graph_of q) node) ≡ is_reference_to node (value_of d (graph_of r) node)
same_reference d g p node q r in_q in_r =
    let a = arrow_in d g p node q in_q in
    let b = arrow_in d g p node r in_r in
    let one : q.object ≡ node = (term_decides q.object node).0 a.1.object in
    let two : r.object ≡ node = (term_decides r.object node).0 b.1.object in
    ap (is_reference_to node)
    (ap (value_of d (graph_of q)) (sym one) ∙ (shared_objects d q r a.0 b.0 (one ∙ sym two) a.1.plain b.1.plain ∙ ap (value_of d (graph_of r)) two))

-- ---- the subjects

-- a quad of a cell that tells no type is a link
one_other : (q : Quad) (xs : List Quad) → at_most_list_type xs ≡ true → has quad_eq xs q ≡ true → (tells_type q && is_iri rdf_list q.object) ≡ true
one_other q [] e h = absurd (false≢true h)
one_other q (x ∷ []) e h = subst (λ (w : Quad). (tells_type w && is_iri rdf_list w.object) ≡ true) (sym ((quad_decides q x).0 (or_false_from (quad_eq q x) h))) e
  where
    or_false_from : (b : Bool) → (b || false) ≡ true → b ≡ true
    or_false_from true k = refl
    or_false_from false k = k
one_other q (x ∷ y ∷ rest) e h = absurd (false≢true e)

list_is_node : (t : Term) → is_iri rdf_list t ≡ true → is_node t ≡ true
list_is_node (Iri iri) e = refl
list_is_node (Blank label) e = refl
list_is_node (Literal a d l) e = absurd (false≢true e)

list_type : (q : Quad) → (tells_type q && is_iri rdf_list q.object) ≡ true → is_type_quad q ≡ true
list_type q e =
    let parts = and_parts (tells_type q) (is_iri rdf_list q.object) e in
    and_from (tells_type q) (is_node q.object) parts.0 (list_is_node q.object parts.1)

abbrev other_test : Quad → Bool
other_test q = not (is_iri rdf_first q.predicate) && not (is_iri rdf_rest q.predicate)

link_case : (a b : Bool) → (a || b) ≡ false → (not a && not b) ≡ true
link_case true b e = absurd (true≢false e)
link_case false true e = absurd (true≢false e)
link_case false false e = refl

others_listed : (d : List Quad) (g : GraphRef) (b : Term) → is_cell d g b ≡ true → at_most_list_type (other_quads (out d g b)) ≡ true
others_listed d g b e =
    let s : Shape (answers_of d) g b = shape (answers_of d) g b (rounds_are_shaped (answers_of d) g (enough d) b (cells_are_proper d g b e)) in
    (and_parts (is_one (with_predicate rdf_first (out d g b)) && is_one (with_predicate rdf_rest (out d g b))) (at_most_list_type (other_quads (out d g b))) s.form).1

pub no_link : (d : List Quad) (q : Quad) → holds d q ≡ true → is_type_quad q ≡ false → is_link q ≡ false → is_cell d (graph_of q) q.subject ≡ false
no_link d q there plain none =
    no_cell d (graph_of q) q.subject
    (λ cell.
    let in_out : has quad_eq (out d (graph_of q) q.subject) q ≡ true =
    has-filter quad_strict (λ r. lies_in (graph_of q) r && term_eq r.subject q.subject) d q
    ∙ and_from _ _ (and_from (lies_in (graph_of q) q) (term_eq q.subject q.subject) (lies_itself q) ((term_decides q.subject q.subject).1 refl)) there in
    let in_others : has quad_eq (other_quads (out d (graph_of q) q.subject)) q ≡ true =
    has-filter quad_strict other_test (out d (graph_of q) q.subject) q
    ∙ and_from (other_test q) _ (link_case (is_iri rdf_first q.predicate) (is_iri rdf_rest q.predicate) none) in_out in
    true≢false
    (sym (list_type q (one_other q (other_quads (out d (graph_of q) q.subject)) (others_listed d (graph_of q) q.subject cell) in_others)) ∙ plain))

key_own_graph : (d : List Quad) (q : Quad) → is_key d (graph_of q) q.subject ≡ key_at d q.subject (graph_of q)
key_own_graph d q = one_key d (graph_of q) q.subject (one_graph_of q)

not_node : (d : List Quad) (g : GraphRef) (s : Term) → is_node s ≡ false → key_at d s g ≡ false
not_node d g s e = ap (λ (b : Bool). b && not (is_cell d g s) && (is_some_quad (out d g s) || used_in d g s || names_in d g s)) e

pub subject_key : (d : List Quad) (q : Quad) → holds d q ≡ true → is_type_quad q ≡ false → is_key d (graph_of q) q.subject ≡ subject_test d q
subject_key d q there plain = key_own_graph d q ∙ go (is_node q.subject) refl
  where
    C : Bool
    C = is_cell d (graph_of q) q.subject

    in_own_quads : has quad_eq (out_any d q.subject) q ≡ true
    in_own_quads = has-filter quad_strict (λ r. term_eq r.subject q.subject) d q ∙ and_from (term_eq q.subject q.subject) (holds d q) ((term_decides q.subject q.subject).1 refl) there

    link : (b : Bool) → is_link q ≡ b → not C ≡ (not b || not C)
    link true e = refl
    link false e = ap not (no_link d q there plain e)

    go : (b : Bool) → is_node q.subject ≡ b → key_at d q.subject (graph_of q) ≡ (b && (not (is_link q) || not (is_cell d (graph_of q) q.subject)))
    go true e = key_of_own d q.subject q in_own_quads e ∙ link (is_link q) refl
    go false e = not_node d (graph_of q) q.subject e

-- ---- the keys

module _ (d : List Quad) (g : GraphRef) (p : List ℕ) (node : Term) where
  abbrev told : List Quad
  told = arrows d g p node

  abbrev subjects : List Term
  subjects = map (λ q. q.subject) (filter (subject_test d) told)

  subject_listed : (s : Term) → has term_eq (set_of id_cmp subjects) s ≡ list_any (λ q. is_arrow g p node q && (subject_test d q && term_eq s q.subject)) d
  subject_listed s =
      has-set_of id_strict subjects s
      ∙ (any-map (term_eq s) (λ q. q.subject) (filter (subject_test d) told)
      ∙ (any-filter (λ q. term_eq s q.subject) (subject_test d) told ∙ any-filter (λ q. subject_test d q && term_eq s q.subject) (is_arrow g p node) d))

  -- one quad shows that its subject points, by the parts of both tests
  to_points : (s : Term) (q : Quad) → holds d q ≡ true → is_reference_to node (value_of d (graph_of q) node) ≡ true
      → (is_arrow g p node q && (subject_test d q && term_eq s q.subject)) ≡ true → points d g p node s q ≡ true
  to_points s q there refers e =
      let a = and_parts (is_arrow g p node q) (subject_test d q && term_eq s q.subject) e in
      let b = and_parts (subject_test d q) (term_eq s q.subject) a.1 in
      let arrow = arrow_from g p node q a.0 in
      let is : s ≡ q.subject = (term_decides s q.subject).0 b.1 in
      let key : is_key d (graph_of q) s ≡ true = ap (is_key d (graph_of q)) is ∙ (subject_key d q there arrow.plain ∙ b.0) in
      and_from _ _ arrow.lies
      (and_from _ _ ((term_decides q.subject s).1 (sym is))
      (and_from _ _ key (and_from _ _ (ap not arrow.plain) (and_from _ _ arrow.under (and_from _ _ arrow.object refers)))))

  record FromPoints (s : Term) (q : Quad) : Type 0 where
    arrow : is_arrow g p node q ≡ true
    same : (is_arrow g p node q && (subject_test d q && term_eq s q.subject)) ≡ true
    refers : is_reference_to node (value_of d (graph_of q) node) ≡ true

  from_points : (s : Term) (q : Quad) → holds d q ≡ true → points d g p node s q ≡ true → FromPoints s q
  from_points s q there e =
      let v : Bool = is_reference_to node (value_of d (graph_of q) node) in
      let a = and_parts (lies_in g q) (term_eq q.subject s && (is_key d (graph_of q) s && (not (is_type_quad q) && (text_eq p (id_of q.predicate) && (term_eq q.object node && v))))) e in
      let b = and_parts (term_eq q.subject s) (is_key d (graph_of q) s && (not (is_type_quad q) && (text_eq p (id_of q.predicate) && (term_eq q.object node && v)))) a.1 in
      let c = and_parts (is_key d (graph_of q) s) (not (is_type_quad q) && (text_eq p (id_of q.predicate) && (term_eq q.object node && v))) b.1 in
      let f = and_parts (not (is_type_quad q)) (text_eq p (id_of q.predicate) && (term_eq q.object node && v)) c.1 in
      let h = and_parts (text_eq p (id_of q.predicate)) (term_eq q.object node && v) f.1 in
      let k = and_parts (term_eq q.object node) v h.1 in
      let is : q.subject ≡ s = (term_decides q.subject s).0 b.0 in
      let arrow : is_arrow g p node q ≡ true = and_from _ _ a.0 (and_from _ _ f.0 (and_from _ _ h.0 k.0)) in
      let tested : subject_test d q ≡ true = sym (subject_key d q there (not-true (is_type_quad q) f.0)) ∙ (ap (is_key d (graph_of q)) is ∙ c.0) in
      record { arrow = arrow; same = and_from _ _ arrow (and_from _ _ tested ((term_decides s q.subject).1 (sym is))); refers = k.1 }

  in_told : (q : Quad) → holds d q ≡ true → is_arrow g p node q ≡ true → has quad_eq told q ≡ true
  in_told q there e = has-filter quad_strict (is_arrow g p node) d q ∙ and_from (is_arrow g p node q) (holds d q) e there

  pub points_there : (first : Quad) → has quad_eq told first ≡ true → is_reference_to node (value_of d (graph_of first) node) ≡ true
      → set_of id_cmp subjects ≡ pointing d g p node
  points_there first among refers =
      same_members id_strict (set_of id_cmp subjects) (pointing d g p node) (ascends-set_of id_strict subjects) (pointing_in_order d g p node)
      (λ s.
      subject_listed s
      ∙ (same_truth (list_any (λ q. is_arrow g p node q && (subject_test d q && term_eq s q.subject)) d) (list_any (points d g p node s) d)
      (λ e.
      let (q, passes, here) = any_found (λ q. is_arrow g p node q && (subject_test d q && term_eq s q.subject)) d e in
      let there : holds d q ≡ true = here (quad_eq q) (in_own q) in
      let arrow : is_arrow g p node q ≡ true = (and_parts (is_arrow g p node q) (subject_test d q && term_eq s q.subject) passes).0 in
      here (points d g p node s) (to_points s q there (same_reference d g p node q first (in_told q there arrow) among ∙ refers) passes))
      (λ e.
      let (q, passes, here) = any_found (points d g p node s) d e in
      let there : holds d q ≡ true = here (quad_eq q) (in_own q) in
      here (λ r. is_arrow g p node r && (subject_test d r && term_eq s r.subject)) (from_points s q there passes).same)
      ∙ sym (pointing_is_told d g p node s)))

  -- nothing points where each quad that shows it leads to a contradiction
  points_none : ((s : Term) (q : Quad) → holds d q ≡ true → points d g p node s q ≡ true → ⊥) → [] ≡ pointing d g p node
  points_none never =
      same_members id_strict [] (pointing d g p node) refl (pointing_in_order d g p node)
      (λ s. sym (pointing_is_told d g p node s ∙ none s (list_any (points d g p node s) d) refl))
    where
      none : (s : Term) (b : Bool) → list_any (points d g p node s) d ≡ b → list_any (points d g p node s) d ≡ false
      none s true e =
          let (q, passes, here) = any_found (points d g p node s) d e in
          absurd (never s q (here (quad_eq q) (in_own q)) passes)
      none s false e = e

  pub no_arrows : told ≡ [] → [] ≡ pointing d g p node
  no_arrows none =
      points_none
      (λ s q there e.
      let f = from_points s q there e in
      false≢true (ap (λ (l : List Quad). has quad_eq l q) (sym none) ∙ in_told q there f.arrow))

  pub not_referred : (first : Quad) → has quad_eq told first ≡ true → is_reference_to node (value_of d (graph_of first) node) ≡ false → [] ≡ pointing d g p node
  not_referred first among none =
      points_none
      (λ s q there e.
      let f = from_points s q there e in
      true≢false (sym f.refers ∙ (same_reference d g p node q first (in_told q there f.arrow) among ∙ none)))

  pub not_pointed : is_node node ≡ false → [] ≡ pointing d g p node
  not_pointed none =
      points_none
      (λ s q there e.
      let f = from_points s q there e in
      false≢true (sym (literal_case node none (graph_of q)) ∙ f.refers))
    where
      literal_case : (n : Term) → is_node n ≡ false → (h : GraphRef) → is_reference_to n (value_of d h n) ≡ false
      literal_case (Iri iri) e h = absurd (true≢false e)
      literal_case (Blank label) e h = absurd (true≢false e)
      literal_case (Literal a t l) e h = ap (is_reference_to (Literal a t l)) (literal_values d h a t l)

-- ---- single tests

pub nil_not_referred : (d : List Quad) (g : GraphRef) (node : Term) → is_iri rdf_nil node ≡ true → false ≡ is_referred d g node
nil_not_referred d g node e = ap (λ (b : Bool). not b && not (is_cell d g node)) (sym e)

pub referred_by : (d : List Quad) (g h : GraphRef) (node : Term) (c : Bool) → is_iri rdf_nil node ≡ false → c ≡ is_cell d g node → g ≡ h → not c ≡ is_referred d h node
referred_by d g h node c e cell same =
    ap not (cell ∙ ap (λ (k : GraphRef). is_cell d k node) same) ∙ ap (λ (b : Bool). not b && not (is_cell d h node)) (sym e)

pub subject_literal : (d : List Quad) (q : Quad) → is_node q.subject ≡ false → false ≡ subject_test d q
subject_literal d q e = ap (λ (b : Bool). b && (not (is_link q) || not (is_cell d (graph_of q) q.subject))) (sym e)

pub subject_unlinked : (d : List Quad) (q : Quad) → is_node q.subject ≡ true → is_link q ≡ false → true ≡ subject_test d q
subject_unlinked d q e f = λ i. sym e i && (not (sym f i) || not (is_cell d (graph_of q) q.subject))

pub subject_linked : (d : List Quad) (q : Quad) (g : GraphRef) (c : Bool) → is_node q.subject ≡ true → is_link q ≡ true → g ≡ graph_of q → c ≡ is_cell d g q.subject → not c ≡ subject_test d q
subject_linked d q g c e f same cell =
    ap not (cell ∙ ap (λ (k : GraphRef). is_cell d k q.subject) same) ∙ (λ i. sym e i && (not (sym f i) || not (is_cell d (graph_of q) q.subject)))
