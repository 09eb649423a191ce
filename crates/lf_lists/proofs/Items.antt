-- The item and the rest of a cell: which item is a list, and what is near.
use Rattle.std.proofs.Common.{◌≡◌, refl, sym, ◌∙◌, ap, ℕ, List, [], ◌∷◌, cond, Bool, true, false, not, ◌&&◌, ◌||◌, ⊎_elim, Some, None}
use Rattle.std.specs.Cmp.Lexicographic.{bytes_decides}
use Rattle.std.proofs.lemmas.Bool.{true≢false, false≢true, and_parts, and_from, or_cases, or_left, or_right}
use Rattle.lf_rdf.specs.declared.term.Term.{Term}
use Rattle.lf_rdf.specs.declared.term.Term.TheVariants.{Iri, Blank, Literal}
use Rattle.lf_rdf.specs.declared.quad.Quad.{Quad}
use Rattle.lf_rdf.specs.declared.question.GraphRef.{GraphRef}
use Rattle.lf_rdf.specs.Vocabulary.{rdf_type, rdf_first, rdf_rest, rdf_nil}
use Rattle.lf_rdf.specs.Equality.{text_eq, term_eq, quad_eq}
use Rattle.lf_model.specs.ValueData.{list}
use Rattle.def_datasets.specs.Sorted.{has}
use Rattle.def_datasets.specs.Dataset.{holds}
use Rattle.def_datasets.specs.Near.{Near}
use Rattle.def_datasets.specs.Terms.{is_iri, tells_type, lies_in, is_use, uses}
use Rattle.def_datasets.specs.Questions.{answers_of, out}
use Rattle.def_datasets.specs.Cells.{with_predicate, is_one_in, object_of, subject_of, item_of, rest_of, user_of, begins_or, is_proper, is_cell}
use Rattle.def_datasets.specs.Values.{value_of}
use Rattle.def_datasets.proofs.SortedLaws.{has-filter}
use Rattle.def_datasets.proofs.OrderLaws.{term_decides, quad_decides, quad_strict}
use Rattle.def_datasets.proofs.CellProofs.{Shape, shape, one_in, cell_nodes, cells_are_proper}
use Rattle.def_datasets.proofs.ValueProofs.{reference_values, cell_values}
use Rattle.lf_lists.specs.Walking.{ends_well}
use Rattle.lf_lists.specs.Reading.{items_in, items_at, IsListAt, list_in, plain}
use Rattle.lf_lists.proofs.Walks.{proper_shaped, near_object}
use Rattle.lf_lists.proofs.ItemByItem.{nil_is_list}

-- ---- the user of an item

iri_told : (iri : List ℕ) (t : Term) → is_iri iri t ≡ true → Iri iri ≡ t
iri_told iri (Iri other) e = ap Iri ((bytes_decides iri other).0 e)
iri_told iri (Blank l) e = absurd (false≢true e)
iri_told iri (Literal a d l) e = absurd (false≢true e)

abbrev FoundQuad : List ℕ → List Quad → Term → Type 0
FoundQuad iri xs o = (q : Quad) × (has quad_eq xs q ≡ true) × (is_iri iri q.predicate ≡ true) × (q.object ≡ o)

found_case : (iri : List ℕ) (x : Quad) (xs : List Quad) (o : Term) (r : Bool) → is_iri iri x.predicate ≡ r
    → (object_of (with_predicate iri xs) ≡ Some o → FoundQuad iri xs o)
    → object_of (cond r (x ∷ with_predicate iri xs) (with_predicate iri xs)) ≡ Some o → FoundQuad iri (x ∷ xs) o
found_case iri x xs o true p ih e =
    (x, or_left (quad_eq x x) (has quad_eq xs x) ((quad_decides x x).1 refl), p, cc)
found_case iri x xs o false p ih e =
    let (q, a, b, c) = ih e in
    (q, or_right (quad_eq q x) (has quad_eq xs q) a, b, c)

found_quad : (iri : List ℕ) (xs : List Quad) (o : Term) → object_of (with_predicate iri xs) ≡ Some o → FoundQuad iri xs o
found_quad iri [] o e = absurd (cc)
found_quad iri (x ∷ xs) o e = found_case iri x xs o (is_iri iri x.predicate) refl (found_quad iri xs o) e

or_false_told : (a : Bool) → (a || false) ≡ true → a ≡ true
or_false_told true e = refl
or_false_told false e = e

used_by : (d : List Quad) (g : GraphRef) (iri : List ℕ) (b o : Term) → text_eq rdf_type iri ≡ false
    → object_of (with_predicate iri (out d g b)) ≡ Some o → is_one_in g (uses d o) ≡ true → user_of (answers_of d) o ≡ Some b
used_by d g iri b o no_type e one =
    let (q, in_out, predicate, object) = found_quad iri (out d g b) o e in
    let told : ((lies_in g q && term_eq q.subject b) && holds d q) ≡ true =
    sym (has-filter quad_strict (λ (w : Quad). lies_in g w && term_eq w.subject b) d q) ∙ in_out in
    let parts : ((lies_in g q && term_eq q.subject b) ≡ true) × (holds d q ≡ true) =
    and_parts (lies_in g q && term_eq q.subject b) (holds d q) told in
    let subject : q.subject ≡ b = (term_decides q.subject b).0 (and_parts (lies_in g q) (term_eq q.subject b) parts.0).1 in
    let other : tells_type q ≡ false = ap (is_iri rdf_type) (sym (iri_told iri q.predicate predicate)) ∙ no_type in
    let used : is_use o q ≡ true =
    and_from (term_eq q.object o) (not (tells_type q)) ((term_decides q.object o).1 object) (ap not other) in
    let (u, alone, there) = one_in g (uses d o) one in
    let among : has quad_eq (u ∷ []) q ≡ true =
    ap (λ (w : List Quad). has quad_eq w q) (sym alone)
    ∙ (has-filter quad_strict (is_use o) d q ∙ and_from (is_use o q) (holds d q) used parts.1) in
    let is : q ≡ u = (quad_decides q u).0 (or_false_told (quad_eq q u) among) in
    ap subject_of alone ∙ (ap (λ (w : Quad). Some w.subject) (sym is) ∙ ap Some subject)

first_no_type : text_eq rdf_type rdf_first ≡ false
unfolding rdf_type rdf_first
first_no_type = refl

module _ (d : List Quad) (g : GraphRef) where
  -- ---- which item is a list

  pub cell_is_list : (b : Term) → is_cell d g b ≡ true → IsListAt d g b
  cell_is_list b c =
      let (i, r, items, fi, fr, told, is) = cell_values d g b c in
      is ∙ ap list (sym (ap items_in is))

  item_cell : (b item : Term) → is_cell d g b ≡ true → item_of (answers_of d) g b ≡ Some item → is_proper d g item ≡ true → is_cell d g item ≡ true
  item_cell b item c e p =
      let s : Shape (answers_of d) g item = shape (answers_of d) g item (proper_shaped d g item p) in
      cell_nodes d g item
      ∙ and_from (is_proper d g item) (begins_or (is_proper d g) (is_cell d g) (user_of (answers_of d) item)) p
      (ap (begins_or (is_proper d g) (is_cell d g)) (used_by d g rdf_first b item first_no_type e s.one_use)
      ∙ or_right (not (is_proper d g b)) (is_cell d g b) c)

  pub item_list : (b item : Term) → is_cell d g b ≡ true → item_of (answers_of d) g b ≡ Some item → ends_well d g item ≡ true → IsListAt d g item
  item_list b item c e ends =
      ⊎_elim (λ nil. nil_is_list d g item nil) (λ p. cell_is_list item (item_cell b item c e p))
      (or_cases (is_iri rdf_nil item) (is_proper d g item) ends)

  not_nil : (t : Term) → ends_well d g t ≡ false → is_iri rdf_nil t ≡ false
  not_nil t e = go (is_iri rdf_nil t) refl
    where
      go : (b : Bool) → is_iri rdf_nil t ≡ b → b ≡ false
      go true n = absurd (true≢false (sym (or_left (is_iri rdf_nil t) (is_proper d g t) n) ∙ e))
      go false n = refl

  not_cell : (t : Term) → ends_well d g t ≡ false → is_cell d g t ≡ false
  not_cell t e = go (is_cell d g t) refl
    where
      go : (b : Bool) → is_cell d g t ≡ b → b ≡ false
      go true c = absurd (true≢false (sym (or_right (is_iri rdf_nil t) (is_proper d g t) (cells_are_proper d g t c)) ∙ e))
      go false c = refl

  -- what is neither `rdf:nil` nor a cell has its plain value
  pub plain_at : (t : Term) → is_iri rdf_nil t ≡ false → is_cell d g t ≡ false → value_of d g t ≡ plain t
  plain_at (Iri iri) n c = reference_values d g (Iri iri) refl n c
  plain_at (Blank label) n c = reference_values d g (Blank label) refl n c
  plain_at (Literal a b l) n c = refl

  pub item_plain : (t : Term) → ends_well d g t ≡ false → value_of d g t ≡ plain t
  item_plain t e = plain_at t (not_nil t e) (not_cell t e)

  no_list : (t : Term) → list_in (plain t) ≡ None
  no_list (Iri iri) = refl
  no_list (Blank label) = refl
  no_list (Literal a b l) = refl

  pub plain_no_list : (t : Term) → is_iri rdf_nil t ≡ false → is_cell d g t ≡ false → None ≡ list_in (value_of d g t)
  plain_no_list t n c = sym (ap list_in (plain_at t n c) ∙ no_list t)

  -- what stands for no list has its plain value
  pub no_list_plain : (t : Term) → None ≡ list_in (value_of d g t) → value_of d g t ≡ plain t
  no_list_plain t e = by_nil (is_iri rdf_nil t) refl
    where
      lacks : None ≡ Some (items_at d g t) → ⊥
      lacks h = cc

      absent : IsListAt d g t → ⊥
      absent listed = lacks (e ∙ ap list_in listed)

      by_cell : is_iri rdf_nil t ≡ false → (c : Bool) → is_cell d g t ≡ c → value_of d g t ≡ plain t
      by_cell n true c = absurd (absent (cell_is_list t c))
      by_cell n false c = plain_at t n c

      by_nil : (r : Bool) → is_iri rdf_nil t ≡ r → value_of d g t ≡ plain t
      by_nil true n = absurd (absent (nil_is_list d g t n))
      by_nil false n = by_cell n (is_cell d g t) refl

  -- ---- what is near

  pub near_item : (origin b item : Term) → item_of (answers_of d) g b ≡ Some item → Near d [] origin b → Near d [] origin item
  near_item origin b item e near = near_object d g rdf_first origin b item e near

  pub near_next : (origin b next : Term) → rest_of (answers_of d) g b ≡ Some next → Near d [] origin b → Near d [] origin next
  near_next origin b next e near = near_object d g rdf_rest origin b next e near
