-- The laws of the values of objects.
use Rattle.std.proofs.Common.{◌≡◌, refl, sym, ◌∙◌, ap, ℕ, zero, suc, ◌+◌, ◌≤◌, List, [], ◌∷◌, length, map, cond, if◌then◌else◌, Bool, true, false, not, ◌&&◌, ◌||◌, ⊎_elim, Option, Some, None, arith}
use Rattle.std.specs.Cmp.Lexicographic.{bytes_decides}
use Rattle.std.proofs.lemmas.Bool.{true≢false, false≢true, and_parts, and_from, or_cases, or_left, or_right}
use Rattle.lf_rdf.specs.declared.term.Term.{Term}
use Rattle.lf_rdf.specs.declared.term.Term.TheVariants.{Iri, Blank, Literal}
use Rattle.lf_rdf.specs.declared.quad.Quad.{Quad}
use Rattle.lf_rdf.specs.declared.question.GraphRef.{GraphRef}
use Rattle.lf_rdf.specs.Vocabulary.{rdf_type, rdf_first, rdf_rest, rdf_nil}
use Rattle.lf_rdf.specs.Equality.{text_eq, term_eq, quad_eq}
use Rattle.lf_model.specs.ValueData.{ListValue, literal, reference, list, ListValues, no_values, value, values_of}
use Rattle.def_datasets.specs.Sorted.{has}
use Rattle.def_datasets.specs.Dataset.{holds}
use Rattle.def_datasets.specs.Terms.{is_iri, tells_type, lies_in, is_use, uses}
use Rattle.def_datasets.specs.Questions.{Answers, answers_of, out}
use Rattle.def_datasets.specs.Rounds.{rounds, within}
use Rattle.def_datasets.specs.Cells.{with_predicate, is_one, is_one_in, object_of, subject_of, item_of, rest_of, user_of, ends_or, begins_or, cell_if, cell_step, cell_within, enough, is_shaped, is_proper, is_cell}
use Rattle.def_datasets.specs.Values.{found, before_items, joined, cell_or_reference, value_step, value_within, settled, value_of}
use Rattle.def_datasets.specs.ValueLaws.{LiteralValues, NilValue, ReferenceValues, CellValues, ItemsInOrder, StepsSuffice}
use Rattle.def_datasets.proofs.SortedLaws.{has-filter}
use Rattle.def_datasets.proofs.OrderLaws.{term_decides, quad_decides, quad_strict}
use Rattle.def_datasets.proofs.RoundProofs.{found_next, found_later}
use Rattle.def_datasets.proofs.CellProofs.{Shape, shape, rounds_are_shaped, one_in, cells_in, cells_lie_in, cell_rounds, proper_nodes, cell_nodes, cells_are_proper}

-- ---- the step is monotone

joined_mono : (a b c d : Option ListValue) (v : ListValue) → ((w : ListValue) → a ≡ Some w → c ≡ Some w)
    → ((w : ListValue) → b ≡ Some w → d ≡ Some w) → joined a b ≡ Some v → joined c d ≡ Some v
joined_mono None b c d v f g e = absurd (cc)
joined_mono (Some x) None c d v f g e = absurd (cc)
joined_mono (Some x) (Some y) c d v f g e =
    let p : c ≡ Some x = f x refl in
    let q : d ≡ Some y = g y refl in
    (λ i. joined (p i) (q i)) ∙ e

found_mono : (f h : Term → Option ListValue) → ((x : Term) (v : ListValue) → f x ≡ Some v → h x ≡ Some v)
    → (o : Option Term) (v : ListValue) → found f o ≡ Some v → found h o ≡ Some v
found_mono f h k None v e = e
found_mono f h k (Some o) v e = k o v e

cell_mono : (answers : Answers) (g : GraphRef) (f h : Term → Option ListValue) → ((x : Term) (v : ListValue) → f x ≡ Some v → h x ≡ Some v)
    → (r : Bool) (b : Term) (v : ListValue) → cell_or_reference r answers g f b ≡ Some v → cell_or_reference r answers g h b ≡ Some v
cell_mono answers g f h k true b v e =
    joined_mono (found f (item_of answers g b)) (found f (rest_of answers g b)) (found h (item_of answers g b)) (found h (rest_of answers g b)) v
    (found_mono f h k (item_of answers g b)) (found_mono f h k (rest_of answers g b)) e
cell_mono answers g f h k false b v e = e

value_mono : (answers : Answers) (g : GraphRef) (cell : Term → Bool) (f h : Term → Option ListValue)
    → ((x : Term) (v : ListValue) → f x ≡ Some v → h x ≡ Some v)
    → (x : Term) (v : ListValue) → value_step answers g cell f x ≡ Some v → value_step answers g cell h x ≡ Some v
value_mono answers g cell f h k (Literal a d l) v e = e
value_mono answers g cell f h k (Iri i) v e = e
value_mono answers g cell f h k (Blank l) v e = cell_mono answers g f h k (cell (Blank l)) (Blank l) v e

-- ---- the user of an item or a rest

iri_told : (iri : List ℕ) (t : Term) → is_iri iri t ≡ true → Iri iri ≡ t
iri_told iri (Iri other) e = ap Iri ((bytes_decides iri other).0 e)
iri_told iri (Blank l) e = absurd (false≢true e)
iri_told iri (Literal a d l) e = absurd (false≢true e)

abbrev FoundQuad : List ℕ → List Quad → Term → Type 0
FoundQuad iri xs o = (q : Quad) × (has quad_eq xs q ≡ true) × (is_iri iri q.predicate ≡ true) × (q.object ≡ o)

found_case : (iri : List ℕ) (x : Quad) (xs : List Quad) (o : Term) (r : Bool) → is_iri iri x.predicate ≡ r
    → (object_of (with_predicate iri xs) ≡ Some o → FoundQuad iri xs o)
    → object_of (cond r (x ∷ with_predicate iri xs) (with_predicate iri xs)) ≡ Some o → FoundQuad iri (x ∷ xs) o
found_case iri x xs o true p ih e =
    (x, or_left (quad_eq x x) (has quad_eq xs x) ((quad_decides x x).1 refl), p, cc)
found_case iri x xs o false p ih e =
    let (q, a, b, c) = ih e in
    (q, or_right (quad_eq q x) (has quad_eq xs q) a, b, c)

found_quad : (iri : List ℕ) (xs : List Quad) (o : Term) → object_of (with_predicate iri xs) ≡ Some o → FoundQuad iri xs o
found_quad iri [] o e = absurd (cc)
found_quad iri (x ∷ xs) o e = found_case iri x xs o (is_iri iri x.predicate) refl (found_quad iri xs o) e

or_false_told : (a : Bool) → (a || false) ≡ true → a ≡ true
or_false_told true e = refl
or_false_told false e = e

used_by : (dataset : List Quad) (g : GraphRef) (iri : List ℕ) (b o : Term) → text_eq rdf_type iri ≡ false
    → object_of (with_predicate iri (out dataset g b)) ≡ Some o → is_one_in g (uses dataset o) ≡ true
    → user_of (answers_of dataset) o ≡ Some b
used_by dataset g iri b o no_type e one =
    let (q, in_out, predicate, object) = found_quad iri (out dataset g b) o e in
    let told : ((lies_in g q && term_eq q.subject b) && holds dataset q) ≡ true =
    sym (has-filter quad_strict (λ (w : Quad). lies_in g w && term_eq w.subject b) dataset q) ∙ in_out in
    let parts : ((lies_in g q && term_eq q.subject b) ≡ true) × (holds dataset q ≡ true) =
    and_parts (lies_in g q && term_eq q.subject b) (holds dataset q) told in
    let subject : q.subject ≡ b = (term_decides q.subject b).0 (and_parts (lies_in g q) (term_eq q.subject b) parts.0).1 in
    let plain : tells_type q ≡ false = ap (is_iri rdf_type) (sym (iri_told iri q.predicate predicate)) ∙ no_type in
    let used : is_use o q ≡ true =
    and_from (term_eq q.object o) (not (tells_type q)) ((term_decides q.object o).1 object) (ap not plain) in
    let (u, alone, there) = one_in g (uses dataset o) one in
    let among : has quad_eq (u ∷ []) q ≡ true =
    ap (λ (w : List Quad). has quad_eq w q) (sym alone)
    ∙ (has-filter quad_strict (is_use o) dataset q ∙ and_from (is_use o q) (holds dataset q) used parts.1) in
    let is : q ≡ u = (quad_decides q u).0 (or_false_told (quad_eq q u) among) in
    ap subject_of alone ∙ (ap (λ (w : Quad). Some w.subject) (sym is) ∙ ap Some subject)

first_no_type : text_eq rdf_type rdf_first ≡ false
unfolding rdf_type rdf_first
first_no_type = refl

rest_no_type : text_eq rdf_type rdf_rest ≡ false
unfolding rdf_type rdf_rest
rest_no_type = refl

one_object : (quads : List Quad) → is_one quads ≡ true → (o : Term) × (object_of quads ≡ Some o)
one_object [] e = absurd (false≢true e)
one_object (q ∷ rest) e = (q.object, refl)

-- ---- values over a dataset

module _ (dataset : List Quad) (g : GraphRef) where
  abbrev answers : Answers
  answers = answers_of dataset

  abbrev cell : Term → Bool
  cell = is_cell dataset g

  abbrev proper : Term → Bool
  proper = is_proper dataset g

  abbrev step : (Term → Option ListValue) → Term → Option ListValue
  step = value_step answers g cell

  abbrev mono : (f h : Term → Option ListValue) → ((x : Term) (v : ListValue) → f x ≡ Some v → h x ≡ Some v)
      → (x : Term) (v : ListValue) → step f x ≡ Some v → step h x ≡ Some v
  mono = value_mono answers g cell

  shape_of : (b : Term) → proper b ≡ true → Shape answers g b
  shape_of b e = shape answers g b (rounds_are_shaped answers g (enough dataset) b e)

  cell_shape : (b : Term) → cell b ≡ true → Shape answers g b
  cell_shape b e = shape_of b (cells_are_proper dataset g b e)

  -- what is reached from a proper node by a quad with another predicate than `rdf:type`, and is proper, has that node as its user
  cell_of_cell : (b r : Term) → cell b ≡ true → proper r ≡ true → user_of answers r ≡ Some b → cell r ≡ true
  cell_of_cell b r c p user =
      cell_nodes dataset g r
      ∙ and_from (proper r) (begins_or proper cell (user_of answers r)) p
      (ap (begins_or proper cell) user ∙ or_right (not (proper b)) (cell b) c)

  later_round : (k : ℕ) (b x : Term) → proper b ≡ true → cells_in dataset g k b ≡ false → user_of answers x ≡ Some b
      → cells_in dataset g (suc k) x ≡ false
  unfolding cells_in
  later_round k b x p none user =
      go (proper x)
    where
      inner : begins_or proper (rounds (cell_step answers proper) k) (user_of answers x) ≡ false
      inner = ap (begins_or proper (rounds (cell_step answers proper) k)) user ∙ (λ i. not (p i) || none i)

      go : (r : Bool) → cell_if r proper (rounds (cell_step answers proper) k) (user_of answers x) ≡ false
      go true = inner
      go false = refl

  abbrev Settled : ℕ → Term → Type 0
  Settled m o =
      (v : ListValue) × (within step (suc m) o ≡ Some v)
      × ((is_iri rdf_nil o || cell o) ≡ true → (items : ListValues) × (v ≡ list items))

  nil_case : (iri : List ℕ) (r : Bool) → cell (Iri iri) ≡ false → (r || cell (Iri iri)) ≡ true
      → (items : ListValues) × ((if r then list no_values else reference (Iri iri)) ≡ list items)
  nil_case iri true e told = (no_values, refl)
  nil_case iri false e told = absurd (false≢true (sym e ∙ told))

  plain : (m : ℕ) (o : Term) → cell o ≡ false → Settled m o
  plain m (Literal a d l) e = (literal (Literal a d l), refl, λ told. absurd (false≢true (sym e ∙ told)))
  plain m (Iri iri) e = ((if text_eq rdf_nil iri then list no_values else reference (Iri iri)), refl, nil_case iri (text_eq rdf_nil iri) e)
  plain m (Blank l) e =
      (reference (Blank l), ap (λ (r : Bool). cell_or_reference r answers g (within step m) (Blank l)) e, λ told. absurd (false≢true (sym e ∙ told)))

  listlike : (b r : Term) → cell b ≡ true → rest_of answers g b ≡ Some r → (is_iri rdf_nil r || cell r) ≡ true
  listlike b r c e =
      let told : (is_shaped dataset g b && ends_or proper (rest_of answers g b)) ≡ true =
      sym (proper_nodes dataset g b) ∙ cells_are_proper dataset g b c in
      let ends : ends_or proper (rest_of answers g b) ≡ true =
      (and_parts (is_shaped dataset g b) (ends_or proper (rest_of answers g b)) told).1 in
      let here : (is_iri rdf_nil r || proper r) ≡ true = ap (ends_or proper) (sym e) ∙ ends in
      ⊎_elim (λ n. or_left (is_iri rdf_nil r) (cell r) n)
      (λ p. or_right (is_iri rdf_nil r) (cell r) (cell_of_cell b r c p (used_by dataset g rdf_rest b r rest_no_type e (shape_of r p).one_use)))
      (or_cases (is_iri rdf_nil r) (proper r) here)

  two_found : (m : ℕ) (l : List ℕ) (i r : Term) (vi vr : ListValue) → cell (Blank l) ≡ true → item_of answers g (Blank l) ≡ Some i
      → rest_of answers g (Blank l) ≡ Some r → within step m i ≡ Some vi → within step m r ≡ Some vr
      → within step (suc m) (Blank l) ≡ before_items vi vr
  two_found m l i r vi vr c ei er fi fr =
      ap (λ (w : Bool). cell_or_reference w answers g (within step m) (Blank l)) c
      ∙ ((λ j. joined (found (within step m) (ei j)) (found (within step m) (er j))) ∙ (λ j. joined (fi j) (fr j)))

  abbrev Next : ℕ → Type 0
  Next m =
      (k : ℕ) (o : Term) → length dataset ≤ k + m → (cell o ≡ true → cells_in dataset g k o ≡ false) → Settled m o

  cell_settles : (m : ℕ) → Next m → (k : ℕ) (o : Term) → length dataset ≤ k + suc m → cell o ≡ true → cells_in dataset g k o ≡ false → Settled (suc m) o
  cell_settles m ih k (Literal a d l) low c none = absurd (false≢true (cell_shape (Literal a d l) c).blank)
  cell_settles m ih k (Iri iri) low c none = absurd (false≢true (cell_shape (Iri iri) c).blank)
  cell_settles m ih k (Blank l) low c none =
      let b : Term = Blank l in
      let s : Shape answers g (Blank l) = cell_shape (Blank l) c in
      let p : proper (Blank l) ≡ true = cells_are_proper dataset g (Blank l) c in
      let (i, ei) = one_object (with_predicate rdf_first (out dataset g (Blank l))) s.first in
      let (r, er) = one_object (with_predicate rdf_rest (out dataset g (Blank l))) s.rest in
      let less : length dataset ≤ suc k + m = omega arith in
      let (vi, fi, li) = ih (suc k) i less (λ ci. later_round k (Blank l) i p none (used_by dataset g rdf_first (Blank l) i first_no_type ei (cell_shape i ci).one_use)) in
      let (vr, fr, lr) = ih (suc k) r less (λ cr. later_round k (Blank l) r p none (used_by dataset g rdf_rest (Blank l) r rest_no_type er (cell_shape r cr).one_use)) in
      let (items, is) = lr (listlike (Blank l) r c er) in
      (list (value vi items), two_found (suc m) l i r vi vr c ei er fi fr ∙ ap (before_items vi) is, λ told. (value vi items, refl))

  by_cell : (m k : ℕ) (o : Term) (c : Bool) → cell o ≡ c → length dataset ≤ k + m → (cell o ≡ true → cells_in dataset g k o ≡ false)
      → (cell o ≡ true → cells_in dataset g k o ≡ false → Settled m o) → Settled m o
  by_cell m k o true e low h f = f e (h e)
  by_cell m k o false e low h f = plain m o e

  none_left : (k : ℕ) (o : Term) → length dataset ≤ k → cell o ≡ true → cells_in dataset g k o ≡ false → ⊥
  unfolding cells_in
  none_left k o low c none = true≢false (sym (cells_lie_in dataset g (enough dataset) k low o c) ∙ none)

  pub settles : (m : ℕ) → Next m
  settles zero k o low h =
      by_cell zero k o (cell o) refl low h (λ c none. absurd (none_left k o (omega arith) c none))
  settles (suc m) k o low h =
      by_cell (suc m) k o (cell o) refl low h (λ c none. cell_settles m (settles m) k o low c none)

  settled_here : (o : Term) → Settled (length dataset) o
  unfolding cells_in
  settled_here o = settles (length dataset) zero o (omega arith) (λ c. refl)

  pub value_found : (o : Term) → within step (enough dataset) o ≡ Some (value_of dataset g o)
  value_found o =
      let (v, f, l) = settled_here o in
      f ∙ ap Some (sym (ap (settled o) f))

  value_is_list : (o : Term) → (is_iri rdf_nil o || cell o) ≡ true → (items : ListValues) × (value_of dataset g o ≡ list items)
  value_is_list o told =
      let (v, f, l) = settled_here o in
      let (items, is) = l told in
      (items, ap (settled o) f ∙ is)

  pub steps_suffice_here : (n : ℕ) (o : Term) → enough dataset ≤ n → value_within answers g n o ≡ Some (value_of dataset g o)
  steps_suffice_here n o low =
      let less : length dataset ≤ n = omega arith in
      let same : cell_within answers g n ≡ cell = λ i x. cell_rounds dataset g n less x i in
      ap (λ (c : Term → Bool). within (value_step answers g c) n o) same
      ∙ found_later step mono (enough dataset) n o (value_of dataset g o) low (value_found o)

  pub cell_values_here : (b : Term) → cell b ≡ true
      → (item : Term) × (rest : Term) × (items : ListValues) × (item_of answers g b ≡ Some item)
      × (rest_of answers g b ≡ Some rest) × (value_of dataset g rest ≡ list items)
      × (value_of dataset g b ≡ list (value (value_of dataset g item) items))
  cell_values_here (Literal a d l) c = absurd (false≢true (cell_shape (Literal a d l) c).blank)
  cell_values_here (Iri iri) c = absurd (false≢true (cell_shape (Iri iri) c).blank)
  cell_values_here (Blank l) c =
      let s : Shape answers g (Blank l) = cell_shape (Blank l) c in
      let (i, ei) = one_object (with_predicate rdf_first (out dataset g (Blank l))) s.first in
      let (r, er) = one_object (with_predicate rdf_rest (out dataset g (Blank l))) s.rest in
      let (items, is) = value_is_list r (listlike (Blank l) r c er) in
      let once : within step (suc (enough dataset)) (Blank l) ≡ Some (value_of dataset g (Blank l)) =
      found_next step mono (enough dataset) (Blank l) (value_of dataset g (Blank l)) (value_found (Blank l)) in
      let both : within step (suc (enough dataset)) (Blank l) ≡ before_items (value_of dataset g i) (value_of dataset g r) =
      two_found (enough dataset) l i r (value_of dataset g i) (value_of dataset g r) c ei er (value_found i) (value_found r) in
      let told : Some (value_of dataset g (Blank l)) ≡ Some (list (value (value_of dataset g i) items)) =
      sym once ∙ (both ∙ ap (before_items (value_of dataset g i)) is) in
      (i, r, items, ei, er, is, some_told (value_of dataset g (Blank l)) (list (value (value_of dataset g i) items)) told)
    where
      some_told : (x y : ListValue) → Some x ≡ Some y → x ≡ y
      some_told x y e = cc

pub literal_values : LiteralValues
literal_values dataset g lexical datatype language = refl

pub nil_value : NilValue
nil_value dataset g =
    ap (λ (r : Bool). if r then list no_values else reference (Iri rdf_nil)) ((bytes_decides rdf_nil rdf_nil).1 refl)

pub reference_values : ReferenceValues
reference_values dataset g (Iri iri) node not_nil no_cell = ap (λ (r : Bool). if r then list no_values else reference (Iri iri)) not_nil
reference_values dataset g (Blank l) node not_nil no_cell =
    ap
    (λ (r : Bool). settled (Blank l) (cell_or_reference r (answers_of dataset) g (within (value_step (answers_of dataset) g (is_cell dataset g)) (length dataset)) (Blank l)))
    no_cell
reference_values dataset g (Literal a d l) node not_nil no_cell = absurd (false≢true node)

pub cell_values : CellValues
cell_values dataset g b c = cell_values_here dataset g b c

pub steps_suffice : StepsSuffice
steps_suffice dataset g n object low = steps_suffice_here dataset g n object low

items_joined : (dataset : List Quad) (g : GraphRef) (b item rest : Term) (items : List Term) → is_cell dataset g b ≡ true
    → item_of (answers_of dataset) g b ≡ Some item → rest_of (answers_of dataset) g b ≡ Some rest
    → value_of dataset g rest ≡ list (values_of (map (value_of dataset g) items))
    → value_of dataset g b ≡ list (value (value_of dataset g item) (values_of (map (value_of dataset g) items)))
items_joined dataset g b item rest items c ei er ih =
    let (i, r, found_items, fi, fr, told, is) = cell_values_here dataset g b c in
    let same_item : i ≡ item = one_term i item (sym fi ∙ ei) in
    let same_rest : r ≡ rest = one_term r rest (sym fr ∙ er) in
    let same_items : found_items ≡ values_of (map (value_of dataset g) items) =
    one_list found_items (values_of (map (value_of dataset g) items)) (sym told ∙ (ap (value_of dataset g) same_rest ∙ ih)) in
    is ∙ (λ j. list (value (value_of dataset g (same_item j)) (same_items j)))
  where
    one_term : (x y : Term) → Some x ≡ Some y → x ≡ y
    one_term x y e = cc

    one_list : (x y : ListValues) → list x ≡ list y → x ≡ y
    one_list x y e = cc

pub items_in_order : ItemsInOrder
items_in_order dataset g b [] is = ap (value_of dataset g) is ∙ nil_value dataset g
items_in_order dataset g b (item ∷ items) told =
    items_joined dataset g b item told.2.0 items told.0 told.1 told.2.1 (items_in_order dataset g told.2.0 items told.2.2)
