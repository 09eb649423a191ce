-- The laws of the cells of lists.
use Rattle.std.proofs.Common.{◌≡◌, refl, sym, ◌∙◌, ap, ℕ, zero, suc, ◌≤◌, List, [], ◌∷◌, length, map, filter, cond, Bool, true, false, not, ◌&&◌, ◌||◌, Option, Some, None, arith}
use Rattle.std.proofs.lemmas.Bool.{false≢true, and_parts, or_left, or_right}
use Rattle.lf_rdf.specs.declared.term.Term.{Term}
use Rattle.lf_rdf.specs.declared.quad.Quad.{Quad}
use Rattle.lf_rdf.specs.declared.question.GraphRef.{GraphRef}
use Rattle.lf_rdf.specs.Vocabulary.{rdf_first, rdf_rest}
use Rattle.lf_rdf.specs.Equality.{term_eq}
use Rattle.def_datasets.specs.Sorted.{has}
use Rattle.def_datasets.specs.Terms.{is_blank, is_iri, lies_in, uses}
use Rattle.def_datasets.specs.Questions.{Answers, answers_of, out}
use Rattle.def_datasets.specs.Rounds.{rounds}
use Rattle.def_datasets.specs.Cells.{with_predicate, other_quads, is_one, at_most_list_type, is_one_in, has_list_form, shaped, rest_of, user_of, ends_or, proper_if, proper_step, proper_within, begins_or, cell_if, cell_step, cell_within, enough, is_shaped, is_proper, is_cell}
use Rattle.def_datasets.specs.CellLaws.{ProperNodes, ProperNodesAreLeast, CellNodes, CellsAreLeast, RoundsSuffice, CellsAreProper, CellsAreUsedOnce}
use Rattle.def_datasets.proofs.OrderLaws.{term_decides}
use Rattle.def_datasets.proofs.RoundProofs.{Within, least, all_within, same_rounds, fixpoint}

-- ---- both steps are monotone

or_mono : (a b c : Bool) → (b ≡ true → c ≡ true) → (a || b) ≡ true → (a || c) ≡ true
or_mono true b c f e = refl
or_mono false b c f e = f e

ends_mono : (S T : Term → Bool) → Within S T → (rest : Option Term) → ends_or S rest ≡ true → ends_or T rest ≡ true
ends_mono S T f None e = e
ends_mono S T f (Some rest) e = or_mono _ (S rest) (T rest) (f rest) e

proper_if_mono : (S T : Term → Bool) → Within S T → (r : Bool) (rest : Option Term) → proper_if r S rest ≡ true → proper_if r T rest ≡ true
proper_if_mono S T f true rest e = ends_mono S T f rest e
proper_if_mono S T f false rest e = e

pub proper_mono : (answers : Answers) (g : GraphRef) (S T : Term → Bool) → Within S T → Within (proper_step answers g S) (proper_step answers g T)
proper_mono answers g S T f b e = proper_if_mono S T f (shaped answers g b) (rest_of answers g b) e

begins_mono : (P S T : Term → Bool) → Within S T → (user : Option Term) → begins_or P S user ≡ true → begins_or P T user ≡ true
begins_mono P S T f None e = e
begins_mono P S T f (Some user) e = or_mono (not (P user)) (S user) (T user) (f user) e

cell_if_mono : (P S T : Term → Bool) → Within S T → (r : Bool) (user : Option Term) → cell_if r P S user ≡ true → cell_if r P T user ≡ true
cell_if_mono P S T f true user e = begins_mono P S T f user e
cell_if_mono P S T f false user e = e

pub cell_mono : (answers : Answers) (P S T : Term → Bool) → Within S T → Within (cell_step answers P S) (cell_step answers P T)
cell_mono answers P S T f b e = cell_if_mono P S T f (P b) (user_of answers b) e

-- ---- the steps in parts

pub proper_parts : (r : Bool) (S : Term → Bool) (rest : Option Term) → proper_if r S rest ≡ (r && ends_or S rest)
proper_parts true S rest = refl
proper_parts false S rest = refl

pub cell_parts : (r : Bool) (P S : Term → Bool) (user : Option Term) → cell_if r P S user ≡ (r && begins_or P S user)
cell_parts true P S user = refl
cell_parts false P S user = refl

-- ---- shaped nodes are subjects

pub subjects : List Quad → List Term
subjects dataset = map (λ q. q.subject) dataset

is_some : List Quad → Bool
is_some [] = false
is_some (q ∷ rest) = true

one_is_some : (p : Quad → Bool) (xs : List Quad) → is_one (filter p xs) ≡ true → is_some xs ≡ true
unfolding is_some
one_is_some p [] e = absurd (false≢true e)
one_is_some p (q ∷ xs) e = refl

subject_case : (g : GraphRef) (b : Term) (q : Quad) (rest : List Quad) (r : Bool) → (lies_in g q && term_eq q.subject b) ≡ r
    → (is_some (out rest g b) ≡ true → has term_eq (subjects rest) b ≡ true)
    → is_some (cond r (q ∷ out rest g b) (out rest g b)) ≡ true → (term_eq b q.subject || has term_eq (subjects rest) b) ≡ true
unfolding is_some subjects
subject_case g b q rest true e ih some =
    let parts : (lies_in g q ≡ true) × (term_eq q.subject b ≡ true) = and_parts (lies_in g q) (term_eq q.subject b) e in
    let is : term_eq b q.subject ≡ true = (term_decides b q.subject).1 (sym ((term_decides q.subject b).0 parts.1)) in
    or_left (term_eq b q.subject) (has term_eq (subjects rest) b) is
subject_case g b q rest false e ih some = or_right (term_eq b q.subject) (has term_eq (subjects rest) b) (ih some)

is_subject : (dataset : List Quad) (g : GraphRef) (b : Term) → is_some (out dataset g b) ≡ true → has term_eq (subjects dataset) b ≡ true
unfolding is_some subjects
is_subject [] g b e = absurd (false≢true e)
is_subject (q ∷ rest) g b e = subject_case g b q rest (lies_in g q && term_eq q.subject b) refl (is_subject rest g b) e

-- the parts of the test of shape
pub record Shape (answers : Answers) (g : GraphRef) (b : Term) : Type 0 where
  pub blank : is_blank b ≡ true
  pub first : is_one (with_predicate rdf_first (answers.out g b)) ≡ true
  pub rest : is_one (with_predicate rdf_rest (answers.out g b)) ≡ true
  pub form : has_list_form (answers.out g b) ≡ true
  pub one_use : is_one_in g (answers.uses b) ≡ true

pub shape : (answers : Answers) (g : GraphRef) (b : Term) → shaped answers g b ≡ true → Shape answers g b
shape answers g b e =
    let x : ((is_blank b && not (answers.named b) && has_list_form (answers.out g b)) ≡ true) × (is_one_in g (answers.uses b) ≡ true) =
    and_parts (is_blank b && not (answers.named b) && has_list_form (answers.out g b)) (is_one_in g (answers.uses b)) e in
    let y : ((is_blank b && not (answers.named b)) ≡ true) × (has_list_form (answers.out g b) ≡ true) =
    and_parts (is_blank b && not (answers.named b)) (has_list_form (answers.out g b)) x.0 in
    let z : (is_blank b ≡ true) × (not (answers.named b) ≡ true) = and_parts (is_blank b) (not (answers.named b)) y.0 in
    let u : ((is_one (with_predicate rdf_first (answers.out g b)) && is_one (with_predicate rdf_rest (answers.out g b))) ≡ true)
    × (at_most_list_type (other_quads (answers.out g b)) ≡ true) =
    and_parts (is_one (with_predicate rdf_first (answers.out g b)) && is_one (with_predicate rdf_rest (answers.out g b)))
    (at_most_list_type (other_quads (answers.out g b))) y.1 in
    let v : (is_one (with_predicate rdf_first (answers.out g b)) ≡ true) × (is_one (with_predicate rdf_rest (answers.out g b)) ≡ true) =
    and_parts (is_one (with_predicate rdf_first (answers.out g b))) (is_one (with_predicate rdf_rest (answers.out g b))) u.0 in
    record { blank = z.0; first = v.0; rest = v.1; form = y.1; one_use = x.1 }

pub shaped_is_subject : (dataset : List Quad) (g : GraphRef) (b : Term) → is_shaped dataset g b ≡ true → has term_eq (subjects dataset) b ≡ true
shaped_is_subject dataset g b e =
    let s : Shape (answers_of dataset) g b = shape (answers_of dataset) g b e in
    is_subject dataset g b (one_is_some (λ q. is_iri rdf_first q.predicate) (out dataset g b) s.first)

proper_is_shaped : (answers : Answers) (g : GraphRef) (S : Term → Bool) (b : Term) → proper_step answers g S b ≡ true → shaped answers g b ≡ true
proper_is_shaped answers g S b e =
    (and_parts (shaped answers g b) (ends_or S (rest_of answers g b)) (sym (proper_parts (shaped answers g b) S (rest_of answers g b)) ∙ e)).0

pub rounds_are_shaped : (answers : Answers) (g : GraphRef) (n : ℕ) (b : Term) → proper_within answers g n b ≡ true → shaped answers g b ≡ true
rounds_are_shaped answers g zero b e = absurd (false≢true e)
rounds_are_shaped answers g (suc n) b e = proper_is_shaped answers g (proper_within answers g n) b e

cell_is_proper : (answers : Answers) (P S : Term → Bool) (b : Term) → cell_step answers P S b ≡ true → P b ≡ true
cell_is_proper answers P S b e =
    (and_parts (P b) (begins_or P S (user_of answers b)) (sym (cell_parts (P b) P S (user_of answers b)) ∙ e)).0

-- ---- rounds over a dataset

module _ (dataset : List Quad) (g : GraphRef) where
  abbrev answers : Answers
  answers = answers_of dataset

  abbrev proper : Term → Bool
  proper = is_proper dataset g

  step : (Term → Bool) → Term → Bool
  step = proper_step answers g

  subjects_long : (xs : List Quad) → length (subjects xs) ≡ length xs
  unfolding subjects
  subjects_long [] = refl
  subjects_long (q ∷ xs) = ap suc (subjects_long xs)

  proper_among : (S : Term → Bool) (b : Term) → proper_step answers g S b ≡ true → has term_eq (subjects dataset) b ≡ true
  proper_among S b e = shaped_is_subject dataset g b (proper_is_shaped answers g S b e)

  cells_among : (S : Term → Bool) (b : Term) → cell_step answers proper S b ≡ true → has term_eq (subjects dataset) b ≡ true
  cells_among S b e =
      shaped_is_subject dataset g b
      (rounds_are_shaped answers g (enough dataset) b (cell_is_proper answers proper S b e))

  low : (n : ℕ) → length dataset ≤ n → length (subjects dataset) ≤ n
  low n h = rw (subjects_long dataset) h

  is_enough : length dataset ≤ enough dataset
  is_enough = omega arith

  pub proper_fixed : (b : Term) → proper b ≡ proper_step answers g proper b
  proper_fixed b =
      fixpoint (proper_step answers g) (proper_mono answers g) term_eq term_decides (subjects dataset) proper_among (enough dataset)
      (low (enough dataset) is_enough) b

  pub cell_fixed : (b : Term) → is_cell dataset g b ≡ cell_step answers proper (is_cell dataset g) b
  cell_fixed b =
      fixpoint (cell_step answers proper) (cell_mono answers proper) term_eq term_decides (subjects dataset) cells_among (enough dataset)
      (low (enough dataset) is_enough) b

  pub proper_rounds : (n : ℕ) → length dataset ≤ n → (b : Term) → proper_within answers g n b ≡ proper b
  proper_rounds n h b =
      same_rounds (proper_step answers g) (proper_mono answers g) term_eq term_decides (subjects dataset) proper_among n (enough dataset)
      (low n h) (low (enough dataset) is_enough) b

  -- the cells by the proper nodes of the dataset, after some rounds
  unfoldable pub cells_in : ℕ → Term → Bool
  cells_in n = rounds (cell_step answers proper) n

  pub cells_lie_in : (n m : ℕ) → length dataset ≤ m → Within (cells_in n) (cells_in m)
  unfolding cells_in
  cells_lie_in n m h =
      all_within (cell_step answers proper) (cell_mono answers proper) term_eq term_decides (subjects dataset) cells_among n m (low m h)

  pub cell_rounds : (n : ℕ) → length dataset ≤ n → (b : Term) → cell_within answers g n b ≡ is_cell dataset g b
  cell_rounds n h b =
      let same : proper_within answers g n ≡ proper = λ i x. proper_rounds n h x i in
      ap (λ (P : Term → Bool). rounds (cell_step answers P) n b) same
      ∙ same_rounds (cell_step answers proper) (cell_mono answers proper) term_eq term_decides (subjects dataset) cells_among n (enough dataset)
      (low n h) (low (enough dataset) is_enough) b

pub proper_nodes : ProperNodes
proper_nodes dataset g b =
    proper_fixed dataset g b
    ∙ proper_parts (is_shaped dataset g b) (is_proper dataset g) (rest_of (answers_of dataset) g b)

pub cell_nodes : CellNodes
cell_nodes dataset g b =
    cell_fixed dataset g b
    ∙ cell_parts (is_proper dataset g b) (is_proper dataset g) (is_cell dataset g) (user_of (answers_of dataset) b)

pub proper_nodes_are_least : ProperNodesAreLeast
proper_nodes_are_least dataset g set closed b e =
    least (proper_step (answers_of dataset) g) (proper_mono (answers_of dataset) g) set
    (λ x told.
    let parts : (is_shaped dataset g x ≡ true) × (ends_or set (rest_of (answers_of dataset) g x) ≡ true) =
    and_parts (is_shaped dataset g x) (ends_or set (rest_of (answers_of dataset) g x))
    (sym (proper_parts (is_shaped dataset g x) set (rest_of (answers_of dataset) g x)) ∙ told) in
    closed x parts.0 parts.1)
    (enough dataset) b e

pub cells_are_least : CellsAreLeast
cells_are_least dataset g set closed b e =
    let P : Term → Bool = is_proper dataset g in
    least (cell_step (answers_of dataset) (is_proper dataset g)) (cell_mono (answers_of dataset) (is_proper dataset g)) set
    (λ x told.
    let parts : (is_proper dataset g x ≡ true) × (begins_or (is_proper dataset g) set (user_of (answers_of dataset) x) ≡ true) =
    and_parts (is_proper dataset g x) (begins_or (is_proper dataset g) set (user_of (answers_of dataset) x))
    (sym (cell_parts (is_proper dataset g x) (is_proper dataset g) set (user_of (answers_of dataset) x)) ∙ told) in
    closed x parts.0 parts.1)
    (enough dataset) b e

pub rounds_suffice : RoundsSuffice
rounds_suffice dataset g n b h = (proper_rounds dataset g n h b, cell_rounds dataset g n h b)

pub cells_are_proper : CellsAreProper
cells_are_proper dataset g b e =
    cell_is_proper (answers_of dataset) (is_proper dataset g) (is_cell dataset g) b (sym (cell_fixed dataset g b) ∙ e)

pub one_in : (g : GraphRef) (quads : List Quad) → is_one_in g quads ≡ true → (q : Quad) × (quads ≡ q ∷ []) × (lies_in g q ≡ true)
one_in g [] e = absurd (false≢true e)
one_in g (q ∷ []) e = (q, refl, e)
one_in g (q ∷ r ∷ rest) e = absurd (false≢true e)

pub cells_are_used_once : CellsAreUsedOnce
cells_are_used_once dataset g b e =
    let s : Shape (answers_of dataset) g b =
    shape (answers_of dataset) g b (rounds_are_shaped (answers_of dataset) g (enough dataset) b (cells_are_proper dataset g b e)) in
    one_in g (uses dataset b) s.one_use
