-- Going back from a proper node: what one more node tells, and what the ends tell.
use Rattle.std.proofs.Common.{◌≡◌, refl, sym, ◌∙◌, ap, subst, ℕ, ◌≤◌, List, [], ◌∷◌, length, Bool, true, false, not, ◌&&◌, ◌||◌, ◌⊎◌, inl, inr, ⊎_elim, Some, None, arith}
use Rattle.std.proofs.lemmas.Bool.{true≢false, false≢true}
use Rattle.lf_rdf.specs.declared.term.Term.{Term}
use Rattle.lf_rdf.specs.declared.term.Term.TheVariants.{Iri, Blank, Literal}
use Rattle.lf_rdf.specs.declared.quad.Quad.{Quad}
use Rattle.lf_rdf.specs.declared.question.GraphRef.{GraphRef}
use Rattle.def_datasets.specs.Near.{Near, by_use}
use Rattle.def_datasets.specs.Terms.{is_blank, uses}
use Rattle.def_datasets.specs.Questions.{answers_of}
use Rattle.def_datasets.specs.Cells.{user_of, subject_of, begins_or, is_shaped, is_proper, is_cell, is_one_in}
use Rattle.def_datasets.proofs.CellProofs.{Shape, shape, cell_nodes, cells_are_least, one_in}
use Rattle.lf_lists.specs.Marks.{marked, AllMarked, IsFew, HasMark}
use Rattle.lf_lists.specs.Walking.{Examined}
use Rattle.lf_lists.specs.Climbing.{GoesBack}
use Rattle.lf_lists.proofs.Walks.{subjects, subjects_long, shaped_is_subject, proper_shaped, shaped_blank}

-- the nodes that have the form of a list node are no more than the quads
pub few_shaped : (d : List Quad) (g : GraphRef) (labels : List (List ℕ)) → IsFew labels → AllMarked (is_shaped d g) labels → length labels ≤ length d
few_shaped d g labels few shaped =
    let long : length (subjects d) ≡ length d = subjects_long d in
    let low : length labels ≤ length (subjects d) = few (subjects d) (λ x m. shaped_is_subject d g x (shaped x m)) in
    omega arith

pub few_proper : (d : List Quad) (g : GraphRef) (labels : List (List ℕ)) → IsFew labels → AllMarked (is_proper d g) labels → length labels ≤ length d
few_proper d g labels few proper = few_shaped d g labels few (λ x m. proper_shaped d g x (proper x m))

module _ (d : List Quad) (g : GraphRef) where
  abbrev proper : Term → Bool
  proper = is_proper d g

  abbrev cell : Term → Bool
  cell = is_cell d g

  proper_blank : (x : Term) → is_proper d g x ≡ true → is_blank x ≡ true
  proper_blank x p = shaped_blank d g x (proper_shaped d g x p)

  -- a proper node is a cell where its user isn't proper or is a cell
  cell_by_user : (x : Term) → is_proper d g x ≡ true → is_cell d g x ≡ begins_or proper cell (user_of (answers_of d) x)
  cell_by_user x p = cell_nodes d g x ∙ ap (λ (w : Bool). w && begins_or proper cell (user_of (answers_of d) x)) p

  pub goes_back_begun : (known : List (List ℕ)) (start : Term) → is_proper d g start ≡ true → AllMarked (is_proper d g) known
      → GoesBack d g known [] start start
  goes_back_begun known start p all =
      record {
        next_proper = p;
        known_proper = all;
        climbed_proper = λ x e. absurd (none x e);
        used = λ x e. absurd (none x e);
        same = refl;
      }
    where
      none : (x : Term) → marked [] x ≡ true → ⊥
      none (Iri iri) e = false≢true e
      none (Blank label) e = false≢true e
      none (Literal a b c) e = false≢true e

  module _ (known climbed : List (List ℕ)) (start next : Term) (back : GoesBack d g known climbed start next) where
    -- the user is proper: it is the next node
    pub climbed_on : (climbed_after known_after : List (List ℕ)) (u : Term) → user_of (answers_of d) next ≡ Some u
        → HasMark climbed climbed_after next → Examined d g known known_after u true → GoesBack d g known_after climbed_after start u
    climbed_on climbed_after known_after u e mark examined =
        record {
          next_proper = p;
          known_proper = examined.proper back.known_proper refl;
          climbed_proper = λ x m. ⊎_elim (λ k. back.climbed_proper x k) (λ is. ap (is_proper d g) is ∙ back.next_proper) (mark.only x m);
          used = λ x m. user_on x (mark.only x m);
          same = back.same ∙ (cell_by_user next back.next_proper ∙ (ap (begins_or proper cell) e ∙ (λ i. not (p i) || is_cell d g u)));
        }
      where
        p : is_proper d g u ≡ true
        p = sym (examined.tells back.known_proper)

        goes : (s : Term) → (marked climbed s ≡ true) ⊎ (s ≡ next) → (marked climbed_after s ≡ true) ⊎ (s ≡ u)
        goes s (inl m) = inl (mark.kept s m)
        goes s (inr is) = inl (subst (λ (t : Term). marked climbed_after t ≡ true) (sym is) mark.here)

        user_on : (x : Term) → (marked climbed x ≡ true) ⊎ (x ≡ next)
            → (s : Term) × (user_of (answers_of d) x ≡ Some s) × ((marked climbed_after s ≡ true) ⊎ (s ≡ u))
        user_on x (inl m) = let (s, f, k) = back.used x m in (s, f, goes s k)
        user_on x (inr is) = (u, ap (user_of (answers_of d)) is ∙ e, inr refl)

    -- the user isn't proper: the node begins a list
    pub climbs_top : (known_after : List (List ℕ)) (u : Term) → user_of (answers_of d) next ≡ Some u → Examined d g known known_after u false
        → true ≡ is_cell d g start
    climbs_top known_after u e examined =
        let p : false ≡ is_proper d g u = examined.tells back.known_proper in
        sym (back.same ∙ (cell_by_user next back.next_proper ∙ (ap (begins_or proper cell) e ∙ (λ i. not (sym p i) || is_cell d g u))))

    pub climbs_none : user_of (answers_of d) next ≡ None → false ≡ is_cell d g start
    climbs_none e = sym (back.same ∙ (cell_by_user next back.next_proper ∙ ap (begins_or proper cell) e))

    -- a node that was climbed is used by such nodes alone
    abbrev outside : Term → Bool
    outside x = not (marked climbed x)

    ring_user : marked climbed next ≡ true → (x : Term) → marked climbed x ≡ true → begins_or proper outside (user_of (answers_of d) x) ≡ false
    ring_user ring x m =
        let (s, f, k) = back.used x m in
        let inside : marked climbed s ≡ true = ⊎_elim (λ h. h) (λ is. ap (marked climbed) is ∙ ring) k in
        ap (begins_or proper outside) f ∙ (λ i. not (back.climbed_proper s inside i) || not (inside i))

    ring_step : marked climbed next ≡ true → (x : Term) (b : Bool) → marked climbed x ≡ b
        → begins_or proper outside (user_of (answers_of d) x) ≡ true → not b ≡ true
    ring_step ring x true m told = absurd (true≢false (sym told ∙ ring_user ring x m))
    ring_step ring x false m told = refl

    pub climbs_ring : marked climbed next ≡ true → false ≡ is_cell d g start
    climbs_ring ring = sym (back.same ∙ go (is_cell d g next) refl)
      where
        go : (b : Bool) → is_cell d g next ≡ b → b ≡ false
        go true e =
            absurd
            (true≢false
            (sym (cells_are_least d g outside (λ x p told. ring_step ring x (marked climbed x) refl told) next e) ∙ ap not ring))
        go false e = refl

  -- ---- nearness along a use

  one_user : (x u : Term) (quads : List Quad) → is_one_in g quads ≡ true → subject_of quads ≡ Some u → (q : Quad) × (quads ≡ q ∷ []) × (q.subject ≡ u)
  one_user x u quads one e =
      let (q, alone, there) = one_in g quads one in
      (q, alone, some_told q.subject u (sym (ap subject_of alone) ∙ e))
    where
      some_told : (a b : Term) → Some a ≡ Some b → a ≡ b
      some_told a b h = cc

  pub near_user : (origin x u : Term) → is_proper d g x ≡ true → user_of (answers_of d) x ≡ Some u → Near d [] origin x → Near d [] origin u
  near_user origin x u p e near =
      let s : Shape (answers_of d) g x = shape (answers_of d) g x (proper_shaped d g x p) in
      let (q, alone, subject) = one_user x u (uses d x) s.one_use e in
      subst (λ (t : Term). Near d [] origin t) subject (by_use x q (proper_blank x p) alone near)
