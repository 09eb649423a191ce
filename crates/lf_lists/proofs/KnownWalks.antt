-- The walk along `rdf:rest` where some nodes are known already: what its ends tell.
use Rattle.std.proofs.Common.{◌≡◌, refl, sym, ◌∙◌, ap, subst, ℕ, List, [], Bool, true, false, not, ◌||◌, ⊎_elim, Option, None}
use Rattle.std.proofs.lemmas.Bool.{false≢true, or_left, or_right}
use Rattle.lf_rdf.specs.declared.term.Term.{Term}
use Rattle.lf_rdf.specs.declared.quad.Quad.{Quad}
use Rattle.lf_rdf.specs.declared.question.GraphRef.{GraphRef}
use Rattle.lf_rdf.specs.declared.question.Question.{Question}
use Rattle.lf_rdf.specs.Vocabulary.{rdf_nil}
use Rattle.def_datasets.specs.Terms.{is_blank, is_iri}
use Rattle.def_datasets.specs.Cells.{is_proper}
use Rattle.lf_oracle.specs.Asking.{Learns}
use Rattle.lf_lists.specs.declared.known.KnownCells.{KnownCells}
use Rattle.lf_lists.specs.Learning.{NearTo}
use Rattle.lf_lists.specs.Hearing.{Hears}
use Rattle.lf_lists.specs.Marks.{marked, HasMarksOf}
use Rattle.lf_lists.specs.Walking.{shaped_rest, ends_well, UnderWay}
use Rattle.lf_lists.specs.Known.{Knows, IsExamined, WalkTells}
use Rattle.lf_lists.proofs.Hearings.{unheard, heard_as}
use Rattle.lf_lists.proofs.CellTests.{nothing_marked, not_blank_proper}
use Rattle.lf_lists.proofs.Walks.{marked_blank, blank_not_nil, ends_blank, at_ring, at_stranger}
use Rattle.lf_lists.proofs.WalkStates.{WalkState, state_begun, both}

pub lies_outside : (b : Bool) → not b ≡ true → b ≡ false
lies_outside true e = absurd (false≢true e)
lies_outside false e = refl

-- the end of a walk: the nodes that were walked do as the next node does
way_tells : (d : List Quad) (g : GraphRef) (walked : List (List ℕ)) (start next : Term) → UnderWay d g [] walked walked start next
    → (ends : Bool) → ends ≡ ends_well d g next → WalkTells d g walked start ends
way_tells d g walked start next way ends e =
    record { start_ends = e ∙ sym way.start_ends; alike = λ x m. way.ends x m ∙ sym e }

pub walk_begun : (d : List Quad) (g : GraphRef) (start next : Term) (walked : List (List ℕ)) (told : Option (List Question)) (first : ℕ)
    → walked ≡ [] → next ≡ start → WalkState d d g start [] told told first first walked walked next
walk_begun d g start next walked told first none same =
    subst (λ (w : List (List ℕ)). WalkState d d g start [] told told first first w walked next) (sym none)
    (state_begun d g start next [] walked told first none same)

module _ {d now : List Quad} {g : GraphRef} {start : Term} {told_first told : Option (List Question)} {first last : ℕ}
    {walked : List (List ℕ)} {next : Term} (known : KnownCells) (state : WalkState d now g start [] told_first told first last walked walked next) where
  abbrev Tells : Bool → Option (List Question) → ℕ → Type 0
  Tells ends told_last end =
      Hears (NearTo d start) d told_first told_last first end (λ other. Knows other g known → WalkTells other g walked start ends)

  pub tells_nil : is_iri rdf_nil next ≡ true → Tells true told last
  tells_nil nil =
      heard_as (λ question near. near)
      (λ other way knows. way_tells other g walked start next way true (sym (or_left (is_iri rdf_nil next) (is_proper other g next) nil))) state.hears

  pub tells_proper : marked known.proper.keys next ≡ true → Tells true told last
  tells_proper m =
      heard_as (λ question near. near)
      (λ other way knows.
      way_tells other g walked start next way true (sym (or_right (is_iri rdf_nil next) (is_proper other g next) (knows.proper next m)))) state.hears

  pub tells_broken : marked known.broken.keys next ≡ true → Tells false told last
  tells_broken m =
      heard_as (λ question near. near)
      (λ other way knows.
      way_tells other g walked start next way false
      (sym (λ i. blank_not_nil next (marked_blank known.broken.keys next m) i || lies_outside (is_proper other g next) (knows.broken next m) i))) state.hears

  pub tells_ring : marked walked next ≡ true → Tells false told last
  tells_ring ring =
      heard_as (λ question near. near)
      (λ other way knows.
      way_tells other g walked start next way false
      ((at_ring other g [] walked walked start next way ring).tells (nothing_marked [] refl (is_proper other g)) ∙ way.start_ends)) state.hears

  pub tells_stranger : {told_after : Option (List Question)} {last_after : ℕ} {rest : Option Term}
      → Learns (NearTo now next) now told told_after last last_after (λ other. shaped_rest other g next) rest
      → is_iri rdf_nil next ≡ false → rest ≡ None → Tells false told_after last_after
  tells_stranger asked not_nil none =
      heard_as (λ question near. near)
      (λ other fact knows.
      way_tells other g walked start next fact.0 false
      ((at_stranger other g [] walked walked start next fact.0 not_nil (sym fact.1 ∙ none)).tells (nothing_marked [] refl (is_proper other g)) ∙ fact.0.start_ends))
      (both state asked)

-- ---- whether a node is proper

pub examined_none : {d : List Quad} {g : GraphRef} {x : Term} {told : Option (List Question)} {first : ℕ} (known : KnownCells) → is_blank x ≡ false
    → Hears (NearTo d x) d told told first first (λ other. Knows other g known → IsExamined other g known x false)
examined_none {d = d} {g = g} {x = x} {told = told} {first = first} known denied =
    unheard (NearTo d x) d told first (λ other. Knows other g known → IsExamined other g known x false)
    (λ other knows. record { proper = sym (not_blank_proper other g x denied); knows = knows })

module _ {d : List Quad} {g : GraphRef} {x : Term} {told_first told : Option (List Question)} {first last : ℕ} (known after : KnownCells) {walked : List (List ℕ)} {ends : Bool}
    (blank : is_blank x ≡ true) (walk : Hears (NearTo d x) d told_first told first last (λ other. Knows other g known → WalkTells other g walked x ends)) where
  told_as : (b : Bool) → ends ≡ b → (other : List Quad) → WalkTells other g walked x ends → WalkTells other g walked x b
  told_as b is other tells = subst (λ (w : Bool). WalkTells other g walked x w) is tells

  pub examined_proper : ends ≡ true → HasMarksOf known.proper.keys walked after.proper.keys → after.broken.keys ≡ known.broken.keys → after.cells.keys ≡ known.cells.keys
      → after.others.keys ≡ known.others.keys
      → Hears (NearTo d x) d told_first told first last (λ other. Knows other g known → IsExamined other g after x true)
  examined_proper met marks broken cells others =
      heard_as (λ question near. near)
      (λ other fact knows.
      let tells = told_as true met other (fact knows) in
      record {
        proper = tells.start_ends ∙ ends_blank other g x blank;
        knows = record {
          proper = λ y m. ⊎_elim (λ k. knows.proper y k) (λ k. tells.alike y k) (marks y m);
          broken = λ y m. knows.broken y (ap (λ (w : List (List ℕ)). marked w y) (sym broken) ∙ m);
          cells = λ y m. knows.cells y (ap (λ (w : List (List ℕ)). marked w y) (sym cells) ∙ m);
          others = λ y m. knows.others y (ap (λ (w : List (List ℕ)). marked w y) (sym others) ∙ m);
        };
      }) walk

  pub examined_broken : ends ≡ false → after.proper.keys ≡ known.proper.keys → HasMarksOf known.broken.keys walked after.broken.keys → after.cells.keys ≡ known.cells.keys
      → after.others.keys ≡ known.others.keys
      → Hears (NearTo d x) d told_first told first last (λ other. Knows other g known → IsExamined other g after x false)
  examined_broken denied proper marks cells others =
      heard_as (λ question near. near)
      (λ other fact knows.
      let tells = told_as false denied other (fact knows) in
      record {
        proper = tells.start_ends ∙ ends_blank other g x blank;
        knows = record {
          proper = λ y m. knows.proper y (ap (λ (w : List (List ℕ)). marked w y) (sym proper) ∙ m);
          broken = λ y m. ⊎_elim (λ k. knows.broken y k) (λ k. ap not (tells.alike y k)) (marks y m);
          cells = λ y m. knows.cells y (ap (λ (w : List (List ℕ)). marked w y) (sym cells) ∙ m);
          others = λ y m. knows.others y (ap (λ (w : List (List ℕ)). marked w y) (sym others) ∙ m);
        };
      }) walk
