-- Going back from a proper node where some nodes are known already: what holds before each node, and what the ends tell.
use Rattle.std.proofs.Common.{◌≡◌, refl, sym, ◌∙◌, ap, subst, ℕ, ◌+◌, ◌-◌, ◌<◌, ◌≤◌, List, [], length, Bool, true, false, not, ⊎_elim, Option, Some, None, arith}
use Rattle.std.proofs.lemmas.Bool.{false≢true}
use Rattle.lf_rdf.specs.declared.term.Term.{Term}
use Rattle.lf_rdf.specs.declared.term.Term.TheVariants.{Iri, Blank, Literal}
use Rattle.lf_rdf.specs.declared.quad.Quad.{Quad}
use Rattle.lf_rdf.specs.declared.question.GraphRef.{GraphRef}
use Rattle.lf_rdf.specs.declared.question.Question.{Question}
use Rattle.def_datasets.specs.Near.{Near, itself}
use Rattle.def_datasets.specs.Terms.{is_blank}
use Rattle.def_datasets.specs.Questions.{answers_of}
use Rattle.def_datasets.specs.Cells.{user_of, is_proper, is_cell}
use Rattle.lf_oracle.specs.Asking.{Learns}
use Rattle.lf_lists.specs.declared.known.KnownCells.{KnownCells}
use Rattle.lf_lists.specs.Learning.{NearTo}
use Rattle.lf_lists.specs.Hearing.{Hears}
use Rattle.lf_lists.specs.Marks.{marked, IsFew, HasMark, HasMarksOf}
use Rattle.lf_lists.specs.Walking.{Examined}
use Rattle.lf_lists.specs.Climbing.{GoesBack}
use Rattle.lf_lists.specs.Known.{Knows, IsExamined, IsFound, ClimbTells}
use Rattle.lf_lists.proofs.Hearings.{unheard, heard, heard_as, moved, followed, wider, holds_here}
use Rattle.lf_lists.proofs.Walks.{proper_shaped, shaped_blank}
use Rattle.lf_lists.proofs.Climbs.{few_proper, goes_back_begun, climbed_on, climbs_top, climbs_none, climbs_ring, near_user}
use Rattle.lf_lists.proofs.CellTests.{nothing_few, no_cell}
use Rattle.lf_lists.proofs.KnownWalks.{lies_outside}

-- going back is under way, the nodes that were climbed are cells where the next node is one, and what is known holds
pub record KnownBack (d : List Quad) (g : GraphRef) (known : KnownCells) (climbed : List (List ℕ)) (start next : Term) : Type 0 where
  pub back : GoesBack d g known.proper.keys climbed start next
  pub alike : (x : Term) → marked climbed x ≡ true → is_cell d g x ≡ is_cell d g next
  pub knows : Knows d g known

abbrev pub BackFrom : List Quad → GraphRef → KnownCells → KnownCells → List (List ℕ) → Term → Term → Type 0
BackFrom d g before known climbed start next = is_proper d g start ≡ true → Knows d g before → KnownBack d g known climbed start next

abbrev pub ClimbFrom : List Quad → GraphRef → KnownCells → KnownCells → List (List ℕ) → Term → Bool → Type 0
ClimbFrom d g before known climbed start found = is_proper d g start ≡ true → Knows d g before → ClimbTells d g known climbed start found

-- what holds before each node
pub record BackState (d now : List Quad) (g : GraphRef) (start : Term) (before : KnownCells) (told_first told : Option (List Question)) (first last : ℕ) (known : KnownCells) (climbed : List (List ℕ)) (next : Term) : Type 0 where
  pub stays : now ≡ d
  pub hears : Hears (NearTo d start) d told_first told first last (λ other. BackFrom other g before known climbed start next)
  pub here : KnownBack d g known climbed start next
  pub near : Near d [] start next
  pub few : IsFew climbed

begun_here : (d : List Quad) (g : GraphRef) (start : Term) (known : KnownCells) → is_proper d g start ≡ true → Knows d g known → KnownBack d g known [] start start
begun_here d g start known p knows =
    record {
      back = goes_back_begun d g known.proper.keys start p knows.proper;
      alike = λ x m. absurd (false≢true (sym (none x) ∙ m));
      knows = knows;
    }
  where
    none : (x : Term) → marked [] x ≡ false
    none (Iri iri) = refl
    none (Blank label) = refl
    none (Literal a b c) = refl

pub back_begun : (d : List Quad) (g : GraphRef) (start next : Term) (known : KnownCells) (climbed : List (List ℕ)) (told : Option (List Question)) (first : ℕ)
    → climbed ≡ [] → next ≡ start → is_proper d g start ≡ true → Knows d g known → BackState d d g start known told told first first known climbed next
back_begun d g start next known climbed told first none same p knows =
    subst (λ (w : List (List ℕ)). BackState d d g start known told told first first known w next) (sym none)
    (subst (λ (t : Term). BackState d d g start known told told first first known [] t) (sym same)
    (record {
      stays = refl;
      hears =
          unheard (NearTo d start) d told first (λ other. BackFrom other g known known [] start start) (λ other q holds. begun_here other g start known q holds);
      here = begun_here d g start known p knows;
      near = itself;
      few = nothing_few [] refl;
    }))

-- where it is found of the start, it is found of all that were climbed
module _ (d : List Quad) (g : GraphRef) (known : KnownCells) (climbed : List (List ℕ)) (start next : Term) (here : KnownBack d g known climbed start next) where
  climb_tells : (found : Bool) → found ≡ is_cell d g start → ClimbTells d g known climbed start found
  climb_tells found is =
      record { cell = is; alike = λ x m. here.alike x m ∙ (sym here.back.same ∙ sym is); knows = here.knows }

  climb_tells_more : (after : KnownCells) (climbed_after : List (List ℕ)) → HasMark climbed climbed_after next → Knows d g after
      → (found : Bool) → found ≡ is_cell d g start → ClimbTells d g after climbed_after start found
  climb_tells_more after climbed_after mark knows found is =
      record {
        cell = is;
        alike = λ x m. ⊎_elim (λ k. here.alike x k) (λ same. ap (is_cell d g) same) (mark.only x m) ∙ (sym here.back.same ∙ sym is);
        knows = knows;
      }

  as_examined : (after : KnownCells) (u : Term) (found : Bool) → IsExamined d g after u found → Examined d g known.proper.keys after.proper.keys u found
  as_examined after u found examined =
      record {
        tells = λ all. examined.proper;
        shaped = λ all x m. proper_shaped d g x (examined.knows.proper x m);
        proper = λ all met x m. examined.knows.proper x m;
      }

  back_on : (after : KnownCells) (climbed_after : List (List ℕ)) (u : Term) → user_of (answers_of d) next ≡ Some u → HasMark climbed climbed_after next
      → IsExamined d g after u true → KnownBack d g after climbed_after start u
  back_on after climbed_after u e mark examined =
      record {
        back = on;
        alike = λ x m. ⊎_elim (λ k. here.alike x k) (λ same. ap (is_cell d g) same) (mark.only x m) ∙ (sym here.back.same ∙ on.same);
        knows = examined.knows;
      }
    where
      on : GoesBack d g after.proper.keys climbed_after start u
      on = climbed_on d g known.proper.keys climbed start next here.back climbed_after after.proper.keys u e mark (as_examined after u true examined)

module _ {d now : List Quad} {g : GraphRef} {start : Term} {before : KnownCells} {told_first told : Option (List Question)} {first last : ℕ}
    {known : KnownCells} {climbed : List (List ℕ)} {next : Term} (state : BackState d now g start before told_first told first last known climbed next) where
  pub back_blank : is_blank next ≡ true
  back_blank = shaped_blank d g next (proper_shaped d g next state.here.back.next_proper)

  -- ---- a node that is known, or was climbed

  pub cell_known : marked known.cells.keys next ≡ true
      → Hears (NearTo d start) d told_first told first last (λ other. ClimbFrom other g before known climbed start true)
  cell_known m =
      heard_as (λ question near. near)
      (λ other fact p knows.
      let here = fact p knows in
      climb_tells other g known climbed start next here true (sym (here.back.same ∙ here.knows.cells next m))) state.hears

  pub other_known : marked known.others.keys next ≡ true
      → Hears (NearTo d start) d told_first told first last (λ other. ClimbFrom other g before known climbed start false)
  other_known m =
      heard_as (λ question near. near)
      (λ other fact p knows.
      let here = fact p knows in
      climb_tells other g known climbed start next here false
      (sym (here.back.same ∙ lies_outside (is_cell other g next) (here.knows.others next m)))) state.hears

  pub ring_climbed : marked climbed next ≡ true
      → Hears (NearTo d start) d told_first told first last (λ other. ClimbFrom other g before known climbed start false)
  ring_climbed ring =
      heard_as (λ question near. near)
      (λ other fact p knows.
      let here = fact p knows in
      climb_tells other g known climbed start next here false (climbs_ring other g known.proper.keys climbed start next here.back ring)) state.hears

  -- ---- the user of the node

  module _ {told_user : Option (List Question)} {last_user : ℕ} {user : Option Term} {climbed_after : List (List ℕ)}
      (mark : HasMark climbed climbed_after next)
      (asked : Learns (NearTo now next) now told told_user last last_user (λ other. user_of (answers_of other) next) user) where
    with_user : Hears (NearTo d start) d told_first told_user first last_user
        (λ other. BackFrom other g before known climbed start next × (user ≡ user_of (answers_of other) next))
    with_user = followed state.hears (wider state.near (moved state.stays (heard asked)))

    user_here : user ≡ user_of (answers_of d) next
    user_here = (holds_here with_user).1

    pub none_climbed : user ≡ None
        → Hears (NearTo d start) d told_first told_user first last_user (λ other. ClimbFrom other g before known climbed_after start false)
    none_climbed e =
        heard_as (λ question near. near)
        (λ other fact p knows.
        let here = fact.0 p knows in
        climb_tells_more other g known climbed start next here known climbed_after mark here.knows false
        (climbs_none other g known.proper.keys climbed start next here.back (sym fact.1 ∙ e))) with_user

    module _ (u : Term) (is : user ≡ Some u) {now_user : List Quad} {told_after : Option (List Question)} {last_after : ℕ} {known_after : KnownCells} {found : Bool}
        (stays : now_user ≡ now)
        (examines : Hears (NearTo now_user u) now_user told_user told_after last_user last_after (λ other. Knows other g known → IsExamined other g known_after u found)) where
      near_u : Near d [] start u
      near_u = near_user d g start next u state.here.back.next_proper (sym user_here ∙ is) state.near

      with_walk : Hears (NearTo d start) d told_first told_after first last_after
          (λ other. (BackFrom other g before known climbed start next × (user ≡ user_of (answers_of other) next)) × (Knows other g known → IsExamined other g known_after u found))
      with_walk = followed with_user (wider near_u (moved (stays ∙ state.stays) examines))

      found_as : (b : Bool) → found ≡ b → (other : List Quad) → IsExamined other g known_after u found → IsExamined other g known_after u b
      found_as b same other examined = subst (λ (w : Bool). IsExamined other g known_after u w) same examined

      pub top_climbed : found ≡ false
          → Hears (NearTo d start) d told_first told_after first last_after (λ other. ClimbFrom other g before known_after climbed_after start true)
      top_climbed denied =
          heard_as (λ question near. near)
          (λ other fact p knows.
          let here = fact.0.0 p knows in
          let examined = found_as false denied other (fact.1 here.knows) in
          climb_tells_more other g known climbed start next here known_after climbed_after mark examined.knows true
          (climbs_top other g known.proper.keys climbed start next here.back known_after.proper.keys u (sym fact.0.1 ∙ is)
          (as_examined other g known climbed start next here known_after u false examined))) with_walk

      pub back_goes_on : {now_after : List Quad} → found ≡ true → now_after ≡ now_user
          → BackState d now_after g start before told_first told_after first last_after known_after climbed_after u
      back_goes_on met stays_after =
          record {
            stays = stays_after ∙ (stays ∙ state.stays);
            hears =
                heard_as (λ question near. near)
                (λ other fact p knows.
                let here = fact.0.0 p knows in
                back_on other g known climbed start next here known_after climbed_after u (sym fact.0.1 ∙ is) mark
                (found_as true met other (fact.1 here.knows))) with_walk;
            here =
                back_on d g known climbed start next state.here known_after climbed_after u (sym user_here ∙ is) mark
                (found_as true met d ((holds_here with_walk).1 state.here.knows));
            near = near_u;
            few = mark.few;
          }

-- each round the nodes that can still be climbed are fewer
pub fewer_back : {d now : List Quad} {g : GraphRef} {start : Term} {before : KnownCells} {told_first told : Option (List Question)} {first last : ℕ}
    {known : KnownCells} {climbed : List (List ℕ)} {next : Term} → BackState d now g start before told_first told first last known climbed next
    → (earlier : List Quad) (climbed_before : List (List ℕ)) (x : Term) → now ≡ earlier → HasMark climbed_before climbed x → marked climbed_before x ≡ false
    → length now - length climbed < length earlier - length climbed_before
fewer_back {d = d} {now = now} {g = g} {climbed = climbed} state earlier climbed_before x stays m apart =
    let most : length climbed ≤ length d = few_proper d g climbed state.few state.here.back.climbed_proper in
    let same_d : length now ≡ length d = ap length state.stays in
    let same : length now ≡ length earlier = ap length stays in
    let long : length climbed ≡ length climbed_before + 1 = m.longer apart in
    omega arith

-- ---- what is found of the start

module _ {d : List Quad} {g : GraphRef} {x : Term} {told_first told : Option (List Question)} {first last : ℕ} {before : KnownCells} (known after : KnownCells) {climbed : List (List ℕ)} {found : Bool}
    (climbs : Hears (NearTo d x) d told_first told first last (λ other. ClimbFrom other g before known climbed x found)) where
  told_as : (b : Bool) → found ≡ b → (other : List Quad) → ClimbTells other g known climbed x found → ClimbTells other g known climbed x b
  told_as b is other tells = subst (λ (w : Bool). ClimbTells other g known climbed x w) is tells

  pub found_cell : found ≡ true → after.proper.keys ≡ known.proper.keys → after.broken.keys ≡ known.broken.keys
      → HasMarksOf known.cells.keys climbed after.cells.keys → after.others.keys ≡ known.others.keys
      → Hears (NearTo d x) d told_first told first last (λ other. is_proper other g x ≡ true → Knows other g before → IsFound other g after x true)
  found_cell met proper broken marks others =
      heard_as (λ question near. near)
      (λ other fact p knows.
      let tells = told_as true met other (fact p knows) in
      record {
        cell = tells.cell;
        knows = record {
          proper = λ y m. tells.knows.proper y (ap (λ (w : List (List ℕ)). marked w y) (sym proper) ∙ m);
          broken = λ y m. tells.knows.broken y (ap (λ (w : List (List ℕ)). marked w y) (sym broken) ∙ m);
          cells = λ y m. ⊎_elim (λ k. tells.knows.cells y k) (λ k. tells.alike y k) (marks y m);
          others = λ y m. tells.knows.others y (ap (λ (w : List (List ℕ)). marked w y) (sym others) ∙ m);
        };
      }) climbs

  pub found_other : found ≡ false → after.proper.keys ≡ known.proper.keys → after.broken.keys ≡ known.broken.keys
      → after.cells.keys ≡ known.cells.keys → HasMarksOf known.others.keys climbed after.others.keys
      → Hears (NearTo d x) d told_first told first last (λ other. is_proper other g x ≡ true → Knows other g before → IsFound other g after x false)
  found_other denied proper broken cells marks =
      heard_as (λ question near. near)
      (λ other fact p knows.
      let tells = told_as false denied other (fact p knows) in
      record {
        cell = tells.cell;
        knows = record {
          proper = λ y m. tells.knows.proper y (ap (λ (w : List (List ℕ)). marked w y) (sym proper) ∙ m);
          broken = λ y m. tells.knows.broken y (ap (λ (w : List (List ℕ)). marked w y) (sym broken) ∙ m);
          cells = λ y m. tells.knows.cells y (ap (λ (w : List (List ℕ)). marked w y) (sym cells) ∙ m);
          others = λ y m. ⊎_elim (λ k. tells.knows.others y k) (λ k. ap not (tells.alike y k)) (marks y m);
        };
      }) climbs

-- ---- whether a node is a cell

module _ {d : List Quad} {g : GraphRef} {x : Term} {told : Option (List Question)} {first : ℕ} (known : KnownCells) where
  pub known_cell : marked known.cells.keys x ≡ true → Hears (NearTo d x) d told told first first (λ other. Knows other g known → IsFound other g known x true)
  known_cell m =
      unheard (NearTo d x) d told first (λ other. Knows other g known → IsFound other g known x true)
      (λ other knows. record { cell = sym (knows.cells x m); knows = knows })

  pub known_other : marked known.others.keys x ≡ true → Hears (NearTo d x) d told told first first (λ other. Knows other g known → IsFound other g known x false)
  known_other m =
      unheard (NearTo d x) d told first (λ other. Knows other g known → IsFound other g known x false)
      (λ other knows. record { cell = sym (lies_outside (is_cell other g x) (knows.others x m)); knows = knows })

module _ {d : List Quad} {g : GraphRef} {x : Term} {told_first told : Option (List Question)} {first last : ℕ} {before known : KnownCells} {ends : Bool}
    (examines : Hears (NearTo d x) d told_first told first last (λ other. Knows other g before → IsExamined other g known x ends)) where
  ends_as : (b : Bool) → ends ≡ b → (other : List Quad) → IsExamined other g known x ends → IsExamined other g known x b
  ends_as b is other examined = subst (λ (w : Bool). IsExamined other g known x w) is examined

  pub start_proper : {now : List Quad} → ends ≡ true → Knows d g before → now ≡ d → is_proper now g x ≡ true
  start_proper met knows stays =
      subst (λ (w : List Quad). is_proper w g x ≡ true) (sym stays) (sym (ends_as true met d (holds_here examines knows)).proper)

  pub known_here : {now : List Quad} → Knows d g before → now ≡ d → Knows now g known
  known_here knows stays = subst (λ (w : List Quad). Knows w g known) (sym stays) (holds_here examines knows).knows

  pub not_proper_found : ends ≡ false → Hears (NearTo d x) d told_first told first last (λ other. Knows other g before → IsFound other g known x false)
  not_proper_found denied =
      heard_as (λ question near. near)
      (λ other fact knows.
      let examined = ends_as false denied other (fact knows) in
      record { cell = no_cell other g x (sym examined.proper); knows = examined.knows }) examines

  pub climbed_found : {now : List Quad} {told_after : Option (List Question)} {last_after : ℕ} {after : KnownCells} {found : Bool} → ends ≡ true → now ≡ d
      → Hears (NearTo now x) now told told_after last last_after (λ other. is_proper other g x ≡ true → Knows other g known → IsFound other g after x found)
      → Hears (NearTo d x) d told_first told_after first last_after (λ other. Knows other g before → IsFound other g after x found)
  climbed_found met stays climbs =
      heard_as (λ question near. near)
      (λ other fact knows.
      let examined = ends_as true met other (fact.0 knows) in
      fact.1 (sym examined.proper) examined.knows) (followed examines (moved stays climbs))
