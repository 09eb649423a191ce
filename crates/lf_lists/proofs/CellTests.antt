-- Whether a node is a cell, by the walk along its rests and going back along its uses.
use Rattle.std.proofs.Common.{◌≡◌, refl, sym, ◌∙◌, ap, subst, ℕ, ◌+◌, ◌*◌, ◌≤◌, List, [], length, Bool, true, false, if◌then◌else◌, Option, arith}
use Rattle.std.proofs.lemmas.Bool.{true≢false, false≢true}
use Rattle.lf_rdf.specs.declared.term.Term.{Term}
use Rattle.lf_rdf.specs.declared.term.Term.TheVariants.{Iri, Blank, Literal}
use Rattle.lf_rdf.specs.declared.quad.Quad.{Quad}
use Rattle.lf_rdf.specs.declared.question.GraphRef.{GraphRef}
use Rattle.lf_rdf.specs.declared.question.Question.{Question}
use Rattle.def_datasets.specs.Terms.{is_blank}
use Rattle.def_datasets.specs.Cells.{is_proper, is_cell}
use Rattle.def_datasets.proofs.CellProofs.{cells_are_proper}
use Rattle.lf_oracle.specs.Asking.{Learns}
use Rattle.lf_lists.specs.Learning.{NearTo}
use Rattle.lf_lists.specs.Hearing.{Hears}
use Rattle.lf_lists.specs.Marks.{marked, AllMarked, IsFew}
use Rattle.lf_lists.specs.Walking.{Examined, Walked}
use Rattle.lf_lists.specs.Climbing.{Climbs}
use Rattle.lf_lists.proofs.Hearings.{unheard, heard_as, learnt, moved, followed, holds_here}
use Rattle.lf_lists.proofs.Walks.{proper_shaped, shaped_blank, ends_blank}
use Rattle.lf_lists.proofs.Climbs.{few_shaped}

pub nothing_marked : (labels : List (List ℕ)) → labels ≡ [] → (set : Term → Bool) → AllMarked set labels
nothing_marked labels none set x m = absurd (lacks x (subst (λ (w : List (List ℕ)). marked w x ≡ true) none m))
  where
    lacks : (x : Term) → marked [] x ≡ true → ⊥
    lacks (Iri iri) e = false≢true e
    lacks (Blank label) e = false≢true e
    lacks (Literal a b c) e = false≢true e

pub nothing_few : (labels : List (List ℕ)) → labels ≡ [] → IsFew labels
nothing_few labels none terms all = let h : length labels ≡ 0 = ap length none in omega arith

pub no_cell : (d : List Quad) (g : GraphRef) (x : Term) → is_proper d g x ≡ false → false ≡ is_cell d g x
no_cell d g x denied = go (is_cell d g x) refl
  where
    go : (b : Bool) → is_cell d g x ≡ b → false ≡ b
    go true e = absurd (true≢false (sym (cells_are_proper d g x e) ∙ denied))
    go false e = refl

pub not_blank_proper : (d : List Quad) (g : GraphRef) (x : Term) → is_blank x ≡ false → is_proper d g x ≡ false
not_blank_proper d g x denied = go (is_proper d g x) refl
  where
    go : (b : Bool) → is_proper d g x ≡ b → b ≡ false
    go true e = absurd (true≢false (sym (shaped_blank d g x (proper_shaped d g x e)) ∙ denied))
    go false e = refl

-- ---- whether a node is proper

pub examined_other : {d : List Quad} {g : GraphRef} {x : Term} {told : Option (List Question)} {first : ℕ} {known : List (List ℕ)} → is_blank x ≡ false
    → Hears (NearTo d x) d told told first first (λ other. Examined other g known known x false)
examined_other {d = d} {g = g} {x = x} {told = told} {first = first} {known = known} denied =
    unheard (NearTo d x) d told first (λ other. Examined other g known known x false)
    (λ other.
    record {
      tells = λ all. sym (not_blank_proper other g x denied);
      shaped = λ all y m. proper_shaped other g y (all y m);
      proper = λ all met. absurd (false≢true met);
    })

pub examined_walk : {d : List Quad} {g : GraphRef} {x : Term} {told_first told : Option (List Question)} {first last : ℕ} {before after : List (List ℕ)} {found : Bool}
    → is_blank x ≡ true → Hears (NearTo d x) d told_first told first last (λ other. Walked other g before after x found)
    → Hears (NearTo d x) d told_first told first last (λ other. Examined other g before after x found)
examined_walk {g = g} {x = x} blank walk =
    heard_as (λ question near. near)
    (λ other fact. record { tells = λ all. fact.tells all ∙ ends_blank other g x blank; shaped = fact.shaped; proper = fact.proper }) walk

-- ---- whether a node is a cell

pub no_question : {d : List Quad} (g : GraphRef) {x : Term} {told : Option (List Question)} {first : ℕ} → is_blank x ≡ false
    → Learns (NearTo d x) d told told first first (λ other. is_cell other g x) false
no_question {d = d} g {x = x} {told = told} {first = first} denied =
    learnt (unheard (NearTo d x) d told first (λ other. false ≡ is_cell other g x) (λ other. no_cell other g x (not_blank_proper other g x denied)))
    (λ other. is_cell other g x) false (λ other e. e)

module _ {d : List Quad} {g : GraphRef} {x : Term} {told_first told : Option (List Question)} {first last : ℕ} {before after : List (List ℕ)} {ends : Bool}
    (none : before ≡ []) (walk : Hears (NearTo d x) d told_first told first last (λ other. Examined other g before after x ends)) where
  examined_as : (b : Bool) → ends ≡ b → (other : List Quad) → Examined other g before after x ends → Examined other g before after x b
  examined_as b is other e = subst (λ (w : Bool). Examined other g before after x w) is e

  pub start_proper : ends ≡ true → is_proper d g x ≡ true
  start_proper met = sym ((examined_as true met d (holds_here walk)).tells (nothing_marked before none (is_proper d g)))

  pub known_proper : ends ≡ true → AllMarked (is_proper d g) after
  known_proper met = (examined_as true met d (holds_here walk)).proper (nothing_marked before none (is_proper d g)) refl

  pub start_now : {now : List Quad} → ends ≡ true → now ≡ d → is_proper now g x ≡ true
  start_now met stays = subst (λ (w : List Quad). is_proper w g x ≡ true) (sym stays) (start_proper met)

  pub known_now : {now : List Quad} → ends ≡ true → now ≡ d → AllMarked (is_proper now g) after
  known_now met stays = subst (λ (w : List Quad). AllMarked (is_proper w g) after) (sym stays) (known_proper met)

  pub cell_lacks : ends ≡ false → Learns (NearTo d x) d told_first told first last (λ other. is_cell other g x) false
  cell_lacks denied =
      learnt walk (λ other. is_cell other g x) false
      (λ other e. no_cell other g x (sym ((examined_as false denied other e).tells (nothing_marked before none (is_proper other g)))))

  pub lacks_bound : ends ≡ false → IsFew after → last + 3 * length before ≤ first + 3 * length after + (if ends then 0 else 3)
      → last ≤ first + 8 * (length d + 1)
  lacks_bound denied few bound =
      let a : length after ≤ length d = few_shaped d g after few ((holds_here walk).shaped (nothing_marked before none (is_proper d g))) in
      let b : last + 3 * length before ≤ first + 3 * length after + 3 =
      subst (λ (w : Bool). last + 3 * length before ≤ first + 3 * length after + (if w then 0 else 3)) denied bound in
      omega arith

  pub cell_found : {now : List Quad} {told_after : Option (List Question)} {last_after : ℕ} {found : Bool} → ends ≡ true → now ≡ d
      → Hears (NearTo now x) now told told_after last last_after (λ other. Climbs other g after x found)
      → Learns (NearTo d x) d told_first told_after first last_after (λ other. is_cell other g x) found
  cell_found {found = found} met stays climb =
      learnt (followed walk (moved stays climb)) (λ other. is_cell other g x) found
      (λ other e.
      e.1 (sym ((examined_as true met other e.0).tells (nothing_marked before none (is_proper other g))))
      ((examined_as true met other e.0).proper (nothing_marked before none (is_proper other g)) refl))

  pub found_bound : {now : List Quad} {last_after : ℕ} → ends ≡ true → now ≡ d
      → last + 3 * length before ≤ first + 3 * length after + (if ends then 0 else 3)
      → last_after + 3 * length after ≤ last + 4 * length now + 4 → last_after ≤ first + 8 * (length d + 1)
  found_bound {now = now} {last_after = last_after} met stays bound climb =
      let b : last + 3 * length before ≤ first + 3 * length after + 0 =
      subst (λ (w : Bool). last + 3 * length before ≤ first + 3 * length after + (if w then 0 else 3)) met bound in
      let same : length now ≡ length d = ap length stays in
      omega arith
