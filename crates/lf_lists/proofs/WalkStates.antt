-- The loop of the walk along `rdf:rest`: what holds before each node.
use Rattle.std.proofs.Common.{◌≡◌, refl, sym, ◌∙◌, ap, subst, ℕ, ◌+◌, ◌-◌, ◌*◌, ◌<◌, ◌≤◌, List, [], length, true, false, Option, Some, None, arith}
use Rattle.lf_rdf.specs.declared.term.Term.{Term}
use Rattle.lf_rdf.specs.declared.quad.Quad.{Quad}
use Rattle.lf_rdf.specs.declared.question.GraphRef.{GraphRef}
use Rattle.lf_rdf.specs.declared.question.Question.{Question}
use Rattle.lf_rdf.specs.Vocabulary.{rdf_nil}
use Rattle.def_datasets.specs.Near.{Near, itself}
use Rattle.def_datasets.specs.Terms.{is_blank, is_iri}
use Rattle.lf_oracle.specs.Asking.{Learns}
use Rattle.lf_lists.specs.Learning.{NearTo}
use Rattle.lf_lists.specs.Hearing.{Hears}
use Rattle.lf_lists.specs.Marks.{marked, IsFew, HasMark}
use Rattle.lf_lists.specs.Walking.{shaped_rest, Walked, UnderWay}
use Rattle.lf_lists.proofs.Hearings.{unheard, heard, heard_as, moved, followed, wider, holds_here}
use Rattle.lf_lists.proofs.Walks.{begun, walked_on, at_nil, at_known, at_ring, at_stranger, shaped_told, shaped_blank, few_walked, near_rest}

-- what holds before each node of a walk: the questions so far tell that it is under way, and they are few
pub record WalkState (d now : List Quad) (g : GraphRef) (start : Term) (before : List (List ℕ)) (told_first told : Option (List Question)) (first last : ℕ) (marks walked : List (List ℕ)) (next : Term) : Type 0 where
  pub stays : now ≡ d
  pub hears : Hears (NearTo d start) d told_first told first last (λ other. UnderWay other g before marks walked start next)
  pub near : Near d [] start next
  pub counted : last ≤ first + 3 * length walked
  pub longer : length marks ≡ length before + length walked
  pub few : IsFew before → IsFew marks

pub state_begun : (d : List Quad) (g : GraphRef) (start next : Term) (before walked : List (List ℕ)) (told : Option (List Question)) (first : ℕ)
    → walked ≡ [] → next ≡ start → WalkState d d g start before told told first first before walked next
state_begun d g start next before walked told first none same =
    subst (λ (w : List (List ℕ)). WalkState d d g start before told told first first before w next) (sym none)
    (subst (λ (t : Term). WalkState d d g start before told told first first before [] t) (sym same)
    (record {
      stays = refl;
      hears = unheard (NearTo d start) d told first (λ other. UnderWay other g before before [] start start) (λ other. begun other g before start);
      near = itself;
      counted = omega arith;
      longer = omega arith;
      few = λ h. h;
    }))

module _ {d now : List Quad} {g : GraphRef} {start : Term} {before : List (List ℕ)} {told_first told : Option (List Question)} {first last : ℕ}
    {marks walked : List (List ℕ)} {next : Term} (state : WalkState d now g start before told_first told first last marks walked next) where
  -- ---- one question more

  module _ {told_after : Option (List Question)} {last_after : ℕ} {rest : Option Term}
      (asked : Learns (NearTo now next) now told told_after last last_after (λ other. shaped_rest other g next) rest) where
    pub both : Hears (NearTo d start) d told_first told_after first last_after
        (λ other. UnderWay other g before marks walked start next × (rest ≡ shaped_rest other g next))
    both = followed state.hears (wider state.near (moved state.stays (heard asked)))

    here : rest ≡ shaped_rest d g next
    here = (holds_here both).1

    pub next_blank : (r : Term) → rest ≡ Some r → is_blank next ≡ true
    next_blank r e = shaped_blank d g next (shaped_told d g next r (sym here ∙ e)).0

    pub state_on : {now_after : List Quad} (stays : now_after ≡ now) (r : Term) → rest ≡ Some r → (walked_after marks_after : List (List ℕ))
        → HasMark walked walked_after next → HasMark marks marks_after next → marked walked next ≡ false → marked marks next ≡ false
        → last_after ≤ last + 3 → WalkState d now_after g start before told_first told_after first last_after marks_after walked_after r
    state_on stays r e walked_after marks_after in_walked in_marks apart_walked apart_marks low =
        let long_walked : length walked_after ≡ length walked + 1 = in_walked.longer apart_walked in
        let long_marks : length marks_after ≡ length marks + 1 = in_marks.longer apart_marks in
        let counted : last ≤ first + 3 * length walked = state.counted in
        let longer : length marks ≡ length before + length walked = state.longer in
        record {
          stays = stays ∙ state.stays;
          hears =
              heard_as (λ question near. near)
              (λ other fact. walked_on other g before marks walked start next fact.0 marks_after walked_after r (sym fact.1 ∙ e) in_walked in_marks) both;
          near = near_rest d g start next r (sym here ∙ e) state.near;
          counted = omega arith;
          longer = omega arith;
          few = λ h. in_marks.few;
        }

    pub ends_stranger : is_iri rdf_nil next ≡ false → rest ≡ None
        → Hears (NearTo d start) d told_first told_after first last_after (λ other. Walked other g before marks start false)
    ends_stranger not_nil e =
        heard_as (λ question near. near) (λ other fact. at_stranger other g before marks walked start next fact.0 not_nil (sym fact.1 ∙ e)) both

    pub bound_stranger : last_after ≤ last + 3 → last_after + 3 * length before ≤ first + 3 * length marks + 3
    bound_stranger low =
        let counted : last ≤ first + 3 * length walked = state.counted in
        let longer : length marks ≡ length before + length walked = state.longer in
        omega arith

  -- ---- the ends of a walk

  pub ends_nil : true ≡ is_iri rdf_nil next → Hears (NearTo d start) d told_first told first last (λ other. Walked other g before marks start true)
  ends_nil nil = heard_as (λ question near. near) (λ other fact. at_nil other g before marks walked start next fact (sym nil)) state.hears

  pub ends_known : marked walked next ≡ false → marked marks next ≡ true
      → Hears (NearTo d start) d told_first told first last (λ other. Walked other g before marks start true)
  ends_known apart m = heard_as (λ question near. near) (λ other fact. at_known other g before marks walked start next fact apart m) state.hears

  pub ends_ring : marked walked next ≡ true → Hears (NearTo d start) d told_first told first last (λ other. Walked other g before marks start false)
  ends_ring ring = heard_as (λ question near. near) (λ other fact. at_ring other g before marks walked start next fact ring) state.hears

  pub bound_here : (more : ℕ) → last + 3 * length before ≤ first + 3 * length marks + more
  bound_here more =
      let counted : last ≤ first + 3 * length walked = state.counted in
      let longer : length marks ≡ length before + length walked = state.longer in
      omega arith

-- each round the nodes that can still be walked are fewer
pub fewer_left : {d now : List Quad} {g : GraphRef} {start : Term} {before : List (List ℕ)} {told_first told : Option (List Question)} {first last : ℕ}
    {marks walked : List (List ℕ)} {next : Term} → WalkState d now g start before told_first told first last marks walked next
    → (earlier : List Quad) (walked_before : List (List ℕ)) (x : Term) → now ≡ earlier → HasMark walked_before walked x → marked walked_before x ≡ false
    → length now - length walked < length earlier - length walked_before
fewer_left {d = d} {now = now} {g = g} {start = start} {before = before} {marks = marks} {walked = walked} {next = next} state earlier walked_before x stays m apart =
    let most : length walked ≤ length d = few_walked d g before marks walked start next (holds_here state.hears) walked_before x m in
    let same_d : length now ≡ length d = ap length state.stays in
    let same : length now ≡ length earlier = ap length stays in
    let long : length walked ≡ length walked_before + 1 = m.longer apart in
    omega arith
