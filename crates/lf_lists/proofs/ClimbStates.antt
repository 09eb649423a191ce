-- The loop that goes back from a proper node: what holds before each node.
use Rattle.std.proofs.Common.{◌≡◌, refl, sym, ◌∙◌, ap, subst, ℕ, ◌+◌, ◌-◌, ◌*◌, ◌<◌, ◌≤◌, List, [], length, Bool, true, false, if◌then◌else◌, Option, Some, None, arith}
use Rattle.lf_rdf.specs.declared.term.Term.{Term}
use Rattle.lf_rdf.specs.declared.quad.Quad.{Quad}
use Rattle.lf_rdf.specs.declared.question.GraphRef.{GraphRef}
use Rattle.lf_rdf.specs.declared.question.Question.{Question}
use Rattle.def_datasets.specs.Near.{Near, itself}
use Rattle.def_datasets.specs.Terms.{is_blank}
use Rattle.def_datasets.specs.Questions.{answers_of}
use Rattle.def_datasets.specs.Cells.{user_of, is_proper}
use Rattle.lf_oracle.specs.Asking.{Learns}
use Rattle.lf_lists.specs.Learning.{NearTo}
use Rattle.lf_lists.specs.Hearing.{Hears}
use Rattle.lf_lists.specs.Marks.{marked, AllMarked, IsFew, HasMark}
use Rattle.lf_lists.specs.Walking.{Examined}
use Rattle.lf_lists.specs.Climbing.{Climbs, GoesBack, GoesBackFrom}
use Rattle.lf_lists.proofs.Hearings.{unheard, heard, heard_as, moved, followed, wider, holds_here}
use Rattle.lf_lists.proofs.Walks.{proper_shaped, shaped_blank}
use Rattle.lf_lists.proofs.Climbs.{few_shaped, few_proper, goes_back_begun, climbed_on, climbs_top, climbs_none, climbs_ring, near_user}

-- what holds before each node: the questions so far tell that going back is under way, and they are few
pub record ClimbState (d now : List Quad) (g : GraphRef) (start : Term) (before : List (List ℕ)) (told_first told : Option (List Question)) (first last : ℕ) (known climbed : List (List ℕ)) (next : Term) : Type 0 where
  pub stays : now ≡ d
  pub hears : Hears (NearTo d start) d told_first told first last (λ other. GoesBackFrom other g before known climbed start next)
  pub back : GoesBack d g known climbed start next
  pub near : Near d [] start next
  pub counted : last + 3 * length before ≤ first + 3 * length known + length climbed
  pub few : IsFew known
  pub few_climbed : IsFew climbed

no_marks_few : IsFew []
no_marks_few terms all = omega arith

pub climb_begun : (d : List Quad) (g : GraphRef) (start next : Term) (known climbed : List (List ℕ)) (told : Option (List Question)) (first : ℕ)
    → climbed ≡ [] → next ≡ start → is_proper d g start ≡ true → AllMarked (is_proper d g) known → IsFew known
    → ClimbState d d g start known told told first first known climbed next
climb_begun d g start next known climbed told first none same p all few =
    subst (λ (w : List (List ℕ)). ClimbState d d g start known told told first first known w next) (sym none)
    (subst (λ (t : Term). ClimbState d d g start known told told first first known [] t) (sym same)
    (record {
      stays = refl;
      hears =
          unheard (NearTo d start) d told first (λ other. GoesBackFrom other g known known [] start start)
          (λ other q among. goes_back_begun other g known start q among);
      back = goes_back_begun d g known start p all;
      near = itself;
      counted = omega arith;
      few = few;
      few_climbed = no_marks_few;
    }))

module _ {d now : List Quad} {g : GraphRef} {start : Term} {before : List (List ℕ)} {told_first told : Option (List Question)} {first last : ℕ}
    {known climbed : List (List ℕ)} {next : Term} (state : ClimbState d now g start before told_first told first last known climbed next) where
  pub climb_blank : is_blank next ≡ true
  climb_blank = shaped_blank d g next (proper_shaped d g next state.back.next_proper)

  most_known : length known ≤ length d
  most_known = few_proper d g known state.few state.back.known_proper

  most_climbed : length climbed ≤ length d
  most_climbed = few_proper d g climbed state.few_climbed state.back.climbed_proper

  pub ring_found : marked climbed next ≡ true → Hears (NearTo d start) d told_first told first last (λ other. Climbs other g before start false)
  ring_found ring =
      heard_as (λ question near. near) (λ other fact p all. climbs_ring other g known climbed start next (fact p all) ring) state.hears

  pub ring_bound : last + 3 * length before ≤ first + 4 * length d + 4
  ring_bound =
      let counted : last + 3 * length before ≤ first + 3 * length known + length climbed = state.counted in
      let a : length known ≤ length d = most_known in
      let b : length climbed ≤ length d = most_climbed in
      omega arith

  -- ---- the user of the node

  module _ {told_user : Option (List Question)} {last_user : ℕ} {user : Option Term}
      (asked : Learns (NearTo now next) now told told_user last last_user (λ other. user_of (answers_of other) next) user) where
    with_user : Hears (NearTo d start) d told_first told_user first last_user
        (λ other. GoesBackFrom other g before known climbed start next × (user ≡ user_of (answers_of other) next))
    with_user = followed state.hears (wider state.near (moved state.stays (heard asked)))

    user_here : user ≡ user_of (answers_of d) next
    user_here = (holds_here with_user).1

    pub none_found : user ≡ None → Hears (NearTo d start) d told_first told_user first last_user (λ other. Climbs other g before start false)
    none_found e =
        heard_as (λ question near. near) (λ other fact p all. climbs_none other g known climbed start next (fact.0 p all) (sym fact.1 ∙ e)) with_user

    pub none_bound : last_user ≡ last + 1 → last_user + 3 * length before ≤ first + 4 * length d + 4
    none_bound one =
        let low : last + 3 * length before ≤ first + 4 * length d + 3 =
        (let counted : last + 3 * length before ≤ first + 3 * length known + length climbed = state.counted in
        let a : length known ≤ length d = most_known in
        let b : length climbed ≤ length d = most_climbed in
        omega arith) in
        omega arith

    module _ (u : Term) (is : user ≡ Some u) {now_user : List Quad} {told_after : Option (List Question)} {last_after : ℕ} {known_after : List (List ℕ)} {found : Bool}
        (stays : now_user ≡ now) (walk : Hears (NearTo now_user u) now_user told_user told_after last_user last_after (λ other. Examined other g known known_after u found)) where
      near_u : Near d [] start u
      near_u = near_user d g start next u state.back.next_proper (sym user_here ∙ is) state.near

      with_walk : Hears (NearTo d start) d told_first told_after first last_after
          (λ other. (GoesBackFrom other g before known climbed start next × (user ≡ user_of (answers_of other) next)) × Examined other g known known_after u found)
      with_walk = followed with_user (wider near_u (moved (stays ∙ state.stays) walk))

      examined_here : Examined d g known known_after u found
      examined_here = (holds_here with_walk).1

      pub top_found : found ≡ false → Hears (NearTo d start) d told_first told_after first last_after (λ other. Climbs other g before start true)
      top_found denied =
          heard_as (λ question near. near)
          (λ other fact p all.
          climbs_top other g known climbed start next (fact.0.0 p all) known_after u (sym fact.0.1 ∙ is)
          (subst (λ (b : Bool). Examined other g known known_after u b) denied fact.1)) with_walk

      pub top_bound : found ≡ false → last_user ≡ last + 1 → IsFew known_after
          → last_after + 3 * length known ≤ last_user + 3 * length known_after + (if found then 0 else 3)
          → last_after + 3 * length before ≤ first + 4 * length d + 4
      top_bound denied one few bound =
          let counted : last + 3 * length before ≤ first + 3 * length known + length climbed = state.counted in
          let a : length known_after ≤ length d = few_shaped d g known_after few (examined_here.shaped state.back.known_proper) in
          let b : length climbed ≤ length d = most_climbed in
          let c : last_after + 3 * length known ≤ last_user + 3 * length known_after + 3 =
          subst (λ (f : Bool). last_after + 3 * length known ≤ last_user + 3 * length known_after + (if f then 0 else 3)) denied bound in
          omega arith

      pub climb_on : {now_after : List Quad} → found ≡ true → last_user ≡ last + 1 → (now_after ≡ now_user) → IsFew known_after
          → last_after + 3 * length known ≤ last_user + 3 * length known_after + (if found then 0 else 3)
          → (climbed_after : List (List ℕ)) → HasMark climbed climbed_after next → marked climbed next ≡ false
          → ClimbState d now_after g start before told_first told_after first last_after known_after climbed_after u
      climb_on met one stays_after few bound climbed_after mark apart =
          let counted : last + 3 * length before ≤ first + 3 * length known + length climbed = state.counted in
          let long : length climbed_after ≡ length climbed + 1 = mark.longer apart in
          let c : last_after + 3 * length known ≤ last_user + 3 * length known_after + 0 =
          subst (λ (f : Bool). last_after + 3 * length known ≤ last_user + 3 * length known_after + (if f then 0 else 3)) met bound in
          record {
            stays = stays_after ∙ (stays ∙ state.stays);
            hears =
                heard_as (λ question near. near)
                (λ other fact p all.
                climbed_on other g known climbed start next (fact.0.0 p all) climbed_after known_after u (sym fact.0.1 ∙ is) mark
                (subst (λ (b : Bool). Examined other g known known_after u b) met fact.1)) with_walk;
            back =
                climbed_on d g known climbed start next state.back climbed_after known_after u (sym user_here ∙ is) mark
                (subst (λ (b : Bool). Examined d g known known_after u b) met examined_here);
            near = near_u;
            counted = omega arith;
            few = few;
            few_climbed = mark.few;
          }

-- each round the nodes that can still be climbed are fewer
pub fewer_climbs : {d now : List Quad} {g : GraphRef} {start : Term} {before : List (List ℕ)} {told_first told : Option (List Question)} {first last : ℕ}
    {known climbed : List (List ℕ)} {next : Term} → ClimbState d now g start before told_first told first last known climbed next
    → (earlier : List Quad) (climbed_before : List (List ℕ)) (x : Term) → now ≡ earlier → HasMark climbed_before climbed x → marked climbed_before x ≡ false
    → length now - length climbed < length earlier - length climbed_before
fewer_climbs {d = d} {now = now} {g = g} {climbed = climbed} state earlier climbed_before x stays m apart =
    let most : length climbed ≤ length d = few_proper d g climbed state.few_climbed state.back.climbed_proper in
    let same_d : length now ≡ length d = ap length state.stays in
    let same : length now ≡ length earlier = ap length stays in
    let long : length climbed ≡ length climbed_before + 1 = m.longer apart in
    omega arith
