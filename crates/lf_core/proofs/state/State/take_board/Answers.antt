use Rattle.std.proofs.Common.{rules, ◌≡◌, refl, sym, ◌∙◌, ap, length, List, ℕ, Some, None}
use Rattle.lf_core.specs.Entries.{operations}
use Rattle.lf_core.specs.Kept.{find_kept, next_kept}
use Rattle.lf_core.proofs.Taking.{found_next, handle_is, has_one, home_is, next_in, next_of, taken_in}
use Rattle.lf_core.proofs.state.State.take_board.Goals as goal

pub returns-in-None-clause-answer : goal.returns-in-None-clause-answer
returns-in-None-clause-answer c = (
  next_in c.args.self.now _ c.self.inside.frames.items _ c.number.result c.self.inside.newest None c.self.view_is c.self.invariant.same_frames
      c.self.invariant.same_commits c.number.ensures
      (ap (next_kept c.number.result) (sym c.as_slice.ensures.value) ∙ sym c.in-None.ensures),
  refl,
)

pub wake-requires : goal.wake-requires
wake-requires c =
    let next : next_kept c.number.result c.self.inside.frames.items ≡ Some c.in-Some.kept.now =
    ap (next_kept c.number.result) (sym c.as_slice.ensures.value) ∙ sym c.in-Some.ensures in
    let named : c.as_str.result.now ≡ c.in-Some.kept.now.live.name = c.as_str.ensures ∙ c.in_ok-parts-in-Some.ensures.frame in
    let found : find_kept c.as_str.result.now c.self.inside.frames.items ≡ Some c.in-Some.kept.now =
    ap (λ (name : List ℕ). find_kept name c.self.inside.frames.items) named
    ∙ found_next (operations c.self.inside.history.items) c.self.inside.frames.items c.number.result c.in-Some.kept.now c.self.invariant.same_frames next in
    record {
      handle =
          handle_is c.in-Some.kept.now c.in-Some-take_home.home _
          (home_is c.self.inside.frames.items c.as_str.result.now c.in-Some.kept.now c.in-Some-take_home.home found c.in-Some-take_home.ensures.board)
          c.in_ok-parts-in-Some.ensures.handle;
    }

pub unreachable-requires : goal.unreachable-requires
unreachable-requires c =
    let next : next_kept c.number.result c.self.inside.frames.items ≡ Some c.in-Some.kept.now =
    ap (next_kept c.number.result) (sym c.as_slice.ensures.value) ∙ sym c.in-Some.ensures in
    let named : c.as_str.result.now ≡ c.in-Some.kept.now.live.name = c.as_str.ensures ∙ c.in_ok-parts-in-Some.ensures.frame in
    let found : find_kept c.as_str.result.now c.self.inside.frames.items ≡ Some c.in-Some.kept.now =
    ap (λ (name : List ℕ). find_kept name c.self.inside.frames.items) named
    ∙ found_next (operations c.self.inside.history.items) c.self.inside.frames.items c.number.result c.in-Some.kept.now c.self.invariant.same_frames next in
    has_one c.self.inside.frames.items c.number.result c.as_str.result.now c.in-Some.kept.now next found c.in-None-take_home.ensures.board

pub invariant_of-self : goal.invariant_of-self
invariant_of-self c =
    let next : next_kept c.number.result c.self.inside.frames.items ≡ Some c.in-Some.kept.now =
    ap (next_kept c.number.result) (sym c.as_slice.ensures.value) ∙ sym c.in-Some.ensures in
    let named : c.as_str.result.now ≡ c.in-Some.kept.now.live.name = c.as_str.ensures ∙ c.in_ok-parts-in-Some.ensures.frame in
    let found : find_kept c.as_str.result.now c.self.inside.frames.items ≡ Some c.in-Some.kept.now =
    ap (λ (name : List ℕ). find_kept name c.self.inside.frames.items) named
    ∙ found_next (operations c.self.inside.history.items) c.self.inside.frames.items c.number.result c.in-Some.kept.now c.self.invariant.same_frames next in
    let counted : c.len.result ≡ length c.self.inside.frames.items = search rules in
    taken_in c.self.inside.history.items c.add_place.new.history.items c.self.inside.newest c.self.inside.frames.items c.take_home.new.frames.items
    c.self.inside.registrations c.self.inside.bytes _ _ _ c.in-Ok.places _ c.len.result _ c.as_str.result.now c.in-Some.kept.now c.self.invariant
    c.in-Ok.ensures.kept found c.take_home.ensures.left c.in-Ok.ensures.placed counted c.take_home.ensures.room

pub returns-in-Some-take_home-clause-answer : goal.returns-in-Some-take_home-clause-answer
returns-in-Some-take_home-clause-answer c =
    let next : next_kept c.number.result c.self.inside.frames.items ≡ Some c.in-Some.kept.now =
    ap (next_kept c.number.result) (sym c.as_slice.ensures.value) ∙ sym c.in-Some.ensures in
    let named : c.as_str.result.now ≡ c.in-Some.kept.now.live.name = c.as_str.ensures ∙ c.in_ok-parts-in-Some.ensures.frame in
    let found : find_kept c.as_str.result.now c.self.inside.frames.items ≡ Some c.in-Some.kept.now =
    ap (λ (name : List ℕ). find_kept name c.self.inside.frames.items) named
    ∙ found_next (operations c.self.inside.history.items) c.self.inside.frames.items c.number.result c.in-Some.kept.now c.self.invariant.same_frames next in
    next_of c.args.self.now _ c.self.inside.frames.items c.take_home.new.frames.items _ c.number.result c.self.inside.newest _ c.in-Some.kept.now
    c.in-Some-take_home.home _ _ c.as_str.result.now _ c.self.view_is c.self.invariant.same_frames c.self.invariant.same_commits
    c.self.invariant.are_kept c.number.ensures next
    (home_is c.self.inside.frames.items c.as_str.result.now c.in-Some.kept.now c.in-Some-take_home.home found c.in-Some-take_home.ensures.board) named
    c.take_home.ensures.left c.in_ok-parts-in-Some.ensures.frame c.in_ok-parts-in-Some.ensures.text_number c.wake.ensures
    c.in_ok-parts-in-Some.ensures.to
