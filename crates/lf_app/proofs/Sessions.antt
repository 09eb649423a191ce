-- A stream that is served from the empty history on has the headline.
use Rattle.std.proofs.Common.{◌≡◌, refl, subst, Option, None, List, [], ℕ, Bool, true}
use Rattle.def_histories.specs.declared.operation.Operation.{Operation}
use Rattle.lf_frames.specs.FrameTexts.{is_frame}
use Rattle.lf_session.specs.declared.ended.Ended.{Ended}
use Rattle.lf_session.specs.declared.ended.Ended.TheVariants as ended
use Rattle.lf_session.specs.Boards.{Boards, no_boards}
use Rattle.lf_session.specs.Served.{Told, IsServed}
use Rattle.lf_session.proofs.EmptyHistory.{empty_is_legal}
use Rattle.lf_session.proofs.HeadlineProofs.{sessions_hold}
use Rattle.lf_session.proofs.LoneProofs.{lone_turns_publish}
use Rattle.lf_session.proofs.Streams.{not_begun}
use Rattle.lf_app.specs.Holding.{session_seat}
use Rattle.lf_app.specs.Sessions.{RunsSession}

pub runs_session : (seat : ℕ) (alone : Bool) (boards boards_after : Boards) (before after : List Operation) (told : Told) (end : Ended)
    → seat ≡ session_seat → alone ≡ true → boards ≡ no_boards → before ≡ []
    → IsServed alone boards boards_after seat before after told end → RunsSession told end
runs_session seat alone boards boards_after before after told end is_seat is_alone are_home starts served =
    holds (subst (λ (h : List Operation). IsServed true no_boards boards_after session_seat h after told end) starts
    (subst (λ (b : Boards). IsServed true b boards_after session_seat before after told end) are_home
    (subst (λ (a : Bool). IsServed a boards boards_after session_seat before after told end) is_alone
    (subst (λ (s : ℕ). IsServed alone boards boards_after s before after told end) is_seat served))))
  where
    holds : IsServed true no_boards boards_after session_seat [] after told end → RunsSession told end
    holds s =
        record {
          after = after;
          boards = boards_after;
          served = s;
          headline = sessions_hold true no_boards session_seat s.bytes s.written told.left_after [] after end s.xs s.last s.session;
          turns = lone_turns_publish None session_seat s.bytes s.written told.left_after [] after end s.xs s.last s.session;
        }

pub runs_nothing : (left held : Option (List ℕ))
    → RunsSession record { left_before = left; left_after = left; held_before = held; held_after = held } ended.Memory
runs_nothing left held =
    runs_session session_seat true no_boards no_boards [] [] record { left_before = left; left_after = left; held_before = held; held_after = held }
    ended.Memory refl refl refl refl (not_begun true no_boards session_seat [] left held (empty_is_legal is_frame))
