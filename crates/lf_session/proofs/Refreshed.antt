-- The newest version is framed where it is new enough.
use Rattle.std.proofs.Common.{◌≡◌, ◌≤◌, inl, ℕ, Bool, List, [], arith}
use Rattle.std.specs.Prelude.{Result, Ok, Option}
use Rattle.lf_base.specs.declared.memory.Memory.{Memory}
use Rattle.lf_model.specs.declared.desk.FramedNow.{FramedNow}
use Rattle.lf_model.specs.declared.desk.Look.TheVariants.{Pending}
use Rattle.def_histories.specs.declared.operation.Operation.{Operation}
use Rattle.def_histories.specs.History.{commits}
use Rattle.lf_desk.specs.Looks.{Frames}
use Rattle.lf_desk.specs.Calls.{IsCall}
use Rattle.lf_desk.specs.Seats.{IsExtended}
use Rattle.lf_session.specs.Replies.{Reply, framed_reply}
use Rattle.lf_session.specs.Answers.{Refreshes}
use Rattle.lf_session.proofs.Extended.{calls-in_turn, commits-grow}
use Rattle.lf_session.proofs.OneStep.{call-at}

pub refreshed : (alone there : Bool) (seat place : ℕ) (a b d : List Operation) (name : List ℕ) (need newest : ℕ) (have : Option ℕ) (needed : ℕ)
    (framed : Result (Option FramedNow) Memory) (reply : Reply) → there ≡ alone → place ≡ seat → need ≤ newest
    → IsCall alone seat a b [] (λ seen. newest ≡ commits seen) → IsCall there place b d [] (λ later. Frames later name framed)
    → reply ≡ framed_reply framed
    → IsCall alone seat a d [] (λ later. Refreshes name need [] later (Ok (Pending have needed)) reply)
refreshed alone there seat place a b d name need newest have needed framed reply e f enough p q told =
    calls-in_turn alone seat a b d [] _ _ (λ later. Refreshes name need [] later (Ok (Pending have needed)) reply) p
    (call-at alone there seat place b d [] _ e f q) says
  where
    says : (seen later : List Operation) → IsExtended alone seat seen later → newest ≡ commits seen → Frames later name framed
        → Refreshes name need [] later (Ok (Pending have needed)) reply
    says seen later went is found =
        let grown : commits seen ≤ commits later = commits-grow alone seat seen later went in
        inl (omega arith, (framed, found, told))
