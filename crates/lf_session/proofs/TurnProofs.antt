-- What may come of a turn is a step of a session.
use Rattle.std.proofs.Common.{◌≡◌, ◌⊎◌, inl, inr, refl, sym, ◌∙◌, ap, subst, ℕ, ◌≤◌, length, Bool, List, [], ◌++◌, Option, Some, Result, Ok, Err}
use Rattle.std.proofs.lemmas.List.{append-nil}
use Rattle.lf_base.specs.declared.memory.Memory.{Memory}
use Rattle.def_histories.specs.declared.operation.Operation.{Operation}
use Rattle.def_histories.specs.History.{live}
use Rattle.def_histories.specs.Legal.{IsLegal}
use Rattle.def_histories.proofs.LegalProofs.{prefix_is_legal}
use Rattle.def_histories.proofs.StandingProofs.{live_is_named}
use Rattle.def_turns.specs.declared.turned.Turned.{Turned}
use Rattle.def_turns.specs.declared.turned.Turned.TheVariants as t
use Rattle.def_turns.specs.declared.turned.Given.TheVariants.{Publishes}
use Rattle.def_turns.specs.Turns.{entry_of, given_back, kind_of, still_live}
use Rattle.lf_frames.specs.FrameTexts.{is_frame}
use Rattle.lf_desk.specs.Rotas.{board_number, given_entry}
use Rattle.lf_pool.specs.OneTurn.{IsMade, IsNone, IsTurn}
use Rattle.lf_pool.proofs.Answering.{given_name, name_of}
use Rattle.lf_pool.proofs.Lone.{lone_turns_publish}
use Rattle.lf_session.specs.declared.request.Asked.TheVariants as asks
use Rattle.lf_session.specs.Bodies.{text_room}
use Rattle.lf_session.specs.Boards.{StaysOut, boards_of}
use Rattle.lf_session.specs.Replies.{Reply, turn_reply}
use Rattle.lf_session.specs.Steps.{HasShortName, IsStep}
use Rattle.lf_session.proofs.Extended.{extended-same, extended-twice}
use Rattle.lf_session.proofs.Registered.{short-name}

-- ---- the step

none-step : (alone : Bool) (seat need : ℕ) (name body : List ℕ) (before after : List Operation) (away away_after : List ℕ)
    (taken taken_after : Option (List ℕ)) (result : Result Turned Memory) (reply : Reply)
    → IsNone alone seat before after away away_after taken taken_after → [] ≡ given_entry result → reply ≡ turn_reply result
    → IsStep alone seat need name body asks.Turn before after reply
none-step alone seat need name body before after away away_after taken taken_after result reply none made told = record {
  seen = before;
  later = after;
  made = [];
  came = extended-same alone seat before;
  went = none.came;
  follows = sym (append-nil after);
  legal = none.legal;
  answered = (result, made, told);
}

made-step : (alone : Bool) (seat need : ℕ) (name body : List ℕ) (before after : List Operation) (away away_after : List ℕ)
    (taken taken_after : Option (List ℕ)) (result : Result Turned Memory) (reply : Reply)
    → (made : IsMade alone seat before after away away_after taken taken_after result)
    → after ≡ made.given.given_at ++ given_entry result → reply ≡ turn_reply result
    → IsStep alone seat need name body asks.Turn before after reply
made-step alone seat need name body before after away away_after taken taken_after result reply made follows told = record {
  seen = before;
  later = made.given.given_at;
  made = given_entry result;
  came = extended-same alone seat before;
  went = extended-twice alone seat before made.taken_at made.given.given_at made.came made.given.went;
  follows = follows;
  legal = made.given.legal;
  answered = (result, refl, told);
}

pub turn-step : (alone : Bool) (seat need : ℕ) (name body : List ℕ) (before after : List Operation) (away away_after : List ℕ)
    (taken taken_after : Option (List ℕ)) (result : Result Turned Memory) (reply : Reply)
    → IsTurn alone seat before after away away_after taken taken_after result → reply ≡ turn_reply result
    → IsStep alone seat need name body asks.Turn before after reply
turn-step alone seat need name body before after away away_after taken taken_after (Ok t.Idle) reply turn told =
    none-step alone seat need name body before after away away_after taken taken_after (Ok t.Idle) reply turn.1 refl told
turn-step alone seat need name body before after away away_after taken taken_after (Ok (t.Published frame version)) reply turn told =
    made-step alone seat need name body before after away away_after taken taken_after (Ok (t.Published frame version)) reply turn
    turn.given.answer.0 told
turn-step alone seat need name body before after away away_after taken taken_after (Ok (t.Home frame version)) reply turn told =
    made-step alone seat need name body before after away away_after taken taken_after (Ok (t.Home frame version)) reply turn
    turn.given.answer.0 told
turn-step alone seat need name body before after away away_after taken taken_after (Ok (t.Superseded frame was now)) reply turn told =
    made-step alone seat need name body before after away away_after taken taken_after (Ok (t.Superseded frame was now)) reply turn
    turn.given.answer.0 told
turn-step alone seat need name body before after away away_after taken taken_after (Err refused) reply (inl none) told =
    none-step alone seat need name body before after away away_after taken taken_after (Err refused) reply none refl told
turn-step alone seat need name body before after away away_after taken taken_after (Err refused) reply (inr made) told =
    made-step alone seat need name body before after away away_after taken taken_after (Err refused) reply made
    (made.given.answer ∙ sym (append-nil made.given.given_at)) told

-- ---- the boards

pub turn-out : (alone : Bool) (seat : ℕ) (before after : List Operation) (away away_after : List ℕ) (taken taken_after : Option (List ℕ))
    (result : Result Turned Memory) → IsTurn alone seat before after away away_after taken taken_after result
    → still_live after away_after ≡ away_after → StaysOut alone after (boards_of away taken) (boards_of away_after taken_after)
turn-out alone seat before after away away_after taken taken_after result turn live lone =
    sym live ∙ ap (still_live after) same
  where
    same : away_after ≡ away
    same = (lone_turns_publish seat before after away away_after taken taken_after result
        (subst (λ (a : Bool). IsTurn a seat before after away away_after taken taken_after result) lone turn)).1

-- ---- the name

made-short : (alone : Bool) (seat : ℕ) (before after : List Operation) (away away_after : List ℕ) (taken taken_after : Option (List ℕ))
    (turned : Turned) (name : List ℕ) → IsMade alone seat before after away away_after taken taken_after (Ok turned) → name_of turned ≡ name
    → length name ≤ text_room
made-short alone seat before after away away_after taken taken_after turned name made is =
    subst (λ (n : List ℕ). length n ≤ text_room) named (short-name made.job.name (live_is_named is_frame made.taken_at made.job.name made.is.frame taken_legal made.is.live).1)
  where
    given_legal : IsLegal is_frame made.given.given_at
    given_legal = prefix_is_legal is_frame made.given.given_at (entry_of turned)
        (subst (IsLegal is_frame) made.given.answer.0 made.given.legal)

    taken_legal : IsLegal is_frame made.taken_at
    taken_legal = prefix_is_legal is_frame made.taken_at made.given.went.more
        (subst (IsLegal is_frame) made.given.went.follows given_legal)

    by : (version : Option ℕ) → turned ≡ given_back made.given.given_at made.job.name made.job.number version → made.job.name ≡ name
    by version e =
        sym (given_name (live made.given.given_at made.job.name) made.job.name made.job.number version) ∙ (sym (ap name_of e) ∙ is)

    named : made.job.name ≡ name
    named = go made.given.answer.1
      where
        go : ((turned ≡ given_back made.given.given_at made.job.name made.job.number (Some (length made.job.target)))
            ⊎ ((turned ≡ given_back made.given.given_at made.job.name made.job.number (board_number made.job.board)) × (kind_of turned ≡ Publishes)))
            → made.job.name ≡ name
        go (inl e) = by (Some (length made.job.target)) e
        go (inr both) = by (board_number made.job.board) both.0

pub turn-short : (alone : Bool) (seat : ℕ) (before after : List Operation) (away away_after : List ℕ) (taken taken_after : Option (List ℕ))
    (result : Result Turned Memory) → IsTurn alone seat before after away away_after taken taken_after result → HasShortName result
turn-short alone seat before after away away_after taken taken_after (Ok t.Idle) turn = tt
turn-short alone seat before after away away_after taken taken_after (Ok (t.Published frame version)) turn =
    made-short alone seat before after away away_after taken taken_after (t.Published frame version) frame turn refl
turn-short alone seat before after away away_after taken taken_after (Ok (t.Home frame version)) turn =
    made-short alone seat before after away away_after taken taken_after (t.Home frame version) frame turn refl
turn-short alone seat before after away away_after taken taken_after (Ok (t.Superseded frame was now)) turn =
    made-short alone seat before after away away_after taken taken_after (t.Superseded frame was now) frame turn refl
turn-short alone seat before after away away_after taken taken_after (Err refused) turn = tt
