-- What a registration's answer tells of the name.
use Rattle.std.proofs.Common.{◌≡◌, ◌≤◌, ℕ, Bool, true, false, cond, not, List, refl, length, arith}
use Rattle.std.specs.Prelude.{nat_lt, Ok, Err}
use Rattle.lf_desk.specs.declared.refusals.RegisterErr.TheVariants as r
use Rattle.def_histories.specs.declared.operation.Operation.{Operation}
use Rattle.def_histories.specs.Legal.{is_frame_name, most_name, most_frame_bytes}
use Rattle.lf_frames.specs.FrameTexts.{frame_text}
use Rattle.lf_session.specs.Bodies.{text_room}
use Rattle.lf_desk.specs.RegisterAnswer.{register_answer, is_live_text, text_answer, limits_answer}

pub short-name : (name : List ℕ) → is_frame_name name ≡ true → length name ≤ text_room
unfolding most_name
short-name name e = grind arith

pub registered-short : (history : List Operation) (name text : List ℕ) (fresh : Bool)
    → register_answer history name text ≡ Ok fresh → length name ≤ text_room
registered-short history name text fresh e = go (is_frame_name name) refl e
  where
    go : (b : Bool) → is_frame_name name ≡ b
        → cond (not b) (Err r.BadName) (cond (nat_lt most_frame_bytes (length text)) (Err (r.FrameTooLong (length text)))
        (cond (is_live_text history name text) (Ok false) (text_answer (frame_text text) (limits_answer history name text))))
        ≡ Ok fresh → length name ≤ text_room
    go true named found = short-name name named
    go false named found = absurd cc
