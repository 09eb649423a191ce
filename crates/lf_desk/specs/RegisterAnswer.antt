-- What a registration answers, as a function of the history. Refusals stand in the order in which
-- they are tried.
use Rattle.std.specs.Prelude.{◌≡◌, List, [], ◌∷◌, ℕ, suc, ◌+◌, nat_lt, length, Bool, true, false, not, if◌then◌else◌, Some, Result, Ok, Err}
use Rattle.lf_rdf.specs.Equality.{text_eq, option_eq}
use Rattle.lf_model.specs.declared.desk.Counted.TheVariants.{Registrations, Bytes}
use Rattle.lf_frames.specs.FrameTexts.{FrameText, not_json, fractional, refused, accepted, frame_text}
use Rattle.lf_desk.specs.declared.refusals.RegisterErr.{RegisterErr}
use Rattle.lf_desk.specs.declared.refusals.RegisterErr.TheVariants as r
use Rattle.def_histories.specs.declared.operation.Operation.{Operation}
use Rattle.def_histories.specs.declared.operation.Operation.TheVariants.{Register}
use Rattle.def_histories.specs.History.{registrations, text_bytes, live_frames, without}
use Rattle.def_histories.specs.Legal.{most_frame_bytes, most_frames, most_registrations, most_text_bytes, is_frame_name, live_text}

-- whether the text is live under the name
abbrev pub is_live_text : List Operation → List ℕ → List ℕ → Bool
is_live_text history name text = option_eq text_eq (live_text history name) (Some text)

-- how many other names are live
abbrev pub others : List Operation → List ℕ → ℕ
others history name = length (without name (live_frames history))

-- the limits of a history that a registration meets
abbrev pub limits_answer : List Operation → List ℕ → List ℕ → Result Bool RegisterErr
limits_answer history name text =
    if not (nat_lt (others history name) most_frames)
    then Err (r.TooManyFrames most_frames (suc most_frames))
    else if not (nat_lt (registrations history) most_registrations)
    then Err (r.HistoryFull Registrations (registrations history) most_registrations)
    else if nat_lt most_text_bytes (text_bytes history + length text)
    then Err (r.HistoryFull Bytes (text_bytes history) most_text_bytes)
    else Ok true

-- a text that is no frame is refused by what is wrong with it
abbrev pub text_answer : FrameText → Result Bool RegisterErr → Result Bool RegisterErr
text_answer not_json limits = Err r.NotJson
text_answer (fractional path) limits = Err (r.Fractional path)
text_answer (refused error) limits = Err (r.Ld error)
text_answer (accepted meaning) limits = limits

-- a registration is new, or the text is live already, or it is refused
abbrev pub register_answer : List Operation → List ℕ → List ℕ → Result Bool RegisterErr
register_answer history name text =
    if not (is_frame_name name) then Err r.BadName
    else if nat_lt most_frame_bytes (length text) then Err (r.FrameTooLong (length text))
    else if is_live_text history name text then Ok false
    else text_answer (frame_text text) (limits_answer history name text)

-- a call answered so, unless no memory was found
abbrev pub RegisterFails : RegisterErr → Result Bool RegisterErr → Type 0
RegisterFails r.Memory answer = Unit {0}
RegisterFails r.BadName answer = answer ≡ Err r.BadName
RegisterFails (r.FrameTooLong size) answer = answer ≡ Err (r.FrameTooLong size)
RegisterFails r.NotJson answer = answer ≡ Err r.NotJson
RegisterFails (r.Fractional path) answer = answer ≡ Err (r.Fractional path)
RegisterFails (r.Ld error) answer = answer ≡ Err (r.Ld error)
RegisterFails (r.TooManyFrames have would) answer = answer ≡ Err (r.TooManyFrames have would)
RegisterFails (r.HistoryFull of have limit) answer = answer ≡ Err (r.HistoryFull of have limit)

abbrev pub RegisterAnswers : Result Bool RegisterErr → Result Bool RegisterErr → Type 0
RegisterAnswers (Ok fresh) answer = answer ≡ Ok fresh
RegisterAnswers (Err error) answer = RegisterFails error answer

-- the entry that a registration makes: one where it is new
abbrev pub registered_by : ℕ → List ℕ → List ℕ → Result Bool RegisterErr → List Operation
registered_by seat name text (Ok fresh) = if fresh then Register seat name text ∷ [] else []
registered_by seat name text (Err error) = []
