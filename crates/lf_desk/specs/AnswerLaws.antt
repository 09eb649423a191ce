-- What the answers are meant to say: an operation is accepted exactly where the history allows it.
use Rattle.std.specs.Prelude.{◌≡◌, ◌≤◌, ◌↔◌, List, ℕ, suc, length, true, false, Some, IsTrue, Ok}
use Rattle.lf_rdf.specs.declared.quad.Patch.{Patch}
use Rattle.lf_frames.specs.FrameTexts.{is_frame}
use Rattle.def_histories.specs.declared.operation.Operation.{Operation}
use Rattle.def_histories.specs.declared.operation.Operation.TheVariants.{Commit, Register}
use Rattle.def_histories.specs.History.{commits}
use Rattle.def_histories.specs.Legal.{most_frame_bytes, is_frame_name, live_text, IsAllowed}
use Rattle.lf_desk.specs.CommitAnswer.{commit_answer}
use Rattle.lf_desk.specs.RegisterAnswer.{register_answer}

-- a commit is accepted exactly where it is allowed
abbrev pub AcceptsAllowedPatches : Type 0
AcceptsAllowedPatches =
    (history : List Operation) (seat : ℕ) (patch : Patch)
    →
    (commit_answer history patch ≡ Ok (suc (commits history))) ↔ IsAllowed is_frame history
    (Commit seat patch)

-- a registration is accepted as new exactly where it is allowed
abbrev pub AcceptsAllowedFrames : Type 0
AcceptsAllowedFrames =
    (history : List Operation) (seat : ℕ) (name text : List ℕ)
    →
    (register_answer history name text ≡ Ok true) ↔ IsAllowed is_frame history
    (Register seat name text)

-- a registration is no operation exactly where the name may be one, and the text, which isn't too
-- long, is live there
abbrev pub SameTextAgain : Type 0
SameTextAgain =
    (history : List Operation) (name text : List ℕ)
    → (register_answer history name text ≡ Ok false)
    ↔ (IsTrue (is_frame_name name) × (length text ≤ most_frame_bytes)
    × (live_text history name ≡ Some text))
