-- How a request is answered by the history that its seat has seen: what it makes, and the reply.
use Rattle.std.specs.Prelude.{◌≡◌, ◌⊎◌, ◌≤◌, ◌<◌, List, [], ℕ, nat_lt, length, not, if◌then◌else◌, Option, Bool, Result, Ok, Err, IsUtf8}
use Rattle.lf_base.specs.declared.memory.Memory.{Memory}
use Rattle.lf_rdf.specs.declared.quad.Patch.{Patch}
use Rattle.def_patch_texts.specs.declared.kind.LineKind.{LineKind}
use Rattle.def_patch_texts.specs.PatchText.{IsPatchText}
use Rattle.def_patch_texts.specs.BadLine.{IsBadLine}
use Rattle.lf_desk.specs.declared.refusals.CommitErr.{CommitErr}
use Rattle.lf_desk.specs.declared.refusals.RegisterErr.{RegisterErr}
use Rattle.lf_desk.specs.declared.refusals.RegisterErr.TheVariants as r
use Rattle.lf_model.specs.declared.desk.Look.{Look}
use Rattle.lf_model.specs.declared.desk.Look.TheVariants as looked
use Rattle.lf_model.specs.declared.desk.FramedNow.{FramedNow}
use Rattle.def_histories.specs.declared.operation.Operation.{Operation}
use Rattle.def_histories.specs.History.{commits}
use Rattle.def_histories.specs.Legal.{is_frame_name, most_frame_bytes}
use Rattle.lf_desk.specs.RegisterAnswer.{register_answer, RegisterAnswers, registered_by}
use Rattle.lf_desk.specs.CommitAnswer.{commit_answer, CommitAnswers, committed_by}
use Rattle.def_turns.specs.declared.turned.Turned.{Turned}
use Rattle.lf_desk.specs.Looks.{Looks, Frames}
use Rattle.lf_desk.specs.Rotas.{given_entry}
use Rattle.lf_desk.specs.Calls.{Retires, retired_by}
use Rattle.lf_session.specs.declared.request.Asked.{Asked}
use Rattle.lf_session.specs.declared.request.Asked.TheVariants as asked
use Rattle.lf_session.specs.Replies.{Reply, out_of_memory, bad_line_reply, version_reply, commit_reply, register_reply, retire_reply, look_reply, framed_reply, turn_reply}
use Rattle.lf_session.specs.Requests.{refused_reply}

-- a frame's text that isn't UTF-8: its name and its length are tried first
abbrev pub no_text_answer : List ℕ → List ℕ → Result Bool RegisterErr
no_text_answer name body =
    if not (is_frame_name name) then Err r.BadName
    else if nat_lt most_frame_bytes (length body) then Err (r.FrameTooLong (length body))
    else Err r.NotJson

-- a registration answers so
abbrev pub Registers : List Operation → List ℕ → List ℕ → Result Bool RegisterErr → Type 0
Registers seen name body result =
    (IsUtf8 body × RegisterAnswers result (register_answer seen name body))
    ⊎ ((IsUtf8 body → ⊥) × (result ≡ no_text_answer name body))

-- the body is a patch text, which states these lines
pub record IsPatch (body : List ℕ) (patch : Patch) : Type 0 where
  pub states : IsPatchText body patch.lines
  pub sized : patch.bytes ≡ length body

-- a patch is committed or refused
pub record IsCommitted (seat : ℕ) (body : List ℕ) (seen made : List Operation) (reply : Reply) :
    Type 0 where
  pub patch : Patch
  pub reads : IsPatch body patch
  pub result : Result ℕ CommitErr
  pub says : CommitAnswers result (commit_answer seen patch)
  pub makes : made ≡ committed_by seat patch result
  pub replies : reply ≡ commit_reply result

-- a line of the body is the first bad one, and its kind and number are told
pub record IsBadPatch (body : List ℕ) (made : List Operation) (reply : Reply) : Type 0 where
  pub line : ℕ
  pub kind : LineKind
  pub bad : IsBadLine body line kind
  pub makes : made ≡ []
  pub replies : reply ≡ bad_line_reply kind line

-- or its text is refused, or no memory is found for it
abbrev pub Commits : ℕ → List ℕ → List Operation → List Operation → Reply → Type 0
Commits seat body seen made reply =
    IsCommitted seat body seen made reply
    ⊎ IsBadPatch body made reply
    ⊎ ((made ≡ []) × (reply ≡ out_of_memory))

-- What is published is too old, and the newest version is asked for: it is framed where it is new
-- enough.
abbrev pub Refreshes :
    List ℕ → ℕ → List Operation → List Operation → Result Look Memory → Reply → Type 0
Refreshes name need seen later (Ok (looked.Pending have needed)) reply =
    ((need ≤ commits later)
    × ((framed : Result (Option FramedNow) Memory) × Frames later name framed
    × (reply ≡ framed_reply framed)))
    ⊎ ((commits later < need) × (reply ≡ look_reply (Ok (looked.Pending have needed))))
Refreshes name need seen later (Ok (looked.Document doc version)) reply =
    (later ≡ seen) × (reply ≡ look_reply (Ok (looked.Document doc version)))
Refreshes name need seen later (Ok looked.Unknown) reply =
    (later ≡ seen) × (reply ≡ look_reply (Ok looked.Unknown))
Refreshes name need seen later (Err refused) reply =
    (later ≡ seen) × (reply ≡ look_reply (Err refused))

-- A request is answered by the history seen, and where the newest version was asked for, by a later
-- one.
abbrev pub IsAnswered :
    ℕ → List ℕ → List ℕ → ℕ → Asked → List Operation → List Operation → List Operation → Reply →
    Type 0
IsAnswered seat name body need (asked.Refused why) seen later made reply =
    (later ≡ seen) × (made ≡ []) × (reply ≡ refused_reply why)
IsAnswered seat name body need asked.Put seen later made reply =
    (later ≡ seen)
    × ((result : Result Bool RegisterErr) × Registers seen name body result
    × (made ≡ registered_by seat name body result)
    × (reply ≡ register_reply name result))
IsAnswered seat name body need asked.Delete seen later made reply =
    (later ≡ seen)
    × ((result : Result Bool Memory) × Retires seen name result
    × (made ≡ retired_by seat name result)
    × (reply ≡ retire_reply name result))
IsAnswered seat name body need asked.Get seen later made reply =
    (later ≡ seen) × (made ≡ [])
    × ((result : Result Look Memory) × Looks seen name need result × (reply ≡ look_reply result))
IsAnswered seat name body need asked.GetNow seen later made reply =
    (made ≡ [])
    × ((result : Result Look Memory) × Looks seen name need result
    × Refreshes name need seen later result reply)
IsAnswered seat name body need asked.Commit seen later made reply =
    (later ≡ seen) × Commits seat body seen made reply
IsAnswered seat name body need asked.Version seen later made reply =
    (later ≡ seen) × (made ≡ []) × (reply ≡ version_reply (commits seen))
IsAnswered seat name body need asked.Turn seen later made reply =
    (result : Result Turned Memory) × (made ≡ given_entry result) × (reply ≡ turn_reply result)
