-- Replies: what a request is answered (RFC 9110, section 15), from what was found.
use Rattle.std.specs.Prelude.{List, [], ◌++◌, ℕ, Bool, true, false, length, Option, Some, None, Result, Ok, Err, codes}
use Rattle.std.specs.Arc.{arc_value}
use Rattle.lf_base.specs.declared.memory.Memory.{Memory}
use Rattle.def_patch_texts.specs.declared.kind.LineKind.{LineKind}
use Rattle.def_turns.specs.declared.turned.Turned.{Turned}
use Rattle.def_turns.specs.declared.turned.Turned.TheVariants as t
use Rattle.lf_model.specs.ErrorName.{name_of}
use Rattle.lf_desk.specs.declared.refusals.CommitErr.{CommitErr}
use Rattle.lf_desk.specs.declared.refusals.CommitErr.TheVariants as c
use Rattle.lf_desk.specs.declared.refusals.RegisterErr.{RegisterErr}
use Rattle.lf_desk.specs.declared.refusals.RegisterErr.TheVariants as r
use Rattle.lf_model.specs.declared.desk.Look.{Look}
use Rattle.lf_model.specs.declared.desk.Look.TheVariants as looked
use Rattle.lf_model.specs.declared.desk.FramedNow.{FramedNow}
use Rattle.lf_model.specs.declared.document.Doc.{Doc}
use Rattle.lf_model.specs.declared.document.Doc.TheVariants as doc
use Rattle.lf_http.specs.declared.head.HeadErr.{HeadErr}
use Rattle.lf_http.specs.declared.head.HeadErr.TheVariants as h
use Rattle.lf_http.specs.declared.head.Method.{Method}
use Rattle.lf_http.specs.declared.head.Method.TheVariants as method
use Rattle.lf_http.specs.declared.reply.Allow.{Allow}
use Rattle.lf_http.specs.declared.reply.Allow.TheVariants.{NoAllow}
use Rattle.lf_http.specs.Reply.{reply_text}
use Rattle.lf_session.specs.Bodies.{error_body, frame_body, version_body, pending_body, bad_line_body, frame_too_long_body, too_many_body, history_full_body, fractional_body, limit_body, idle_body, published_body, home_body, superseded_body}

-- what a reply says, apart from whether the stream ends after it
pub record Reply : Type 0 where
  pub status : ℕ
  pub ld_json : Bool
  pub allow : Allow
  pub version : Option ℕ
  pub body : List ℕ

-- a JSON text that speaks of no version
abbrev pub plain : ℕ → List ℕ → Reply
plain status body =
    record { status = status; ld_json = false; allow = NoAllow; version = None; body = body }

-- a JSON text that speaks of a version
abbrev pub versioned : ℕ → ℕ → List ℕ → Reply
versioned status version body = record
    { status = status; ld_json = false; allow = NoAllow; version = Some version; body = body }

abbrev pub out_of_memory : Reply
out_of_memory = plain 503 (error_body (codes "out of memory"))

abbrev pub unknown_frame : Reply
unknown_frame = plain 404 (error_body (codes "unknown frame"))

-- a document of a version: its text, the error that the frame has there, or the limit that it
-- passes
abbrev pub document_reply : Doc → ℕ → Reply
document_reply (doc.Bytes text) version =
    record { status = 200; ld_json = true; allow = NoAllow; version = Some version; body = text }
document_reply (doc.Refused error) version = versioned 422 version (error_body (name_of error))
document_reply (doc.Over limit) version = versioned 422 version (limit_body limit)

abbrev pub version_reply : ℕ → Reply
version_reply version = versioned 200 version (version_body version)

abbrev pub commit_reply : Result ℕ CommitErr → Reply
commit_reply (Ok version) = version_reply version
commit_reply (Err (c.HistoryFull of have most)) = plain 507 (history_full_body of have most)
commit_reply (Err (c.TooManyQuads have would)) =
    plain 413 (too_many_body (codes "quads") have would)
commit_reply (Err c.Memory) = out_of_memory

-- a patch text with a bad line
abbrev pub bad_line_reply : LineKind → ℕ → Reply
bad_line_reply kind line = plain 400 (bad_line_body kind line)

abbrev pub register_reply : List ℕ → Result Bool RegisterErr → Reply
register_reply name (Ok true) = plain 201 (frame_body name)
register_reply name (Ok false) = plain 200 (frame_body name)
register_reply name (Err r.BadName) = plain 400 (error_body (codes "bad name"))
register_reply name (Err (r.FrameTooLong size)) = plain 413 (frame_too_long_body size)
register_reply name (Err r.NotJson) = plain 400 (error_body (codes "not JSON"))
register_reply name (Err (r.Fractional path)) = plain 400 (fractional_body path)
register_reply name (Err (r.Ld error)) = plain 422 (error_body (name_of error))
register_reply name (Err (r.TooManyFrames have would)) =
    plain 413 (too_many_body (codes "frames") have would)
register_reply name (Err (r.HistoryFull of have most)) = plain 507 (history_full_body of have most)
register_reply name (Err r.Memory) = out_of_memory

abbrev pub retire_reply : List ℕ → Result Bool Memory → Reply
retire_reply name (Ok true) = plain 200 (frame_body name)
retire_reply name (Ok false) = unknown_frame
retire_reply name (Err refused) = out_of_memory

abbrev pub look_reply : Result Look Memory → Reply
look_reply (Ok (looked.Document document version)) = document_reply (arc_value document) version
look_reply (Ok (looked.Pending have need)) = plain 202 (pending_body have need)
look_reply (Ok looked.Unknown) = unknown_frame
look_reply (Err refused) = out_of_memory

abbrev pub framed_reply : Result (Option FramedNow) Memory → Reply
framed_reply (Ok (Some framed)) = document_reply framed.doc framed.version
framed_reply (Ok None) = unknown_frame
framed_reply (Err refused) = out_of_memory

-- what came of a turn; a document that it published is sent by `GET` alone
abbrev pub turn_reply : Result Turned Memory → Reply
turn_reply (Ok t.Idle) = plain 200 idle_body
turn_reply (Ok (t.Published name version)) = plain 200 (published_body name version)
turn_reply (Ok (t.Home name version)) = plain 200 (home_body name)
turn_reply (Ok (t.Superseded name was now)) = plain 200 (superseded_body name was now)
turn_reply (Err refused) = out_of_memory

-- the reply to `HEAD` is sent without its body (RFC 9110, section 9.3.2)
abbrev pub sent_body : Method → List ℕ → List ℕ
sent_body method.HeadOnly body = []
sent_body method.Get body = body
sent_body method.Put body = body
sent_body method.Delete body = body
sent_body method.Post body = body
sent_body method.OtherMethod body = body

-- the bytes of a reply to a request with this method
abbrev pub reply_bytes : Method → Bool → Reply → List ℕ
reply_bytes asked close reply =
    reply_text record {
      status = reply.status;
      ld_json = reply.ld_json;
      allow = reply.allow;
      version = reply.version;
      close = close;
      length = length reply.body;
    }
    ++ sent_body asked reply.body

-- the reply to a refused head, after which the stream ends
abbrev pub refusal : HeadErr → Option Reply
refusal h.ReadFault = None
refusal h.CutShort = None
refusal h.TooLarge = Some (plain 431 (error_body (codes "head too large")))
refusal h.BadHead = Some (plain 400 (error_body (codes "bad head")))
refusal h.LengthNeeded = Some (plain 411 (error_body (codes "length required")))
refusal h.BodyTooLong = Some (plain 413 (error_body (codes "body too long")))
refusal h.Expectation = Some (plain 417 (error_body (codes "expectation")))

abbrev pub refusal_bytes : Reply → List ℕ
refusal_bytes reply = reply_bytes method.OtherMethod true reply
