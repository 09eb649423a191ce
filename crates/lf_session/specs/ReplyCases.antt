-- Worked replies, byte for byte.
use Rattle.std.specs.Prelude.{◌≡◌, refl, List, ℕ, true, false, Option, Some, None, Ok, Err, codes}
use Rattle.std.specs.Fmt.{digits}
use Rattle.lf_model.specs.declared.error.LdError.TheVariants.{InvalidFrame, IriConfusedWithPrefix}
use Rattle.lf_model.specs.declared.desk.Counted.TheVariants as counted
use Rattle.lf_desk.specs.declared.refusals.CommitErr.TheVariants as c
use Rattle.lf_desk.specs.declared.refusals.RegisterErr.TheVariants as r
use Rattle.lf_model.specs.declared.desk.Look.TheVariants as looked
use Rattle.lf_model.specs.declared.document.Doc.TheVariants as doc
use Rattle.def_turns.specs.declared.turned.Turned.TheVariants as turned
use Rattle.lf_model.specs.declared.document.Limit.TheVariants as limits
use Rattle.lf_http.specs.declared.head.HeadErr.TheVariants as h
use Rattle.lf_http.specs.declared.head.Method.{Method}
use Rattle.lf_http.specs.declared.head.Method.TheVariants as method
use Rattle.lf_http.specs.declared.reply.Allow.TheVariants as allow
use Rattle.lf_http.specs.Reply.{reason, crlf, status_text, media_text, allow_text, version_line, close_text, length_text}
use Rattle.lf_session.specs.declared.request.Refusal.TheVariants as why
use Rattle.lf_session.specs.Bodies.{error_body, frame_body, version_body, pending_body, bad_line_body, frame_too_long_body, too_many_body, history_full_body, fractional_body, limit_body, idle_body, published_body, home_body, superseded_body}
use Rattle.def_documents.specs.Document.{most_items, most_bytes}
use Rattle.lf_names.specs.Names.{kind_name, counted_name, limit_name, limit_number}
use Rattle.lf_session.specs.Replies.{Reply, plain, commit_reply, register_reply, retire_reply, look_reply, framed_reply, document_reply, turn_reply, reply_bytes, refusal, refusal_bytes}
use Rattle.lf_session.specs.Requests.{refused_reply}

-- the texts of replies, which compute here
unfoldable pub replies_open : Unit {0}
unfolding reason crlf status_text media_text allow_text version_line close_text length_text digits
    error_body frame_body version_body pending_body bad_line_body kind_name frame_too_long_body
    too_many_body counted_name history_full_body fractional_body limit_name limit_number most_items
    most_bytes limit_body
    idle_body published_body home_body superseded_body
replies_open = tt

abbrev pub a : List ℕ
a = codes "a"

-- a reply on a stream that goes on
abbrev pub open_bytes : Method → Reply → List ℕ
open_bytes asked reply = reply_bytes asked false reply

-- ---- a first session: a commit, a registration, a look, the same with the newest version asked
-- for, and a look at what was published

pub committed :
    open_bytes method.Post (commit_reply (Ok 1))
    ≡ codes "HTTP/1.1 200 OK\r\nContent-Type: application/json\r\nLd-Version: 1\r\nContent-Length: 13\r\n\r\n{\"version\":1}"
unfolding replies_open
committed = refl

pub registered :
    open_bytes method.Put (register_reply a (Ok true))
    ≡ codes "HTTP/1.1 201 Created\r\nContent-Type: application/json\r\nContent-Length: 13\r\n\r\n{\"frame\":\"a\"}"
unfolding replies_open
registered = refl

pub pending :
    open_bytes method.Get (look_reply (Ok (looked.Pending None 1)))
    ≡ codes "HTTP/1.1 202 Accepted\r\nContent-Type: application/json\r\nContent-Length: 22\r\n\r\n{\"have\":null,\"need\":1}"
unfolding replies_open
pending = refl

pub framed :
    open_bytes method.Get (framed_reply (Ok (Some record {
      doc =
          doc.Bytes (codes "{\"@id\":\"http://e/a\",\"http://e/p\":\"x\"}");
      version = 1;
    })))
    ≡ codes "HTTP/1.1 200 OK\r\nContent-Type: application/ld+json\r\nLd-Version: 1\r\nContent-Length: 37\r\n\r\n{\"@id\":\"http://e/a\",\"http://e/p\":\"x\"}"
unfolding replies_open
framed = refl

-- ---- refused heads

pub bad_head :
    (refusal h.BadHead ≡ Some (plain 400 (error_body (codes "bad head"))))
    × (refusal_bytes (plain 400 (error_body (codes "bad head")))
    ≡ codes "HTTP/1.1 400 Bad Request\r\nContent-Type: application/json\r\nConnection: close\r\nContent-Length: 20\r\n\r\n{\"error\":\"bad head\"}")
unfolding replies_open
bad_head = (refl, refl)

abbrev pub refused_with : ℕ → List ℕ → Option Reply
refused_with status body = Some (plain status body)

pub heads :
    (refusal h.LengthNeeded ≡ refused_with 411 (codes "{\"error\":\"length required\"}"))
    × (refusal h.TooLarge ≡ refused_with 431 (codes "{\"error\":\"head too large\"}"))
    × (refusal h.BodyTooLong ≡ refused_with 413 (codes "{\"error\":\"body too long\"}"))
    × (refusal h.Expectation ≡ refused_with 417 (codes "{\"error\":\"expectation\"}"))
unfolding replies_open
heads = (refl, refl, refl, refl)

-- ---- refused requests

pub not_allowed :
    open_bytes method.OtherMethod (refused_reply (why.MethodNotAllowed allow.Get))
    ≡ codes "HTTP/1.1 405 Method Not Allowed\r\nContent-Type: application/json\r\nAllow: GET\r\nContent-Length: 30\r\n\r\n{\"error\":\"method not allowed\"}"
unfolding replies_open
not_allowed = refl

-- the reply to `HEAD` has the length of the body, and no body
pub head_only :
    open_bytes method.HeadOnly (refused_reply (why.MethodNotAllowed allow.GetPutDelete))
    ≡ codes "HTTP/1.1 405 Method Not Allowed\r\nContent-Type: application/json\r\nAllow: GET, PUT, DELETE\r\nContent-Length: 30\r\n\r\n"
unfolding replies_open
head_only = refl

pub requests :
    (refused_reply why.ContentEncoding ≡ plain 415 (codes "{\"error\":\"content encoding\"}"))
    × (refused_reply why.NoSuchPath ≡ plain 404 (codes "{\"error\":\"no such path\"}"))
    × (refused_reply why.BadSeen ≡ plain 400 (codes "{\"error\":\"bad Ld-Seen\"}"))
    × (refused_reply why.BadRefresh ≡ plain 400 (codes "{\"error\":\"bad Ld-Refresh\"}"))
unfolding replies_open
requests = (refl, refl, refl, refl)

-- ---- refused frames, patches and looks

pub frames :
    (register_reply a (Ok false) ≡ plain 200 (codes "{\"frame\":\"a\"}"))
    × (register_reply a (Err r.BadName) ≡ plain 400 (codes "{\"error\":\"bad name\"}"))
    × (register_reply a (Err r.NotJson) ≡ plain 400 (codes "{\"error\":\"not JSON\"}"))
    × (register_reply a (Err (r.Ld InvalidFrame))
    ≡ plain 422 (codes "{\"error\":\"invalid frame\"}"))
    × (register_reply a (Err (r.FrameTooLong 65537))
    ≡ plain 413 (codes "{\"error\":\"frame too long\",\"length\":65537}"))
    × (register_reply a (Err (r.TooManyFrames 16 17))
    ≡ plain 413 (codes "{\"error\":\"too many frames\",\"have\":16,\"would\":17}"))
    × (register_reply a (Err (r.HistoryFull counted.Registrations 65536 65536))
    ≡ plain 507 (codes "{\"error\":\"history full\",\"have\":65536,\"limit\":65536,\"of\":\"registrations\"}"))
unfolding replies_open
frames = (refl, refl, refl, refl, refl, refl, refl)

-- a path is escaped
pub fractional :
    fractional_body (codes "/a\"") ≡ codes "{\"error\":\"fractional number\",\"path\":\"/a\\\"\"}"
unfolding replies_open
fractional = refl

pub patches :
    (commit_reply (Err (c.TooManyQuads 400000 400001))
    ≡ plain 413 (codes "{\"error\":\"too many quads\",\"have\":400000,\"would\":400001}"))
    × (commit_reply (Err (c.HistoryFull counted.Commits 65536 65536))
    ≡ plain 507 (codes "{\"error\":\"history full\",\"have\":65536,\"limit\":65536,\"of\":\"commits\"}"))
    × (commit_reply (Err (c.HistoryFull counted.Bytes 268435456 268435456))
    ≡ plain 507 (codes "{\"error\":\"history full\",\"have\":268435456,\"limit\":268435456,\"of\":\"bytes\"}"))
    × (commit_reply (Err c.Memory) ≡ plain 503 (codes "{\"error\":\"out of memory\"}"))
unfolding replies_open
patches = (refl, refl, refl, refl)

pub looks :
    (look_reply (Ok looked.Unknown) ≡ plain 404 (codes "{\"error\":\"unknown frame\"}"))
    × (look_reply (Ok (looked.Pending (Some 3) 5)) ≡ plain 202 (codes "{\"have\":3,\"need\":5}"))
    × (retire_reply a (Ok true) ≡ plain 200 (codes "{\"frame\":\"a\"}"))
    × (retire_reply a (Ok false) ≡ plain 404 (codes "{\"error\":\"unknown frame\"}"))
unfolding replies_open
looks = (refl, refl, refl, refl)

-- the error that a frame has at a version, or the limit that it passes there
pub confused :
    open_bytes method.Get (document_reply (doc.Refused IriConfusedWithPrefix) 1)
    ≡ codes "HTTP/1.1 422 Unprocessable Content\r\nContent-Type: application/json\r\nLd-Version: 1\r\nContent-Length: 36\r\n\r\n{\"error\":\"IRI confused with prefix\"}"
unfolding replies_open
confused = refl

pub limit_bodies :
    (limit_body limits.TreeItems
    ≡ codes "{\"error\":\"document limit\",\"limit\":\"tree items\",\"number\":65536}")
    × (limit_body limits.Depth
    ≡ codes "{\"error\":\"document limit\",\"limit\":\"depth\",\"number\":256}")
    × (limit_body limits.DocumentItems
    ≡ codes "{\"error\":\"document limit\",\"limit\":\"document items\",\"number\":262144}")
    × (limit_body limits.DocumentBytes
    ≡ codes "{\"error\":\"document limit\",\"limit\":\"document bytes\",\"number\":33554432}")
unfolding replies_open
limit_bodies = (refl, refl, refl, refl)

-- ---- turns

pub turns :
    (turn_reply (Ok turned.Idle) ≡ plain 200 (codes "{\"turn\":\"idle\"}"))
    × (turn_reply (Ok (turned.Published a 1))
    ≡ plain 200 (codes "{\"frame\":\"a\",\"turn\":\"published\",\"version\":1}"))
    × (turn_reply (Ok (turned.Home a (Some 1)))
    ≡ plain 200 (codes "{\"frame\":\"a\",\"turn\":\"home\"}"))
    × (turn_reply (Ok (turned.Superseded a 1 (Some 2)))
    ≡ plain 200 (codes "{\"frame\":\"a\",\"now\":2,\"then\":1,\"turn\":\"superseded\"}"))
    × (turn_reply (Ok (turned.Superseded a 1 None))
    ≡ plain 200 (codes "{\"frame\":\"a\",\"now\":null,\"then\":1,\"turn\":\"superseded\"}"))
unfolding replies_open
turns = (refl, refl, refl, refl, refl)
