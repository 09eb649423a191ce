-- What an accepted head asks for, or why it is refused. Refusals stand in the order in which they
-- are tried.
use Rattle.std.specs.Prelude.{Bool, false, not, if◌then◌else◌, None, codes}
use Rattle.lf_http.specs.declared.head.Head.{Head}
use Rattle.lf_http.specs.declared.head.Method.{Method}
use Rattle.lf_http.specs.declared.head.Method.TheVariants as method
use Rattle.lf_http.specs.declared.head.Target.{Target}
use Rattle.lf_http.specs.declared.head.Target.TheVariants as target
use Rattle.lf_http.specs.declared.reply.Allow.TheVariants as allow
use Rattle.lf_session.specs.declared.request.Refusal.{Refusal}
use Rattle.lf_session.specs.declared.request.Refusal.TheVariants as refused
use Rattle.lf_session.specs.declared.request.Asked.{Asked}
use Rattle.lf_session.specs.declared.request.Asked.TheVariants as asked
use Rattle.lf_session.specs.Bodies.{error_body}
use Rattle.lf_session.specs.Replies.{Reply, plain}

-- what the method asks for at the target (RFC 9110, section 10.2.1, for the methods that it has);
-- `now` asks for the newest version
abbrev pub at_frame : Method → Bool → Asked
at_frame method.Get now = if now then asked.GetNow else asked.Get
at_frame method.Put now = asked.Put
at_frame method.Delete now = asked.Delete
at_frame method.Post now = asked.Refused (refused.MethodNotAllowed allow.GetPutDelete)
at_frame method.HeadOnly now = asked.Refused (refused.MethodNotAllowed allow.GetPutDelete)
at_frame method.OtherMethod now = asked.Refused (refused.MethodNotAllowed allow.GetPutDelete)

abbrev pub at_patch : Method → Asked
at_patch method.Post = asked.Commit
at_patch method.Get = asked.Refused (refused.MethodNotAllowed allow.Post)
at_patch method.Put = asked.Refused (refused.MethodNotAllowed allow.Post)
at_patch method.Delete = asked.Refused (refused.MethodNotAllowed allow.Post)
at_patch method.HeadOnly = asked.Refused (refused.MethodNotAllowed allow.Post)
at_patch method.OtherMethod = asked.Refused (refused.MethodNotAllowed allow.Post)

abbrev pub at_turn : Method → Asked
at_turn method.Post = asked.Turn
at_turn method.Get = asked.Refused (refused.MethodNotAllowed allow.Post)
at_turn method.Put = asked.Refused (refused.MethodNotAllowed allow.Post)
at_turn method.Delete = asked.Refused (refused.MethodNotAllowed allow.Post)
at_turn method.HeadOnly = asked.Refused (refused.MethodNotAllowed allow.Post)
at_turn method.OtherMethod = asked.Refused (refused.MethodNotAllowed allow.Post)

abbrev pub at_version : Method → Asked
at_version method.Get = asked.Version
at_version method.Put = asked.Refused (refused.MethodNotAllowed allow.Get)
at_version method.Delete = asked.Refused (refused.MethodNotAllowed allow.Get)
at_version method.Post = asked.Refused (refused.MethodNotAllowed allow.Get)
at_version method.HeadOnly = asked.Refused (refused.MethodNotAllowed allow.Get)
at_version method.OtherMethod = asked.Refused (refused.MethodNotAllowed allow.Get)

abbrev pub at_target : Head → Target → Asked
at_target head target.FrameAt = at_frame head.method head.now
at_target head target.PatchAt = at_patch head.method
at_target head target.VersionAt = at_version head.method
at_target head target.TurnAt = at_turn head.method
at_target head target.NoTarget = asked.Refused refused.NoSuchPath

-- what is wanted, unless a line of the session isn't well formed
abbrev pub unless_bad_line : Head → Asked → Asked
unless_bad_line head wanted =
    if head.bad_seen then asked.Refused refused.BadSeen
    else if head.bad_refresh then asked.Refused refused.BadRefresh
    else wanted

-- such a line is refused where all else is right
abbrev pub unless_refused : Head → Asked → Asked
unless_refused head (asked.Refused why) = asked.Refused why
unless_refused head asked.Put = unless_bad_line head asked.Put
unless_refused head asked.Delete = unless_bad_line head asked.Delete
unless_refused head asked.Get = unless_bad_line head asked.Get
unless_refused head asked.GetNow = unless_bad_line head asked.GetNow
unless_refused head asked.Commit = unless_bad_line head asked.Commit
unless_refused head asked.Version = unless_bad_line head asked.Version
unless_refused head asked.Turn = unless_bad_line head asked.Turn

-- what is asked for
abbrev pub asked_by : Head → Asked
asked_by head =
    if not head.plain then asked.Refused refused.ContentEncoding
    else unless_refused head (at_target head head.target)

-- the reply to a refused request
abbrev pub refused_reply : Refusal → Reply
refused_reply refused.ContentEncoding = plain 415 (error_body (codes "content encoding"))
refused_reply refused.NoSuchPath = plain 404 (error_body (codes "no such path"))
refused_reply (refused.MethodNotAllowed allow) =
    record {
      status = 405;
      ld_json = false;
      allow = allow;
      version = None;
      body = error_body (codes "method not allowed");
    }
refused_reply refused.BadSeen = plain 400 (error_body (codes "bad Ld-Seen"))
refused_reply refused.BadRefresh = plain 400 (error_body (codes "bad Ld-Refresh"))
