-- Worked ends of streams, byte for byte: refused heads, a message that is cut, a request that asks
-- to close, and a failed write.
use Rattle.std.specs.Prelude.{List, [], ◌∷◌, ◌++◌, ℕ, true, false, Some, None, codes}
use Rattle.lf_http.specs.declared.head.HeadErr.{HeadErr}
use Rattle.lf_http.specs.declared.head.HeadErr.TheVariants as h
use Rattle.lf_http.specs.declared.head.Method.{Method}
use Rattle.lf_http.specs.declared.head.Method.TheVariants as method
use Rattle.lf_http.specs.declared.head.Target.TheVariants as target
use Rattle.lf_http.specs.declared.reply.Allow.TheVariants as allow
use Rattle.lf_session.specs.declared.ended.Ended.TheVariants as ended
use Rattle.lf_session.specs.declared.request.Refusal.TheVariants as why
use Rattle.lf_session.specs.Boards.{no_boards}
use Rattle.lf_session.specs.Bodies.{error_body}
use Rattle.lf_session.specs.Replies.{Reply, plain, version_reply}
use Rattle.lf_session.specs.Requests.{refused_reply}
use Rattle.lf_session.specs.Exchanges.{Exchange}
use Rattle.lf_session.specs.Session.{Last, IsSession}
use Rattle.lf_session.specs.Session as session
use Rattle.lf_session.specs.FirstSession.{request_head, field}

-- a request at `/version` that asks to close
abbrev pub closing : List ℕ → Method → Reply → Exchange
closing name asked reply = record {
  sent = request_head name (codes "/version") (field (codes "Connection") (codes " close") ∷ []);
  head = record {
    method = asked;
    target = target.VersionAt;
    length = 0;
    expects = false;
    plain = true;
    close = true;
    seen = None;
    bad_seen = false;
    now = false;
    bad_refresh = false;
  };
  body = [];
  seen = [];
  later = [];
  made = [];
  boards = no_boards;
  reply = reply;
}

abbrev pub closing_get : Exchange
closing_get = closing (codes "GET") method.Get (version_reply 0)

abbrev pub closing_patch : Exchange
closing_patch =
    closing (codes "PATCH") method.OtherMethod (refused_reply (why.MethodNotAllowed allow.Get))

abbrev pub refused_with : HeadErr → ℕ → List ℕ → Last
refused_with e status text = session.refused e (plain status (error_body text))

pub record WorkedEnds : Type 0 where
  pub no_host :
      IsSession true no_boards 0 (codes "GET /version HTTP/1.1\r\n\r\n") (Some []) [] []
      (codes "HTTP/1.1 400 Bad Request\r\nContent-Type: application/json\r\nConnection: close\r\nContent-Length: 20\r\n\r\n{\"error\":\"bad head\"}")
      (ended.Bad 400) [] (refused_with h.BadHead 400 (codes "bad head"))
  pub no_length :
      IsSession true no_boards 0 (codes "PUT /frames/a HTTP/1.1\r\nHost: x\r\n\r\n") (Some []) [] []
      (codes "HTTP/1.1 411 Length Required\r\nContent-Type: application/json\r\nConnection: close\r\nContent-Length: 27\r\n\r\n{\"error\":\"length required\"}")
      (ended.Bad 411) [] (refused_with h.LengthNeeded 411 (codes "length required"))
  pub cut_body :
      IsSession true no_boards 0
      (codes "POST /patch HTTP/1.1\r\nHost: x\r\nContent-Length: 32\r\n\r\n<http://e/a>")
      (Some []) [] [] [] ended.CutShort [] session.cut
  -- the message behind it isn't answered
  pub closed :
      IsSession true no_boards 0
      (codes "PATCH /version HTTP/1.1\r\nHost: x\r\nConnection: close\r\n\r\n"
      ++ codes "GET /version HTTP/1.1\r\nHost: x\r\n\r\n")
      (Some []) [] []
      (codes "HTTP/1.1 405 Method Not Allowed\r\nContent-Type: application/json\r\nAllow: GET\r\nConnection: close\r\nContent-Length: 30\r\n\r\n{\"error\":\"method not allowed\"}")
      ended.Asked [] (session.request closing_patch)
  -- ten bytes were taken
  pub write_failed :
      IsSession true no_boards 0
      (codes "GET /version HTTP/1.1\r\nHost: x\r\nConnection: close\r\n\r\n") (Some []) [] []
      (codes "HTTP/1.1 2") ended.WriteFault [] (session.request closing_get)
