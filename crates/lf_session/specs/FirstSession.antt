-- A worked session, byte for byte: a commit, a registration, a look at what isn't published, the
-- same with the newest version asked for, a turn, a look at what it published, and a turn for which
-- no frame waits.
use Rattle.std.specs.Prelude.{List, [], ◌∷◌, ◌++◌, ℕ, true, false, Some, None, Ok, codes}
use Rattle.httparse.specs.Grammar.{RequestHead, Field, crlf}
use Rattle.lf_rdf.specs.declared.term.Term.TheVariants.{Iri, Literal}
use Rattle.lf_rdf.specs.declared.quad.Quad.{Quad}
use Rattle.lf_rdf.specs.declared.quad.Patch.{Patch}
use Rattle.lf_rdf.specs.Vocabulary.{xsd_string}
use Rattle.lf_model.specs.declared.desk.FramedNow.{FramedNow}
use Rattle.lf_model.specs.declared.desk.Look.{Look}
use Rattle.lf_model.specs.declared.desk.Look.TheVariants as looked
use Rattle.lf_http.specs.declared.head.Head.{Head}
use Rattle.lf_http.specs.declared.head.Method.{Method}
use Rattle.lf_http.specs.declared.head.Method.TheVariants as method
use Rattle.lf_http.specs.declared.head.Target.{Target}
use Rattle.lf_http.specs.declared.head.Target.TheVariants as target
use Rattle.def_histories.specs.declared.operation.Operation.{Operation}
use Rattle.def_histories.specs.declared.operation.Operation.TheVariants as entry
use Rattle.def_histories.specs.Replay.{newest_dataset}
use Rattle.def_turns.specs.declared.turned.Turned.TheVariants as turned
use Rattle.lf_frames.specs.FrameTexts.{document}
use Rattle.lf_desk.specs.Looks.{Shows}
use Rattle.lf_session.specs.declared.ended.Ended.TheVariants as ended
use Rattle.lf_session.specs.Boards.{no_boards}
use Rattle.lf_session.specs.Replies.{commit_reply, register_reply, look_reply, framed_reply, document_reply, turn_reply}
use Rattle.lf_session.specs.Exchanges.{Exchange}
use Rattle.lf_session.specs.Session.{nothing, IsSession}

-- what is read, with the lines of each head
abbrev pub first_input : List ℕ
first_input =
    codes "POST /patch HTTP/1.1\r\nHost: x\r\nContent-Length: 32\r\n\r\n<http://e/a> <http://e/p> \"x\" .\n"
    ++ codes "PUT /frames/a HTTP/1.1\r\nHost: x\r\nContent-Length: 2\r\n\r\n{}"
    ++ codes "GET /frames/a HTTP/1.1\r\nHost: x\r\n\r\n"
    ++ codes "GET /frames/a HTTP/1.1\r\nHost: x\r\nLd-Refresh: now\r\n\r\n"
    ++ codes "POST /turn HTTP/1.1\r\nHost: x\r\n\r\n"
    ++ codes "GET /frames/a HTTP/1.1\r\nHost: x\r\n\r\n"
    ++ codes "POST /turn HTTP/1.1\r\nHost: x\r\n\r\n"

-- what is sent up to the first turn
abbrev pub replies_before : List ℕ
replies_before =
    codes "HTTP/1.1 200 OK\r\nContent-Type: application/json\r\nLd-Version: 1\r\nContent-Length: 13\r\n\r\n{\"version\":1}"
    ++ codes "HTTP/1.1 201 Created\r\nContent-Type: application/json\r\nContent-Length: 13\r\n\r\n{\"frame\":\"a\"}"
    ++ codes "HTTP/1.1 202 Accepted\r\nContent-Type: application/json\r\nContent-Length: 22\r\n\r\n{\"have\":null,\"need\":1}"
    ++ codes "HTTP/1.1 200 OK\r\nContent-Type: application/ld+json\r\nLd-Version: 1\r\nContent-Length: 37\r\n\r\n{\"@id\":\"http://e/a\",\"http://e/p\":\"x\"}"

-- and from there on
abbrev pub replies_from : List ℕ
replies_from =
    codes "HTTP/1.1 200 OK\r\nContent-Type: application/json\r\nContent-Length: 44\r\n\r\n{\"frame\":\"a\",\"turn\":\"published\",\"version\":1}"
    ++ codes "HTTP/1.1 200 OK\r\nContent-Type: application/ld+json\r\nLd-Version: 1\r\nContent-Length: 37\r\n\r\n{\"@id\":\"http://e/a\",\"http://e/p\":\"x\"}"
    ++ codes "HTTP/1.1 200 OK\r\nContent-Type: application/json\r\nContent-Length: 15\r\n\r\n{\"turn\":\"idle\"}"

abbrev pub first_output : List ℕ
first_output = replies_before ++ replies_from

-- what was made
abbrev pub quad : Quad
quad = record {
  subject = Iri (codes "http://e/a");
  predicate = Iri (codes "http://e/p");
  object = Literal (codes "x") xsd_string None;
  graph = None;
}

abbrev pub patch : Patch
patch = record { lines = record { add = true; quad = quad } ∷ []; bytes = 32 }

abbrev pub one_commit : List Operation
one_commit = entry.Commit 0 patch ∷ []

abbrev pub first_history : List Operation
first_history = entry.Commit 0 patch ∷ entry.Register 0 (codes "a") (codes "{}") ∷ []

abbrev pub published_history : List Operation
published_history = first_history ++ entry.Publish (codes "a") 1 ∷ []

-- its requests
abbrev pub field : List ℕ → List ℕ → Field
field name raw = record { name = name; raw = raw; end = crlf }

abbrev pub request_head : List ℕ → List ℕ → List Field → RequestHead
request_head name path fields =
    record {
      blank = [];
      method = name;
      target = path;
      minor = 1;
      line_end = crlf;
      fields = field (codes "Host") (codes " x") ∷ fields;
      last = crlf;
    }

abbrev pub head_with : Method → Target → ℕ → Head
head_with asked path size = record {
  method = asked;
  target = path;
  length = size;
  expects = false;
  plain = true;
  close = false;
  seen = None;
  bad_seen = false;
  now = false;
  bad_refresh = false;
}

abbrev pub commit_exchange : Exchange
commit_exchange = record {
  sent = request_head (codes "POST") (codes "/patch")
      (field (codes "Content-Length") (codes " 32") ∷ []);
  head = head_with method.Post target.PatchAt 32;
  body = codes "<http://e/a> <http://e/p> \"x\" .\n";
  seen = [];
  later = [];
  made = one_commit;
  boards = no_boards;
  reply = commit_reply (Ok 1);
}

abbrev pub register_exchange : Exchange
register_exchange = record {
  sent = request_head (codes "PUT") (codes "/frames/a")
      (field (codes "Content-Length") (codes " 2") ∷ []);
  head = head_with method.Put target.FrameAt 2;
  body = codes "{}";
  seen = one_commit;
  later = one_commit;
  made = entry.Register 0 (codes "a") (codes "{}") ∷ [];
  boards = no_boards;
  reply = register_reply (codes "a") (Ok true);
}

abbrev pub look_exchange : Exchange
look_exchange = record {
  sent = request_head (codes "GET") (codes "/frames/a") [];
  head = head_with method.Get target.FrameAt 0;
  body = [];
  seen = first_history;
  later = first_history;
  made = [];
  boards = no_boards;
  reply = look_reply (Ok (looked.Pending None 1));
}

abbrev pub framed_now : FramedNow
framed_now = record { doc = document (codes "{}") (newest_dataset first_history); version = 1 }

abbrev pub refresh_exchange : Exchange
refresh_exchange = record {
  sent = request_head (codes "GET") (codes "/frames/a")
      (field (codes "Ld-Refresh") (codes " now") ∷ []);
  head = record {
    method = method.Get;
    target = target.FrameAt;
    length = 0;
    expects = false;
    plain = true;
    close = false;
    seen = None;
    bad_seen = false;
    now = true;
    bad_refresh = false;
  };
  body = [];
  seen = first_history;
  later = first_history;
  made = [];
  boards = no_boards;
  reply = framed_reply (Ok (Some framed_now));
}

abbrev pub turn_exchange : Exchange
turn_exchange = record {
  sent = request_head (codes "POST") (codes "/turn") [];
  head = head_with method.Post target.TurnAt 0;
  body = [];
  seen = first_history;
  later = first_history;
  made = entry.Publish (codes "a") 1 ∷ [];
  boards = no_boards;
  reply = turn_reply (Ok (turned.Published (codes "a") 1));
}

abbrev pub published_exchange : Exchange
published_exchange = record {
  sent = request_head (codes "GET") (codes "/frames/a") [];
  head = head_with method.Get target.FrameAt 0;
  body = [];
  seen = published_history;
  later = published_history;
  made = [];
  boards = no_boards;
  reply = document_reply framed_now.doc 1;
}

abbrev pub idle_exchange : Exchange
idle_exchange = record {
  sent = request_head (codes "POST") (codes "/turn") [];
  head = head_with method.Post target.TurnAt 0;
  body = [];
  seen = published_history;
  later = published_history;
  made = [];
  boards = no_boards;
  reply = turn_reply (Ok turned.Idle);
}

abbrev pub exchanges_before : List Exchange
exchanges_before = commit_exchange ∷ register_exchange ∷ look_exchange ∷ refresh_exchange ∷ []

abbrev pub exchanges_from : List Exchange
exchanges_from = turn_exchange ∷ published_exchange ∷ idle_exchange ∷ []

abbrev pub first_exchanges : List Exchange
first_exchanges = exchanges_before ++ exchanges_from

-- It is a session of a seat that is alone, from an empty history on, where no board is away. The
-- last look is one that shows the published document by some handle.
abbrev pub FirstSession : Type 0
FirstSession =
    (look : Look) → Shows published_history (codes "a") 1 look
    →
    IsSession true no_boards 0 first_input (Some []) [] published_history first_output
    ended.Clean first_exchanges nothing
