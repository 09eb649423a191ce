-- The worked ends are some.
use Rattle.std.proofs.Common.{◌≡◌, ◌≤◌, ◌∙◌, refl, ap, arith, List, [], ℕ, length, true, inr, Err, codes}
use Rattle.std.specs.Char.{encode_utf8}
use Rattle.std.proofs.lemmas.List.Elements.{All-nil}
use Rattle.httparse.specs.Grammar.{RequestHead, IsRequestHead, ReadsRequest, IsField, is_token_byte, is_uri_byte, trim_ows, print_request, crlf}
use Rattle.httparse.proofs.GrammarLemmas.{request_unique}
use Rattle.lf_http.specs.declared.head.HeadErr.{HeadErr}
use Rattle.lf_http.specs.Judge.{method_of, target_of, request_of, judged}
use Rattle.lf_frames.specs.FrameTexts.{is_frame}
use Rattle.lf_http.specs.Reading.{most_lines}
use Rattle.lf_session.specs.ReplyCases.{replies_open}
use Rattle.lf_session.specs.Boards.{no_boards}
use Rattle.lf_session.specs.Exchanges.{IsExchange}
use Rattle.lf_session.specs.Session.{IsFirstRefusal}
use Rattle.lf_session.specs.FirstSession.{request_head, commit_exchange}
use Rattle.lf_session.specs.WorkedEnds.{closing_get, closing_patch, WorkedEnds}
use Rattle.lf_session.proofs.EmptyHistory.{empty_is_legal}
use Rattle.lf_session.proofs.FirstSessionProofs.{passes, a_head, one_field, as_it_was, commit-head}

-- a head without lines
abbrev bare : RequestHead
bare = record { blank = []; method = codes "GET"; target = codes "/version"; minor = 1; line_end = crlf; fields = []; last = crlf }

bare-is : IsRequestHead bare
unfolding is_token_byte encode_utf8
bare-is = record {
  method = (omega arith, passes is_token_byte (codes "GET") refl);
  target = (omega arith, passes is_uri_byte (codes "/version") refl);
  target_text = (codes "/version", (refl, refl));
  minor = omega arith;
  fields = All-nil IsField;
}

abbrev put : RequestHead
put = request_head (codes "PUT") (codes "/frames/a") []

put-is : IsRequestHead put
unfolding is_token_byte encode_utf8
put-is = a_head (codes "PUT") (codes "/frames/a") [] (omega arith) refl (omega arith) refl (codes "/frames/a", (refl, refl)) (All-nil IsField)

get-head : IsRequestHead closing_get.sent
unfolding is_token_byte encode_utf8
get-head = a_head (codes "GET") (codes "/version") _ (omega arith) refl (omega arith) refl (codes "/version", (refl, refl))
    (one_field (codes "Connection") (codes " close") (omega arith) refl refl)

patch-head : IsRequestHead closing_patch.sent
unfolding is_token_byte encode_utf8
patch-head = a_head (codes "PATCH") (codes "/version") _ (omega arith) refl (omega arith) refl (codes "/version", (refl, refl))
    (one_field (codes "Connection") (codes " close") (omega arith) refl refl)

get-is : IsExchange true no_boards 0 0 [] closing_get
unfolding print_request method_of target_of trim_ows
get-is = record {
  is_head = get-head;
  short = omega arith;
  few = omega arith;
  accepted = refl;
  whole = refl;
  came = as_it_was [];
  went = as_it_was [];
  legal = empty_is_legal is_frame;
  answered = (refl, refl, refl);
  moved = refl;
  out = λ lone. refl;
}

patch-is : IsExchange true no_boards 0 0 [] closing_patch
unfolding print_request method_of target_of trim_ows
patch-is = record {
  is_head = patch-head;
  short = omega arith;
  few = omega arith;
  accepted = refl;
  whole = refl;
  came = as_it_was [];
  went = as_it_was [];
  legal = empty_is_legal is_frame;
  answered = (refl, refl, refl);
  moved = refl;
  out = λ lone. refl;
}

-- the refusal of a whole head with few lines
first-refusal : (bytes : List ℕ) (k : RequestHead) (rest : List ℕ) (e : HeadErr) → ReadsRequest bytes k rest → length k.fields ≤ most_lines
    → judged (request_of k) ≡ Err e → IsFirstRefusal bytes e
first-refusal bytes k rest e is few why = record {
  many = λ h more reads lines.
      let same : length h.fields ≡ length k.fields =
      ap (λ (r : RequestHead). length r.fields) (request_unique bytes h k more rest reads is).0 in
      absurd (omega arith);
  own = λ h more reads short. ap (λ (r : RequestHead). judged (request_of r)) (request_unique bytes h k more rest reads is).0 ∙ why;
}

pub worked_ends : WorkedEnds
unfolding replies_open method_of target_of trim_ows print_request
worked_ends = record {
  no_host = record {
    rest = codes "GET /version HTTP/1.1\r\n\r\n";
    sent = _;
    started = empty_is_legal is_frame;
    chain = tt;
    read = refl;
    wrote = refl;
    stands = (refl, inr (bare, [], (bare-is, refl), refl), first-refusal _ bare [] _ (bare-is, refl) (omega arith) refl, refl);
    ends = (_, _, refl, refl, refl);
    unread = λ e. refl;
  };
  no_length = record {
    rest = codes "PUT /frames/a HTTP/1.1\r\nHost: x\r\n\r\n";
    sent = _;
    started = empty_is_legal is_frame;
    chain = tt;
    read = refl;
    wrote = refl;
    stands = (refl, inr (put, [], (put-is, refl), refl), first-refusal _ put [] _ (put-is, refl) (omega arith) refl, refl);
    ends = (_, _, refl, refl, refl);
    unread = λ e. refl;
  };
  cut_body = record {
    rest = codes "POST /patch HTTP/1.1\r\nHost: x\r\nContent-Length: 32\r\n\r\n<http://e/a>";
    sent = [];
    started = empty_is_legal is_frame;
    chain = tt;
    read = refl;
    wrote = refl;
    stands = (
      inr (
        record {
          sent = commit_exchange.sent;
          head = commit_exchange.head;
          body = codes "<http://e/a>";
          is_head = commit-head;
          short = omega arith;
          few = omega arith;
          accepted = refl;
          spelled = refl;
          lacking = omega arith;
        },
        refl,
      ),
      refl,
    );
    ends = (refl, refl);
    unread = λ e. refl;
  };
  closed = record {
    rest = codes "PATCH /version HTTP/1.1\r\nHost: x\r\nConnection: close\r\n\r\nGET /version HTTP/1.1\r\nHost: x\r\n\r\n";
    sent = _;
    started = empty_is_legal is_frame;
    chain = tt;
    read = refl;
    wrote = refl;
    stands = (patch-is, (codes "GET /version HTTP/1.1\r\nHost: x\r\n\r\n", refl), refl);
    ends = (closing_patch, refl, refl, refl);
    unread = λ e. refl;
  };
  write_failed = record {
    rest = codes "GET /version HTTP/1.1\r\nHost: x\r\nConnection: close\r\n\r\n";
    sent = codes "HTTP/1.1 2";
    started = empty_is_legal is_frame;
    chain = tt;
    read = refl;
    wrote = refl;
    stands = (get-is, ([], refl), refl);
    ends = (10, omega arith, refl);
    unread = λ e. refl;
  };
}
