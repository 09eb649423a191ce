-- The worked session is one.
use Rattle.std.proofs.Common.{◌≡◌, refl, sym, ◌∙◌, ap, subst, arith, ◌<◌, List, [], ◌∷◌, ◌++◌, ℕ, length, Bool, true, Option, Some, None, Ok, inl, codes, All, unwrap_or, append_assoc}
use Rattle.std.specs.Char.{encode_utf8}
use Rattle.std.specs.Str.{IsUtf8}
use Rattle.std.specs.List.{list_all}
use Rattle.std.proofs.lemmas.Option.{none-some}
use Rattle.std.proofs.lemmas.Bool.{false≢true}
use Rattle.std.proofs.lemmas.List.{append-nil}
use Rattle.std.proofs.lemmas.List.Sums.{AllPass-from_list_all}
use Rattle.std.proofs.lemmas.List.Elements.{All-nil, All-cons}
use Rattle.httparse.specs.Grammar.{IsRequestHead, Field, IsField, AllPass, is_token_byte, is_uri_byte, is_value_byte, trim_ows, print_request}
use Rattle.lf_rdf.specs.declared.quad.Signed.{Signed}
use Rattle.lf_rdf.specs.Vocabulary.{xsd_string}
use Rattle.def_patch_texts.specs.PatchText.{absolute_iris, IsPatchText, IsLine}
use Rattle.def_patch_texts.specs.WorkedCases.{reading_open}
use Rattle.def_patch_texts.proofs.TakesLine.{line_takes}
use Rattle.lf_model.specs.declared.desk.Look.{Look}
use Rattle.lf_model.specs.declared.desk.Look.TheVariants as looked
use Rattle.def_histories.specs.declared.live.Live.{Live}
use Rattle.def_histories.specs.History.{patches, registered}
use Rattle.def_histories.specs.Jobs.{Job}
use Rattle.def_turns.specs.declared.turned.Turned.TheVariants as turned
use Rattle.lf_pool.specs.OneTurn.{IsTurn}
use Rattle.lf_model.specs.declared.document.Doc.{Doc}
use Rattle.lf_model.specs.declared.document.Doc.TheVariants.{Bytes}
use Rattle.def_histories.specs.Replay.{dataset_at, newest_dataset}
use Rattle.lf_frames.specs.FrameTexts.{is_frame, document}
use Rattle.lf_frames.specs.Worked.{texts_open}
use Rattle.def_histories.specs.declared.operation.Operation.{Operation}
use Rattle.def_histories.specs.declared.operation.Operation.TheVariants as entry
use Rattle.def_histories.specs.Legal.{IsLegal, IsCommit, IsRegistration, most_quads, most_commits, most_registrations, most_text_bytes, most_frame_bytes, most_frames, most_name}
use Rattle.def_histories.proofs.LegalProofs.{allowed_is_legal}
use Rattle.lf_http.specs.Judge.{method_of, target_of}
use Rattle.lf_desk.specs.Looks.{Shows, is_new_enough}
use Rattle.lf_desk.specs.Seats.{IsExtended}
use Rattle.lf_session.specs.ReplyCases.{replies_open}
use Rattle.lf_session.specs.Replies.{document_reply, framed_reply, look_reply}
use Rattle.lf_session.specs.Boards.{no_boards}
use Rattle.lf_session.specs.Exchanges.{Exchange, IsExchange, answer_of, messages, answers, need_of}
use Rattle.lf_session.proofs.EmptyHistory.{empty_is_legal}
use Rattle.lf_session.specs.FirstSession.{FirstSession, first_input, first_output, first_history, one_commit, quad, patch, field, request_head, published_history, commit_exchange, register_exchange, look_exchange, refresh_exchange, turn_exchange, published_exchange, idle_exchange, exchanges_before, exchanges_from, first_exchanges, framed_now, replies_before, replies_from}

-- ---- the heads

pub passes : (test : ℕ → Bool) (bytes : List ℕ) → list_all test bytes ≡ true → AllPass test bytes
passes test bytes all = AllPass-from_list_all test bytes all

a_field : (name raw : List ℕ) → 0 < length name → list_all is_token_byte name ≡ true → list_all is_value_byte raw ≡ true → IsField (field name raw)
a_field name raw some token value = record { name = (some, passes is_token_byte name token); raw = passes is_value_byte raw value }

host : IsField (field (codes "Host") (codes " x"))
unfolding is_token_byte
host = a_field (codes "Host") (codes " x") (omega arith) refl refl

pub a_head : (name path : List ℕ) (fields : List Field) → 0 < length name → list_all is_token_byte name ≡ true → 0 < length path
    → list_all is_uri_byte path ≡ true → IsUtf8 path → All IsField fields → IsRequestHead (request_head name path fields)
a_head name path fields some token some_path uri utf8 valid = record {
  method = (some, passes is_token_byte name token);
  target = (some_path, passes is_uri_byte path uri);
  target_text = utf8;
  minor = omega arith;
  fields = All-cons IsField (field (codes "Host") (codes " x")) fields host valid;
}

pub one_field : (name raw : List ℕ) → 0 < length name → list_all is_token_byte name ≡ true → list_all is_value_byte raw ≡ true
    → All IsField (field name raw ∷ [])
one_field name raw some token value = All-cons IsField (field name raw) [] (a_field name raw some token value) (All-nil IsField)

pub commit-head : IsRequestHead commit_exchange.sent
unfolding is_token_byte encode_utf8
commit-head = a_head (codes "POST") (codes "/patch") _ (omega arith) refl (omega arith) refl (codes "/patch", (refl, refl))
    (one_field (codes "Content-Length") (codes " 32") (omega arith) refl refl)

register-head : IsRequestHead register_exchange.sent
unfolding is_token_byte encode_utf8
register-head = a_head (codes "PUT") (codes "/frames/a") _ (omega arith) refl (omega arith) refl (codes "/frames/a", (refl, refl))
    (one_field (codes "Content-Length") (codes " 2") (omega arith) refl refl)

look-head : IsRequestHead look_exchange.sent
unfolding is_token_byte encode_utf8
look-head = a_head (codes "GET") (codes "/frames/a") _ (omega arith) refl (omega arith) refl (codes "/frames/a", (refl, refl)) (All-nil IsField)

refresh-head : IsRequestHead refresh_exchange.sent
unfolding is_token_byte encode_utf8
refresh-head = a_head (codes "GET") (codes "/frames/a") _ (omega arith) refl (omega arith) refl (codes "/frames/a", (refl, refl))
    (one_field (codes "Ld-Refresh") (codes " now") (omega arith) refl refl)

-- ---- the histories

pub as_it_was : (history : List Operation) → IsExtended true 0 history history
as_it_was history = record { more = []; follows = sym (append-nil history); others = refl; lone = λ _. refl }

commit-allowed : IsCommit [] 32 1
unfolding most_quads most_commits most_text_bytes
commit-allowed = record { counted = omega arith; sized = omega arith; held = omega arith }

commit-legal : IsLegal is_frame one_commit
commit-legal = allowed_is_legal is_frame [] (entry.Commit 0 patch) (empty_is_legal is_frame) commit-allowed

frame-text : is_frame (codes "{}") ≡ true
unfolding texts_open
frame-text = refl

register-allowed : IsRegistration is_frame one_commit (codes "a") (codes "{}")
unfolding most_frame_bytes most_frames most_registrations most_text_bytes most_name
register-allowed = record {
  named = refl;
  short = omega arith;
  framed = frame-text;
  other = λ e. none-some (codes "{}") e;
  placed = omega arith;
  counted = omega arith;
  sized = omega arith;
}

register-legal : IsLegal is_frame first_history
register-legal =
    allowed_is_legal is_frame one_commit (entry.Register 0 (codes "a") (codes "{}")) commit-legal register-allowed

-- ---- the exchanges

-- the line of the patch, and what stands behind its end
abbrev line : List ℕ
line = codes "<http://e/a> <http://e/p> \"x\" ."

abbrev added : Option Signed
added = Some (record { add = true; quad = quad })

line-states : IsLine line added
unfolding reading_open xsd_string encode_utf8
line-states = (omega arith, line, record { scalars = refl; encoded = refl }, line_takes absolute_iris line added refl)

nothing-states : IsLine [] None
unfolding reading_open encode_utf8
nothing-states = (omega arith, [], record { scalars = refl; encoded = refl }, line_takes absolute_iris [] None refl)

stated : IsPatchText commit_exchange.body patch.lines
stated = (added, [], line-states, (None, [], nothing-states, refl, refl), refl)

commit-is : IsExchange true no_boards 0 0 [] commit_exchange
unfolding print_request method_of target_of trim_ows most_commits most_quads most_text_bytes xsd_string
commit-is = record {
  is_head = commit-head;
  short = omega arith;
  few = omega arith;
  accepted = refl;
  whole = refl;
  came = as_it_was [];
  went = as_it_was [];
  legal = commit-legal;
  answered = (
    refl,
    inl (record {
      patch = patch;
      reads = record { states = stated; sized = refl };
      result = Ok 1;
      says = refl;
      makes = refl;
      replies = refl;
    }),
  );
  moved = refl;
  out = λ lone. refl;
}

register-is : IsExchange true no_boards 0 1 one_commit register_exchange
unfolding print_request method_of target_of trim_ows most_frame_bytes most_frames most_registrations most_text_bytes most_name texts_open encode_utf8
register-is = record {
  is_head = register-head;
  short = omega arith;
  few = omega arith;
  accepted = refl;
  whole = refl;
  came = as_it_was one_commit;
  went = as_it_was one_commit;
  legal = register-legal;
  answered = (refl, (Ok true, inl ((codes "{}", (refl, refl)), refl), refl, refl));
  moved = refl;
  out = λ lone. refl;
}

look-is : IsExchange true no_boards 0 1 first_history look_exchange
unfolding print_request method_of target_of trim_ows
look-is = record {
  is_head = look-head;
  short = omega arith;
  few = omega arith;
  accepted = refl;
  whole = refl;
  came = as_it_was first_history;
  went = as_it_was first_history;
  legal = register-legal;
  answered = (refl, refl, (Ok (looked.Pending None 1), (registered (codes "a") 1 (codes "{}"), refl, refl, refl, refl), refl));
  moved = refl;
  out = λ lone. refl;
}

refresh-is : IsExchange true no_boards 0 1 first_history refresh_exchange
unfolding print_request method_of target_of trim_ows
refresh-is = record {
  is_head = refresh-head;
  short = omega arith;
  few = omega arith;
  accepted = refl;
  whole = refl;
  came = as_it_was first_history;
  went = as_it_was first_history;
  legal = register-legal;
  answered = (
    refl,
    (
      Ok (looked.Pending None 1),
      (registered (codes "a") 1 (codes "{}"), refl, refl, refl, refl),
      inl (omega arith, (Ok (Some framed_now), (registered (codes "a") 1 (codes "{}"), refl, refl, refl), refl)),
    ),
  );
  moved = refl;
  out = λ lone. refl;
}

-- ---- the last look

-- the published text of the name
abbrev live_text : Option Live → List ℕ
live_text None = []
live_text (Some frame) = frame.text

abbrev live_published : Option Live → Option ℕ
live_published None = None
live_published (Some frame) = frame.published

abbrev live_version : Option Live → ℕ
live_version None = 0
live_version (Some frame) = unwrap_or frame.published 0

shown-document : (look : Look) → Shows published_history (codes "a") 1 look → look_reply (Ok look) ≡ document_reply framed_now.doc 1
shown-document (looked.Document doc version) shows =
    (λ i. document_reply (shows.4 i) version) ∙ (λ i. document_reply (document (text i) (dataset_at published_history (newest i))) (newest i))
  where
    text : shows.0.text ≡ codes "{}"
    text = sym (ap live_text shows.1)

    newest : version ≡ 1
    newest = sym (ap (λ (v : Option ℕ). unwrap_or v 0) shows.2) ∙ sym (ap live_version shows.1)
shown-document (looked.Pending have needed) shows =
    absurd (false≢true (sym shows.4 ∙ (ap (is_new_enough 1) (shows.2 ∙ sym (ap live_published shows.1)))))
shown-document looked.Unknown shows = absurd (none-some _ (sym shows))

-- ---- the turns

turn-head : IsRequestHead turn_exchange.sent
unfolding is_token_byte encode_utf8
turn-head = a_head (codes "POST") (codes "/turn") _ (omega arith) refl (omega arith) refl (codes "/turn", (refl, refl)) (All-nil IsField)

publish-legal : IsLegal is_frame published_history
publish-legal =
    allowed_is_legal is_frame first_history (entry.Publish (codes "a") 1) register-legal
    (omega arith, tt)

-- the board of the frame, which has no version before
abbrev board : Job
board = record { name = codes "a"; number = 1; board = None; target = patches first_history }

turn-made : IsTurn true 0 first_history published_history [] [] None None (Ok (turned.Published (codes "a") 1))
turn-made = record {
  taken_at = first_history;
  came = as_it_was first_history;
  out = 1 ∷ [];
  job = board;
  is = record {
    frame = registered (codes "a") 1 (codes "{}");
    next = refl;
    live = refl;
    number = refl;
    target = refl;
    out = refl;
    lone = λ _. refl;
  };
  given = record {
    given_at = first_history;
    went = as_it_was first_history;
    answer = (refl, inl refl);
    legal = publish-legal;
    left = λ _. refl;
  };
  told = refl;
}

turn-is : (need : ℕ) → IsExchange true no_boards 0 need first_history turn_exchange
unfolding print_request method_of target_of trim_ows
turn-is need = record {
  is_head = turn-head;
  short = omega arith;
  few = omega arith;
  accepted = refl;
  whole = refl;
  came = as_it_was first_history;
  went = as_it_was first_history;
  legal = publish-legal;
  answered = (Ok (turned.Published (codes "a") 1), refl, refl);
  moved = (Ok (turned.Published (codes "a") 1), turn-made, refl);
  out = λ lone. refl;
}

shown-is : (look : Look) → Shows published_history (codes "a") 1 look → IsExchange true no_boards 0 1 published_history published_exchange
unfolding print_request method_of target_of trim_ows
shown-is look shows = record {
  is_head = look-head;
  short = omega arith;
  few = omega arith;
  accepted = refl;
  whole = refl;
  came = as_it_was published_history;
  went = as_it_was published_history;
  legal = publish-legal;
  answered = (refl, refl, (Ok look, shows, sym (shown-document look shows)));
  moved = refl;
  out = λ lone. refl;
}

published-is : (look : Look) (need : ℕ) → Shows published_history (codes "a") 1 look → need ≡ 1
    → IsExchange true no_boards 0 need published_history published_exchange
published-is look need shows e =
    subst (λ (n : ℕ). IsExchange true no_boards 0 n published_history published_exchange) (sym e) (shown-is look shows)

idle-is : (need : ℕ) → IsExchange true no_boards 0 need published_history idle_exchange
unfolding print_request method_of target_of trim_ows
idle-is need = record {
  is_head = turn-head;
  short = omega arith;
  few = omega arith;
  accepted = refl;
  whole = refl;
  came = as_it_was published_history;
  went = as_it_was published_history;
  legal = publish-legal;
  answered = (Ok turned.Idle, refl, refl);
  moved = (
    Ok turned.Idle,
    (refl, record { came = as_it_was published_history; legal = publish-legal; told = refl; lone = λ _. refl }),
    refl,
  );
  out = λ lone. refl;
}

-- ---- the bytes

read : first_input ≡ messages first_exchanges ++ []
unfolding print_request
read = refl

-- the document of the last reply
printed : document (codes "{}") (newest_dataset first_history) ≡ Bytes (codes "{\"@id\":\"http://e/a\",\"http://e/p\":\"x\"}")
unfolding texts_open xsd_string
printed = refl

-- the exchanges with this document
abbrev refreshed : Doc → Exchange
refreshed doc = record {
  sent = refresh_exchange.sent;
  head = refresh_exchange.head;
  body = refresh_exchange.body;
  seen = refresh_exchange.seen;
  later = refresh_exchange.later;
  made = refresh_exchange.made;
  boards = refresh_exchange.boards;
  reply = framed_reply (Ok (Some (record { doc = doc; version = 1 })));
}

abbrev looked-at : Doc → Exchange
looked-at doc = record {
  sent = published_exchange.sent;
  head = published_exchange.head;
  body = published_exchange.body;
  seen = published_exchange.seen;
  later = published_exchange.later;
  made = published_exchange.made;
  boards = published_exchange.boards;
  reply = document_reply doc 1;
}

abbrev sent_before : Doc → List ℕ
sent_before doc = answers (commit_exchange ∷ register_exchange ∷ look_exchange ∷ refreshed doc ∷ [])

abbrev sent_from : Doc → List ℕ
sent_from doc = answers (turn_exchange ∷ looked-at doc ∷ idle_exchange ∷ [])

abbrev text : Doc
text = Bytes (codes "{\"@id\":\"http://e/a\",\"http://e/p\":\"x\"}")

before-printed : replies_before ≡ sent_before text
unfolding replies_open
before-printed = refl

from-printed : replies_from ≡ sent_from text
unfolding replies_open
from-printed = refl

answers-append : (one two : List Exchange) → answers (one ++ two) ≡ answers one ++ answers two
answers-append [] two = refl
answers-append (x ∷ one) two =
    ap (λ (w : List ℕ). answer_of x ++ w) (answers-append one two) ∙ sym (append_assoc (answer_of x) (answers one) (answers two))

wrote : first_output ≡ answers first_exchanges ++ []
wrote =
    (λ i. (before-printed ∙ ap sent_before (sym printed)) i ++ (from-printed ∙ ap sent_from (sym printed)) i)
    ∙ (sym (answers-append exchanges_before exchanges_from) ∙ sym (append-nil (answers first_exchanges)))

-- the version that was told last, by the document
told : need_of (need_of 1 refresh_exchange) turn_exchange ≡ 1
told = λ i. need_of (need_of 1 (refreshed (printed i))) turn_exchange

pub first_session : FirstSession
first_session look shows = record {
  rest = [];
  sent = [];
  started = empty_is_legal is_frame;
  chain = (
    commit-is,
    refl,
    (register-is, refl, (look-is, refl, (refresh-is, refl, (turn-is _, refl, (published-is look _ shows told, refl, (idle-is _, refl, tt)))))),
  );
  read = read;
  wrote = wrote;
  stands = (refl, refl, refl);
  ends = (refl, refl);
  unread = λ e. absurd cc;
}
