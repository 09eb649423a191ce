-- A stream of requests, one after another.
use Rattle.std.proofs.Common.{◌≡◌, ◌∙◌, refl, sym, ap, subst, inr, List, [], ◌∷◌, ◌++◌, ℕ, Bool, false, Option, append_assoc, append-nil}
use Rattle.lf_io.specs.Bytes.{prepended, appended}
use Rattle.lf_io.proofs.Told.{prepended_twice, prepended_nothing, appended_nothing, appended_twice}
use Rattle.def_histories.specs.declared.operation.Operation.{Operation}
use Rattle.def_histories.specs.Legal.{IsLegal}
use Rattle.lf_frames.specs.FrameTexts.{is_frame}
use Rattle.lf_session.specs.declared.ended.Ended.{Ended}
use Rattle.lf_session.specs.declared.ended.Ended.TheVariants as ended
use Rattle.lf_session.specs.Boards.{Boards}
use Rattle.lf_session.specs.Exchanges.{Exchange, IsExchange, IsChain, message_of, answer_of, history_of, messages, answers, last_boards, last_history, last_need, need_of, turns_in}
use Rattle.lf_session.specs.Session.{Last, IsSession, no_buffers, IsLast}
use Rattle.lf_session.specs.Session as session
use Rattle.lf_session.specs.Headline.{answered}
use Rattle.lf_session.specs.Moving.{GrewBy}
use Rattle.lf_desk.specs.Seats.{own}
use Rattle.lf_session.proofs.OwnProofs.{own-session}
use Rattle.lf_session.specs.Served.{IsServed, GoesOn, Ends, boards_behind}
use Rattle.lf_session.proofs.TookProofs.{boards-more, grew-not, took-session}

-- what was read, sent and made so far, by requests that were answered
pub record IsUnderWay (alone : Bool) (boards boards_now : Boards) (seat need : ℕ) (before now : List Operation) (left0 left held0 held : Option (List ℕ)) (pending : List ℕ) : Type 0 where
  pub xs : List Exchange
  pub started : IsLegal is_frame before
  pub chain : IsChain alone boards seat 0 before xs
  pub needs : need ≡ last_need 0 xs
  pub follows : now ≡ last_history before xs
  pub stand : boards_now ≡ last_boards boards xs
  pub reads : left0 ≡ prepended (messages xs ++ pending) left
  pub writes : held ≡ appended held0 (answers xs)

pub at_start : (alone : Bool) (boards : Boards) (seat : ℕ) (before : List Operation) (left held : Option (List ℕ)) → IsLegal is_frame before
    → IsUnderWay alone boards boards seat 0 before before left left held held []
at_start alone boards seat before left held legal =
    record {
      xs = [];
      started = legal;
      chain = tt;
      needs = refl;
      follows = refl;
      stand = refl;
      reads = sym (prepended_nothing left);
      writes = sym (appended_nothing held);
    }

messages_more : (xs : List Exchange) (x : Exchange) → messages (xs ++ x ∷ []) ≡ messages xs ++ message_of x
messages_more [] x = append-nil (message_of x)
messages_more (y ∷ xs) x =
    ap (λ (w : List ℕ). message_of y ++ w) (messages_more xs x) ∙ sym (append_assoc (message_of y) (messages xs) (message_of x))

answers_more : (xs : List Exchange) (x : Exchange) → answers (xs ++ x ∷ []) ≡ answers xs ++ answer_of x
answers_more [] x = append-nil (answer_of x)
answers_more (y ∷ xs) x =
    ap (λ (w : List ℕ). answer_of y ++ w) (answers_more xs x) ∙ sym (append_assoc (answer_of y) (answers xs) (answer_of x))

history_more : (before : List Operation) (xs : List Exchange) (x : Exchange) → last_history before (xs ++ x ∷ []) ≡ history_of x
history_more before [] x = refl
history_more before (y ∷ xs) x = history_more (history_of y) xs x

need_more : (need : ℕ) (xs : List Exchange) (x : Exchange) → last_need need (xs ++ x ∷ []) ≡ need_of (last_need need xs) x
need_more need [] x = refl
need_more need (y ∷ xs) x = need_more (need_of need y) xs x

chain_more : (alone : Bool) (boards : Boards) (seat need : ℕ) (before : List Operation) (xs : List Exchange) (x : Exchange)
    → IsChain alone boards seat need before xs → IsExchange alone (last_boards boards xs) seat (last_need need xs) (last_history before xs) x → x.head.close ≡ false
    → IsChain alone boards seat need before (xs ++ x ∷ [])
chain_more alone boards seat need before [] x chain is stays = (is, stays, tt)
chain_more alone boards seat need before (y ∷ xs) x chain is stays =
    (chain.0, chain.1, chain_more alone y.boards seat (need_of need y) (history_of y) xs x chain.2 is stays)

read_more : (left0 left1 left2 : Option (List ℕ)) (pending read rest : List ℕ)
    → left0 ≡ prepended (read ++ pending) left1 → prepended pending left1 ≡ prepended rest left2
    → left0 ≡ prepended (read ++ rest) left2
read_more left0 left1 left2 pending read rest first second =
    first ∙ sym (prepended_twice read pending left1) ∙ ap (λ (o : Option (List ℕ)). prepended read o) second ∙ prepended_twice read rest left2

written_more : (held0 held1 held2 : Option (List ℕ)) (sent more : List ℕ)
    → held1 ≡ appended held0 sent → held2 ≡ appended held1 more → held2 ≡ appended held0 (sent ++ more)
written_more held0 held1 held2 sent more first second =
    second ∙ ap (λ (o : Option (List ℕ)). appended o more) first ∙ appended_twice held0 sent more

-- the boards behind the last request that was answered
behind-all : (boards now_boards after_boards : Boards) (xs : List Exchange) (last : Last) → now_boards ≡ last_boards boards xs
    → after_boards ≡ boards_behind now_boards last → after_boards ≡ last_boards boards (answered xs last)
behind-all boards now_boards after_boards xs session.nothing now after = after ∙ now
behind-all boards now_boards after_boards xs (session.request x) now after = after ∙ sym (boards-more boards xs x)
behind-all boards now_boards after_boards xs (session.refused e reply) now after = after ∙ now
behind-all boards now_boards after_boards xs session.cut now after = after ∙ now
behind-all boards now_boards after_boards xs session.faulted now after = after ∙ now
behind-all boards now_boards after_boards xs (session.no_room head) now after = after ∙ now
behind-all boards now_boards after_boards xs session.no_buffers now after = after ∙ now

-- one more request was answered
pub one_more : (alone : Bool) (boards now_boards after_boards : Boards) (seat need need_after : ℕ) (before now after : List Operation) (left0 left1 left2 held0 held1 held2 : Option (List ℕ))
    (pending pending_after : List ℕ)
    → IsUnderWay alone boards now_boards seat need before now left0 left1 held0 held1 pending
    → GoesOn alone now_boards after_boards seat need need_after now after record { left_before = left1; left_after = left2; held_before = held1; held_after = held2 } pending pending_after
    → IsUnderWay alone boards after_boards seat need_after before after left0 left2 held0 held2 pending_after
one_more alone boards now_boards after_boards seat need need_after before now after left0 left1 left2 held0 held1 held2 pending pending_after u g =
    record {
      xs = u.xs ++ g.x ∷ [];
      started = u.started;
      chain = chain_more alone boards seat 0 before u.xs g.x u.chain
          (subst (λ (w : List Operation). IsExchange alone (last_boards boards u.xs) seat (last_need 0 u.xs) w g.x) u.follows
          (subst (λ (n : ℕ). IsExchange alone (last_boards boards u.xs) seat n now g.x) u.needs
          (subst (λ (b : Boards). IsExchange alone b seat need now g.x) u.stand g.is))) g.stays;
      needs = g.needs ∙ ap (λ (n : ℕ). need_of n g.x) u.needs ∙ sym (need_more 0 u.xs g.x);
      follows = g.follows ∙ sym (history_more before u.xs g.x);
      stand = g.moves ∙ sym (boards-more boards u.xs g.x);
      reads =
          read_more left0 left1 left2 pending (messages u.xs) (message_of g.x ++ pending_after) u.reads g.reads
          ∙ ap (λ (w : List ℕ). prepended w left2) (sym (append_assoc (messages u.xs) (message_of g.x) pending_after)
          ∙ ap (λ (w : List ℕ). w ++ pending_after) (sym (messages_more u.xs g.x)));
      writes =
          written_more held0 held1 held2 (answers u.xs) (answer_of g.x) u.writes g.writes
          ∙ ap (λ (w : List ℕ). appended held0 w) (sym (answers_more u.xs g.x));
    }

-- and the stream ends
pub at_end : (alone : Bool) (boards now_boards after_boards : Boards) (seat need : ℕ) (before now after : List Operation) (left0 left1 left2 held0 held1 held2 : Option (List ℕ))
    (pending : List ℕ) (end : Ended)
    → IsUnderWay alone boards now_boards seat need before now left0 left1 held0 held1 pending
    → Ends alone now_boards after_boards seat need now after record { left_before = left1; left_after = left2; held_before = held1; held_after = held2 } pending end
    → IsServed alone boards after_boards seat before after record { left_before = left0; left_after = left2; held_before = held0; held_after = held2 } end
at_end alone boards now_boards after_boards seat need before now after left0 left1 left2 held0 held1 held2 pending end u g =
    record {
      bytes = messages u.xs ++ g.rest;
      written = answers u.xs ++ g.sent;
      xs = u.xs;
      last = g.last;
      reads = read_more left0 left1 left2 pending (messages u.xs) g.rest u.reads g.reads;
      writes = written_more held0 held1 held2 (answers u.xs) g.sent u.writes g.writes;
      session = session;
      once = own-session alone boards seat _ _ left2 before after end u.xs g.last session;
      moved = stood;
      took = subst (λ (b : Boards). GrewBy (turns_in (answered u.xs g.last)) boards.taken b.taken) (sym stood)
          (took-session alone boards seat _ _ left2 before after end u.xs g.last session);
    }
  where
    stood : after_boards ≡ last_boards boards (answered u.xs g.last)
    stood = behind-all boards now_boards after_boards u.xs g.last u.stand g.moves

    session : IsSession alone boards seat (messages u.xs ++ g.rest) left2 before after (answers u.xs ++ g.sent) end u.xs g.last
    session =
        record {
          rest = g.rest;
          sent = g.sent;
          started = u.started;
          chain = u.chain;
          read = refl;
          wrote = refl;
          stands =
              subst (λ (w : List Operation). IsLast alone (last_boards boards u.xs) seat (last_need 0 u.xs) w g.rest left2 g.last after) u.follows
              (subst (λ (n : ℕ). IsLast alone (last_boards boards u.xs) seat n now g.rest left2 g.last after) u.needs
              (subst (λ (b : Boards). IsLast alone b seat need now g.rest left2 g.last after) u.stand g.stands));
          ends = g.ends;
          unread = λ none. absurd (g.read_some none);
        }

-- no buffers were had
pub not_begun : (alone : Bool) (boards : Boards) (seat : ℕ) (before : List Operation) (left held : Option (List ℕ)) → IsLegal is_frame before
    → IsServed alone boards boards seat before before record { left_before = left; left_after = left; held_before = held; held_after = held } ended.Memory
not_begun alone boards seat before left held legal =
    record {
      bytes = [];
      written = [];
      xs = [];
      last = no_buffers;
      reads = sym (prepended_nothing left);
      writes = sym (appended_nothing held);
      session = record {
        rest = [];
        sent = [];
        started = legal;
        chain = tt;
        read = refl;
        wrote = refl;
        stands = (refl, refl);
        ends = inr (refl, refl);
        unread = λ none. refl;
      };
      once = sym (append-nil (own seat before));
      moved = refl;
      took = grew-not boards.taken;
    }
