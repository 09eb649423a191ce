-- Sessions hold, exchange by exchange.
use Rattle.std.proofs.Common.{◌≡◌, sym, subst, List, [], ◌∷◌, ◌++◌, ℕ, Bool, Option}
use Rattle.def_histories.specs.declared.operation.Operation.{Operation}
use Rattle.def_histories.specs.Legal.{IsLegal}
use Rattle.def_histories.proofs.LegalProofs.{prefix_is_legal}
use Rattle.lf_http.specs.Reading.{name_of}
use Rattle.lf_frames.specs.FrameTexts.{is_frame}
use Rattle.lf_session.specs.Requests.{asked_by}
use Rattle.lf_session.specs.Boards.{Boards}
use Rattle.lf_session.specs.Exchanges.{Exchange, IsExchange, IsChain, history_of, need_of, needed, last_boards, last_history, last_need}
use Rattle.lf_session.specs.Session.{Last, IsLast}
use Rattle.lf_session.specs.Session as session
use Rattle.lf_session.specs.Headline.{IsTrusted, AreTrusted, SessionsHold, answered}
use Rattle.lf_session.proofs.HeadlineTrust.{answered-trust}
use Rattle.lf_session.proofs.OwnProofs.{own-session, made-session}

-- what one exchange gives
record Holds (need : ℕ) (x : Exchange) : Type 0 where
  pub trusted : IsTrusted (needed need x.head) x
  pub legal : IsLegal is_frame (history_of x)

exchange-holds : (alone : Bool) (boards : Boards) (seat need : ℕ) (before : List Operation) (x : Exchange)
    → IsExchange alone boards seat need before x → Holds need x
exchange-holds alone boards seat need before x is =
    let trust = answered-trust seat (name_of x.sent.target) x.body (needed need x.head) (asked_by x.head) x.seen x.later x.made x.reply
    (prefix_is_legal is_frame x.later x.made is.legal) is.answered in
    record {
      trusted = record { document = trust.document; framed = trust.framed; versioned = trust.versioned; pending = trust.pending };
      legal = is.legal;
    }

-- what a chain of them gives
record Hold (need : ℕ) (after : List Operation) (xs : List Exchange) : Type 0 where
  pub trusted : AreTrusted need xs
  pub legal : IsLegal is_frame after

chain-holds : (alone : Bool) (boards : Boards) (seat need : ℕ) (before : List Operation) (xs : List Exchange) → IsLegal is_frame before
    → IsChain alone boards seat need before xs → Hold need (last_history before xs) xs
chain-holds alone boards seat need before [] start chain = record { trusted = tt; legal = start }
chain-holds alone boards seat need before (x ∷ xs) start chain =
    let first = exchange-holds alone boards seat need before x chain.0 in
    let rest = chain-holds alone x.boards seat (need_of need x) (history_of x) xs first.legal chain.2 in
    record { trusted = (first.trusted, rest.trusted); legal = rest.legal }

-- one more behind a chain
trusted-more : (need : ℕ) (xs : List Exchange) (x : Exchange) → AreTrusted need xs → IsTrusted (needed (last_need need xs) x.head) x
    → AreTrusted need (xs ++ x ∷ [])
trusted-more need [] x all one = (one, tt)
trusted-more need (first ∷ xs) x all one = (all.0, trusted-more (need_of need first) xs x all.1 one)

-- where nothing was made behind the chain
same-history : (end after : List Operation) (xs : List Exchange) → Hold 0 end xs → after ≡ end → Hold 0 after xs
same-history end after xs hold same = record { trusted = hold.trusted; legal = subst (IsLegal is_frame) (sym same) hold.legal }

last-holds : (alone : Bool) (boards : Boards) (seat : ℕ) (before after : List Operation) (xs : List Exchange) (rest : List ℕ) (left : Option (List ℕ)) (last : Last)
    → Hold 0 (last_history before xs) xs
    → IsLast alone (last_boards boards xs) seat (last_need 0 xs) (last_history before xs) rest left last after
    → Hold 0 after (answered xs last)
last-holds alone boards seat before after xs rest left session.nothing hold stands = same-history _ after xs hold stands.2
last-holds alone boards seat before after xs rest left (session.request x) hold stands =
    let one = exchange-holds alone (last_boards boards xs) seat (last_need 0 xs) (last_history before xs) x stands.0 in
    record {
      trusted = trusted-more 0 xs x hold.trusted one.trusted;
      legal = subst (IsLegal is_frame) (sym stands.2) one.legal;
    }
last-holds alone boards seat before after xs rest left (session.refused e reply) hold stands = same-history _ after xs hold stands.3
last-holds alone boards seat before after xs rest left session.cut hold stands = same-history _ after xs hold stands.1
last-holds alone boards seat before after xs rest left session.faulted hold stands = same-history _ after xs hold stands.1
last-holds alone boards seat before after xs rest left (session.no_room head) hold stands = same-history _ after xs hold stands.1
last-holds alone boards seat before after xs rest left session.no_buffers hold stands = same-history _ after xs hold stands.1

pub sessions_hold : SessionsHold
sessions_hold alone boards seat bytes written left before after end xs last is =
    let hold = last-holds alone boards seat before after xs is.rest left last (chain-holds alone boards seat 0 before xs is.started is.chain) is.stands in
    record {
      trusted = hold.trusted;
      once = own-session alone boards seat bytes written left before after end xs last is;
      made = made-session alone boards seat bytes written left before after end xs last is;
      legal = hold.legal;
    }
