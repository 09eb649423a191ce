-- What a seat's requests made with its number are its own operations in the history after them, in order, each once.
use Rattle.std.proofs.Common.{◌≡◌, refl, sym, ◌∙◌, ap, subst, List, [], ◌∷◌, ◌++◌, ℕ, Bool, Option}
use Rattle.std.proofs.lemmas.List.{append-nil, append_assoc}
use Rattle.def_histories.specs.declared.operation.Operation.{Operation}
use Rattle.lf_http.specs.Reading.{name_of}
use Rattle.lf_desk.specs.Seats.{own}
use Rattle.lf_session.specs.declared.ended.Ended.{Ended}
use Rattle.lf_session.specs.Requests.{asked_by}
use Rattle.lf_session.specs.Boards.{Boards}
use Rattle.lf_session.specs.Exchanges.{Exchange, IsExchange, IsChain, history_of, need_of, needed, last_boards, last_history, last_need, all_made}
use Rattle.lf_session.specs.Session.{Last, IsLast, IsSession}
use Rattle.lf_session.specs.Session as session
use Rattle.lf_session.specs.Headline.{answered}
use Rattle.lf_session.proofs.HeadlineOwn.{own-append, own-extended, own-after, AllMade, made-append, made-answered}

own-exchange : (alone : Bool) (boards : Boards) (seat need : ℕ) (before : List Operation) (x : Exchange) → IsExchange alone boards seat need before x
    → own seat (history_of x) ≡ own seat before ++ own seat x.made
own-exchange alone boards seat need before x is =
    own-after seat before x.seen x.later x.made (own-extended alone seat before x.seen is.came)
    (own-extended alone seat x.seen x.later is.went)

made-exchange : (alone : Bool) (boards : Boards) (seat need : ℕ) (before : List Operation) (x : Exchange) → IsExchange alone boards seat need before x
    → AllMade seat x.made
made-exchange alone boards seat need before x is =
    made-answered seat (name_of x.sent.target) x.body (needed need x.head) (asked_by x.head) x.seen x.later x.made x.reply is.answered

own-chain : (alone : Bool) (boards : Boards) (seat need : ℕ) (before : List Operation) (xs : List Exchange) → IsChain alone boards seat need before xs
    → own seat (last_history before xs) ≡ own seat before ++ own seat (all_made xs)
own-chain alone boards seat need before [] chain = sym (append-nil (own seat before))
own-chain alone boards seat need before (x ∷ xs) chain =
    own-chain alone x.boards seat (need_of need x) (history_of x) xs chain.2
    ∙ (ap (λ (w : List Operation). w ++ own seat (all_made xs)) (own-exchange alone boards seat need before x chain.0)
    ∙ (append_assoc (own seat before) (own seat x.made) (own seat (all_made xs))
    ∙ ap (λ (w : List Operation). own seat before ++ w) (sym (own-append seat x.made (all_made xs)))))

made-chain : (alone : Bool) (boards : Boards) (seat need : ℕ) (before : List Operation) (xs : List Exchange) → IsChain alone boards seat need before xs
    → AllMade seat (all_made xs)
made-chain alone boards seat need before [] chain = refl
made-chain alone boards seat need before (x ∷ xs) chain =
    made-append seat x.made (all_made xs) (made-exchange alone boards seat need before x chain.0)
    (made-chain alone x.boards seat (need_of need x) (history_of x) xs chain.2)

made-more : (xs : List Exchange) (x : Exchange) → all_made (xs ++ x ∷ []) ≡ all_made xs ++ x.made
made-more [] x = append-nil x.made
made-more (first ∷ xs) x =
    ap (λ (w : List Operation). first.made ++ w) (made-more xs x) ∙ sym (append_assoc first.made (all_made xs) x.made)

own-last : (alone : Bool) (boards : Boards) (seat : ℕ) (before after : List Operation) (xs : List Exchange) (rest : List ℕ) (left : Option (List ℕ)) (last : Last)
    → own seat (last_history before xs) ≡ own seat before ++ own seat (all_made xs)
    → IsLast alone (last_boards boards xs) seat (last_need 0 xs) (last_history before xs) rest left last after
    → own seat after ≡ own seat before ++ own seat (all_made (answered xs last))
own-last alone boards seat before after xs rest left session.nothing so stands = ap (own seat) stands.2 ∙ so
own-last alone boards seat before after xs rest left (session.request x) so stands =
    ap (own seat) stands.2
    ∙ (own-exchange alone (last_boards boards xs) seat (last_need 0 xs) (last_history before xs) x stands.0
    ∙ (ap (λ (w : List Operation). w ++ own seat x.made) so
    ∙ (append_assoc (own seat before) (own seat (all_made xs)) (own seat x.made)
    ∙ ap (λ (w : List Operation). own seat before ++ w)
    (sym (own-append seat (all_made xs) x.made) ∙ ap (own seat) (sym (made-more xs x))))))
own-last alone boards seat before after xs rest left (session.refused e reply) so stands = ap (own seat) stands.3 ∙ so
own-last alone boards seat before after xs rest left session.cut so stands = ap (own seat) stands.1 ∙ so
own-last alone boards seat before after xs rest left session.faulted so stands = ap (own seat) stands.1 ∙ so
own-last alone boards seat before after xs rest left (session.no_room head) so stands = ap (own seat) stands.1 ∙ so
own-last alone boards seat before after xs rest left session.no_buffers so stands = ap (own seat) stands.1 ∙ so

pub own-session : (alone : Bool) (boards : Boards) (seat : ℕ) (bytes written : List ℕ) (left : Option (List ℕ)) (before after : List Operation) (end : Ended)
    (xs : List Exchange) (last : Last)
    → IsSession alone boards seat bytes left before after written end xs last
    → own seat after ≡ own seat before ++ own seat (all_made (answered xs last))
own-session alone boards seat bytes written left before after end xs last is =
    own-last alone boards seat before after xs is.rest left last (own-chain alone boards seat 0 before xs is.chain) is.stands

made-last : (alone : Bool) (boards : Boards) (seat : ℕ) (before after : List Operation) (xs : List Exchange) (rest : List ℕ) (left : Option (List ℕ)) (last : Last)
    → AllMade seat (all_made xs)
    → IsLast alone (last_boards boards xs) seat (last_need 0 xs) (last_history before xs) rest left last after
    → AllMade seat (all_made (answered xs last))
made-last alone boards seat before after xs rest left session.nothing so stands = so
made-last alone boards seat before after xs rest left (session.request x) so stands =
    subst (AllMade seat) (sym (made-more xs x))
    (made-append seat (all_made xs) x.made so (made-exchange alone (last_boards boards xs) seat (last_need 0 xs) (last_history before xs) x stands.0))
made-last alone boards seat before after xs rest left (session.refused e reply) so stands = so
made-last alone boards seat before after xs rest left session.cut so stands = so
made-last alone boards seat before after xs rest left session.faulted so stands = so
made-last alone boards seat before after xs rest left (session.no_room head) so stands = so
made-last alone boards seat before after xs rest left session.no_buffers so stands = so

pub made-session : (alone : Bool) (boards : Boards) (seat : ℕ) (bytes written : List ℕ) (left : Option (List ℕ)) (before after : List Operation) (end : Ended)
    (xs : List Exchange) (last : Last)
    → IsSession alone boards seat bytes left before after written end xs last
    → AllMade seat (all_made (answered xs last))
made-session alone boards seat bytes written left before after end xs last is =
    made-last alone boards seat before after xs is.rest left last (made-chain alone boards seat 0 before xs is.chain) is.stands
