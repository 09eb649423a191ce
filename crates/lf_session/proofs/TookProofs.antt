-- The texts taken grow by at most one for each turn, and by no other request.
use Rattle.std.proofs.Common.{◌≡◌, ◌≤◌, ◌+◌, inl, inr, refl, sym, ◌∙◌, ap, subst, arith, ℕ, List, [], ◌∷◌, ◌++◌, length, Bool, Option, Some, None, Result, Ok, Err, append_assoc}
use Rattle.std.proofs.lemmas.List.{append-nil, length-append}
use Rattle.lf_base.specs.declared.memory.Memory.{Memory}
use Rattle.def_histories.specs.declared.operation.Operation.{Operation}
use Rattle.def_turns.specs.declared.turned.Turned.{Turned}
use Rattle.def_turns.specs.declared.turned.Turned.TheVariants as t
use Rattle.lf_desk.specs.Rotas.{taken_too}
use Rattle.lf_pool.specs.OneTurn.{IsTurn}
use Rattle.lf_session.specs.declared.ended.Ended.{Ended}
use Rattle.lf_session.specs.declared.request.Asked.{Asked}
use Rattle.lf_session.specs.declared.request.Asked.TheVariants as asked
use Rattle.lf_session.specs.Boards.{Boards}
use Rattle.lf_session.specs.Bodies.{error_body, idle_body, published_body, home_body, superseded_body}
use Rattle.lf_session.specs.Moving.{GrewBy, Moves, taken_by}
use Rattle.lf_session.specs.Replies.{Reply, turn_reply}
use Rattle.lf_session.specs.Requests.{asked_by}
use Rattle.lf_session.specs.Exchanges.{Exchange, IsExchange, IsChain, history_of, need_of, last_boards, last_history, last_need, turns_in}
use Rattle.lf_session.specs.Session.{Last, IsLast, IsSession}
use Rattle.lf_session.specs.Session as session
use Rattle.lf_session.specs.Headline.{answered}

-- ---- growing

grew-same : (most : ℕ) (before after : Option (List ℕ)) → after ≡ before → GrewBy most before after
grew-same most None after e = e
grew-same most (Some texts) after e = ([], e ∙ ap Some (sym (append-nil texts)), omega arith)

pub grew-not : (taken : Option (List ℕ)) → GrewBy 0 taken taken
grew-not taken = grew-same 0 taken taken refl

grew-one : (before after : Option (List ℕ)) (number : ℕ) → after ≡ taken_too before number → GrewBy 1 before after
grew-one None after number e = e
grew-one (Some texts) after number e = (number ∷ [], e, omega arith)

grew-more : (one two : ℕ) (a b d : Option (List ℕ)) → GrewBy one a b → GrewBy two b d → GrewBy (one + two) a d
grew-more one two None b d first second = subst (λ (o : Option (List ℕ)). GrewBy two o d) first second
grew-more one two (Some texts) b d first second = go (subst (λ (o : Option (List ℕ)). GrewBy two o d) first.1 second)
  where
    go : GrewBy two (Some (texts ++ first.0)) d → GrewBy (one + two) (Some texts) d
    go later = (first.0 ++ later.0, later.1 ∙ ap Some (append_assoc texts first.0 later.0), few)
      where
        few : length (first.0 ++ later.0) ≤ one + two
        few =
            let sum : length (first.0 ++ later.0) ≡ length first.0 + length later.0 = length-append first.0 later.0 in
            let low : length first.0 ≤ one = first.2 in
            let high : length later.0 ≤ two = later.2 in
            omega arith

-- ---- one request

turn-took : (alone : Bool) (boards boards_after : Boards) (seat : ℕ) (before after : List Operation) (result : Result Turned Memory)
    → IsTurn alone seat before after boards.away boards_after.away boards.taken boards_after.taken result
    → GrewBy (taken_by asked.Turn (turn_reply result)) boards.taken boards_after.taken
unfolding error_body idle_body published_body home_body superseded_body
turn-took alone boards boards_after seat before after (Ok t.Idle) turn = grew-same _ boards.taken boards_after.taken turn.1.told
turn-took alone boards boards_after seat before after (Ok (t.Published name version)) turn =
    grew-one boards.taken boards_after.taken turn.job.number turn.told
turn-took alone boards boards_after seat before after (Ok (t.Home name version)) turn =
    grew-one boards.taken boards_after.taken turn.job.number turn.told
turn-took alone boards boards_after seat before after (Ok (t.Superseded name was now)) turn =
    grew-one boards.taken boards_after.taken turn.job.number turn.told
turn-took alone boards boards_after seat before after (Err refused) (inl none) = grew-same _ boards.taken boards_after.taken none.told
turn-took alone boards boards_after seat before after (Err refused) (inr made) =
    grew-one boards.taken boards_after.taken made.job.number made.told

moved-took : (alone : Bool) (boards boards_after : Boards) (seat : ℕ) (wanted : Asked) (before after : List Operation) (reply : Reply)
    → Moves alone boards boards_after seat wanted before after reply → GrewBy (taken_by wanted reply) boards.taken boards_after.taken
moved-took alone boards boards_after seat asked.Turn before after reply moved =
    subst (λ (r : Reply). GrewBy (taken_by asked.Turn r) boards.taken boards_after.taken) (sym moved.2)
    (turn-took alone boards boards_after seat before after moved.0 moved.1)
moved-took alone boards boards_after seat (asked.Refused why) before after reply moved = grew-same 0 boards.taken boards_after.taken moved
moved-took alone boards boards_after seat asked.Put before after reply moved = grew-same 0 boards.taken boards_after.taken moved
moved-took alone boards boards_after seat asked.Delete before after reply moved = grew-same 0 boards.taken boards_after.taken moved
moved-took alone boards boards_after seat asked.Get before after reply moved = grew-same 0 boards.taken boards_after.taken moved
moved-took alone boards boards_after seat asked.GetNow before after reply moved = grew-same 0 boards.taken boards_after.taken moved
moved-took alone boards boards_after seat asked.Commit before after reply moved = grew-same 0 boards.taken boards_after.taken moved
moved-took alone boards boards_after seat asked.Version before after reply moved = grew-same 0 boards.taken boards_after.taken moved

exchange-took : (alone : Bool) (boards : Boards) (seat need : ℕ) (before : List Operation) (x : Exchange)
    → IsExchange alone boards seat need before x → GrewBy (taken_by (asked_by x.head) x.reply) boards.taken x.boards.taken
exchange-took alone boards seat need before x is =
    moved-took alone boards x.boards seat (asked_by x.head) before (history_of x) x.reply is.moved

-- ---- a stream

chain-took : (alone : Bool) (boards : Boards) (seat need : ℕ) (before : List Operation) (xs : List Exchange)
    → IsChain alone boards seat need before xs → GrewBy (turns_in xs) boards.taken (last_boards boards xs).taken
chain-took alone boards seat need before [] chain = grew-not boards.taken
chain-took alone boards seat need before (x ∷ xs) chain =
    grew-more (taken_by (asked_by x.head) x.reply) (turns_in xs) boards.taken x.boards.taken (last_boards x.boards xs).taken
    (exchange-took alone boards seat need before x chain.0)
    (chain-took alone x.boards seat (need_of need x) (history_of x) xs chain.2)

turns-more : (xs : List Exchange) (x : Exchange) → turns_in (xs ++ x ∷ []) ≡ turns_in xs + taken_by (asked_by x.head) x.reply
turns-more [] x = omega arith
turns-more (first ∷ xs) x =
    let more : turns_in (xs ++ x ∷ []) ≡ turns_in xs + taken_by (asked_by x.head) x.reply = turns-more xs x in
    omega arith

pub boards-more : (boards : Boards) (xs : List Exchange) (x : Exchange) → last_boards boards (xs ++ x ∷ []) ≡ x.boards
boards-more boards [] x = refl
boards-more boards (first ∷ xs) x = boards-more first.boards xs x

last-took : (alone : Bool) (boards : Boards) (seat need : ℕ) (before after : List Operation) (xs : List Exchange) (rest : List ℕ)
    (left : Option (List ℕ)) (last : Last) → GrewBy (turns_in xs) boards.taken (last_boards boards xs).taken
    → IsLast alone (last_boards boards xs) seat need before rest left last after
    → GrewBy (turns_in (answered xs last)) boards.taken (last_boards boards (answered xs last)).taken
last-took alone boards seat need before after xs rest left session.nothing so stands = so
last-took alone boards seat need before after xs rest left (session.request x) so stands =
    subst (λ (b : Boards). GrewBy (turns_in (xs ++ x ∷ [])) boards.taken b.taken) (sym (boards-more boards xs x))
    (subst (λ (n : ℕ). GrewBy n boards.taken x.boards.taken) (sym (turns-more xs x))
    (grew-more (turns_in xs) (taken_by (asked_by x.head) x.reply) boards.taken (last_boards boards xs).taken x.boards.taken so
    (exchange-took alone (last_boards boards xs) seat need before x stands.0)))
last-took alone boards seat need before after xs rest left (session.refused e reply) so stands = so
last-took alone boards seat need before after xs rest left session.cut so stands = so
last-took alone boards seat need before after xs rest left session.faulted so stands = so
last-took alone boards seat need before after xs rest left (session.no_room head) so stands = so
last-took alone boards seat need before after xs rest left session.no_buffers so stands = so

pub took-session : (alone : Bool) (boards : Boards) (seat : ℕ) (bytes written : List ℕ) (left : Option (List ℕ)) (before after : List Operation)
    (end : Ended) (xs : List Exchange) (last : Last)
    → IsSession alone boards seat bytes left before after written end xs last
    → GrewBy (turns_in (answered xs last)) boards.taken (last_boards boards (answered xs last)).taken
took-session alone boards seat bytes written left before after end xs last is =
    last-took alone boards seat (last_need 0 xs) (last_history before xs) after xs is.rest left last
    (chain-took alone boards seat 0 before xs is.chain) is.stands
