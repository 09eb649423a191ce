-- The turns of a seat that is alone, one after another.
use Rattle.std.proofs.Common.{◌≡◌, refl, ◌∙◌, ap, subst, ℕ, List, [], ◌∷◌, ◌++◌, true, Option}
use Rattle.std.proofs.lemmas.Bool.{false≢true}
use Rattle.def_histories.specs.declared.operation.Operation.{Operation}
use Rattle.def_turns.specs.Turns.{still_live}
use Rattle.lf_pool.specs.Causes.{LoneTurn}
use Rattle.lf_pool.proofs.Lone.{lone_turns_publish as turn-publishes}
use Rattle.lf_session.specs.declared.request.Asked.{Asked}
use Rattle.lf_session.specs.declared.request.Asked.TheVariants as asked
use Rattle.lf_session.specs.Boards.{Boards, StaysOut, boards_of}
use Rattle.lf_session.specs.Moving.{Moves, is_turn}
use Rattle.lf_session.specs.Requests.{asked_by}
use Rattle.lf_session.specs.Exchanges.{Exchange, IsExchange, IsChain, history_of, need_of, last_boards, last_history, last_need}
use Rattle.lf_session.specs.Session.{Last, IsLast}
use Rattle.lf_session.specs.Session as session
use Rattle.lf_session.specs.Headline.{answered}
use Rattle.lf_session.specs.LoneTurns.{AreLoneTurns, IsLoneTurn, LoneTurnsPublish}

moved-lone : (boards : Boards) (seat : ℕ) (wanted : Asked) (before : List Operation) (x : Exchange) → is_turn wanted ≡ true
    → boards.away ≡ [] → Moves true boards x.boards seat wanted before (history_of x) x.reply → IsLoneTurn before x
moved-lone boards seat asked.Turn before x is none moved = (
  moved.0,
  subst (λ (away : List ℕ). LoneTurn before (history_of x) away moved.0) none
      (turn-publishes seat before (history_of x) boards.away x.boards.away boards.taken x.boards.taken moved.0 moved.1).0,
  moved.2,
)
moved-lone boards seat (asked.Refused why) before x is none moved = absurd (false≢true is)
moved-lone boards seat asked.Put before x is none moved = absurd (false≢true is)
moved-lone boards seat asked.Delete before x is none moved = absurd (false≢true is)
moved-lone boards seat asked.Get before x is none moved = absurd (false≢true is)
moved-lone boards seat asked.GetNow before x is none moved = absurd (false≢true is)
moved-lone boards seat asked.Commit before x is none moved = absurd (false≢true is)
moved-lone boards seat asked.Version before x is none moved = absurd (false≢true is)

exchange-lone : (boards : Boards) (seat need : ℕ) (before : List Operation) (x : Exchange) → boards.away ≡ []
    → IsExchange true boards seat need before x → is_turn (asked_by x.head) ≡ true → IsLoneTurn before x
exchange-lone boards seat need before x none is turn = moved-lone boards seat (asked_by x.head) before x turn none is.moved

-- no board goes away
stays-none : (boards boards_after : Boards) (history : List Operation) → boards.away ≡ [] → StaysOut true history boards boards_after
    → boards_after.away ≡ []
stays-none boards boards_after history none out = out refl ∙ ap (still_live history) none

-- the turns of a chain, and that no board is away behind it
record Lone (boards : Boards) (before : List Operation) (xs : List Exchange) : Type 0 where
  pub turns : AreLoneTurns before xs
  pub none : (last_boards boards xs).away ≡ []

chain-lone : (boards : Boards) (seat need : ℕ) (before : List Operation) (xs : List Exchange) → boards.away ≡ []
    → IsChain true boards seat need before xs → Lone boards before xs
chain-lone boards seat need before [] none chain = record { turns = tt; none = none }
chain-lone boards seat need before (x ∷ xs) none chain =
    let rest = chain-lone x.boards seat (need_of need x) (history_of x) xs (stays-none boards x.boards (history_of x) none chain.0.out) chain.2 in
    record { turns = (exchange-lone boards seat need before x none chain.0, rest.turns); none = rest.none }

lone-more : (before : List Operation) (xs : List Exchange) (x : Exchange) → AreLoneTurns before xs
    → (is_turn (asked_by x.head) ≡ true → IsLoneTurn (last_history before xs) x) → AreLoneTurns before (xs ++ x ∷ [])
lone-more before [] x turns one = (one, tt)
lone-more before (first ∷ xs) x turns one = (turns.0, lone-more (history_of first) xs x turns.1 one)

last-lone : (boards : Boards) (seat need : ℕ) (before after : List Operation) (xs : List Exchange) (rest : List ℕ)
    (left : Option (List ℕ)) (last : Last) → Lone boards before xs
    → IsLast true (last_boards boards xs) seat need (last_history before xs) rest left last after → AreLoneTurns before (answered xs last)
last-lone boards seat need before after xs rest left session.nothing lone stands = lone.turns
last-lone boards seat need before after xs rest left (session.request x) lone stands =
    lone-more before xs x lone.turns (exchange-lone (last_boards boards xs) seat need (last_history before xs) x lone.none stands.0)
last-lone boards seat need before after xs rest left (session.refused e reply) lone stands = lone.turns
last-lone boards seat need before after xs rest left session.cut lone stands = lone.turns
last-lone boards seat need before after xs rest left session.faulted lone stands = lone.turns
last-lone boards seat need before after xs rest left (session.no_room head) lone stands = lone.turns
last-lone boards seat need before after xs rest left session.no_buffers lone stands = lone.turns

pub lone_turns_publish : LoneTurnsPublish
lone_turns_publish taken seat bytes written left before after end xs last is =
    last-lone (boards_of [] taken) seat (last_need 0 xs) before after xs is.rest left last
    (chain-lone (boards_of [] taken) seat 0 before xs refl is.chain) is.stands
