-- A reply tells whether its request made an operation.
use Rattle.std.specs.Prelude.{◌≡◌, List, [], ℕ, nat_eq, length, Bool, if◌then◌else◌, Result}
use Rattle.lf_base.specs.declared.memory.Memory.{Memory}
use Rattle.def_histories.specs.declared.operation.Operation.{Operation}
use Rattle.def_turns.specs.declared.turned.Turned.{Turned}
use Rattle.lf_desk.specs.Rotas.{given_entry}
use Rattle.lf_session.specs.declared.request.Asked.{Asked}
use Rattle.lf_session.specs.declared.request.Asked.TheVariants as asked
use Rattle.lf_session.specs.Boards.{Boards}
use Rattle.lf_session.specs.Replies.{Reply, turn_reply}
use Rattle.lf_session.specs.Requests.{asked_by}
use Rattle.lf_session.specs.Exchanges.{Exchange, IsExchange}

-- one operation was made where this is told, and none otherwise
abbrev pub IsMadeWhere : Bool → List Operation → Type 0
IsMadeWhere told made = length made ≡ (if told then 1 else 0)

-- A registration that is new, a retirement of a live name, and a commit that is accepted make one
-- operation. A turn makes the publication that its reply tells. Any other request makes none.
abbrev pub TellsMade : Asked → List Operation → Reply → Type 0
TellsMade asked.Put made reply = IsMadeWhere (nat_eq reply.status 201) made
TellsMade asked.Delete made reply = IsMadeWhere (nat_eq reply.status 200) made
TellsMade asked.Commit made reply = IsMadeWhere (nat_eq reply.status 200) made
TellsMade asked.Turn made reply =
    (result : Result Turned Memory) × (reply ≡ turn_reply result) × (made ≡ given_entry result)
TellsMade (asked.Refused why) made reply = made ≡ []
TellsMade asked.Get made reply = made ≡ []
TellsMade asked.GetNow made reply = made ≡ []
TellsMade asked.Version made reply = made ≡ []

abbrev pub RepliesTellWhatWasMade : Type 0
RepliesTellWhatWasMade =
    (alone : Bool) (boards : Boards) (seat need : ℕ) (before : List Operation) (x : Exchange)
    → IsExchange alone boards seat need before x → TellsMade (asked_by x.head) x.made x.reply
