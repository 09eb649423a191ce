-- A `GET` that asks for the newest version is answered by a document, where the newest version is
-- new enough.
use Rattle.std.specs.Prelude.{◌≡◌, ◌≢◌, ◌⊎◌, ◌≤◌, List, ℕ, Bool, None}
use Rattle.def_histories.specs.declared.operation.Operation.{Operation}
use Rattle.def_histories.specs.History.{commits, live}
use Rattle.lf_http.specs.Reading.{name_of}
use Rattle.lf_session.specs.declared.request.Asked.TheVariants as asked
use Rattle.lf_session.specs.Boards.{Boards}
use Rattle.lf_session.specs.Replies.{Reply, unknown_frame, out_of_memory}
use Rattle.lf_session.specs.Requests.{asked_by}
use Rattle.lf_session.specs.Exchanges.{Exchange, IsExchange, needed}
use Rattle.lf_session.specs.Headline.{IsOfOneVersion}

-- a document, unless the name was retired meanwhile or no memory was found
abbrev pub IsRefreshed : List Operation → List ℕ → ℕ → Reply → Type 0
IsRefreshed later name need reply =
    IsOfOneVersion later name need reply
    ⊎ ((live later name ≡ None) × (reply ≡ unknown_frame))
    ⊎ (reply ≡ out_of_memory)

abbrev pub RefreshesAreAnswered : Type 0
RefreshesAreAnswered =
    (alone : Bool) (boards : Boards) (seat need : ℕ) (before : List Operation) (x : Exchange)
    → IsExchange alone boards seat need before x → asked_by x.head ≡ asked.GetNow
    → live x.seen (name_of x.sent.target) ≢ None → needed need x.head ≤ commits x.seen
    → IsRefreshed x.later (name_of x.sent.target) (needed need x.head) x.reply
