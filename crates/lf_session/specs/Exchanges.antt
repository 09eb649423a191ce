-- Requests and their replies, one after another, over a chain of legal histories.
use Rattle.std.specs.Prelude.{◌≡◌, ◌≤◌, List, [], ◌∷◌, ◌++◌, ◌+◌, ℕ, Bool, false, length, max, unwrap_or, Option, Ok}
use Rattle.httparse.specs.Grammar.{RequestHead, IsRequestHead, print_request}
use Rattle.lf_http.specs.declared.head.Head.{Head}
use Rattle.lf_http.specs.Judge.{request_of, judged}
use Rattle.lf_http.specs.Reading.{longest_head, most_lines, name_of}
use Rattle.def_histories.specs.declared.operation.Operation.{Operation}
use Rattle.def_histories.specs.Legal.{IsLegal}
use Rattle.lf_frames.specs.FrameTexts.{is_frame}
use Rattle.lf_desk.specs.Seats.{IsExtended}
use Rattle.lf_session.specs.Replies.{Reply, reply_bytes}
use Rattle.lf_session.specs.Requests.{asked_by}
use Rattle.lf_session.specs.Answers.{IsAnswered}
use Rattle.lf_session.specs.Boards.{Boards, StaysOut}
use Rattle.lf_session.specs.Moving.{Moves, taken_by}

-- A request, the history by which it was answered and a later one, what it made behind the later
-- one, the boards after it, and the reply.
pub record Exchange : Type 0 where
  pub sent : RequestHead
  pub head : Head
  pub body : List ℕ
  pub seen : List Operation
  pub later : List Operation
  pub made : List Operation
  pub boards : Boards
  pub reply : Reply

-- the bytes of the request
abbrev pub message_of : Exchange → List ℕ
message_of x = print_request x.sent ++ x.body

-- the bytes of the reply
abbrev pub answer_of : Exchange → List ℕ
answer_of x = reply_bytes x.head.method x.head.close x.reply

-- the history after it
abbrev pub history_of : Exchange → List Operation
history_of x = x.later ++ x.made

-- the greatest number told, where an optional number is told too
abbrev pub greatest_told : ℕ → Option ℕ → ℕ
greatest_told need number = max need (unwrap_or number 0)

-- the version that the reply may not be older than: each `Ld-Seen` line counts, whatever the answer
abbrev pub needed : ℕ → Head → ℕ
needed need head = greatest_told need head.seen

-- the version that later replies may not be older than
abbrev pub need_of : ℕ → Exchange → ℕ
need_of need x = greatest_told (needed need x.head) x.reply.version

-- The request was read whole, with a head within the limits, and was answered by the history before
-- it with what others made. A turn may come of the boards before it.
pub record IsExchange (alone : Bool) (boards : Boards) (seat need : ℕ) (before : List Operation)
    (x : Exchange) : Type 0 where
  pub is_head : IsRequestHead x.sent
  pub short : length (print_request x.sent) ≤ longest_head
  pub few : length x.sent.fields ≤ most_lines
  pub accepted : judged (request_of x.sent) ≡ Ok x.head
  pub whole : length x.body ≡ x.head.length
  pub came : IsExtended alone seat before x.seen
  pub went : IsExtended alone seat x.seen x.later
  pub legal : IsLegal is_frame (history_of x)
  pub answered :
      IsAnswered seat (name_of x.sent.target) x.body (needed need x.head) (asked_by x.head) x.seen
      x.later x.made x.reply
  pub moved : Moves alone boards x.boards seat (asked_by x.head) before (history_of x) x.reply
  pub out : StaysOut alone (history_of x) boards x.boards

-- one after another, where none asked to close
abbrev pub IsChain : Bool → Boards → ℕ → ℕ → List Operation → List Exchange → Type 0
IsChain alone boards seat need before [] = Unit {0}
IsChain alone boards seat need before (x ∷ xs) =
    IsExchange alone boards seat need before x × (x.head.close ≡ false)
    × IsChain alone x.boards seat (need_of need x) (history_of x) xs

abbrev pub messages : List Exchange → List ℕ
messages [] = []
messages (x ∷ xs) = message_of x ++ messages xs

abbrev pub answers : List Exchange → List ℕ
answers [] = []
answers (x ∷ xs) = answer_of x ++ answers xs

abbrev pub last_history : List Operation → List Exchange → List Operation
last_history before [] = before
last_history before (x ∷ xs) = last_history (history_of x) xs

abbrev pub last_need : ℕ → List Exchange → ℕ
last_need need [] = need
last_need need (x ∷ xs) = last_need (need_of need x) xs

abbrev pub last_boards : Boards → List Exchange → Boards
last_boards boards [] = boards
last_boards boards (x ∷ xs) = last_boards x.boards xs

-- how many turns may have taken a board
abbrev pub turns_in : List Exchange → ℕ
turns_in [] = 0
turns_in (x ∷ xs) = taken_by (asked_by x.head) x.reply + turns_in xs

-- what the seat made, in order
abbrev pub all_made : List Exchange → List Operation
all_made [] = []
all_made (x ∷ xs) = x.made ++ all_made xs
