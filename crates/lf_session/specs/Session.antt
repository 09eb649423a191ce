-- A whole stream: its requests, and how it ends.
use Rattle.std.specs.Prelude.{◌≡◌, ◌⊎◌, ◌≤◌, ◌<◌, List, [], ◌++◌, ℕ, Bool, true, length, take, Option, Some, Ok, Err}
use Rattle.httparse.specs.Grammar.{RequestHead, IsRequestHead, ReadsRequest, print_request}
use Rattle.lf_io.specs.Bytes.{HasEnded}
use Rattle.lf_io.specs.Faults.{risen}
use Rattle.lf_http.specs.declared.head.Head.{Head}
use Rattle.lf_http.specs.declared.head.HeadErr.{HeadErr}
use Rattle.lf_http.specs.declared.head.HeadErr.TheVariants.{CutShort as CutHead, ReadFault, TooLarge}
use Rattle.lf_http.specs.Judge.{request_of, judged}
use Rattle.lf_http.specs.Reading.{LacksHead, IsRefused, longest_head, most_lines}
use Rattle.def_histories.specs.declared.operation.Operation.{Operation}
use Rattle.def_histories.specs.Legal.{IsLegal}
use Rattle.lf_frames.specs.FrameTexts.{is_frame}
use Rattle.lf_session.specs.declared.ended.Ended.{Ended}
use Rattle.lf_session.specs.declared.ended.Ended.TheVariants as ended
use Rattle.lf_session.specs.Boards.{Boards}
use Rattle.lf_session.specs.Replies.{Reply, out_of_memory, reply_bytes, refusal, refusal_bytes}
use Rattle.lf_session.specs.Exchanges.{Exchange, IsExchange, IsChain, message_of, answer_of, history_of, messages, answers, last_boards, last_history, last_need}

-- What stands last: nothing, a request that is the last one answered, a refused head, an end inside
-- a message, a failed read, a body for which no memory was found, or no memory for the buffers.
pub data Last : Type 0 where
  nothing : Last
  request : Exchange → Last
  refused : HeadErr → Reply → Last
  cut : Last
  faulted : Last
  no_room : Head → Last
  no_buffers : Last

-- what is to be sent for it
abbrev pub due : Last → List ℕ
due nothing = []
due (request x) = answer_of x
due (refused e reply) = refusal_bytes reply
due cut = []
due faulted = []
due (no_room head) = reply_bytes head.method true out_of_memory
due no_buffers = []

-- the bytes are an accepted head and a part of its body
pub record IsBodyCut (bytes : List ℕ) : Type 0 where
  pub sent : RequestHead
  pub head : Head
  pub body : List ℕ
  pub is_head : IsRequestHead sent
  pub short : length (print_request sent) ≤ longest_head
  pub few : length sent.fields ≤ most_lines
  pub accepted : judged (request_of sent) ≡ Ok head
  pub spelled : bytes ≡ print_request sent ++ body
  pub lacking : length body < head.length

-- the bytes begin with an accepted head that has a body
pub record HasBody (bytes : List ℕ) (head : Head) : Type 0 where
  pub sent : RequestHead
  pub more : List ℕ
  pub is_head : IsRequestHead sent
  pub short : length (print_request sent) ≤ longest_head
  pub few : length sent.fields ≤ most_lines
  pub accepted : judged (request_of sent) ≡ Ok head
  pub spelled : bytes ≡ print_request sent ++ more
  pub some : 0 < head.length

-- The first refusal of a whole head that applies: too many header lines, and then what its lines
-- are refused for.
pub record IsFirstRefusal (bytes : List ℕ) (e : HeadErr) : Type 0 where
  pub many :
      (h : RequestHead) (rest : List ℕ) → ReadsRequest bytes h rest → most_lines < length h.fields →
      e ≡ TooLarge
  pub own :
      (h : RequestHead) (rest : List ℕ) → ReadsRequest bytes h rest → length h.fields ≤ most_lines
      → judged (request_of h) ≡ Err e

-- What stands last in these bytes, which are all that were read behind the requests before, and the
-- history after it.
abbrev pub IsLast :
    Bool → Boards → ℕ → ℕ → List Operation → List ℕ → Option (List ℕ) → Last → List Operation →
    Type 0
IsLast alone boards seat need history bytes left nothing after =
    (bytes ≡ []) × HasEnded left × (after ≡ history)
IsLast alone boards seat need history bytes left (request x) after =
    IsExchange alone boards seat need history x × ((more : List ℕ) × (bytes ≡ message_of x ++ more))
    × (after ≡ history_of x)
IsLast alone boards seat need history bytes left (refused e reply) after =
    (refusal e ≡ Some reply) × IsRefused bytes left e × IsFirstRefusal bytes e × (after ≡ history)
IsLast alone boards seat need history bytes left cut after =
    (LacksHead bytes left CutHead ⊎ (IsBodyCut bytes × HasEnded left)) × (after ≡ history)
IsLast alone boards seat need history bytes left faulted after =
    (LacksHead bytes left ReadFault ⊎ IsBodyCut bytes) × (after ≡ history)
IsLast alone boards seat need history bytes left (no_room head) after =
    HasBody bytes head × (after ≡ history)
IsLast alone boards seat need history bytes left no_buffers after = (bytes ≡ []) × (after ≡ history)

-- The stream ended so, with these bytes sent for what stands last. A write fault cuts them.
abbrev pub EndsBy : Last → List ℕ → Ended → Type 0
EndsBy last sent ended.Clean = (last ≡ nothing) × (sent ≡ [])
EndsBy last sent ended.Asked =
    (x : Exchange) × (last ≡ request x) × (x.head.close ≡ true) × (sent ≡ due last)
EndsBy last sent (ended.Bad status) =
    (e : HeadErr) × (reply : Reply) × (last ≡ refused e reply) × (status ≡ reply.status)
    × (sent ≡ due last)
EndsBy last sent ended.CutShort = (last ≡ cut) × (sent ≡ [])
EndsBy last sent ended.ReadFault = (last ≡ faulted) × (sent ≡ [])
EndsBy last sent ended.WriteFault = (n : ℕ) × (n < length (due last)) × (sent ≡ take n (due last))
EndsBy last sent ended.Memory =
    ((head : Head) × (last ≡ no_room head) × (sent ≡ due last))
    ⊎ ((last ≡ no_buffers) × (sent ≡ []))

-- A stream is served: the boards at its start, the bytes that were read and what is left behind
-- them, the histories at its start and its end, the bytes that were sent, how it ended, and its
-- requests with the last one apart. Each history of the chain is legal.
pub record IsSession (alone : Bool) (boards : Boards) (seat : ℕ) (bytes : List ℕ)
    (left : Option (List ℕ)) (before after : List Operation)
    (written : List ℕ) (end : Ended) (xs : List Exchange) (last : Last) : Type 0 where
  pub rest : List ℕ
  pub sent : List ℕ
  pub started : IsLegal is_frame before
  pub chain : IsChain alone boards seat 0 before xs
  pub read : bytes ≡ messages xs ++ rest
  pub wrote : written ≡ answers xs ++ sent
  pub stands :
      IsLast alone (last_boards boards xs) seat (last_need 0 xs) (last_history before xs) rest left
      last after
  pub ends : EndsBy last sent end
  pub unread : last ≡ no_buffers → xs ≡ []

-- the counts of faults of the source and the sink after a stream ended so
abbrev pub reads_failed : ℕ → Ended → ℕ
reads_failed count ended.ReadFault = risen count
reads_failed count ended.Clean = count
reads_failed count ended.Asked = count
reads_failed count (ended.Bad status) = count
reads_failed count ended.CutShort = count
reads_failed count ended.WriteFault = count
reads_failed count ended.Memory = count

abbrev pub writes_failed : ℕ → Ended → ℕ
writes_failed count ended.WriteFault = risen count
writes_failed count ended.Clean = count
writes_failed count ended.Asked = count
writes_failed count (ended.Bad status) = count
writes_failed count ended.CutShort = count
writes_failed count ended.ReadFault = count
writes_failed count ended.Memory = count
