-- How a head is read from the front of a stream.
use Rattle.std.specs.Prelude.{◌^◌, ◌+◌, ◌-◌, ◌≡◌, ◌<◌, ◌≤◌, ◌⊎◌, List, [], ◌++◌, ℕ, length, drop, nat_eq, Option, Some, Result, Ok, Err, if◌then◌else◌}
use Rattle.std.specs.List.{starts_with}
use Rattle.httparse.specs.Grammar.{RequestHead, print_request, ReadsRequest, HasNoRequest, NeverHasRequest, MayBecomeRequest}
use Rattle.httparse.specs.Spans.{RequestOverflows, RequestExceeds}
use Rattle.lf_io.specs.Bytes.{HasEnded}
use Rattle.lf_io.specs.Faults.{risen}
use Rattle.lf_http.specs.declared.head.Head.{Head}
use Rattle.lf_http.specs.declared.head.HeadErr.{HeadErr}
use Rattle.lf_http.specs.declared.head.HeadErr.TheVariants.{ReadFault, CutShort, TooLarge, BadHead, LengthNeeded, BodyTooLong, Expectation}
use Rattle.lf_http.specs.Judge.{request_of, judged, frames_path}

-- the longest head in bytes, with the empty lines before it
abbrev pub longest_head : ℕ
longest_head = 16384

-- the most header lines of a head
abbrev pub most_lines : ℕ
most_lines = 64

-- the head is longer, or has more lines
abbrev pub IsBeyond : RequestHead → Type 0
IsBeyond h = (longest_head < length (print_request h)) ⊎ (most_lines < length h.fields)

-- the most bytes that are read at once
abbrev pub longest_piece : ℕ
longest_piece = 4096

-- the bytes hold no head, and may still become one: some bytes can follow that make one of them, or
-- they end in a target
abbrev pub IsOpen : List ℕ → Type 0
IsOpen bytes = HasNoRequest bytes × MayBecomeRequest bytes

-- Behind the bytes that were pending more were read, piece by piece, only where those before each
-- piece might still become a head.
abbrev pub ReadsOn : List ℕ → List ℕ → Type 0
ReadsOn pending bytes =
    (bytes ≡ pending)
    ⊎ ((more : List ℕ) × (last : List ℕ) × (bytes ≡ (pending ++ more) ++ last)
    × (length last ≤ longest_piece) × IsOpen (pending ++ more))

-- why no head within the limits stands before what is left, where these bytes came
abbrev pub LacksHead : List ℕ → Option (List ℕ) → HeadErr → Type 0
LacksHead bytes left ReadFault = IsOpen bytes
LacksHead bytes left CutShort =
    (bytes ≡ [] → ⊥) × IsOpen bytes × HasEnded left × (length bytes < longest_head)
LacksHead bytes left TooLarge =
    ((length bytes ≡ longest_head) × IsOpen bytes)
    ⊎ (RequestExceeds most_lines bytes × RequestOverflows most_lines bytes)
LacksHead bytes left BadHead = NeverHasRequest bytes
LacksHead bytes left LengthNeeded = ⊥
LacksHead bytes left BodyTooLong = ⊥
LacksHead bytes left Expectation = ⊥

-- the bytes begin with a head that is refused so
abbrev pub HasRefusedHead : List ℕ → HeadErr → Type 0
HasRefusedHead bytes e = (h : RequestHead) × (rest : List ℕ) × ReadsRequest bytes h rest
    × (judged (request_of h) ≡ Err e)

-- the cause of a refusal
abbrev pub IsRefused : List ℕ → Option (List ℕ) → HeadErr → Type 0
IsRefused bytes left e = LacksHead bytes left e ⊎ HasRefusedHead bytes e

-- what a target names: all of it behind `/frames/`
abbrev pub name_of : List ℕ → List ℕ
name_of target =
    if starts_with nat_eq target frames_path then drop (length frames_path) target else []

-- the count of a source's faults after a head was read with this answer: it rises exactly where a
-- read failed
abbrev pub count_after_head : {A : Type 0} → ℕ → Result A HeadErr → ℕ
count_after_head count (Ok _) = count
count_after_head count (Err ReadFault) = risen count
count_after_head count (Err CutShort) = count
count_after_head count (Err TooLarge) = count
count_after_head count (Err BadHead) = count
count_after_head count (Err LengthNeeded) = count
count_after_head count (Err BodyTooLong) = count
count_after_head count (Err Expectation) = count

-- a head that was read, or its refusal
abbrev pub as_read : Result Head HeadErr → Result (Option Head) HeadErr
as_read (Ok head) = Ok (Some head)
as_read (Err e) = Err e

-- how many bytes may still be used: those that are pending, and those that the source may still
-- give, 2^63 in all
abbrev pub to_come : ℕ → List ℕ → ℕ
to_come taken pending = (2 ^ 63 - taken) + length pending
