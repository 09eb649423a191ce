-- A stream of messages is read in one way (RFC 9112, section 2.1).
use Rattle.std.specs.Prelude.{◌≡◌, ◌≤◌, List, [], ◌∷◌, ◌++◌, ℕ, length, unwrap_or}
use Rattle.httparse.specs.Grammar.{RequestHead, ReadsRequest}
use Rattle.lf_http.specs.Judge.{request_of, told_length}

-- two readings of one byte stream are one: its first head, and what stands behind it
abbrev pub ReadingsAreOne : Type 0
ReadingsAreOne =
    (bytes : List ℕ) (first second : RequestHead) (rest more : List ℕ)
    → ReadsRequest bytes first rest → ReadsRequest bytes second more →
    (first ≡ second) × (rest ≡ more)

-- a head and the bytes of its body
pub record Message : Type 0 where
  pub head : RequestHead
  pub body : List ℕ

-- the bytes begin with the message, whose body is as long as its head tells
abbrev pub ReadsMessage : List ℕ → Message → List ℕ → Type 0
ReadsMessage bytes m rest =
    ReadsRequest bytes m.head (m.body ++ rest)
    × (length m.body ≡ unwrap_or (told_length (request_of m.head)) 0)

-- the bytes begin with these messages, one behind another
abbrev pub ReadsMessages : List ℕ → List Message → List ℕ → Type 0
ReadsMessages bytes [] rest = bytes ≡ rest
ReadsMessages bytes (m ∷ ms) rest =
    (behind : List ℕ) × ReadsMessage bytes m behind × ReadsMessages behind ms rest

-- Of two readings of one byte stream the longer goes on where the other stops: no byte is of a head
-- in one and of a body in the other.
abbrev pub StreamsAreOne : Type 0
StreamsAreOne =
    (bytes : List ℕ) (ms ns : List Message) (rest more : List ℕ)
    → ReadsMessages bytes ms rest → ReadsMessages bytes ns more → length ms ≤ length ns
    → (behind : List Message) × (ns ≡ ms ++ behind) × ReadsMessages rest behind more
