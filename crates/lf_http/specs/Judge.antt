-- What a request head says, or why it is refused (RFC 9110, RFC 9112).
use Rattle.std.specs.Prelude.{List, [], ◌∷◌, ℕ, nat_eq, nat_lt, Bool, true, false, ◌&&◌, ◌||◌, not, Option, None, Result, Ok, Err, map, length, if◌then◌else◌, codes, unwrap_or, is_none}
use Rattle.std.specs.List.{list_all, list_any, starts_with}
use Rattle.std.specs.Cmp.Lexicographic.{pointwise}
use Rattle.httparse.specs.Grammar.{RequestHead}
use Rattle.httparse.specs.Spans.{name_and_value, span_bytes, header_bytes}
use Rattle.httparse.specs.declared.spans.HeaderSpan.{HeaderSpan}
use Rattle.httparse.specs.declared.spans.RequestSpans.{RequestSpans}
use Rattle.lf_http.specs.Fields.{values, number, is_number, greatest, has_word}
use Rattle.lf_http.specs.declared.head.Method.{Method}
use Rattle.lf_http.specs.declared.head.Method.TheVariants as method
use Rattle.lf_http.specs.declared.head.Target.{Target}
use Rattle.lf_http.specs.declared.head.Target.TheVariants as target
use Rattle.lf_http.specs.declared.head.Head.{Head}
use Rattle.lf_http.specs.declared.head.HeadErr.{HeadErr}
use Rattle.lf_http.specs.declared.head.HeadErr.TheVariants as refusal

abbrev pub is_text : List ℕ → List ℕ → Bool
is_text = pointwise nat_eq

-- the front of a target that names a frame
abbrev pub frames_path : List ℕ
frames_path = codes "/frames/"

-- the method, which is compared with case (RFC 9110, section 9.1)
unfoldable pub method_of : List ℕ → Method
method_of name =
    if is_text name (codes "GET") then method.Get
    else if is_text name (codes "PUT") then method.Put
    else if is_text name (codes "DELETE") then method.Delete
    else if is_text name (codes "POST") then method.Post
    else if is_text name (codes "HEAD") then method.HeadOnly
    else method.OtherMethod

-- the target, byte for byte
unfoldable pub target_of : List ℕ → Target
target_of path =
    if starts_with nat_eq path frames_path then target.FrameAt
    else if is_text path (codes "/patch") then target.PatchAt
    else if is_text path (codes "/version") then target.VersionAt
    else if is_text path (codes "/turn") then target.TurnAt
    else target.NoTarget

-- the parts of a head that are read
pub record Request : Type 0 where
  pub method : List ℕ
  pub target : List ℕ
  pub minor : ℕ
  pub lines : List (List ℕ × List ℕ)

abbrev pub request_of : RequestHead → Request
request_of h =
    record {
      method = h.method;
      target = h.target;
      minor = h.minor;
      lines = map name_and_value h.fields;
    }

-- the same parts, where spans of a buffer cover them
abbrev pub request_at : List ℕ → RequestSpans → List HeaderSpan → Request
request_at buf spans lines =
    record {
      method = span_bytes buf spans.method;
      target = span_bytes buf spans.path;
      minor = spans.version;
      lines = map (header_bytes buf) lines;
    }

-- the values of the lines of this name
abbrev pub line_values : Request → List ℕ → List (List ℕ)
line_values request name = values name request.lines

-- an HTTP/1.1 head without exactly one `Host` line (RFC 9112, section 3.2), more than one
-- `Content-Length` line, or one whose value isn't 1 to 18 decimal digits
abbrev pub is_bad : Request → Bool
is_bad request =
    (nat_eq request.minor 1 && not (nat_eq (length (line_values request (codes "host"))) 1))
    || nat_lt 1 (length (line_values request (codes "content-length")))
    || not (list_all is_number (line_values request (codes "content-length")))

-- the first number of some values
abbrev pub first_number : List (List ℕ) → Option ℕ
first_number [] = None
first_number (value ∷ more) = number value

-- the length of the body, where it is told
abbrev pub told_length : Request → Option ℕ
told_length request = first_number (line_values request (codes "content-length"))

-- a method that has a body here: PUT, and POST of a patch
abbrev pub has_body : Method → Target → Bool
has_body method.Put _ = true
has_body method.Post target.PatchAt = true
has_body method.Post target.FrameAt = false
has_body method.Post target.VersionAt = false
has_body method.Post target.TurnAt = false
has_body method.Post target.NoTarget = false
has_body method.Get _ = false
has_body method.Delete _ = false
has_body method.HeadOnly _ = false
has_body method.OtherMethod _ = false

-- there is a line of this name
abbrev pub has_line : Request → List ℕ → Bool
has_line request name = nat_lt 0 (length (line_values request name))

-- a `Transfer-Encoding` line, or no length where one is needed
abbrev pub needs_length : Request → Bool
needs_length request =
    has_line request (codes "transfer-encoding")
    || (is_none (told_length request)
    && has_body (method_of request.method) (target_of request.target))

-- what an accepted head says
abbrev pub head_of : Request → Head
head_of request =
    record {
      method = method_of request.method;
      target = target_of request.target;
      length = unwrap_or (told_length request) 0;
      expects = false;
      plain = list_all (λ value. is_text value (codes "identity"))
          (line_values request (codes "content-encoding"));
      close = nat_eq request.minor 0
          || list_any (has_word (codes "close")) (line_values request (codes "connection"));
      seen = greatest (line_values request (codes "ld-seen"));
      bad_seen = not (list_all is_number (line_values request (codes "ld-seen")));
      now = list_any (λ value. is_text value (codes "now"))
          (line_values request (codes "ld-refresh"));
      bad_refresh = not (list_all (λ value. is_text value (codes "now"))
          (line_values request (codes "ld-refresh")));
    }

-- the longest body in bytes
abbrev pub longest_body : ℕ
longest_body = 67108864

-- The head, or the first refusal that applies. No expectation is met.
abbrev pub judged : Request → Result Head HeadErr
judged request =
    if is_bad request then Err refusal.BadHead
    else if needs_length request then Err refusal.LengthNeeded
    else if nat_lt longest_body (unwrap_or (told_length request) 0) then Err refusal.BodyTooLong
    else if has_line request (codes "expect") then Err refusal.Expectation
    else Ok (head_of request)
