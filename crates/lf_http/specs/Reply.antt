-- The head of a reply, byte for byte (RFC 9112, sections 4 and 5).
use Rattle.std.specs.Prelude.{List, [], ◌∷◌, ◌++◌, ℕ, Bool, true, false, nat_eq, Option, Some, None, is_some, unwrap_or, codes, decimal, if◌then◌else◌}
use Rattle.lf_base.specs.Ascii as ch
use Rattle.lf_http.specs.declared.reply.Allow.{Allow}
use Rattle.lf_http.specs.declared.reply.Allow.TheVariants.{NoAllow, Get, Post, GetPutDelete}
use Rattle.lf_http.specs.declared.reply.ReplyHead.{ReplyHead}

-- the reason phrase of each status that is sent (RFC 9110, section 15)
unfoldable pub reason : ℕ → Option (List ℕ)
reason status =
    if nat_eq status 200 then Some (codes "OK")
    else if nat_eq status 201 then Some (codes "Created")
    else if nat_eq status 202 then Some (codes "Accepted")
    else if nat_eq status 400 then Some (codes "Bad Request")
    else if nat_eq status 404 then Some (codes "Not Found")
    else if nat_eq status 405 then Some (codes "Method Not Allowed")
    else if nat_eq status 411 then Some (codes "Length Required")
    else if nat_eq status 413 then Some (codes "Content Too Large")
    else if nat_eq status 415 then Some (codes "Unsupported Media Type")
    else if nat_eq status 417 then Some (codes "Expectation Failed")
    else if nat_eq status 422 then Some (codes "Unprocessable Content")
    else if nat_eq status 431 then Some (codes "Request Header Fields Too Large")
    else if nat_eq status 503 then Some (codes "Service Unavailable")
    else if nat_eq status 507 then Some (codes "Insufficient Storage")
    else None

-- the status is one that is sent
abbrev pub is_named : ℕ → Bool
is_named status = is_some (reason status)

-- the line end
unfoldable pub crlf : List ℕ
crlf = ch.carriage_return ∷ ch.line_feed ∷ []

-- the status line (RFC 9112, section 4)
unfoldable pub status_text : ℕ → List ℕ
status_text status =
    codes "HTTP/1.1 " ++ decimal status ++ ch.space ∷ unwrap_or (reason status) [] ++ crlf

-- `Content-Type` (RFC 9110, section 8.3): a document is JSON-LD, all else is JSON
unfoldable pub media_text : Bool → List ℕ
media_text true = codes "Content-Type: application/ld+json" ++ crlf
media_text false = codes "Content-Type: application/json" ++ crlf

-- `Allow` (RFC 9110, section 10.2.1)
unfoldable pub allow_text : Allow → List ℕ
allow_text NoAllow = []
allow_text Get = codes "Allow: GET" ++ crlf
allow_text Post = codes "Allow: POST" ++ crlf
allow_text GetPutDelete = codes "Allow: GET, PUT, DELETE" ++ crlf

-- `Ld-Version`, the version that the body speaks of
unfoldable pub version_line : ℕ → List ℕ
version_line version = codes "Ld-Version: " ++ decimal version ++ crlf

abbrev pub version_text : Option ℕ → List ℕ
version_text None = []
version_text (Some version) = version_line version

-- `Connection` where the stream ends (RFC 9112, section 9.6)
unfoldable pub close_text : Bool → List ℕ
close_text true = codes "Connection: close" ++ crlf
close_text false = []

-- `Content-Length` (RFC 9110, section 8.6)
unfoldable pub length_text : ℕ → List ℕ
length_text n = codes "Content-Length: " ++ decimal n ++ crlf

-- the whole head with its empty line
abbrev pub reply_text : ReplyHead → List ℕ
reply_text r =
    status_text r.status ++ media_text r.ld_json ++ allow_text r.allow ++ version_text r.version
    ++ close_text r.close ++ length_text r.length ++ crlf
