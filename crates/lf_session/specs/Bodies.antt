-- The bodies of replies other than documents: JSON texts in compact form (RFC 8259).
use Rattle.std.specs.Prelude.{List, ℕ, ◌++◌, Option, Some, None, codes, decimal}
use Rattle.def_printed.specs.JsonText.{json_string}
use Rattle.def_patch_texts.specs.declared.kind.LineKind.{LineKind}
use Rattle.lf_model.specs.declared.desk.Counted.{Counted}
use Rattle.lf_model.specs.declared.document.Limit.{Limit}
use Rattle.lf_names.specs.Names.{kind_name, counted_name, limit_name, limit_number}

-- how many bytes a frame's name, or an error in words, has at most in a body
abbrev pub text_room : ℕ
text_room = 64

-- an error without more; its text needs no escape
unfoldable pub error_body : List ℕ → List ℕ
error_body text = codes "{\"error\":\"" ++ text ++ codes "\"}"

-- a frame's name, which needs no escape
unfoldable pub frame_body : List ℕ → List ℕ
frame_body name = codes "{\"frame\":\"" ++ name ++ codes "\"}"

unfoldable pub version_body : ℕ → List ℕ
version_body version = codes "{\"version\":" ++ decimal version ++ codes "}"

abbrev pub number_or_null : Option ℕ → List ℕ
number_or_null None = codes "null"
number_or_null (Some number) = decimal number

-- what is published and what is needed
unfoldable pub pending_body : Option ℕ → ℕ → List ℕ
pending_body have need =
    codes "{\"have\":" ++ number_or_null have ++ codes ",\"need\":" ++ decimal need ++ codes "}"

unfoldable pub frame_too_long_body : ℕ → List ℕ
frame_too_long_body size =
    codes "{\"error\":\"frame too long\",\"length\":" ++ decimal size ++ codes "}"

-- the first bad line of a patch text, by its number
unfoldable pub bad_line_body : LineKind → ℕ → List ℕ
bad_line_body kind line =
    codes "{\"error\":\"" ++ kind_name kind ++ codes "\",\"line\":" ++ decimal line ++ codes "}"

-- something would be more than may be
unfoldable pub too_many_body : List ℕ → ℕ → ℕ → List ℕ
too_many_body what have would =
    codes "{\"error\":\"too many " ++ what ++ codes "\",\"have\":" ++ decimal have
    ++ codes ",\"would\":" ++ decimal would ++ codes "}"

unfoldable pub history_full_body : Counted → ℕ → ℕ → List ℕ
history_full_body of have most =
    codes "{\"error\":\"history full\",\"have\":" ++ decimal have ++ codes ",\"limit\":"
    ++ decimal most ++ codes ",\"of\":\""
    ++ counted_name of ++ codes "\"}"

-- a path is any text, and is escaped
unfoldable pub fractional_body : List ℕ → List ℕ
fractional_body path =
    codes "{\"error\":\"fractional number\",\"path\":" ++ json_string path ++ codes "}"

unfoldable pub limit_body : Limit → List ℕ
limit_body limit =
    codes "{\"error\":\"document limit\",\"limit\":\"" ++ limit_name limit ++ codes "\",\"number\":"
    ++ decimal (limit_number limit) ++ codes "}"

-- ---- turns: the names of frames need no escape

unfoldable pub idle_body : List ℕ
idle_body = codes "{\"turn\":\"idle\"}"

-- the frame's document of a version was published
unfoldable pub published_body : List ℕ → ℕ → List ℕ
published_body name version =
    codes "{\"frame\":\"" ++ name ++ codes "\",\"turn\":\"published\",\"version\":"
    ++ decimal version ++ codes "}"

-- the frame's board is at home again
unfoldable pub home_body : List ℕ → List ℕ
home_body name = codes "{\"frame\":\"" ++ name ++ codes "\",\"turn\":\"home\"}"

-- the board's text had a number, and another one is live under the name now, or none
unfoldable pub superseded_body : List ℕ → ℕ → Option ℕ → List ℕ
superseded_body name was now =
    codes "{\"frame\":\"" ++ name ++ codes "\",\"now\":" ++ number_or_null now ++ codes ",\"then\":"
    ++ decimal was
    ++ codes ",\"turn\":\"superseded\"}"
