-- A line read from left to right. It computes what the grammar relates to the characters of the
-- line.
use Rattle.std.specs.Prelude.{ℕ, zero, suc, nat_eq, Bool, true, false, ◌&&◌, if◌then◌else◌, List, [], ◌∷◌, length, take, drop, Option, Some, None, encode_utf8_all}
use Rattle.std.specs.Str.{all_scalars}
use Rattle.std.specs.List.{prefix_len, list_all}
use Rattle.lf_base.specs.Ascii as ch
use Rattle.lf_rdf.specs.declared.term.Term.{Term}
use Rattle.lf_rdf.specs.declared.term.Term.TheVariants.{Iri, Blank, Literal}
use Rattle.lf_rdf.specs.declared.quad.Quad.{Quad}
use Rattle.lf_rdf.specs.declared.quad.Signed.{Signed}
use Rattle.lf_rdf.specs.Vocabulary.{xsd_string, rdf_lang_string}
use Rattle.def_patch_texts.specs.Characters.{is_blank, is_iri_char, is_label, is_tag, lower, is_string_char, short_escape, is_hex_digit, hex_number}
use Rattle.def_patch_texts.specs.Terminals.{Allowed}

infixl 10 ◌>>=◌
abbrev pub ◌>>=◌ : {A B : Type 0} → Option A → (A → Option B) → Option B
None >>= f = None
(Some x) >>= f = f x

-- whether the text begins with this character
abbrev pub starts : ℕ → List ℕ → Bool
starts c [] = false
starts c (first ∷ rest) = nat_eq first c

-- what follows this character
unfoldable pub after_char : ℕ → List ℕ → Option (List ℕ)
after_char c [] = None
after_char c (first ∷ rest) = if nat_eq first c then Some rest else None

-- what follows spaces and tabs
unfoldable pub skip : List ℕ → List ℕ
skip text = drop (prefix_len is_blank text) text

-- ---- escapes

-- the character that this many hexadecimal digits name
unfoldable pub numbered_at : ℕ → List ℕ → Option (ℕ × List ℕ)
numbered_at count text =
    let digits = take count text in
    let c = hex_number 0 digits in
    if nat_eq (length digits) count && list_all is_hex_digit digits && all_scalars (c ∷ [])
    then Some (c, drop count text)
    else None

-- the character of `u` with 4 digits or `U` with 8
unfoldable pub unicode_at : List ℕ → Option (ℕ × List ℕ)
unicode_at [] = None
unicode_at (letter ∷ rest) =
    if nat_eq letter ch.letter_u then numbered_at 4 rest else if nat_eq letter ch.capital_u
    then numbered_at 8 rest else None

-- ---- IRIs

unfoldable pub iri_part_at : Allowed → List ℕ → Option (ℕ × List ℕ)
iri_part_at allowed [] = None
iri_part_at allowed (c ∷ rest) =
    if nat_eq c ch.backslash
    then (unicode_at rest >>= λ named.
    if is_iri_char named.0 && allowed.escape (c ∷ rest) named.1 then Some named else None)
    else if is_iri_char c then Some (c, rest)
    else None

-- the characters before `>`, which are at most so many
unfoldable pub iri_parts_at : ℕ → Allowed → List ℕ → Option (List ℕ × List ℕ)
iri_parts_at zero allowed text = None
iri_parts_at (suc room) allowed text =
    if starts ch.greater text then Some ([], text)
    else (iri_part_at allowed text >>= λ part.
    iri_parts_at room allowed part.1 >>= λ others. Some (part.0 ∷ others.0, others.1))

unfoldable pub iri_at : Allowed → List ℕ → Option (List ℕ × List ℕ)
iri_at allowed text = do
  inside ← after_char ch.less text
  parts ← iri_parts_at (suc (length inside)) allowed inside
  rest ← after_char ch.greater parts.1
  if allowed.iri parts.0 rest then Some (encode_utf8_all parts.0, rest) else None

-- ---- labels and tags

-- the length of the longest front, up to this length, that passes a test, or zero
unfoldable pub longest_front : (List ℕ → Bool) → ℕ → List ℕ → ℕ
longest_front test zero text = 0
longest_front test (suc n) text =
    if test (take (suc n) text) then suc n else longest_front test n text

-- the longest front that passes a test
unfoldable pub front_at : (List ℕ → Bool) → List ℕ → Option (List ℕ × List ℕ)
front_at test text =
    let len = longest_front test (length text) text in
    if nat_eq len 0 then None else Some (take len text, drop len text)

unfoldable pub blank_at : List ℕ → Option (List ℕ × List ℕ)
blank_at text = do
  colon ← after_char ch.underscore text
  label ← after_char ch.colon colon
  front ← front_at is_label label
  Some (encode_utf8_all front.0, front.1)

unfoldable pub tag_at : List ℕ → Option (List ℕ × List ℕ)
tag_at text = do
  tag ← after_char ch.at_sign text
  front ← front_at is_tag tag
  Some (lower front.0, front.1)

-- ---- strings

-- what the backslash and this letter stand for, or the escape by a number behind the backslash
abbrev pub escape_at : Allowed → List ℕ → List ℕ → List ℕ → Option ℕ → Option (ℕ × List ℕ)
escape_at allowed text behind rest (Some named) =
    if allowed.escape text rest then Some (named, rest) else None
escape_at allowed text behind rest None =
    unicode_at behind >>= λ named. if allowed.escape text named.1 then Some named else None

-- what stands behind a backslash
unfoldable pub string_escape_at : Allowed → List ℕ → List ℕ → Option (ℕ × List ℕ)
string_escape_at allowed text [] = None
string_escape_at allowed text (letter ∷ rest) =
    escape_at allowed text (letter ∷ rest) rest (short_escape letter)

unfoldable pub string_part_at : Allowed → List ℕ → Option (ℕ × List ℕ)
string_part_at allowed [] = None
string_part_at allowed (c ∷ rest) =
    if nat_eq c ch.backslash then string_escape_at allowed (c ∷ rest) rest else if is_string_char c
    then Some (c, rest) else None

-- the characters before `"`, which are at most so many
unfoldable pub string_parts_at : ℕ → Allowed → List ℕ → Option (List ℕ × List ℕ)
string_parts_at zero allowed text = None
string_parts_at (suc room) allowed text =
    if starts ch.quote text then Some ([], text)
    else (string_part_at allowed text >>= λ part.
    string_parts_at room allowed part.1 >>= λ others. Some (part.0 ∷ others.0, others.1))

unfoldable pub string_at : Allowed → List ℕ → Option (List ℕ × List ℕ)
string_at allowed text = do
  inside ← after_char ch.quote text
  parts ← string_parts_at (suc (length inside)) allowed inside
  rest ← after_char ch.quote parts.1
  Some (encode_utf8_all parts.0, rest)

-- ---- terms

-- an IRI or a blank node
unfoldable pub node_at : Allowed → List ℕ → Option (Term × List ℕ)
node_at allowed text =
    if starts ch.less text then (iri_at allowed text >>= λ iri. Some (Iri iri.0, iri.1))
    else (blank_at text >>= λ label. Some (Blank label.0, label.1))

-- the datatype behind `^^`
unfoldable pub typed_at : Allowed → List ℕ → Option (List ℕ × List ℕ)
typed_at allowed text = do
  caret ← after_char ch.caret text
  iri ← after_char ch.caret caret
  iri_at allowed (skip iri)

-- a literal with this string, behind which this text stands
unfoldable pub suffix_at : Allowed → List ℕ → List ℕ → Option (Term × List ℕ)
suffix_at allowed value text =
    if starts ch.caret (skip text)
    then (typed_at allowed (skip text) >>= λ datatype.
    Some (Literal value datatype.0 None, datatype.1))
    else if starts ch.at_sign (skip text) then
    (tag_at (skip text) >>= λ tag. Some (Literal value rdf_lang_string (Some tag.0), tag.1))
    else Some (Literal value xsd_string None, text)

unfoldable pub object_at : Allowed → List ℕ → Option (Term × List ℕ)
object_at allowed text =
    if starts ch.quote text
    then (string_at allowed text >>= λ value. suffix_at allowed value.0 value.1)
    else node_at allowed text

-- ---- lines

-- a graph label and the dot
unfoldable pub named_at : Allowed → List ℕ → Option (Option Term × List ℕ)
named_at allowed text = do
  name ← node_at allowed text
  rest ← after_char ch.dot (skip name.1)
  Some (Some name.0, rest)

-- the graph label, where there is one, and the dot
unfoldable pub graph_at : Allowed → List ℕ → Option (Option Term × List ℕ)
graph_at allowed text =
    if starts ch.dot (skip text) then (after_char ch.dot (skip text) >>= λ rest. Some (None, rest))
    else named_at allowed (skip text)

-- nothing, or a comment
abbrev pub is_comment : List ℕ → Bool
is_comment [] = true
is_comment (c ∷ rest) = nat_eq c ch.hash

abbrev pub quad_of : Term → List ℕ → Term → Option Term → Quad
quad_of subject predicate object graph =
    record { subject = subject; predicate = Iri predicate; object = object; graph = graph }

unfoldable pub statement_at : Allowed → List ℕ → Option Quad
statement_at allowed text = do
  subject ← node_at allowed (skip text)
  predicate ← iri_at allowed (skip subject.1)
  object ← object_at allowed (skip predicate.1)
  graph ← graph_at allowed object.1
  if is_comment (skip graph.1) then Some (quad_of subject.0 predicate.0 object.0 graph.0) else None

-- the sign of a line and the statement behind it
unfoldable pub sign_at : List ℕ → Option (Bool × List ℕ)
sign_at text =
    if starts ch.plus text
    then (after_char ch.plus text >>= λ space.
    after_char ch.space space >>= λ rest. Some (true, rest))
    else if starts ch.hyphen text then (after_char ch.hyphen text >>= λ space.
    after_char ch.space space >>= λ rest. Some (false, rest))
    else Some (true, text)

unfoldable pub signed_at : Allowed → List ℕ → Option (Option Signed)
signed_at allowed text = do
  sign ← sign_at text
  quad ← statement_at allowed sign.1
  Some (Some (record { add = sign.0; quad = quad }))

-- what a line states
unfoldable pub line_at : Allowed → List ℕ → Option (Option Signed)
line_at allowed text = if is_comment (skip text) then Some None else signed_at allowed text
