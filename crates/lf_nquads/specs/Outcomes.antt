-- A line read from left to right, with what is wrong where the reading stops. Where it gives
-- something it gives what `def_patch_texts` reads (its `Reading`).
use Rattle.std.specs.Prelude.{ℕ, zero, suc, List, [], ◌∷◌, length, Option, Some, None, Result, Ok, Err, if◌then◌else◌, encode_utf8_all}
use Rattle.lf_base.specs.Ascii as ch
use Rattle.lf_rdf.specs.declared.term.Term.{Term}
use Rattle.lf_rdf.specs.declared.term.Term.TheVariants.{Iri, Blank, Literal}
use Rattle.lf_rdf.specs.declared.quad.Quad.{Quad}
use Rattle.lf_rdf.specs.declared.quad.Signed.{Signed}
use Rattle.lf_rdf.specs.Vocabulary.{xsd_string, rdf_lang_string}
use Rattle.def_patch_texts.specs.declared.kind.LineKind.{LineKind}
use Rattle.def_patch_texts.specs.declared.kind.LineKind.TheVariants.{Syntax, RelativeIri, BadEscape}
use Rattle.def_patch_texts.specs.Terminals.{Allowed}
use Rattle.def_patch_texts.specs.Reading.{starts, after_char, skip, iri_part_at, blank_at, tag_at, string_part_at, is_comment, quad_of, sign_at}

infixl 10 ◌>>=◌
abbrev pub ◌>>=◌ : {A B : Type 0} → Result A LineKind → (A → Result B LineKind) → Result B LineKind
(Ok x) >>= f = f x
(Err kind) >>= f = Err kind

-- what must stand here
abbrev pub expected : {A : Type 0} → Option A → Result A LineKind
expected None = Err Syntax
expected (Some x) = Ok x

-- a part of an IRI or a string at the front of this text: behind a backslash only an escape may
-- stand
abbrev pub part_of : {A : Type 0} → List ℕ → Option A → Result A LineKind
part_of text None = Err (if starts ch.backslash text then BadEscape else Syntax)
part_of text (Some x) = Ok x

-- ---- IRIs and strings

-- one character before others that were read
abbrev pub with_char : ℕ → Result (List ℕ × List ℕ) LineKind → Result (List ℕ × List ℕ) LineKind
with_char c (Ok read) = Ok (c ∷ read.0, read.1)
with_char c (Err kind) = Err kind

-- The characters of parts before this closing character, which are at most so many.
unfoldable pub parts_of :
    ℕ → (List ℕ → Result (ℕ × List ℕ) LineKind) → ℕ → List ℕ → Result (List ℕ × List ℕ) LineKind
parts_of close part zero text = Err Syntax
parts_of close part (suc room) text =
    if starts close text then Ok ([], text)
    else (part text >>= λ first. with_char first.0 (parts_of close part room first.1))

-- those of the whole text
abbrev pub all_parts_of :
    ℕ → (List ℕ → Result (ℕ × List ℕ) LineKind) → List ℕ → Result (List ℕ × List ℕ) LineKind
all_parts_of close part text = parts_of close part (suc (length text)) text

abbrev pub iri_part_of : Allowed → List ℕ → Result (ℕ × List ℕ) LineKind
iri_part_of allowed text = part_of text (iri_part_at allowed text)

abbrev pub string_part_of : Allowed → List ℕ → Result (ℕ × List ℕ) LineKind
string_part_of allowed text = part_of text (string_part_at allowed text)

unfoldable pub iri_of : Allowed → List ℕ → Result (List ℕ × List ℕ) LineKind
iri_of allowed text = do
  inside ← expected (after_char ch.less text)
  parts ← all_parts_of ch.greater (iri_part_of allowed) inside
  rest ← expected (after_char ch.greater parts.1)
  if allowed.iri parts.0 rest then Ok (encode_utf8_all parts.0, rest) else Err RelativeIri

unfoldable pub string_of : Allowed → List ℕ → Result (List ℕ × List ℕ) LineKind
string_of allowed text = do
  inside ← expected (after_char ch.quote text)
  parts ← all_parts_of ch.quote (string_part_of allowed) inside
  rest ← expected (after_char ch.quote parts.1)
  Ok (encode_utf8_all parts.0, rest)

-- ---- terms

-- an IRI or a blank node
unfoldable pub node_of : Allowed → List ℕ → Result (Term × List ℕ) LineKind
node_of allowed text =
    if starts ch.less text then (iri_of allowed text >>= λ iri. Ok (Iri iri.0, iri.1))
    else (expected (blank_at text) >>= λ label. Ok (Blank label.0, label.1))

-- the datatype behind `^^`
unfoldable pub typed_of : Allowed → List ℕ → Result (List ℕ × List ℕ) LineKind
typed_of allowed text = do
  caret ← expected (after_char ch.caret text)
  iri ← expected (after_char ch.caret caret)
  iri_of allowed (skip iri)

-- a literal with this string, behind which this text stands
unfoldable pub suffix_of : Allowed → List ℕ → List ℕ → Result (Term × List ℕ) LineKind
suffix_of allowed value text =
    if starts ch.caret (skip text)
    then (typed_of allowed (skip text) >>= λ datatype.
    Ok (Literal value datatype.0 None, datatype.1))
    else if starts ch.at_sign (skip text) then (expected (tag_at (skip text)) >>= λ tag.
    Ok (Literal value rdf_lang_string (Some tag.0), tag.1))
    else Ok (Literal value xsd_string None, text)

abbrev pub literal_of : Allowed → List ℕ → Result (Term × List ℕ) LineKind
literal_of allowed text = string_of allowed text >>= λ value. suffix_of allowed value.0 value.1

unfoldable pub object_of : Allowed → List ℕ → Result (Term × List ℕ) LineKind
object_of allowed text =
    if starts ch.quote text then literal_of allowed text else node_of allowed text

-- ---- lines

-- a graph label and the dot
unfoldable pub named_of : Allowed → List ℕ → Result (Option Term × List ℕ) LineKind
named_of allowed text = do
  name ← node_of allowed text
  rest ← expected (after_char ch.dot (skip name.1))
  Ok (Some name.0, rest)

-- the graph label, where there is one, and the dot
unfoldable pub graph_of : Allowed → List ℕ → Result (Option Term × List ℕ) LineKind
graph_of allowed text =
    if starts ch.dot (skip text)
    then (expected (after_char ch.dot (skip text)) >>= λ rest. Ok (None, rest))
    else named_of allowed (skip text)

unfoldable pub statement_of : Allowed → List ℕ → Result Quad LineKind
statement_of allowed text = do
  subject ← node_of allowed (skip text)
  predicate ← iri_of allowed (skip subject.1)
  object ← object_of allowed (skip predicate.1)
  graph ← graph_of allowed object.1
  if is_comment (skip graph.1) then Ok (quad_of subject.0 predicate.0 object.0 graph.0)
      else Err Syntax

unfoldable pub signed_of : Allowed → List ℕ → Result (Option Signed) LineKind
signed_of allowed text = do
  sign ← expected (sign_at text)
  quad ← statement_of allowed sign.1
  Ok (Some (record { add = sign.0; quad = quad }))

-- what a line states
unfoldable pub line_of : Allowed → List ℕ → Result (Option Signed) LineKind
line_of allowed text = if is_comment (skip text) then Ok None else signed_of allowed text
