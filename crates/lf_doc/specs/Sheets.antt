-- A text under way, up to the limit of a document's bytes.
use Rattle.std.specs.Prelude.{List, [], ◌∷◌, ◌++◌, ℕ, ◌≤◌, Bool, Option, Some, None, nat_lt, length, if◌then◌else◌}
use Rattle.std.specs.Str.{IsUtf8}
use Rattle.lf_base.specs.Ascii as ch
use Rattle.lf_model.specs.declared.document.Doc.{Doc}
use Rattle.lf_model.specs.declared.document.Doc.TheVariants as doc
use Rattle.lf_model.specs.declared.document.Limit.TheVariants.{DocumentBytes}
use Rattle.def_documents.specs.Document.{most_bytes}

-- what is kept are characters within the limit
pub record IsKept (bytes : List ℕ) : Type 0 where
  pub utf8 : IsUtf8 bytes
  pub short : length bytes ≤ most_bytes

-- the text, or none where it is past the limit
abbrev pub within : List ℕ → Option (List ℕ)
within text = if nat_lt most_bytes (length text) then None else Some text

-- the text with these bytes behind it
abbrev pub appended : Option (List ℕ) → List ℕ → Option (List ℕ)
appended None added = None
appended (Some text) added = within (text ++ added)

-- the document of a text
abbrev pub doc_of : Option (List ℕ) → Doc
doc_of None = doc.Over DocumentBytes
doc_of (Some text) = doc.Bytes text

-- a comma, where a value stands before
abbrev pub comma_if : Bool → List ℕ
comma_if after = if after then ch.comma ∷ [] else []
