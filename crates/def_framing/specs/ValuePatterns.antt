-- Which literals a value pattern accepts (JSON-LD 1.1 Framing, section 4: value pattern matching).
use Rattle.std.specs.Prelude.{List, ℕ, Bool, true, false, not, ◌&&◌, ◌||◌, Option, Some, None, is_some}
use Rattle.std.specs.List.{list_any}
use Rattle.lf_rdf.specs.declared.term.Term.{Term}
use Rattle.lf_rdf.specs.declared.term.Term.TheVariants.{Iri, Blank, Literal}
use Rattle.lf_rdf.specs.Vocabulary.{xsd_string}
use Rattle.lf_rdf.specs.Equality.{text_eq}
use Rattle.lf_model.specs.declared.scalar.Scalar.{Scalar}
use Rattle.lf_model.specs.declared.scalar.Scalar.TheVariants as scalar
use Rattle.lf_model.specs.declared.frame.PartTest.{PartTest}
use Rattle.lf_model.specs.declared.frame.PartTest.TheVariants as part
use Rattle.lf_model.specs.declared.frame.ValuePattern.{ValuePattern}

-- a scalar of a pattern is this text; numbers and truth values are no text
abbrev pub is_text : List ℕ → Scalar → Bool
is_text text (scalar.Text other) = text_eq text other
is_text text (scalar.Whole _) = false
is_text text (scalar.Bool _) = false

-- a pattern lists this text
abbrev pub lists : List Scalar → List ℕ → Bool
lists scalars text = list_any (is_text text) scalars

-- a pattern lists this text, where there is one
abbrev pub lists_some : List Scalar → Option (List ℕ) → Bool
lists_some scalars None = false
lists_some scalars (Some text) = lists scalars text

-- the part `@value`, by the literal's string
abbrev pub accepts_value : PartTest → List ℕ → Bool
accepts_value part.Absent lexical = true
accepts_value part.Any lexical = true
accepts_value part.Never lexical = false
accepts_value (part.OneOf scalars) lexical = lists scalars lexical

-- a literal has no datatype of its own: it is a plain string or has a language
abbrev pub is_plain : List ℕ → Option (List ℕ) → Bool
is_plain datatype language = text_eq datatype xsd_string || is_some language

-- the part `@type`, by the literal's datatype and language
abbrev pub accepts_datatype : PartTest → List ℕ → Option (List ℕ) → Bool
accepts_datatype part.Absent datatype language = is_plain datatype language
accepts_datatype part.Any datatype language = not (is_plain datatype language)
accepts_datatype part.Never datatype language = is_plain datatype language
accepts_datatype (part.OneOf scalars) datatype language =
    not (is_plain datatype language) && lists scalars datatype

-- the part `@language`, by the literal's language
abbrev pub accepts_language : PartTest → Option (List ℕ) → Bool
accepts_language part.Absent language = not (is_some language)
accepts_language part.Any language = is_some language
accepts_language part.Never language = not (is_some language)
accepts_language (part.OneOf scalars) language = lists_some scalars language

-- a value pattern accepts a term: a literal that each part accepts
abbrev pub accepts_literal : ValuePattern → Term → Bool
accepts_literal pattern (Literal lexical datatype language) =
    accepts_value pattern.value lexical
    && accepts_datatype pattern.datatype datatype language
    && accepts_language pattern.language language
accepts_literal pattern (Iri _) = false
accepts_literal pattern (Blank _) = false
