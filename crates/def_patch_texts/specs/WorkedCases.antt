-- Worked cases of lines, read from left to right.
use Rattle.std.specs.Prelude.{◌≡◌, ℕ, true, false, List, [], ◌∷◌, ◌++◌, Option, Some, None, codes, refl}
use Rattle.std.specs.Char.{encode_utf8}
use Rattle.lf_rdf.specs.declared.term.Term.TheVariants.{Iri, Blank, Literal}
use Rattle.lf_rdf.specs.declared.quad.Quad.{Quad}
use Rattle.lf_rdf.specs.declared.quad.Signed.{Signed}
use Rattle.lf_rdf.specs.Vocabulary.{xsd_string, rdf_lang_string}
use Rattle.lf_rdf.specs.Canonical.{line}
use Rattle.def_patch_texts.specs.PatchText.{absolute_iris, lines_of}
use Rattle.def_patch_texts.specs.BadLine.{any_iris}
use Rattle.def_patch_texts.specs.Reading.{after_char, skip, numbered_at, unicode_at, iri_part_at, iri_parts_at, iri_at, longest_front, front_at, blank_at, tag_at, string_escape_at, string_part_at, string_parts_at, string_at, node_at, typed_at, suffix_at, object_at, named_at, graph_at, statement_at, sign_at, signed_at, line_at}

-- a proof that unfolds this computes what a line states
unfoldable pub reading_open : Unit {0}
unfolding rdf_lang_string encode_utf8 after_char skip numbered_at unicode_at iri_part_at
    iri_parts_at iri_at longest_front front_at blank_at tag_at string_escape_at string_part_at
    string_parts_at string_at node_at typed_at suffix_at object_at named_at graph_at statement_at
    sign_at signed_at line_at
reading_open = tt

-- ---- what the texts add and delete

abbrev pub adds : Quad → Option (Option Signed)
adds quad = Some (Some (record { add = true; quad = quad }))

abbrev pub deletes : Quad → Option (Option Signed)
deletes quad = Some (Some (record { add = false; quad = quad }))

-- ---- terms close together, escapes, a tag in mixed case, and a comment

abbrev pub close_terms : List ℕ
close_terms = codes "<http://e/a><http://e/p>\"\\u0041\\n\"@EN-us.# c"

abbrev pub close_quad : Quad
close_quad = record {
  subject = Iri (codes "http://e/a");
  predicate = Iri (codes "http://e/p");
  object = Literal (codes "A\n") rdf_lang_string (Some (codes "en-us"));
  graph = None;
}

pub close_terms_read : line_at absolute_iris close_terms ≡ adds close_quad
unfolding reading_open
close_terms_read = refl

pub close_terms_canonical : line close_quad ≡ codes "<http://e/a> <http://e/p> \"A\\n\"@en-us ."
close_terms_canonical = refl

-- ---- a sign, and labels with and before a dot

abbrev pub labelled_quad : Quad
labelled_quad = record {
  subject = Blank (codes "a.b");
  predicate = Iri (codes "http://e/p");
  object = Blank (codes "c");
  graph = None;
}

pub labels_read : line_at absolute_iris (codes "- _:a.b <http://e/p> _:c.") ≡ deletes labelled_quad
unfolding reading_open
labels_read = refl

-- a sign needs its space
pub sign_without_space : line_at absolute_iris (codes "-_:a.b <http://e/p> _:c.") ≡ None
unfolding reading_open
sign_without_space = refl

-- ---- a graph label

abbrev pub named_quad : Quad
named_quad = record {
  subject = Iri (codes "http://e/a");
  predicate = Iri (codes "http://e/p");
  object = Literal (codes "x") (codes "http://e/d") None;
  graph = Some (Iri (codes "http://e/g"));
}

pub graph_read :
    line_at absolute_iris (codes "<http://e/a> <http://e/p> \"x\"^^<http://e/d> <http://e/g> .")
    ≡ adds named_quad
unfolding reading_open
graph_read = refl

pub graph_canonical :
    line named_quad ≡ codes "<http://e/a> <http://e/p> \"x\"^^<http://e/d> <http://e/g> ."
unfolding xsd_string
graph_canonical = refl

-- ---- skipped lines

pub comment_skipped : line_at absolute_iris (codes " \t# <p>") ≡ Some None
unfolding reading_open
comment_skipped = refl

pub nothing_skipped : line_at absolute_iris [] ≡ Some None
unfolding reading_open
nothing_skipped = refl

-- ---- bad lines

-- a relative IRI, which only the grammar that allows it reads
pub relative_refused : line_at absolute_iris (codes "<http://e/a> <p> \"x\" .") ≡ None
unfolding reading_open
relative_refused = refl

abbrev pub relative_quad : Quad
relative_quad = record {
  subject = Iri (codes "http://e/a");
  predicate = Iri (codes "p");
  object = Literal (codes "x") xsd_string None;
  graph = None;
}

pub relative_allowed : line_at any_iris (codes "<http://e/a> <p> \"x\" .") ≡ adds relative_quad
unfolding reading_open
relative_allowed = refl

-- an escape of a character that can't stand raw in an IRI
pub iri_escape_refused : line_at any_iris (codes "<http://e/\\u0020> <http://e/p> \"x\" .") ≡ None
unfolding reading_open
iri_escape_refused = refl

-- an escape of a surrogate
pub surrogate_refused : line_at any_iris (codes "<http://e/a> <http://e/p> \"\\uD800\" .") ≡ None
unfolding reading_open
surrogate_refused = refl

-- ---- lines of a text

pub ends_of_lines :
    lines_of (codes "a\r\nb\rc\n\nd") ≡ codes "a" ∷ codes "b" ∷ codes "c" ∷ [] ∷ codes "d" ∷ []
ends_of_lines = refl

-- ---- texts with a bad line

abbrev pub good_line : List ℕ
good_line = codes "<http://e/a> <http://e/p> \"x\" ."

abbrev pub relative_line : List ℕ
relative_line = codes "<http://e/a> <p> \"x\" ."

-- two good lines, and a third with a relative IRI
abbrev pub third_line_relative : List ℕ
third_line_relative = good_line ++ 10 ∷ good_line ++ 13 ∷ 10 ∷ relative_line

-- an IRI with an escape of a space
abbrev pub escaped_space : List ℕ
escaped_space = codes "<http://e/\\u0020> <http://e/p> \"x\" ."

-- a string with an escape of a surrogate
abbrev pub escaped_surrogate : List ℕ
escaped_surrogate = codes "<http://e/a> <http://e/p> \"\\uD800\" ."

-- a relative IRI before an escape of a space
abbrev pub relative_before_escape : List ℕ
relative_before_escape = codes "<a> <http://e/\\u0020> \"x\" ."

-- a literal in place of the predicate
abbrev pub literal_predicate : List ℕ
literal_predicate = codes "<http://e/a> \"p\" \"x\" ."

-- a byte that stands in no UTF-8 text, behind the front of a good line
abbrev pub no_utf8 : List ℕ
no_utf8 = codes "<http://e/a> " ++ 255 ∷ []
