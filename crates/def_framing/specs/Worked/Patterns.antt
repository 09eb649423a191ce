-- Worked cases: value patterns and list patterns.
use Rattle.std.specs.Prelude.{◌≡◌, List, [], ◌∷◌, ℕ, codes, true, false, Some, None}
use Rattle.lf_rdf.specs.declared.term.Term.{Term}
use Rattle.lf_rdf.specs.declared.term.Term.TheVariants.{Iri, Blank, Literal}
use Rattle.lf_rdf.specs.declared.question.GraphRef.TheVariants.{Merged}
use Rattle.lf_rdf.specs.Vocabulary.{rdf_lang_string, xsd_string, rdf_type, rdf_first, rdf_rest, rdf_nil, rdf_list}
use Rattle.lf_model.specs.declared.frame.PartTest.{PartTest}
use Rattle.lf_model.specs.declared.frame.PartTest.TheVariants as part
use Rattle.lf_model.specs.declared.frame.ValuePattern.{ValuePattern}
use Rattle.lf_model.specs.declared.scalar.Scalar.TheVariants as scalar
use Rattle.lf_model.specs.TreeData.{literal_entry, list_entry, node_entry, entries_of}
use Rattle.def_nested.specs.Nested.{Nested, Kind, frame_map, no_props, prop, no_reverses, no_graph, list_pattern, list_pattern_of, plain}
use Rattle.def_framing.specs.Views.{Views, of_dataset}
use Rattle.def_framing.specs.ValuePatterns.{accepts_literal}
use Rattle.def_framing.specs.Matching.{accepts, kind_accepts, prop_tests}
use Rattle.def_framing.specs.Parts.{emit, emit_all}
use Rattle.def_framing.specs.Embedding.{embed}
use Rattle.def_framing.specs.Outcome.{no_match, matched, outcome_in}
use Rattle.def_framing.specs.Worked.Words.{a, b, l, string, quad, output, bare, form, named}
use mathlib.Core.Path.{refl}

abbrev parts : PartTest → PartTest → PartTest → ValuePattern
parts text datatype language = record { value = text; datatype = datatype; language = language }

unfoldable pub decimal_type : List ℕ
decimal_type = codes "http://www.w3.org/2001/XMLSchema#decimal"

-- a plain string, one in English, and one of a datatype
unfoldable pub in_plain : Term
in_plain = string (codes "x")

unfoldable pub in_english : Term
in_english = Literal (codes "x") rdf_lang_string (Some (codes "en"))

unfoldable pub in_decimal : Term
in_decimal = Literal (codes "1") decimal_type None

-- `{"@value": {}}` accepts plain strings alone
pub value_of_plain : accepts_literal (parts part.Any part.Absent part.Absent) in_plain ≡ true
unfolding in_plain xsd_string
value_of_plain = refl

pub value_of_english : accepts_literal (parts part.Any part.Absent part.Absent) in_english ≡ false
unfolding in_english xsd_string rdf_lang_string
value_of_english = refl

pub value_of_decimal : accepts_literal (parts part.Any part.Absent part.Absent) in_decimal ≡ false
unfolding in_decimal decimal_type xsd_string
value_of_decimal = refl

-- `{"@value": {}, "@language": ["de", "en"]}` accepts its languages
pub language_of_english :
    accepts_literal
    (parts part.Any part.Absent
    (part.OneOf (scalar.Text (codes "de") ∷ scalar.Text (codes "en") ∷ []))) in_english
    ≡ true
unfolding in_english xsd_string rdf_lang_string
language_of_english = refl

pub language_of_plain :
    accepts_literal (parts part.Any part.Absent (part.OneOf (scalar.Text (codes "en") ∷ [])))
    in_plain ≡ false
unfolding in_plain xsd_string
language_of_plain = refl

-- `{"@value": {}, "@type": {}}` accepts another datatype than that of strings
pub datatype_of_decimal : accepts_literal (parts part.Any part.Any part.Absent) in_decimal ≡ true
unfolding in_decimal decimal_type xsd_string
datatype_of_decimal = refl

pub datatype_of_plain : accepts_literal (parts part.Any part.Any part.Absent) in_plain ≡ false
unfolding in_plain xsd_string
datatype_of_plain = refl

-- a truth value of a pattern accepts nothing
pub truth_of_decimal :
    accepts_literal (parts (part.OneOf (scalar.Bool true ∷ [])) part.Any part.Absent) in_decimal
    ≡ false
unfolding in_decimal decimal_type xsd_string
truth_of_decimal = refl

-- a list of a string and a node
unfoldable pub c1 : Term
c1 = Blank (codes "c1")

unfoldable pub c2 : Term
c2 = Blank (codes "c2")

unfoldable pub with_list : Views
with_list =
    of_dataset
    (quad a l c1
    ∷ quad c1 rdf_first (string (codes "1"))
    ∷ quad c1 rdf_rest c2
    ∷ quad c2 rdf_first b
    ∷ quad c2 rdf_rest (Iri rdf_nil)
    ∷ [])

-- the frame `{"http://e/l": {"@list": ..}}`
abbrev listing : Kind → Nested
listing kind = form plain (prop l (frame_map plain no_props no_reverses no_graph kind) no_props)

-- of the items those are output that the item pattern accepts
pub item_accepted :
    outcome_in with_list (listing (list_pattern_of (form (named b) no_props))) Merged a
    ≡ matched (output a [] ((l, list_entry (entries_of (node_entry (bare b) ∷ [])) ∷ []) ∷ []))
unfolding embed emit emit_all accepts kind_accepts prop_tests with_list a b l c1 c2 xsd_string
    rdf_type rdf_first rdf_rest rdf_nil rdf_list
item_accepted = refl

-- a list without an item that the item pattern accepts isn't accepted
pub no_item_accepted :
    outcome_in with_list (listing (list_pattern_of (form (named a) no_props))) Merged a ≡ no_match
unfolding embed emit emit_all accepts kind_accepts prop_tests with_list a b l c1 c2 xsd_string
    rdf_type rdf_first rdf_rest rdf_nil rdf_list
no_item_accepted = refl

-- without an item pattern all items are output
pub all_items_accepted :
    outcome_in with_list (listing list_pattern) Merged a
    ≡ matched
    (output a []
    ((l, list_entry (entries_of (literal_entry (string (codes "1")) ∷ node_entry (bare b) ∷ [])) ∷ []) ∷ []))
unfolding embed emit emit_all accepts kind_accepts prop_tests with_list a b l c1 c2 xsd_string
    rdf_type rdf_first rdf_rest rdf_nil rdf_list
all_items_accepted = refl
