-- Worked cases: default values, nulls and match-none.
use Rattle.std.specs.Prelude.{◌≡◌, List, [], ◌∷◌, codes, true, Option, Some, None}
use Rattle.lf_rdf.specs.declared.question.GraphRef.TheVariants.{Merged}
use Rattle.lf_rdf.specs.Vocabulary.{xsd_string, rdf_type, rdf_first, rdf_rest, rdf_nil, rdf_list}
use Rattle.lf_model.specs.declared.frame.DefaultValue.{DefaultValue}
use Rattle.lf_model.specs.declared.frame.DefaultValue.TheVariants.{Null, Scalar}
use Rattle.lf_model.specs.declared.frame.PartTest.TheVariants as part
use Rattle.lf_model.specs.declared.scalar.Scalar.TheVariants.{Text}
use Rattle.lf_model.specs.TreeData.{literal_entry, fallback_entry, empty_fallback}
use Rattle.def_nested.specs.Nested.{Nested, match_none, frame_map, no_props, prop, no_reverses, no_graph, value_pattern, plain}
use Rattle.def_framing.specs.Views.{Views, of_dataset}
use Rattle.def_framing.specs.Worked.Words.{string, output, quad, a, b, p, q, any, form, named}
use Rattle.def_framing.specs.Matching.{accepts, kind_accepts, prop_tests}
use Rattle.def_framing.specs.Parts.{emit, emit_all}
use Rattle.def_framing.specs.Embedding.{embed}
use Rattle.def_framing.specs.Outcome.{no_match, matched, outcome_in}
use mathlib.Core.Path.{refl}

-- one node with one plain value
unfoldable pub one_value : Views
one_value = of_dataset (quad a p (string (codes "x")) ∷ [])

-- the frame `{"@id": "http://e/a", "http://e/p": {"@value": "y"}}`, with a `@default` or without
unfoldable pub wants_y : Option (List DefaultValue) → Nested
wants_y fallback =
    form (named a)
    (prop p
    (frame_map (record plain { fallback = fallback }) no_props no_reverses no_graph
    (value_pattern
    (record { value = part.OneOf (Text (codes "y") ∷ []); datatype = part.Absent; language = part.Absent })))
    no_props)

unfoldable pub d : DefaultValue
d = Scalar (Text (codes "d")) None None

pub takes_default :
    outcome_in one_value (wants_y (Some (d ∷ []))) Merged a
    ≡ matched (output a [] ((p, fallback_entry d ∷ []) ∷ []))
unfolding embed emit emit_all accepts kind_accepts prop_tests one_value wants_y a p d xsd_string
    rdf_type rdf_first rdf_rest rdf_nil rdf_list
takes_default = refl

pub takes_null :
    outcome_in one_value (wants_y None) Merged a
    ≡ matched (output a [] ((p, fallback_entry Null ∷ []) ∷ []))
unfolding embed emit emit_all accepts kind_accepts prop_tests one_value wants_y a p xsd_string
    rdf_type rdf_first rdf_rest rdf_nil rdf_list
takes_null = refl

pub takes_empty :
    outcome_in one_value (wants_y (Some [])) Merged a
    ≡ matched (output a [] ((p, empty_fallback ∷ []) ∷ []))
unfolding embed emit emit_all accepts kind_accepts prop_tests one_value wants_y a p xsd_string
    rdf_type rdf_first rdf_rest rdf_nil rdf_list
takes_empty = refl

-- two nodes with different properties
unfoldable pub apart : Views
apart = of_dataset (quad a p (string (codes "1")) ∷ quad b q (string (codes "2")) ∷ [])

-- the frame `{"http://e/p": []}`
unfoldable pub without_p : Nested
without_p = form plain (prop p match_none no_props)

pub present_refused : outcome_in apart without_p Merged a ≡ no_match
unfolding embed emit emit_all accepts kind_accepts prop_tests apart without_p a b p q xsd_string
    rdf_type rdf_first rdf_rest rdf_nil rdf_list
present_refused = refl

pub absent_matched :
    outcome_in apart without_p Merged b
    ≡ matched (output b []
    ((q, literal_entry (string (codes "2")) ∷ []) ∷ (p, fallback_entry Null ∷ []) ∷ []))
unfolding embed emit emit_all accepts kind_accepts prop_tests apart without_p a b p q xsd_string
    rdf_type rdf_first rdf_rest rdf_nil rdf_list
absent_matched = refl

-- the frame `{"http://e/p": {}, "http://e/q": {}}`
unfoldable pub with_either : Nested
with_either = form plain (prop p any (prop q any no_props))

pub one_suffices :
    outcome_in apart with_either Merged a
    ≡ matched (output a []
    ((p, literal_entry (string (codes "1")) ∷ []) ∷ (q, fallback_entry Null ∷ []) ∷ []))
unfolding embed emit emit_all accepts kind_accepts prop_tests apart with_either a b p q xsd_string
    rdf_type rdf_first rdf_rest rdf_nil rdf_list
one_suffices = refl

-- the same frame with `"@requireAll": true`
unfoldable pub with_both : Nested
with_both = form (record plain { require_all = true }) (prop p any (prop q any no_props))

pub both_required : outcome_in apart with_both Merged a ≡ no_match
unfolding embed emit emit_all accepts kind_accepts prop_tests apart with_both a b p q xsd_string
    rdf_type rdf_first rdf_rest rdf_nil rdf_list
both_required = refl

-- the frame `{"@requireAll": true, "http://e/p": {}, "http://e/q": []}`
unfoldable pub with_p_alone : Nested
with_p_alone = form (record plain { require_all = true }) (prop p any (prop q match_none no_props))

pub both_hold :
    outcome_in apart with_p_alone Merged a
    ≡ matched (output a []
    ((p, literal_entry (string (codes "1")) ∷ []) ∷ (q, fallback_entry Null ∷ []) ∷ []))
unfolding embed emit emit_all accepts kind_accepts prop_tests apart with_p_alone a b p q xsd_string
    rdf_type rdf_first rdf_rest rdf_nil rdf_list
both_hold = refl
