-- Worked cases: `@explicit`, `@omitDefault`, `@embed` with `@never`, and a type default.
use Rattle.std.specs.Prelude.{◌≡◌, [], ◌∷◌, codes, true, Some}
use Rattle.lf_rdf.specs.declared.question.GraphRef.TheVariants.{Merged}
use Rattle.lf_rdf.specs.Vocabulary.{xsd_string, rdf_type, rdf_first, rdf_rest, rdf_nil, rdf_list}
use Rattle.lf_model.specs.declared.frame.Embed.TheVariants.{Never}
use Rattle.lf_model.specs.declared.frame.TypeTest.TheVariants as type_test
use Rattle.lf_model.specs.declared.frame.DefaultValue.TheVariants.{Null}
use Rattle.lf_model.specs.TreeData.{literal_entry, fallback_entry, node_entry}
use Rattle.def_nested.specs.Nested.{Nested, no_props, prop, plain, wildcard}
use Rattle.def_framing.specs.Views.{Views, of_dataset}
use Rattle.def_framing.specs.Matching.{accepts, kind_accepts, prop_tests}
use Rattle.def_framing.specs.Parts.{emit, emit_all}
use Rattle.def_framing.specs.Embedding.{embed}
use Rattle.def_framing.specs.Outcome.{matched, outcome_in}
use Rattle.def_framing.specs.Worked.Words.{a, b, c, n, p, q, any, string, quad, output, bare, form, named}
use mathlib.Core.Path.{refl}

unfoldable pub linked : Views
linked =
    of_dataset (quad a n (string (codes "A")) ∷ quad a p b ∷ quad b n (string (codes "B")) ∷ [])

-- the frame `{"@id": "http://e/a", "@explicit": true, "http://e/n": {}, "http://e/q": {}}`
unfoldable pub explicit_n : Nested
explicit_n = form (record (named a) { explicit = true }) (prop n any (prop q any no_props))

-- a property that the frame doesn't state is skipped, and one that the node lacks is null
pub others_skipped :
    outcome_in linked explicit_n Merged a
    ≡ matched (output a []
    ((n, literal_entry (string (codes "A")) ∷ []) ∷ (q, fallback_entry Null ∷ []) ∷ []))
unfolding embed emit emit_all accepts kind_accepts prop_tests linked explicit_n a b n p q xsd_string
    rdf_type rdf_first rdf_rest rdf_nil rdf_list
others_skipped = refl

-- the same frame with `"@omitDefault": true`
unfoldable pub omitting : Nested
omitting = form (record (named a) { explicit = true; omit_default = Some true })
    (prop n any (prop q any no_props))

pub default_omitted :
    outcome_in linked omitting Merged a
    ≡ matched (output a [] ((n, literal_entry (string (codes "A")) ∷ []) ∷ []))
unfolding embed emit emit_all accepts kind_accepts prop_tests linked omitting a b n p q xsd_string
    rdf_type rdf_first rdf_rest rdf_nil rdf_list
default_omitted = refl

-- the frame `{"@id": "http://e/a", "http://e/p": {"@embed": "@never"}}`
unfoldable pub never_p : Nested
never_p = form (named a) (prop p (wildcard (record plain { embed = Never })) no_props)

pub reference_alone :
    outcome_in linked never_p Merged a
    ≡ matched
    (output a []
    ((n, literal_entry (string (codes "A")) ∷ []) ∷ (p, node_entry (bare b) ∷ []) ∷ []))
unfolding embed emit emit_all accepts kind_accepts prop_tests linked never_p a b n p q xsd_string
    rdf_type rdf_first rdf_rest rdf_nil rdf_list
reference_alone = refl

-- the frame `{"@id": "http://e/b", "@type": {"@default": "http://e/c"}}`
unfoldable pub typed_c : Nested
typed_c = form (record (named b) { types = type_test.Fallback (c ∷ []) }) no_props

pub type_given :
    outcome_in linked typed_c Merged b
    ≡ matched (output b (c ∷ []) ((n, literal_entry (string (codes "B")) ∷ []) ∷ []))
unfolding embed emit emit_all accepts kind_accepts prop_tests linked typed_c a b c n p q xsd_string
    rdf_type rdf_first rdf_rest rdf_nil rdf_list
type_given = refl
