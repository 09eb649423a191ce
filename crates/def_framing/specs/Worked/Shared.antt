-- Worked cases: a node that two trees share, one that a tree holds twice, and a cycle.
use Rattle.std.specs.Prelude.{◌≡◌, [], ◌∷◌, codes}
use Rattle.lf_rdf.specs.declared.question.GraphRef.TheVariants.{Merged}
use Rattle.lf_rdf.specs.Vocabulary.{xsd_string, rdf_type, rdf_first, rdf_rest, rdf_nil, rdf_list}
use Rattle.lf_model.specs.declared.frame.Embed.TheVariants.{Always}
use Rattle.lf_model.specs.TreeData.{node_entry, literal_entry}
use Rattle.def_nested.specs.Nested.{Nested, no_props, prop, plain, wildcard}
use Rattle.def_framing.specs.Views.{Views, of_dataset}
use Rattle.def_framing.specs.Worked.Words.{string, output, bare, quad, a, b, c, x, n, p, q, any, form}
use Rattle.def_framing.specs.Matching.{accepts, kind_accepts, prop_tests}
use Rattle.def_framing.specs.Parts.{emit, emit_all}
use Rattle.def_framing.specs.Embedding.{embed}
use Rattle.def_framing.specs.Outcome.{not_key, no_match, matched, outcome_in}
use mathlib.Core.Path.{refl}

-- the frame `{"http://e/p": {}}`
unfoldable pub with_p : Nested
with_p = form plain (prop p any no_props)

-- two nodes refer to one blank node
unfoldable pub shared : Views
shared = of_dataset (quad a p x ∷ quad b p x ∷ quad x q (string (codes "1")) ∷ [])

pub first_shares :
    outcome_in shared with_p Merged a
    ≡ matched
    (output a []
    ((p, node_entry (output x [] ((q, literal_entry (string (codes "1")) ∷ []) ∷ [])) ∷ []) ∷ []))
unfolding embed emit emit_all accepts kind_accepts prop_tests shared with_p a b x p q xsd_string
    rdf_type rdf_first rdf_rest rdf_nil rdf_list
first_shares = refl

pub second_shares :
    outcome_in shared with_p Merged b
    ≡ matched
    (output b []
    ((p, node_entry (output x [] ((q, literal_entry (string (codes "1")) ∷ []) ∷ [])) ∷ []) ∷ []))
unfolding embed emit emit_all accepts kind_accepts prop_tests shared with_p a b x p q xsd_string
    rdf_type rdf_first rdf_rest rdf_nil rdf_list
second_shares = refl

pub blank_unmatched : outcome_in shared with_p Merged x ≡ no_match
unfolding embed emit emit_all accepts kind_accepts prop_tests shared with_p a b x p q xsd_string
    rdf_type rdf_first rdf_rest rdf_nil rdf_list
blank_unmatched = refl

-- one of the two references goes, and its node with it
unfoldable pub unshared : Views
unshared = of_dataset (quad a p x ∷ quad x q (string (codes "1")) ∷ [])

pub first_alone :
    outcome_in unshared with_p Merged a
    ≡ matched
    (output a []
    ((p, node_entry (output x [] ((q, literal_entry (string (codes "1")) ∷ []) ∷ [])) ∷ []) ∷ []))
unfolding embed emit emit_all accepts kind_accepts prop_tests unshared with_p a b x p q xsd_string
    rdf_type rdf_first rdf_rest rdf_nil rdf_list
first_alone = refl

pub second_gone : outcome_in unshared with_p Merged b ≡ not_key
unfolding embed emit emit_all accepts kind_accepts prop_tests unshared with_p a b x p q xsd_string
    rdf_type rdf_first rdf_rest rdf_nil rdf_list
second_gone = refl

-- a node refers twice to another, and a third node refers to it too
unfoldable pub twice : Views
twice = of_dataset (quad a p c ∷ quad a q c ∷ quad b p c ∷ quad c n (string (codes "c")) ∷ [])

pub once_in_a_tree :
    outcome_in twice with_p Merged a
    ≡ matched
    (output a []
    ((p, node_entry (output c [] ((n, literal_entry (string (codes "c")) ∷ []) ∷ [])) ∷ [])
    ∷ (q, node_entry (bare c) ∷ [])
    ∷ []))
unfolding embed emit emit_all accepts kind_accepts prop_tests twice with_p a b c n p q xsd_string
    rdf_type rdf_first rdf_rest rdf_nil rdf_list
once_in_a_tree = refl

pub again_in_another :
    outcome_in twice with_p Merged b
    ≡ matched
    (output b [] ((
      p,
      node_entry (output c [] ((n, literal_entry (string (codes "c")) ∷ []) ∷ [])) ∷ [],
    )
    ∷ []))
unfolding embed emit emit_all accepts kind_accepts prop_tests twice with_p a b c n p q xsd_string
    rdf_type rdf_first rdf_rest rdf_nil rdf_list
again_in_another = refl

-- the frame `{"@embed": "@always"}`
unfoldable pub always : Nested
always = wildcard (record plain { embed = Always })

-- two nodes refer to each other
unfoldable pub cycle : Views
cycle = of_dataset (quad a p b ∷ quad b p a ∷ [])

pub cycle_ends :
    outcome_in cycle always Merged a
    ≡ matched
    (output a [] ((p, node_entry (output b [] ((p, node_entry (bare a) ∷ []) ∷ [])) ∷ []) ∷ []))
unfolding embed emit emit_all accepts kind_accepts prop_tests cycle always a b p rdf_type rdf_first
    rdf_rest rdf_nil rdf_list
cycle_ends = refl

pub cycle_ends_too :
    outcome_in cycle always Merged b
    ≡ matched
    (output b [] ((p, node_entry (output a [] ((p, node_entry (bare b) ∷ []) ∷ [])) ∷ []) ∷ []))
unfolding embed emit emit_all accepts kind_accepts prop_tests cycle always a b p rdf_type rdf_first
    rdf_rest rdf_nil rdf_list
cycle_ends_too = refl
