-- Answers to each question, and which quads touch them.
use Rattle.std.specs.Prelude.{◌≡◌, refl, List, [], ◌∷◌, codes, true, false}
use Rattle.lf_rdf.specs.declared.term.Term.TheVariants.{Iri}
use Rattle.lf_rdf.specs.declared.quad.Quad.{Quad}
use Rattle.lf_rdf.specs.declared.question.GraphRef.TheVariants as graph
use Rattle.lf_rdf.specs.declared.question.Question.TheVariants as ask
use Rattle.lf_rdf.specs.declared.question.Answer.TheVariants.{Quads, Flag, Terms}
use Rattle.lf_rdf.specs.Vocabulary.{rdf_type, xsd_string}
use Rattle.def_datasets.specs.Dataset.{is_dataset}
use Rattle.def_datasets.specs.Questions.{answer, touches}
use Rattle.def_datasets.specs.Worked.Words.{plain, quad, quad_in, a, b, g, l, p}

abbrev pub dataset : List Quad
dataset = quad a l b ∷ quad_in g a p b ∷ quad a rdf_type b ∷ quad b p (plain (codes "1")) ∷ []

pub in_order : is_dataset dataset ≡ true
unfolding a b g l p rdf_type xsd_string
in_order = refl

pub out_of_a :
    answer dataset (ask.Out graph.Default a) ≡ Quads (quad a l b ∷ quad a rdf_type b ∷ [])
unfolding a b g l p rdf_type xsd_string
out_of_a = refl

pub out_of_a_in_g : answer dataset (ask.Out (graph.Named g) a) ≡ Quads (quad_in g a p b ∷ [])
unfolding a b g l p rdf_type xsd_string
out_of_a_in_g = refl

pub inward_to_b : answer dataset (ask.Inward graph.Default (Iri p) b) ≡ Quads []
unfolding a b g l p rdf_type xsd_string
inward_to_b = refl

pub inward_any_to_b : answer dataset (ask.InwardAny (Iri p) b) ≡ Quads (quad_in g a p b ∷ [])
unfolding a b g l p rdf_type xsd_string
inward_any_to_b = refl

-- a quad that tells a type is no use of it
pub uses_of_b : answer dataset (ask.Uses b) ≡ Quads (quad a l b ∷ quad_in g a p b ∷ [])
unfolding a b g l p rdf_type xsd_string
uses_of_b = refl

pub g_is_named : answer dataset (ask.Named g) ≡ Flag true
unfolding a b g l p rdf_type xsd_string
g_is_named = refl

pub a_is_not_named : answer dataset (ask.Named a) ≡ Flag false
unfolding a b g l p rdf_type xsd_string
a_is_not_named = refl

pub members_of_default : answer dataset (ask.Members graph.Default) ≡ Terms (a ∷ b ∷ g ∷ [])
unfolding a b g l p rdf_type xsd_string
members_of_default = refl

pub a_use_touches : touches (quad_in g a p b) (ask.Uses b) ≡ true
unfolding a b g l p rdf_type xsd_string
a_use_touches = refl

pub a_type_touches_no_use : touches (quad a rdf_type b) (ask.Uses b) ≡ false
unfolding a b g l p rdf_type xsd_string
a_type_touches_no_use = refl

pub each_quad_touches_default_members : touches (quad_in g a p b) (ask.Members graph.Default) ≡ true
each_quad_touches_default_members = refl
