-- Worked cases: chains as long as the path and longer.
use Rattle.std.specs.Prelude.{◌≡◌, List, [], ◌∷◌, ℕ, ◌+◌, Bool, true, false, nat_lt, Option, Some, None}
use Rattle.lf_rdf.specs.declared.term.Term.{Term}
use Rattle.lf_rdf.specs.declared.term.Term.TheVariants.{Iri}
use Rattle.lf_rdf.specs.declared.question.GraphRef.TheVariants.{Merged}
use Rattle.lf_model.specs.declared.document.Limit.TheVariants.{Depth}
use Rattle.lf_model.specs.ValueData.{reference}
use Rattle.def_datasets.specs.Views.{View, ViewProperty}
use Rattle.def_framing.specs.Views.{Views}
use Rattle.def_framing.specs.Matching.{accepts, kind_accepts, prop_tests}
use Rattle.def_framing.specs.Parts.{emit, emit_all}
use Rattle.def_framing.specs.Embedding.{embed}
use Rattle.def_framing.specs.Outcome.{Outcome, not_key, no_match, matched, past, outcome_in}
use Rattle.def_framing.specs.Worked.Words.{p, any}
use mathlib.Core.Path.{refl}

-- a node of a chain, by its number
abbrev link : ℕ → Term
link number = Iri (number ∷ [])

-- it refers to the next one, up to the last
abbrev to_next : Bool → ℕ → List ViewProperty
to_next true number = record { property = p; values = reference (link (number + 1)) ∷ [] } ∷ []
to_next false number = []

abbrev link_view : ℕ → Term → Option View
link_view last (Iri (number ∷ [])) =
    Some (record { id = link number; types = []; props = to_next (nat_lt number last) number })
link_view last _ = None

abbrev chain : ℕ → Views
chain last =
    record {
      view = λ graph id. link_view last id;
      keys = λ graph. [];
      pointing = λ graph property id. [];
      names_graph = λ name. false;
    }

abbrev is_tree : Outcome → Bool
is_tree (matched made) = true
is_tree not_key = false
is_tree no_match = false
is_tree (past limit) = false

-- 256 nodes fit on a path
pub chain_of_256 : is_tree (outcome_in (chain 256) any Merged (link 1)) ≡ true
unfolding embed emit emit_all accepts kind_accepts prop_tests p
chain_of_256 = refl

-- and 257 don't
pub chain_of_257 : outcome_in (chain 257) any Merged (link 1) ≡ past Depth
unfolding embed emit emit_all accepts kind_accepts prop_tests p
chain_of_257 = refl
