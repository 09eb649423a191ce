-- The terms and questions near a term for a frame: those that framing the term may speak of
-- (JSON-LD 1.1 Framing, section 4.1).
use Rattle.std.specs.Prelude.{List, [], ◌∷◌, ◌++◌, ℕ}
use Rattle.lf_rdf.specs.declared.term.Term.{Term}
use Rattle.lf_rdf.specs.declared.quad.Quad.{Quad}
use Rattle.lf_rdf.specs.declared.question.Question.{Question}
use Rattle.def_datasets.specs.Near.{Near, NearQuestion}
use Rattle.def_nested.specs.Nested.{Nested, Props, Reverses, Within, Kind, match_none, frame_map, no_props, prop, no_reverses, reverse_prop, no_graph, in_graph, wild, node_frame, value_pattern, list_pattern, list_pattern_of}

-- the properties of the `@reverse` maps of a frame and of all frames that are nested in it
abbrev mutual
  pub reversed_in : Nested → List (List ℕ)
  reversed_in match_none = []
  reversed_in (frame_map flags props reverses within kind) =
      in_props props ++ in_reverses reverses ++ in_within within ++ in_kind kind

  pub in_props : Props → List (List ℕ)
  in_props no_props = []
  in_props (prop property sub rest) = reversed_in sub ++ in_props rest

  pub in_reverses : Reverses → List (List ℕ)
  in_reverses no_reverses = []
  in_reverses (reverse_prop property sub rest) = property ∷ reversed_in sub ++ in_reverses rest

  pub in_within : Within → List (List ℕ)
  in_within no_graph = []
  in_within (in_graph sub) = reversed_in sub

  pub in_kind : Kind → List (List ℕ)
  in_kind wild = []
  in_kind node_frame = []
  in_kind (value_pattern pattern) = []
  in_kind list_pattern = []
  in_kind (list_pattern_of item) = reversed_in item

-- the terms near a term for a frame
abbrev pub NearFor : List Quad → Nested → Term → Term → Type 0
NearFor dataset form origin = Near dataset (reversed_in form) origin

-- the questions near a term for a frame
abbrev pub NearQuestionFor : List Quad → Nested → Term → Question → Type 0
NearQuestionFor dataset form origin = NearQuestion dataset (reversed_in form) origin
