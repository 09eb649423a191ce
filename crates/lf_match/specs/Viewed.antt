-- Matching by a view that is known already (JSON-LD 1.1 Framing, section 4.2.2).
use Rattle.std.specs.Prelude.{Bool, false}
use Rattle.lf_rdf.specs.declared.term.Term.{Term}
use Rattle.lf_rdf.specs.declared.question.GraphRef.{GraphRef}
use Rattle.def_nested.specs.Nested.{Nested, match_none, frame_map}
use Rattle.def_datasets.specs.Views.{View}
use Rattle.def_framing.specs.Views.{Views}
use Rattle.def_framing.specs.Matching.{prop_tests, view_matches}

-- a frame matches a node of a graph by this view of it
abbrev pub matches_viewed : Views → GraphRef → Nested → Term → View → Bool
matches_viewed views graph match_none id view = false
matches_viewed views graph (frame_map flags props _ _ _) id view =
    view_matches flags (prop_tests views graph props) id view
