-- A worked case: a library holds a book of a wanted type.
use Rattle.std.specs.Prelude.{◌≡◌, false, List, [], ◌∷◌, ℕ, codes, Some, None}
use Rattle.lf_rdf.specs.declared.term.Term.{Term}
use Rattle.lf_rdf.specs.declared.term.Term.TheVariants.{Iri, Literal}
use Rattle.lf_rdf.specs.declared.question.GraphRef.TheVariants.{Merged}
use Rattle.lf_rdf.specs.Vocabulary.{rdf_lang_string, xsd_string, rdf_type, rdf_first, rdf_rest, rdf_nil, rdf_list}
use Rattle.lf_model.specs.declared.frame.TypeTest.{TypeTest}
use Rattle.lf_model.specs.declared.frame.TypeTest.TheVariants as type_test
use Rattle.lf_model.specs.declared.frame.IdTest.TheVariants as id_test
use Rattle.lf_model.specs.declared.frame.Embed.TheVariants.{Once}
use Rattle.lf_model.specs.declared.frame.FrameKind.TheVariants.{Node}
use Rattle.lf_model.specs.declared.frame.FrameNode.{FrameNode}
use Rattle.lf_model.specs.declared.frame.FrameProp.{FrameProp}
use Rattle.def_nested.specs.Unfolding.{nested, unfold_from}
use Rattle.lf_model.specs.TreeData.{node_entry, literal_entry}
use Rattle.def_nested.specs.Nested.{Nested, Flags, frame_map, no_props, prop, no_reverses, no_graph, node_frame, plain}
use Rattle.def_framing.specs.Views.{Views, of_dataset}
use Rattle.def_framing.specs.Worked.Words.{output, bare, quad}
use Rattle.def_framing.specs.Matching.{accepts, kind_accepts, prop_tests}
use Rattle.def_framing.specs.Parts.{emit, emit_all}
use Rattle.def_framing.specs.Embedding.{embed}
use Rattle.def_framing.specs.Outcome.{not_key, no_match, matched, outcome_in}
use mathlib.Core.Path.{refl}

unfoldable pub the_library : Term
the_library = Iri (codes "http://l/lib")

unfoldable pub the_book : Term
the_book = Iri (codes "http://l/b1")

unfoldable pub plato : Term
plato = Iri (codes "http://l/plato")

unfoldable pub library_type : Term
library_type = Iri (codes "http://l/Library")

unfoldable pub book_type : Term
book_type = Iri (codes "http://l/Book")

unfoldable pub contains : List ℕ
contains = codes "http://l/contains"

unfoldable pub title : List ℕ
title = codes "http://purl.org/dc/terms/title"

unfoldable pub creator : List ℕ
creator = codes "http://purl.org/dc/terms/creator"

unfoldable pub republic : Term
republic = Literal (codes "Republic") rdf_lang_string (Some (codes "en"))

unfoldable pub shelves : Views
shelves =
    of_dataset
    (quad the_book creator plato
    ∷ quad the_book title republic
    ∷ quad the_book rdf_type book_type
    ∷ quad the_library contains the_book
    ∷ quad the_library rdf_type library_type
    ∷ [])

abbrev typed : Term → Flags
typed wanted = record plain { types = type_test.OneOf (wanted ∷ []) }

-- `{"@type": "http://l/Library", "http://l/contains": {"@type": "http://l/Book"}}`
unfoldable pub library_frame : Nested
library_frame =
    frame_map (typed library_type)
    (prop contains (frame_map (typed book_type) no_props no_reverses no_graph node_frame) no_props)
    no_reverses no_graph
    node_frame

pub library_tree :
    outcome_in shelves library_frame Merged the_library
    ≡ matched
    (output the_library (library_type ∷ [])
    ((
      contains,
      node_entry
          (output the_book (book_type ∷ [])
          ((creator, node_entry (bare plato) ∷ []) ∷ (title, literal_entry republic ∷ []) ∷ []))
          ∷ [],
    )
    ∷ []))
unfolding embed emit emit_all accepts kind_accepts prop_tests shelves library_frame the_library
    the_book plato library_type book_type contains title creator republic rdf_lang_string xsd_string
    rdf_type rdf_first rdf_rest rdf_nil rdf_list
library_tree = refl

pub book_unmatched : outcome_in shelves library_frame Merged the_book ≡ no_match
unfolding embed emit emit_all accepts kind_accepts prop_tests shelves library_frame the_library
    the_book plato library_type book_type contains title creator republic rdf_type rdf_first
    rdf_rest rdf_nil rdf_list
book_unmatched = refl

pub type_no_key : outcome_in shelves library_frame Merged library_type ≡ not_key
unfolding embed emit emit_all accepts kind_accepts prop_tests shelves library_frame the_library
    the_book plato library_type book_type contains title creator republic rdf_type rdf_first
    rdf_rest rdf_nil rdf_list
type_no_key = refl

-- the frame as a table of two numbered maps
abbrev row : TypeTest → List FrameProp → FrameNode
row types props =
    record {
      ids = id_test.Absent;
      types = types;
      embed = Once;
      explicit = false;
      require_all = false;
      omit_default = None;
      props = props;
      reverse = [];
      graph = None;
      kind = Node;
      fallback = None;
    }

abbrev library_rows : List FrameNode
library_rows =
    row (type_test.OneOf (library_type ∷ [])) (record { property = contains; frame = Some 1 } ∷ [])
    ∷ row (type_test.OneOf (book_type ∷ [])) []
    ∷ []

pub library_unfolded : nested library_rows 0 ≡ library_frame
unfolding unfold_from library_frame
library_unfolded = refl
