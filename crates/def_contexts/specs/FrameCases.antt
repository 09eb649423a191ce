-- Worked frames.
use Rattle.std.specs.Prelude.{◌≡◌, refl, List, [], ◌∷◌, ℕ, true, false, Some, None, Ok, codes}
use Rattle.lf_rdf.specs.declared.term.Term.TheVariants.{Iri, Blank}
use Rattle.lf_model.specs.declared.table.TermTable.{TermTable}
use Rattle.lf_model.specs.declared.table.Container.TheVariants as container
use Rattle.lf_model.specs.declared.scalar.Scalar.TheVariants as scalar
use Rattle.lf_model.specs.declared.frame.IdTest.TheVariants as id_test
use Rattle.lf_model.specs.declared.frame.TypeTest.TheVariants as type_test
use Rattle.lf_model.specs.declared.frame.PartTest.TheVariants as part
use Rattle.lf_model.specs.declared.frame.DefaultValue.TheVariants as default
use Rattle.lf_model.specs.JsonData.{JsonValue, null, truth, text, members_of}
use Rattle.def_nested.specs.Nested.{Nested, Flags, Props, match_none, frame_map, no_props, prop, no_reverses, reverse_prop, no_graph, in_graph, node_frame, value_pattern, list_pattern_of, plain, wildcard}
use Rattle.def_contexts.specs.Table.{empty_table}
use Rattle.def_contexts.specs.SubFrames.{top_frame}
use Rattle.def_contexts.specs.Frames.{FrameMeaning, frame_of}
use Rattle.def_contexts.specs.ContextCases.{library, library_terms, label_terms}
use Rattle.def_contexts.specs.CaseWords.{frames_open, map_of, list_of, plain_term, table_with}

-- a frame without a context
abbrev pub meant : Nested → FrameMeaning
meant nested = record { nested = nested; table = empty_table; context = null; top_graph = false }

-- a node frame of these properties and no more
abbrev pub of_props : Flags → Props → Nested
of_props flags props = frame_map flags props no_reverses no_graph node_frame

-- a node frame that asks for types
abbrev pub of_types : List ℕ → Flags
of_types iri = record plain { types = type_test.OneOf (Iri iri ∷ []) }

-- {} and [] are wild
pub empty_frame : frame_of (map_of []) ≡ Ok (meant (wildcard plain))
unfolding frames_open
empty_frame = refl

pub empty_array_frame : frame_of (list_of []) ≡ Ok (meant (wildcard plain))
unfolding frames_open
empty_array_frame = refl

-- {"@context":..,"@type":"Library","contains":{"@type":"Book"}}
abbrev pub library_frame : JsonValue
library_frame =
    map_of ((codes "@context", library)
    ∷ (codes "@type", text (codes "Library"))
    ∷ (codes "contains", map_of ((codes "@type", text (codes "Book")) ∷ []))
    ∷ [])

abbrev pub library_nested : Nested
library_nested =
    of_props (of_types (codes "http://l/Library"))
    (prop (codes "http://l/contains") (of_props (of_types (codes "http://l/Book")) no_props)
    no_props)

pub library_read :
    frame_of library_frame
    ≡ Ok (record
    { nested = library_nested; table = library_terms; context = library; top_graph = false })
unfolding frames_open
library_read = refl

-- {"@context":{"label":{"@container":"@language","@id":"http://e/label"}},"@id":"http://e/a"}
abbrev pub label_context : JsonValue
label_context =
    map_of ((
      codes "label",
      map_of ((codes "@container", text (codes "@language"))
          ∷ (codes "@id", text (codes "http://e/label")) ∷ []),
    ) ∷ [])

pub label_read :
    frame_of
    (map_of ((codes "@context", label_context) ∷ (codes "@id", text (codes "http://e/a")) ∷ []))
    ≡ Ok (record {
      nested = of_props
          (record plain { ids = id_test.OneOf (Iri (codes "http://e/a") ∷ []) }) no_props;
      table = label_terms;
      context = label_context;
      top_graph = false;
    })
unfolding frames_open
label_read = refl

-- {"@requireAll":true,"http://e/p":{},"http://e/q":[]}
pub match_none_read :
    frame_of (map_of ((codes "@requireAll", truth true) ∷ (codes "http://e/p", map_of [])
    ∷ (codes "http://e/q", list_of []) ∷ []))
    ≡ Ok (meant (of_props (record plain { require_all = true }) (prop (codes "http://e/p")
    (wildcard plain) (prop (codes "http://e/q") match_none no_props))))
unfolding frames_open
match_none_read = refl

-- {"@id":"http://e/a","http://e/p":{"@default":"d","@value":"y"}}
pub default_read :
    frame_of (map_of ((codes "@id", text (codes "http://e/a"))
    ∷ (
      codes "http://e/p",
      map_of ((codes "@default", text (codes "d")) ∷ (codes "@value", text (codes "y")) ∷ []),
    )
    ∷ []))
    ≡ Ok (meant (of_props (record plain { ids = id_test.OneOf (Iri (codes "http://e/a") ∷ []) })
    (prop (codes "http://e/p") (frame_map (record plain
    { fallback = Some (default.Scalar (scalar.Text (codes "d")) None None ∷ []) })
    no_props no_reverses no_graph (value_pattern (record {
      value =
          part.OneOf (scalar.Text (codes "y") ∷ []);
      datatype = part.Absent;
      language = part.Absent;
    }))) no_props)))
unfolding frames_open
default_read = refl

-- {"@graph":{}}: the value of the only key is the frame
pub graph_read :
    frame_of (map_of ((codes "@graph", map_of []) ∷ []))
    ≡ Ok (record { nested = wildcard plain; table = empty_table; context = null; top_graph = true })
unfolding frames_open
graph_read = refl

-- {"@graph":{},"@id":"_:b"}: beside another key it is the frame of a graph
pub graph_beside_id_read :
    frame_of (map_of ((codes "@graph", map_of []) ∷ (codes "@id", text (codes "_:b")) ∷ []))
    ≡ Ok (record {
      nested =
          frame_map (record plain { ids = id_test.OneOf (Blank (codes "b") ∷ []) }) no_props
          no_reverses (in_graph (wildcard plain)) node_frame;
      table = empty_table;
      context = null;
      top_graph = true;
    })
unfolding frames_open
graph_beside_id_read = refl

-- {"http://e/p":null}: null drops a property, and the map is wild
pub null_read : frame_of (map_of ((codes "http://e/p", null) ∷ [])) ≡ Ok (meant (wildcard plain))
unfolding frames_open
null_read = refl

-- {"@reverse":{"http://e/p":[{}]}}
pub reverse_read :
    frame_of (map_of
    ((codes "@reverse", map_of ((codes "http://e/p", list_of (map_of [] ∷ [])) ∷ [])) ∷ []))
    ≡ Ok (meant (frame_map plain no_props
    (reverse_prop (codes "http://e/p") (wildcard plain) no_reverses) no_graph node_frame))
unfolding frames_open
reverse_read = refl

-- terms with a coercion, with the container `@list`, and of a reverse property
abbrev pub some_terms : TermTable
some_terms =
    record (table_with (record (plain_term (codes "l") (codes "http://e/l")) { container = container.List }
    ∷ record (plain_term (codes "r") (codes "http://e/r")) { coercion = Some (codes "@id") }
    ∷ record (plain_term (codes "v") (codes "http://e/r")) { reverse = true }
    ∷ [])) { language = Some (codes "en") }

abbrev pub english : List ℕ → Nested
english word =
    frame_map plain no_props no_reverses no_graph (value_pattern (record {
      value = part.OneOf (scalar.Text word ∷ []);
      datatype = part.Absent;
      language = part.OneOf (scalar.Text (codes "en") ∷ []);
    }))

-- {"l":"x"}: a text in the default language, as the item of a list pattern
pub list_read :
    top_frame some_terms (members_of ((codes "l", text (codes "x")) ∷ []))
    ≡ Ok (of_props plain (prop (codes "http://e/l")
    (frame_map plain no_props no_reverses no_graph (list_pattern_of (english (codes "x"))))
    no_props))
unfolding frames_open
list_read = refl

-- {"r":"http://e/x","v":{}}: a reference, and a reverse property of the same IRI
pub coerced_read :
    top_frame some_terms
    (members_of ((codes "r", text (codes "http://e/x")) ∷ (codes "v", map_of []) ∷ []))
    ≡ Ok (frame_map plain (prop (codes "http://e/r")
    (of_props (record plain { ids = id_test.OneOf (Iri (codes "http://e/x") ∷ []) }) no_props)
    no_props) (reverse_prop (codes "http://e/r") (wildcard plain) no_reverses) no_graph
    node_frame)
unfolding frames_open
coerced_read = refl

-- {"http://e/p":{"@set":[{"@type":"http://e/T"}]}}: the value of `@set` stands for its map
pub set_read :
    frame_of (map_of ((
      codes "http://e/p",
      map_of ((
        codes "@set",
        list_of (map_of ((codes "@type", text (codes "http://e/T")) ∷ []) ∷ []),
      ) ∷ []),
    )
    ∷ []))
    ≡ Ok (meant (of_props plain
    (prop (codes "http://e/p") (of_props (of_types (codes "http://e/T")) no_props) no_props)))
unfolding frames_open
set_read = refl
