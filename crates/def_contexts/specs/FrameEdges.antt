-- Worked frames at the edges: what is just accepted, and what is just refused.
use Rattle.std.specs.Prelude.{◌≡◌, refl, [], ◌∷◌, pos, true, false, Some, Ok, Err, codes}
use Rattle.lf_rdf.specs.declared.term.Term.TheVariants.{Iri, Blank}
use Rattle.lf_model.specs.declared.scalar.Scalar.TheVariants as scalar
use Rattle.lf_model.specs.declared.frame.Embed.TheVariants as embed_flag
use Rattle.lf_model.specs.declared.frame.IdTest.TheVariants as id_test
use Rattle.lf_model.specs.declared.frame.TypeTest.TheVariants as type_test
use Rattle.lf_model.specs.declared.frame.PartTest.TheVariants as part
use Rattle.lf_model.specs.declared.error.LdError.TheVariants as ld
use Rattle.lf_model.specs.JsonData.{JsonValue, null, truth, whole, text}
use Rattle.def_nested.specs.Nested.{match_none, frame_map, no_props, prop, no_reverses, no_graph, in_graph, node_frame, value_pattern, plain, wildcard}
use Rattle.def_contexts.specs.Table.{empty_table}
use Rattle.def_contexts.specs.Frames.{frame_of}
use Rattle.def_contexts.specs.CaseWords.{frames_open, map_of, list_of, plain_term, table_with}
use Rattle.def_contexts.specs.FrameCases.{meant, of_props}

-- {"@graph":[{},{}]}
pub graph_alone_refused :
    frame_of (map_of ((codes "@graph", list_of (map_of [] ∷ map_of [] ∷ [])) ∷ []))
    ≡ Err ld.InvalidFrame
unfolding frames_open
graph_alone_refused = refl

-- {"@graph":{"@graph":[]}}: the inner `@graph` is one of the frame, and its `[]` is `{}`
pub graph_twice :
    frame_of (map_of ((codes "@graph", map_of ((codes "@graph", list_of []) ∷ [])) ∷ []))
    ≡ Ok (record {
      nested =
          frame_map plain no_props no_reverses (in_graph (wildcard plain)) node_frame;
      table = empty_table;
      context = null;
      top_graph = true;
    })
unfolding frames_open
graph_twice = refl

-- {"@graph":{"@context":{}}}
pub context_in_graph_refused :
    frame_of (map_of ((codes "@graph", map_of ((codes "@context", map_of []) ∷ [])) ∷ []))
    ≡ Err ld.InvalidFrame
unfolding frames_open
context_in_graph_refused = refl

-- {"@graph":{},"x":5}: a dropped key counts
pub dropped_beside_graph :
    frame_of (map_of ((codes "@graph", map_of []) ∷ (codes "x", whole (pos 5)) ∷ []))
    ≡ Ok (record {
      nested =
          frame_map plain no_props no_reverses (in_graph (wildcard plain)) node_frame;
      table = empty_table;
      context = null;
      top_graph = true;
    })
unfolding frames_open
dropped_beside_graph = refl

-- {"@context":{"g":"@graph"},"g":[]}
pub graph_by_alias :
    frame_of (map_of ((codes "@context", map_of ((codes "g", text (codes "@graph")) ∷ []))
    ∷ (codes "g", list_of []) ∷ []))
    ≡ Ok (record {
      nested = wildcard plain;
      table = table_with (plain_term (codes "g") (codes "@graph") ∷ []);
      context = map_of ((codes "g", text (codes "@graph")) ∷ []);
      top_graph = true;
    })
unfolding frames_open
graph_by_alias = refl

-- {"@id":[{}]}
pub id_any :
    frame_of (map_of ((codes "@id", list_of (map_of [] ∷ [])) ∷ []))
    ≡ Ok (meant (of_props (record plain { ids = id_test.Any }) no_props))
unfolding frames_open
id_any = refl

-- {"@id":[]}
pub id_never :
    frame_of (map_of ((codes "@id", list_of []) ∷ []))
    ≡ Ok (meant (of_props (record plain { ids = id_test.Never }) no_props))
unfolding frames_open
id_never = refl

-- {"@id":["http://e/a",{}]}
pub id_array_refused :
    frame_of (map_of ((codes "@id", list_of (text (codes "http://e/a") ∷ map_of [] ∷ [])) ∷ []))
    ≡ Err ld.InvalidIdValue
unfolding frames_open
id_array_refused = refl

-- {"@type":{}}
pub type_any :
    frame_of (map_of ((codes "@type", map_of []) ∷ []))
    ≡ Ok (meant (of_props (record plain { types = type_test.Any }) no_props))
unfolding frames_open
type_any = refl

-- {"@type":{"@default":["http://e/T","_:t"]}}
pub type_default :
    frame_of (map_of ((
      codes "@type",
      map_of ((
        codes "@default",
        list_of (text (codes "http://e/T") ∷ text (codes "_:t") ∷ []),
      ) ∷ []),
    ) ∷ []))
    ≡ Ok (meant (of_props (record plain
    { types = type_test.Fallback (Iri (codes "http://e/T") ∷ Blank (codes "t") ∷ []) })
    no_props))
unfolding frames_open
type_default = refl

-- {"@type":{"@default":{}}}
pub type_default_refused :
    frame_of (map_of ((codes "@type", map_of ((codes "@default", map_of []) ∷ [])) ∷ []))
    ≡ Err ld.InvalidTypeValue
unfolding frames_open
type_default_refused = refl

-- {"@type":"T"}
pub relative_type_refused :
    frame_of (map_of ((codes "@type", text (codes "T")) ∷ [])) ≡ Err ld.InvalidTypeValue
unfolding frames_open
relative_type_refused = refl

-- {"@context":{"d":"@default"},"@type":{"d":"http://e/T"}}: no alias stands there
pub type_default_alias_refused :
    frame_of (map_of ((codes "@context", map_of ((codes "d", text (codes "@default")) ∷ []))
    ∷ (codes "@type", map_of ((codes "d", text (codes "http://e/T")) ∷ [])) ∷ []))
    ≡ Err ld.InvalidTypeValue
unfolding frames_open
type_default_alias_refused = refl

-- {"@embed":["@always"],"@explicit":[true],"@omitDefault":false,"@requireAll":true}: flags alone
-- are wild
pub flags_read :
    frame_of (map_of ((codes "@embed", list_of (text (codes "@always") ∷ []))
    ∷ (codes "@explicit", list_of (truth true ∷ [])) ∷ (codes "@omitDefault", truth false)
    ∷ (codes "@requireAll", truth true) ∷ []))
    ≡ Ok (meant (wildcard (record plain {
      embed = embed_flag.Always;
      explicit = true;
      omit_default = Some false;
      require_all = true;
    })))
unfolding frames_open
flags_read = refl

-- {"@embed":false}
pub embed_false :
    frame_of (map_of ((codes "@embed", truth false) ∷ []))
    ≡ Ok (meant (wildcard (record plain { embed = embed_flag.Never })))
unfolding frames_open
embed_false = refl

-- {"@embed":null}
pub embed_null_refused : frame_of (map_of ((codes "@embed", null) ∷ [])) ≡ Err ld.InvalidEmbedValue
unfolding frames_open
embed_null_refused = refl

-- {"@embed":["@once","@once"]}
pub embed_two_refused :
    frame_of
    (map_of ((codes "@embed", list_of (text (codes "@once") ∷ text (codes "@once") ∷ [])) ∷ []))
    ≡ Err ld.InvalidEmbedValue
unfolding frames_open
embed_two_refused = refl

-- {"@explicit":"true"}
pub explicit_refused :
    frame_of (map_of ((codes "@explicit", text (codes "true")) ∷ [])) ≡ Err ld.InvalidFrame
unfolding frames_open
explicit_refused = refl

-- {"@graph":"x","@id":{}}
pub graph_text_refused :
    frame_of (map_of ((codes "@graph", text (codes "x")) ∷ (codes "@id", map_of []) ∷ []))
    ≡ Err ld.InvalidFrame
unfolding frames_open
graph_text_refused = refl

-- {"@graph":{"@value":"x"},"@id":{}}
pub graph_pattern :
    frame_of (map_of ((codes "@graph", map_of ((codes "@value", text (codes "x")) ∷ []))
    ∷ (codes "@id", map_of []) ∷ []))
    ≡ Ok (record {
      nested =
          frame_map (record plain { ids = id_test.Any }) no_props no_reverses
          (in_graph (frame_map plain no_props no_reverses no_graph (value_pattern
          (record {
            value = part.OneOf (scalar.Text (codes "x") ∷ []);
            datatype = part.Absent;
            language = part.Absent;
          })))) node_frame;
      table = empty_table;
      context = null;
      top_graph = true;
    })
unfolding frames_open
graph_pattern = refl

-- {"@graph":{"@default":"x"},"@id":{}}
pub graph_default_refused :
    frame_of (map_of ((codes "@graph", map_of ((codes "@default", text (codes "x")) ∷ []))
    ∷ (codes "@id", map_of []) ∷ [])) ≡ Err ld.InvalidFrame
unfolding frames_open
graph_default_refused = refl

-- {"@reverse":{"x":5}}: a dropped key's value isn't read; the map isn't wild
pub reverse_empty :
    frame_of (map_of ((codes "@reverse", map_of ((codes "x", whole (pos 5)) ∷ [])) ∷ []))
    ≡ Ok (meant (frame_map plain no_props no_reverses no_graph node_frame))
unfolding frames_open
reverse_empty = refl

-- {"@reverse":[]}
pub reverse_array_refused :
    frame_of (map_of ((codes "@reverse", list_of []) ∷ [])) ≡ Err ld.InvalidReverseValue
unfolding frames_open
reverse_array_refused = refl

-- {"@reverse":{"@id":{}}}
pub reverse_keyword_refused :
    frame_of (map_of ((codes "@reverse", map_of ((codes "@id", map_of []) ∷ [])) ∷ []))
    ≡ Err ld.InvalidReverseValue
unfolding frames_open
reverse_keyword_refused = refl

-- {"@reverse":{"http://e/p":{"@list":[]}}}
pub reverse_list_refused :
    frame_of (map_of ((
      codes "@reverse",
      map_of ((codes "http://e/p", map_of ((codes "@list", list_of []) ∷ [])) ∷ []),
    ) ∷ []))
    ≡ Err ld.InvalidReverseValue
unfolding frames_open
reverse_list_refused = refl

-- {"@reverse":{"http://e/p":null}}
pub reverse_null_refused :
    frame_of (map_of ((codes "@reverse", map_of ((codes "http://e/p", null) ∷ [])) ∷ []))
    ≡ Err ld.InvalidReverseValue
unfolding frames_open
reverse_null_refused = refl

-- {"@reverse":{"http://e/p":[{},{}]}}
pub reverse_two_refused :
    frame_of (map_of ((
      codes "@reverse",
      map_of ((codes "http://e/p", list_of (map_of [] ∷ map_of [] ∷ [])) ∷ []),
    ) ∷ []))
    ≡ Err ld.InvalidReverseValue
unfolding frames_open
reverse_two_refused = refl

-- {"@reverse":{"http://e/p":{"@default":"x"}}}
pub reverse_default_refused :
    frame_of (map_of ((
      codes "@reverse",
      map_of ((codes "http://e/p", map_of ((codes "@default", text (codes "x")) ∷ [])) ∷ []),
    )
    ∷ [])) ≡ Err ld.InvalidFrame
unfolding frames_open
reverse_default_refused = refl

-- {"@context":{"r":{"@reverse":"http://e/p"}},"@reverse":{"r":{}}}
pub reverse_term_in_reverse :
    frame_of (map_of ((
      codes "@context",
      map_of ((codes "r", map_of ((codes "@reverse", text (codes "http://e/p")) ∷ [])) ∷ []),
    )
    ∷ (codes "@reverse", map_of ((codes "r", map_of []) ∷ [])) ∷ []))
    ≡ Err ld.InvalidReverseValue
unfolding frames_open
reverse_term_in_reverse = refl

-- {"@context":{"r":{"@reverse":"http://e/p"}},"@reverse":{"http://e/p":{}},"r":{}}: two sources of
-- one reverse property
pub reverse_twice_refused :
    frame_of (map_of ((
      codes "@context",
      map_of ((codes "r", map_of ((codes "@reverse", text (codes "http://e/p")) ∷ [])) ∷ []),
    )
    ∷ (codes "@reverse", map_of ((codes "http://e/p", map_of []) ∷ []))
    ∷ (codes "r", map_of []) ∷ [])) ≡ Err ld.InvalidFrame
unfolding frames_open
reverse_twice_refused = refl

-- {"@context":{"r":{"@reverse":"http://e/p"}},"r":"x"}
pub reverse_term_refused :
    frame_of (map_of ((
      codes "@context",
      map_of ((codes "r", map_of ((codes "@reverse", text (codes "http://e/p")) ∷ [])) ∷ []),
    )
    ∷ (codes "r", text (codes "x")) ∷ [])) ≡ Err ld.InvalidReverseValue
unfolding frames_open
reverse_term_refused = refl

-- {"_:p":5}: a key of a blank node is dropped
pub blank_dropped :
    frame_of (map_of ((codes "_:p", whole (pos 5)) ∷ [])) ≡ Ok (meant (wildcard plain))
unfolding frames_open
blank_dropped = refl

-- {"http://e/p":["x","x"]}
pub two_values_refused :
    frame_of
    (map_of ((codes "http://e/p", list_of (text (codes "x") ∷ text (codes "x") ∷ [])) ∷ []))
    ≡ Err ld.InvalidFrame
unfolding frames_open
two_values_refused = refl

-- {"http://e/p":[["x"]]}
pub nested_array :
    frame_of (map_of ((codes "http://e/p", list_of (list_of (text (codes "x") ∷ []) ∷ [])) ∷ []))
    ≡ Ok (meant (of_props plain (prop (codes "http://e/p") (frame_map plain no_props no_reverses
    no_graph (value_pattern (record {
      value = part.OneOf (scalar.Text (codes "x") ∷ []);
      datatype = part.Absent;
      language = part.Absent;
    }))) no_props)))
unfolding frames_open
nested_array = refl

-- {"http://e/p":[[]]}
pub array_of_none :
    frame_of (map_of ((codes "http://e/p", list_of (list_of [] ∷ [])) ∷ []))
    ≡ Ok (meant (of_props plain (prop (codes "http://e/p") (match_none) no_props)))
unfolding frames_open
array_of_none = refl

-- {"http://e/p":[null]}
pub array_of_null :
    frame_of (map_of ((codes "http://e/p", list_of (null ∷ [])) ∷ [])) ≡ Ok (meant (wildcard plain))
unfolding frames_open
array_of_null = refl

-- {"http://e/p":{"@set":[null],"x":5}}: a dropped key isn't counted beside `@set`
pub set_of_null :
    frame_of (map_of ((
      codes "http://e/p",
      map_of ((codes "@set", list_of (null ∷ [])) ∷ (codes "x", whole (pos 5)) ∷ []),
    ) ∷ []))
    ≡ Ok (meant (wildcard plain))
unfolding frames_open
set_of_null = refl

-- {"@context":{"q":"http://e/q"},"http://e/p":{"@set":[],"http://e/q":null,"q":null}}: where `@set`
-- stands for its map no other key of that map is read, so that none collides
abbrev pub two_names : JsonValue
two_names = map_of ((codes "q", text (codes "http://e/q")) ∷ [])

pub set_beside_two_names :
    frame_of (map_of ((codes "@context", two_names)
    ∷ (
      codes "http://e/p",
      map_of
          ((codes "@set", list_of []) ∷ (codes "http://e/q", null) ∷ (codes "q", null) ∷ []),
    )
    ∷ []))
    ≡ Ok (record {
      nested = of_props plain (prop (codes "http://e/p") match_none no_props);
      table = table_with (plain_term (codes "q") (codes "http://e/q") ∷ []);
      context = two_names;
      top_graph = false;
    })
unfolding frames_open
set_beside_two_names = refl

-- without `@set` they collide
pub two_names_refused :
    frame_of (map_of ((codes "@context", two_names)
    ∷ (codes "http://e/p", map_of ((codes "http://e/q", null) ∷ (codes "q", null) ∷ []))
    ∷ [])) ≡ Err ld.InvalidFrame
unfolding frames_open
two_names_refused = refl

-- {"http://e/p":{"@id":{},"@set":[]}}
pub set_beside_id_refused :
    frame_of (map_of ((
      codes "http://e/p",
      map_of ((codes "@id", map_of []) ∷ (codes "@set", list_of []) ∷ []),
    ) ∷ []))
    ≡ Err ld.InvalidFrame
unfolding frames_open
set_beside_id_refused = refl

-- {"@set":{}}
pub top_set_refused : frame_of (map_of ((codes "@set", map_of []) ∷ [])) ≡ Err ld.InvalidFrame
unfolding frames_open
top_set_refused = refl

-- {"http://e/p":{"@index":{}}}
pub other_keyword_refused :
    frame_of (map_of ((codes "http://e/p", map_of ((codes "@index", map_of []) ∷ [])) ∷ []))
    ≡ Err ld.InvalidFrame
unfolding frames_open
other_keyword_refused = refl
