-- Worked value patterns, list patterns, defaults and terms at the edges: what is just accepted, and
-- what is just refused.
use Rattle.std.specs.Prelude.{◌≡◌, refl, [], ◌∷◌, pos, true, false, Some, None, Ok, Err, codes}
use Rattle.lf_rdf.specs.declared.term.Term.TheVariants.{Iri, Blank}
use Rattle.lf_model.specs.declared.table.TermTable.{TermTable}
use Rattle.lf_model.specs.declared.table.Container.TheVariants as container
use Rattle.lf_model.specs.declared.scalar.Scalar.TheVariants as scalar
use Rattle.lf_model.specs.declared.frame.Embed.TheVariants as embed_flag
use Rattle.lf_model.specs.declared.frame.IdTest.TheVariants as id_test
use Rattle.lf_model.specs.declared.frame.PartTest.TheVariants as part
use Rattle.lf_model.specs.declared.frame.DefaultValue.TheVariants as default
use Rattle.lf_model.specs.declared.error.LdError.TheVariants as ld
use Rattle.lf_model.specs.JsonData.{null, truth, whole, text, members_of}
use Rattle.def_nested.specs.Nested.{match_none, frame_map, no_props, prop, no_reverses, no_graph, value_pattern, list_pattern, list_pattern_of, plain, wildcard}
use Rattle.def_contexts.specs.SubFrames.{top_frame}
use Rattle.def_contexts.specs.Frames.{frame_of}
use Rattle.def_contexts.specs.CaseWords.{frames_open, map_of, list_of, plain_term, table_with}
use Rattle.def_contexts.specs.FrameCases.{meant, of_props}

-- {"http://e/p":{"@language":["EN",[]],"@type":[],"@value":[{}]}}
pub pattern_read :
    frame_of (map_of ((
      codes "http://e/p",
      map_of ((codes "@language", list_of (text (codes "EN") ∷ list_of [] ∷ []))
          ∷ (codes "@type", list_of []) ∷ (codes "@value", list_of (map_of [] ∷ [])) ∷ []),
    )
    ∷ [])) ≡ Err ld.InvalidValueObject
unfolding frames_open
pattern_read = refl

-- {"http://e/p":{"@embed":false,"@language":["EN","De"],"@type":[],"@value":[{}]}}: flags may stand
-- in a pattern
pub parts_read :
    frame_of (map_of ((
      codes "http://e/p",
      map_of ((codes "@embed", truth false)
          ∷ (codes "@language", list_of (text (codes "EN") ∷ text (codes "De") ∷ []))
          ∷ (codes "@type", list_of []) ∷ (codes "@value", list_of (map_of [] ∷ [])) ∷ []),
    )
    ∷ []))
    ≡ Ok (meant (of_props plain (prop (codes "http://e/p") (frame_map
    (record plain { embed = embed_flag.Never }) no_props no_reverses no_graph
    (value_pattern (record {
      value = part.Any;
      datatype = part.Never;
      language =
          part.OneOf (scalar.Text (codes "en") ∷ scalar.Text (codes "de") ∷ []);
    })))
    no_props)))
unfolding frames_open
parts_read = refl

-- {"http://e/p":{"@value":[5,true,"x"]}}
pub scalars_read :
    frame_of (map_of ((
      codes "http://e/p",
      map_of
          ((codes "@value", list_of (whole (pos 5) ∷ truth true ∷ text (codes "x") ∷ [])) ∷ []),
    )
    ∷ []))
    ≡ Ok (meant (of_props plain (prop (codes "http://e/p") (frame_map plain no_props no_reverses
    no_graph (value_pattern (record {
      value = part.OneOf
          (scalar.Whole (pos 5) ∷ scalar.Bool true ∷ scalar.Text (codes "x") ∷ []);
      datatype = part.Absent;
      language = part.Absent;
    }))) no_props)))
unfolding frames_open
scalars_read = refl

-- {"http://e/p":{"@value":null}}
pub null_value_refused :
    frame_of (map_of ((codes "http://e/p", map_of ((codes "@value", null) ∷ [])) ∷ []))
    ≡ Err ld.InvalidValueObject
unfolding frames_open
null_value_refused = refl

-- {"http://e/p":{"@type":"T","@value":"x"}}
pub relative_datatype_refused :
    frame_of (map_of ((
      codes "http://e/p",
      map_of ((codes "@type", text (codes "T")) ∷ (codes "@value", text (codes "x")) ∷ []),
    )
    ∷ [])) ≡ Err ld.InvalidValueObject
unfolding frames_open
relative_datatype_refused = refl

-- {"http://e/p":{"@value":"x","http://e/q":null}}
pub property_in_pattern_refused :
    frame_of (map_of ((
      codes "http://e/p",
      map_of ((codes "@value", text (codes "x")) ∷ (codes "http://e/q", null) ∷ []),
    ) ∷ []))
    ≡ Err ld.InvalidValueObject
unfolding frames_open
property_in_pattern_refused = refl

-- {"http://e/p":{"@set":[],"@value":"x"}}
pub set_in_pattern_refused :
    frame_of (map_of ((
      codes "http://e/p",
      map_of ((codes "@set", list_of []) ∷ (codes "@value", text (codes "x")) ∷ []),
    ) ∷ []))
    ≡ Err ld.InvalidValueObject
unfolding frames_open
set_in_pattern_refused = refl

-- {"http://e/p":{"@list":[],"@value":"x"}}: it is no list pattern
pub list_in_pattern_refused :
    frame_of (map_of ((
      codes "http://e/p",
      map_of ((codes "@list", list_of []) ∷ (codes "@value", text (codes "x")) ∷ []),
    ) ∷ []))
    ≡ Err ld.InvalidValueObject
unfolding frames_open
list_in_pattern_refused = refl

-- {"http://e/p":{"@list":[]}}
pub list_without_item :
    frame_of (map_of ((codes "http://e/p", map_of ((codes "@list", list_of []) ∷ [])) ∷ []))
    ≡ Ok (meant (of_props plain (prop (codes "http://e/p")
    (frame_map plain no_props no_reverses no_graph list_pattern) no_props)))
unfolding frames_open
list_without_item = refl

-- {"http://e/p":{"@list":[null]}}
pub list_of_null :
    frame_of
    (map_of ((codes "http://e/p", map_of ((codes "@list", list_of (null ∷ [])) ∷ [])) ∷ []))
    ≡ Ok (meant (of_props plain (prop (codes "http://e/p")
    (frame_map plain no_props no_reverses no_graph list_pattern) no_props)))
unfolding frames_open
list_of_null = refl

-- {"http://e/p":{"@list":{"@list":{}}}}
pub list_of_list :
    frame_of (map_of ((
      codes "http://e/p",
      map_of ((codes "@list", map_of ((codes "@list", map_of []) ∷ [])) ∷ []),
    ) ∷ []))
    ≡ Ok (meant (of_props plain (prop (codes "http://e/p") (frame_map plain no_props no_reverses
    no_graph (list_pattern_of
    (frame_map plain no_props no_reverses no_graph (list_pattern_of (wildcard plain)))))
    no_props)))
unfolding frames_open
list_of_list = refl

-- {"http://e/p":{"@list":["x","y"]}}
pub list_two_refused :
    frame_of (map_of ((
      codes "http://e/p",
      map_of ((codes "@list", list_of (text (codes "x") ∷ text (codes "y") ∷ [])) ∷ []),
    )
    ∷ [])) ≡ Err ld.InvalidFrame
unfolding frames_open
list_two_refused = refl

-- {"http://e/p":{"@id":{},"@list":[]}}
pub list_beside_id_refused :
    frame_of (map_of ((
      codes "http://e/p",
      map_of ((codes "@id", map_of []) ∷ (codes "@list", list_of []) ∷ []),
    ) ∷ []))
    ≡ Err ld.InvalidFrame
unfolding frames_open
list_beside_id_refused = refl

-- {"http://e/p":{"@list":{"@default":5}}}: an item may have a default
pub item_default :
    frame_of (map_of ((
      codes "http://e/p",
      map_of ((codes "@list", map_of ((codes "@default", whole (pos 5)) ∷ [])) ∷ []),
    ) ∷ []))
    ≡ Ok (meant (of_props plain (prop (codes "http://e/p") (frame_map plain no_props no_reverses
    no_graph (list_pattern_of (wildcard (record plain
    { fallback = Some (default.Scalar (scalar.Whole (pos 5)) None None ∷ []) }))))
    no_props)))
unfolding frames_open
item_default = refl

-- {"http://e/p":{"@default":["@null",null,{"@id":"_:b"},{"@language":"EN","@value":"x"}]}}
pub defaults_read :
    frame_of (map_of ((
      codes "http://e/p",
      map_of ((
        codes "@default",
        list_of (text (codes "@null") ∷ null
            ∷ map_of ((codes "@id", text (codes "_:b")) ∷ [])
            ∷ map_of ((codes "@language", text (codes "EN"))
            ∷ (codes "@value", text (codes "x")) ∷ []) ∷ []),
      ) ∷ []),
    ) ∷ []))
    ≡ Ok (meant (of_props plain (prop (codes "http://e/p") (wildcard (record plain {
      fallback = Some (default.Null ∷ default.Null ∷ default.Ref (Blank (codes "b"))
          ∷ default.Scalar (scalar.Text (codes "x")) None (Some (codes "en")) ∷ []);
    }))
    no_props)))
unfolding frames_open
defaults_read = refl

-- {"http://e/p":{"@default":[]}}
pub no_default_value :
    frame_of (map_of ((codes "http://e/p", map_of ((codes "@default", list_of []) ∷ [])) ∷ []))
    ≡ Ok (meant (of_props plain
    (prop (codes "http://e/p") (wildcard (record plain { fallback = Some [] })) no_props)))
unfolding frames_open
no_default_value = refl

-- {"http://e/p":{"@default":{}}}
pub default_map_refused :
    frame_of (map_of ((codes "http://e/p", map_of ((codes "@default", map_of []) ∷ [])) ∷ []))
    ≡ Err ld.InvalidFrame
unfolding frames_open
default_map_refused = refl

-- {"http://e/p":{"@default":[["x"]]}}
pub default_array_refused :
    frame_of (map_of ((
      codes "http://e/p",
      map_of ((codes "@default", list_of (list_of (text (codes "x") ∷ []) ∷ [])) ∷ []),
    ) ∷ []))
    ≡ Err ld.InvalidFrame
unfolding frames_open
default_array_refused = refl

-- {"http://e/p":{"@default":{"@id":"x"}}}
pub default_id_refused :
    frame_of (map_of ((
      codes "http://e/p",
      map_of ((codes "@default", map_of ((codes "@id", text (codes "x")) ∷ [])) ∷ []),
    ) ∷ []))
    ≡ Err ld.InvalidFrame
unfolding frames_open
default_id_refused = refl

-- {"http://e/p":{"@default":{"@language":"en","@type":"http://e/T","@value":"x"}}}
pub default_both_refused :
    frame_of (map_of ((
      codes "http://e/p",
      map_of ((
        codes "@default",
        map_of ((codes "@language", text (codes "en"))
            ∷ (codes "@type", text (codes "http://e/T"))
            ∷ (codes "@value", text (codes "x")) ∷ []),
      ) ∷ []),
    ) ∷ []))
    ≡ Err ld.InvalidFrame
unfolding frames_open
default_both_refused = refl

-- {"@context":{"i":"@id"},"http://e/p":{"@default":{"i":"http://e/x"}}}: no alias stands there
pub default_alias_refused :
    frame_of (map_of ((codes "@context", map_of ((codes "i", text (codes "@id")) ∷ []))
    ∷ (
      codes "http://e/p",
      map_of ((codes "@default", map_of ((codes "i", text (codes "http://e/x")) ∷ [])) ∷ []),
    )
    ∷ [])) ≡ Err ld.InvalidFrame
unfolding frames_open
default_alias_refused = refl

-- {"@context":{"r":{"@id":"http://e/r","@type":"@id"}},"r":"x"}
pub coerced_refused :
    frame_of (map_of ((
      codes "@context",
      map_of ((
        codes "r",
        map_of ((codes "@id", text (codes "http://e/r"))
            ∷ (codes "@type", text (codes "@id")) ∷ []),
      ) ∷ []),
    )
    ∷ (codes "r", text (codes "x")) ∷ [])) ≡ Err ld.InvalidIdValue
unfolding frames_open
coerced_refused = refl

-- {"@context":{"r":{"@id":"http://e/r","@type":"@id"}},"r":{"@default":"x"}}
pub coerced_default_refused :
    frame_of (map_of ((
      codes "@context",
      map_of ((
        codes "r",
        map_of ((codes "@id", text (codes "http://e/r"))
            ∷ (codes "@type", text (codes "@id")) ∷ []),
      ) ∷ []),
    )
    ∷ (codes "r", map_of ((codes "@default", text (codes "x")) ∷ [])) ∷ []))
    ≡ Err ld.InvalidIdValue
unfolding frames_open
coerced_default_refused = refl

-- {"@context":{"n":{"@container":"@language","@id":"http://e/n"}},"n":{"en":"x"}}
pub language_key_refused :
    frame_of (map_of ((
      codes "@context",
      map_of ((
        codes "n",
        map_of ((codes "@container", text (codes "@language"))
            ∷ (codes "@id", text (codes "http://e/n")) ∷ []),
      ) ∷ []),
    )
    ∷ (codes "n", map_of ((codes "en", text (codes "x")) ∷ [])) ∷ [])) ≡ Err ld.InvalidFrame
unfolding frames_open
language_key_refused = refl

-- {"@context":{"n":{"@container":["@language","@set"],"@id":"http://e/n"}},"n":{"@value":null,"x":5}}:
-- the key is tried before the map is read
pub language_dropped_refused :
    frame_of (map_of ((
      codes "@context",
      map_of ((
        codes "n",
        map_of ((
          codes "@container",
          list_of (text (codes "@language") ∷ text (codes "@set") ∷ []),
        )
            ∷ (codes "@id", text (codes "http://e/n")) ∷ []),
      ) ∷ []),
    )
    ∷ (codes "n", map_of ((codes "@value", null) ∷ (codes "x", whole (pos 5)) ∷ [])) ∷ []))
    ≡ Err ld.InvalidFrame
unfolding frames_open
language_dropped_refused = refl

-- {"@context":{"i":"@id"},"@id":5,"i":{}}: the first of two keys is read before the collision is
-- found
pub two_keys_first_read :
    frame_of (map_of ((codes "@context", map_of ((codes "i", text (codes "@id")) ∷ []))
    ∷ (codes "@id", whole (pos 5)) ∷ (codes "i", map_of []) ∷ [])) ≡ Err ld.InvalidIdValue
unfolding frames_open
two_keys_first_read = refl

-- terms with each coercion, with a language of their own, and with the container `@list`
abbrev pub terms_of_each_kind : TermTable
terms_of_each_kind =
    record (table_with (record (plain_term (codes "d") (codes "http://e/d")) { coercion = Some (codes "http://e/T") }
    ∷ record (plain_term (codes "i") (codes "http://e/i")) { coercion = Some (codes "@id") }
    ∷ record (plain_term (codes "l") (codes "http://e/l")) { container = container.List }
    ∷ record (plain_term (codes "n") (codes "http://e/n")) { coercion = Some (codes "@none") }
    ∷ record (plain_term (codes "t") (codes "http://e/t")) { language = Some None }
    ∷ record (plain_term (codes "v") (codes "http://e/v")) { coercion = Some (codes "@vocab") }
    ∷ plain_term (codes "x") (codes "http://e/x")
    ∷ [])) { language = Some (codes "de") }

-- {"i":5}: a number under `@id` stays a number
pub coerced_number :
    top_frame terms_of_each_kind (members_of ((codes "i", whole (pos 5)) ∷ []))
    ≡ Ok (of_props plain (prop (codes "http://e/i") (frame_map plain no_props no_reverses no_graph
    (value_pattern (record {
      value = part.OneOf (scalar.Whole (pos 5) ∷ []);
      datatype = part.Absent;
      language = part.Absent;
    }))) no_props))
unfolding frames_open
coerced_number = refl

-- {"v":"x"}: a term, by `@vocab`
pub coerced_vocab :
    top_frame terms_of_each_kind (members_of ((codes "v", text (codes "x")) ∷ []))
    ≡ Ok (of_props plain (prop (codes "http://e/v")
    (of_props (record plain { ids = id_test.OneOf (Iri (codes "http://e/x") ∷ []) }) no_props)
    no_props))
unfolding frames_open
coerced_vocab = refl

-- {"n":"y"}: `@none` coerces nothing, and the default language holds
pub coerced_none :
    top_frame terms_of_each_kind (members_of ((codes "n", text (codes "y")) ∷ []))
    ≡ Ok (of_props plain (prop (codes "http://e/n") (frame_map plain no_props no_reverses no_graph
    (value_pattern (record {
      value = part.OneOf (scalar.Text (codes "y") ∷ []);
      datatype = part.Absent;
      language = part.OneOf (scalar.Text (codes "de") ∷ []);
    })))
    no_props))
unfolding frames_open
coerced_none = refl

-- {"d":true}
pub coerced_datatype :
    top_frame terms_of_each_kind (members_of ((codes "d", truth true) ∷ []))
    ≡ Ok (of_props plain (prop (codes "http://e/d") (frame_map plain no_props no_reverses no_graph
    (value_pattern (record {
      value = part.OneOf (scalar.Bool true ∷ []);
      datatype = part.OneOf (scalar.Text (codes "http://e/T") ∷ []);
      language = part.Absent;
    }))) no_props))
unfolding frames_open
coerced_datatype = refl

-- {"t":"y"}: the term's language is null
pub no_language :
    top_frame terms_of_each_kind (members_of ((codes "t", text (codes "y")) ∷ []))
    ≡ Ok (of_props plain (prop (codes "http://e/t") (frame_map plain no_props no_reverses no_graph
    (value_pattern (record {
      value = part.OneOf (scalar.Text (codes "y") ∷ []);
      datatype = part.Absent;
      language = part.Absent;
    }))) no_props))
unfolding frames_open
no_language = refl

-- {"l":{"@default":"y"}}: a wildcard is no item
pub list_wild :
    top_frame terms_of_each_kind
    (members_of ((codes "l", map_of ((codes "@default", text (codes "y")) ∷ [])) ∷ []))
    ≡ Ok (of_props plain (prop (codes "http://e/l") (wildcard (record plain {
      fallback =
          Some (default.Scalar (scalar.Text (codes "y")) None (Some (codes "de")) ∷ []);
    }))
    no_props))
unfolding frames_open
list_wild = refl

-- {"l":[]}
pub list_none :
    top_frame terms_of_each_kind (members_of ((codes "l", list_of []) ∷ []))
    ≡ Ok (of_props plain (prop (codes "http://e/l") (match_none) no_props))
unfolding frames_open
list_none = refl

-- {"l":{"@list":"y"}}
pub list_pattern_kept :
    top_frame terms_of_each_kind
    (members_of ((codes "l", map_of ((codes "@list", text (codes "y")) ∷ [])) ∷ []))
    ≡ Ok (of_props plain (prop (codes "http://e/l") (frame_map plain no_props no_reverses no_graph
    (list_pattern_of (frame_map plain no_props no_reverses no_graph
    (value_pattern (record {
      value = part.OneOf (scalar.Text (codes "y") ∷ []);
      datatype = part.Absent;
      language = part.OneOf (scalar.Text (codes "de") ∷ []);
    }))))) no_props))
unfolding frames_open
list_pattern_kept = refl

-- {"l":{"@embed":false,"@id":{}}}: the flags stay with the item
pub list_item_flags :
    top_frame terms_of_each_kind (members_of
    ((codes "l", map_of ((codes "@embed", truth false) ∷ (codes "@id", map_of []) ∷ [])) ∷ []))
    ≡ Ok (of_props plain (prop (codes "http://e/l") (frame_map plain no_props no_reverses no_graph
    (list_pattern_of
    (of_props (record plain { ids = id_test.Any; embed = embed_flag.Never }) no_props)))
    no_props))
unfolding frames_open
list_item_flags = refl

-- {"l":{"@set":["y"]}}: wrapped once
pub list_of_set :
    top_frame terms_of_each_kind
    (members_of ((codes "l", map_of ((codes "@set", list_of (text (codes "y") ∷ [])) ∷ [])) ∷ []))
    ≡ Ok (of_props plain (prop (codes "http://e/l") (frame_map plain no_props no_reverses no_graph
    (list_pattern_of (frame_map plain no_props no_reverses no_graph
    (value_pattern (record {
      value = part.OneOf (scalar.Text (codes "y") ∷ []);
      datatype = part.Absent;
      language = part.OneOf (scalar.Text (codes "de") ∷ []);
    }))))) no_props))
unfolding frames_open
list_of_set = refl
