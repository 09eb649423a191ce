-- A frame's map as its keys are read in byte order (JSON-LD 1.1 Framing, section 4.1).
use Rattle.std.specs.Prelude.{List, ◌∷◌, ℕ, false, not, Option, Some, Result, Ok, Err}
use Rattle.lf_model.specs.declared.table.TermTable.{TermTable}
use Rattle.lf_model.specs.declared.table.TermDef.{TermDef}
use Rattle.lf_model.specs.declared.error.LdError.{LdError}
use Rattle.lf_model.specs.declared.error.LdError.TheVariants.{CollidingKeywords, InvalidFrame, InvalidReverseValue, InvalidValueObject}
use Rattle.lf_model.specs.JsonData.{JsonValue}
use Rattle.def_contexts.specs.Keywords.{one_of}
use Rattle.def_contexts.specs.Outcomes.{◌>>=◌, refuse}
use Rattle.def_contexts.specs.NodeTests.{id_test_of, type_test_of}
use Rattle.def_contexts.specs.FrameFlags.{flag_stated}
use Rattle.def_contexts.specs.ValuePatterns.{scalar_of, datatype_of, language_scalar, part_of}
use Rattle.def_contexts.specs.Defaults.{defaults_of}
use Rattle.def_contexts.specs.FrameKeys.{Meaning, dropped, keyword, property, reverse_property, MapClass, value_map, list_map, set_map, node_map, FrameKey, flag_key, default_key, id_key, type_key, graph_key, reverse_key, value_key, language_key, list_key, frame_key}
use Rattle.def_contexts.specs.Places.{Place, of_property, of_item, of_graph, of_reverse, term_at, takes_default}
use Rattle.def_contexts.specs.Readings.{Reading, Reader, ReverseReader, with_property, with_reverse, within_found, item_found}

-- a property of a node frame
abbrev pub read_property : List ℕ → Option TermDef → Reader → Reading → Result Reading LdError
read_property iri term sub reading = do
  _ ← refuse (one_of reading.properties iri) InvalidFrame
  found ← sub (of_property term)
  Ok (with_property iri found reading)

-- a reverse property, of `@reverse` or by its own term
abbrev pub read_reverse : List ℕ → Reader → Reading → Result Reading LdError
read_reverse iri sub reading = do
  _ ← refuse (one_of reading.reversed iri) InvalidFrame
  found ← sub of_reverse
  with_reverse iri found reading

-- a keyword other than flags and `@default`, in a node frame
abbrev pub read_node_key :
    FrameKey → TermTable → JsonValue → Reader → ReverseReader → Reading → Result Reading LdError
read_node_key id_key table value sub reverses reading = do
  test ← id_test_of table value
  Ok (record reading { flags = record reading.flags { ids = test }; flags_alone = false })
read_node_key type_key table value sub reverses reading = do
  test ← type_test_of table value
  Ok (record reading { flags = record reading.flags { types = test }; flags_alone = false })
read_node_key graph_key table value sub reverses reading = do
  found ← sub of_graph
  Ok (record reading { within = within_found found; flags_alone = false })
read_node_key reverse_key table value sub reverses reading =
    reverses (record reading { flags_alone = false })
read_node_key _ table value sub reverses reading = Err InvalidFrame

-- the same in a value pattern
abbrev pub read_value_key : FrameKey → TermTable → JsonValue → Reading → Result Reading LdError
read_value_key value_key table value reading = do
  test ← part_of scalar_of value
  Ok (record reading { pattern = record reading.pattern { value = test } })
read_value_key type_key table value reading = do
  test ← part_of (datatype_of table) value
  Ok (record reading { pattern = record reading.pattern { datatype = test } })
read_value_key language_key table value reading = do
  test ← part_of language_scalar value
  Ok (record reading { pattern = record reading.pattern { language = test } })
read_value_key _ table value reading = Err InvalidValueObject

-- the same in a list pattern
abbrev pub read_list_key : FrameKey → Option TermDef → Reader → Reading → Result Reading LdError
read_list_key list_key term sub reading = do
  found ← sub (of_item term)
  Ok (record reading { item = item_found found })
read_list_key _ term sub reading = Err InvalidFrame

abbrev pub read_class_key :
    MapClass → FrameKey → TermTable → Place → JsonValue → Reader → ReverseReader → Reading →
    Result Reading LdError
read_class_key value_map key table place value sub reverses reading =
    read_value_key key table value reading
read_class_key list_map key table place value sub reverses reading =
    read_list_key key (term_at place) sub reading
read_class_key node_map key table place value sub reverses reading =
    read_node_key key table value sub reverses reading
read_class_key set_map key table place value sub reverses reading = Err InvalidFrame

-- flags and `@default` may stand in every map
abbrev pub read_keyword :
    MapClass → FrameKey → TermTable → Place → JsonValue → Reader → ReverseReader → Reading →
    Result Reading LdError
read_keyword class (flag_key flag) table place value sub reverses reading = do
  flags ← flag_stated flag value reading.flags
  Ok (record reading { flags = flags })
read_keyword class default_key table place value sub reverses reading = do
  _ ← refuse (not (takes_default place)) InvalidFrame
  values ← defaults_of table (term_at place) value
  Ok (record reading { flags = record reading.flags { fallback = Some values } })
read_keyword class key table place value sub reverses reading =
    read_class_key class key table place value sub reverses reading

-- one key of a map and its value
abbrev pub read_key :
    MapClass → Meaning → TermTable → Place → JsonValue → Reader → ReverseReader → Reading →
    Result Reading LdError
read_key class dropped table place value sub reverses reading = Ok reading
read_key class (keyword name) table place value sub reverses reading = do
  _ ← refuse (one_of reading.keywords name) CollidingKeywords
  read_keyword class (frame_key name) table place value sub reverses
      (record reading { keywords = name ∷ reading.keywords })
read_key node_map (property iri term) table place value sub reverses reading =
    read_property iri term sub reading
read_key value_map (property iri term) table place value sub reverses reading =
    Err InvalidValueObject
read_key _ (property iri term) table place value sub reverses reading = Err InvalidFrame
read_key node_map (reverse_property iri) table place value sub reverses reading =
    read_reverse iri sub reading
read_key value_map (reverse_property iri) table place value sub reverses reading =
    Err InvalidValueObject
read_key _ (reverse_property iri) table place value sub reverses reading = Err InvalidFrame

-- one key of the map of `@reverse`
abbrev pub read_reverse_key : Meaning → Reader → Reading → Result Reading LdError
read_reverse_key dropped sub reading = Ok reading
read_reverse_key (keyword name) sub reading = Err InvalidReverseValue
read_reverse_key (reverse_property iri) sub reading = Err InvalidReverseValue
read_reverse_key (property iri term) sub reading = read_reverse iri sub reading
