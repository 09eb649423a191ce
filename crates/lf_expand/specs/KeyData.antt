-- The keywords of a frame as a program tells them apart, and as the definitions do.
use Rattle.std.specs.Prelude.{not, Some, Result, Ok}
use Rattle.lf_model.specs.declared.table.TermTable.{TermTable}
use Rattle.lf_model.specs.declared.error.LdError.{LdError}
use Rattle.lf_model.specs.declared.error.LdError.TheVariants.{InvalidFrame}
use Rattle.lf_model.specs.JsonData.{JsonValue}
use Rattle.def_contexts.specs.Outcomes.{◌>>=◌, refuse}
use Rattle.def_contexts.specs.Places.{Place, takes_default, term_at}
use Rattle.def_contexts.specs.Defaults.{defaults_of}
use Rattle.def_contexts.specs.Readings.{Reading}
use Rattle.lf_expand.specs.declared.class.MapClass.{MapClass}
use Rattle.lf_expand.specs.declared.class.MapClass.TheVariants as class
use Rattle.lf_expand.specs.declared.keys.FrameKey as program
use Rattle.lf_expand.specs.declared.keys.FrameKey.TheVariants as key
use Rattle.lf_expand.specs.declared.keys.Holding.{Holding}
use Rattle.lf_expand.specs.declared.keys.Holding.TheVariants.{GraphFrame, ReverseMap, ItemFrame, NoFrame}
use Rattle.def_contexts.specs.FrameFlags.{embed_key, explicit_key, require_all_key, omit_default_key}
use Rattle.def_contexts.specs.FrameKeys.{FrameKey, flag_key, default_key, id_key, type_key, graph_key, reverse_key, value_key, language_key, list_key, other_key}

abbrev pub key_data : program.FrameKey → FrameKey
key_data key.Embed = flag_key embed_key
key_data key.Explicit = flag_key explicit_key
key_data key.RequireAll = flag_key require_all_key
key_data key.OmitDefault = flag_key omit_default_key
key_data key.Default = default_key
key_data key.Id = id_key
key_data key.Type = type_key
key_data key.Graph = graph_key
key_data key.Reverse = reverse_key
key_data key.Value = value_key
key_data key.Language = language_key
key_data key.List = list_key
key_data key.Other = other_key

-- what the value of a keyword holds in a node frame, and in a list pattern
abbrev pub node_holding : program.FrameKey → Holding
node_holding key.Graph = GraphFrame
node_holding key.Reverse = ReverseMap
node_holding _ = NoFrame

abbrev pub list_holding : program.FrameKey → Holding
list_holding key.List = ItemFrame
list_holding _ = NoFrame

-- what the value of a keyword holds in a map of a class: sub-frames, or none
abbrev pub holding : MapClass → program.FrameKey → Holding
holding class.Node k = node_holding k
holding class.List k = list_holding k
holding class.Value k = NoFrame
holding class.Set k = NoFrame

-- `@default`, where it may stand
abbrev pub default_read : TermTable → Place → JsonValue → Reading → Result Reading LdError
default_read table place value reading = do
  _ ← refuse (not (takes_default place)) InvalidFrame
  values ← defaults_of table (term_at place) value
  Ok (record reading { flags = record reading.flags { fallback = Some values } })
