-- The members of a frame's map that are read (JSON-LD 1.1 Framing, sections 4.1 and 5.2).
use Rattle.std.specs.Prelude.{Bool, true, false, codes, Result, Ok, Err}
use Rattle.lf_model.specs.declared.error.LdError.{LdError}
use Rattle.lf_model.specs.declared.error.LdError.TheVariants.{InvalidFrame}
use Rattle.lf_model.specs.JsonData.{JsonValue, JsonMembers, object}
use Rattle.lf_model.specs.declared.table.TermTable.{TermTable}
use Rattle.def_nested.specs.Nested.{Nested}
use Rattle.def_contexts.specs.Outcomes.{◌>>=◌}
use Rattle.def_contexts.specs.SubFrames.{top_frame}
use Rattle.def_contexts.specs.Frames.{FrameMeaning, without_key, unwrapped, has_graph}

-- a map's members, without its context where it has one of its own
abbrev pub shown : Bool → JsonMembers → JsonMembers
shown true given = without_key (codes "@context") given
shown false given = given

abbrev pub map_alone : JsonValue → Result JsonMembers LdError
map_alone (object given) = Ok given
map_alone _ = Err InvalidFrame

-- the nested frame of a frame's map by its term table, and whether a key is `@graph`
abbrev pub maps_by : TermTable → JsonMembers → Result (Nested × Bool) LdError
maps_by table given = do
  inner ← unwrapped table given
  sub ← top_frame table inner
  Ok (sub, has_graph table given)

-- the meaning of a frame by its context and its term table
abbrev pub framed : JsonValue → TermTable → JsonMembers → Result FrameMeaning LdError
framed context table given = do
  maps ← maps_by table given
  Ok (record { nested = maps.0; table = table; context = context; top_graph = maps.1 })
