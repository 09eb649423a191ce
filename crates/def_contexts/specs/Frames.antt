-- Frames (JSON-LD 1.1 Framing, sections 4.1 and 5.2: a frame is a map or an array of one map).
use Rattle.std.specs.Prelude.{List, ℕ, Bool, false, ◌||◌, unwrap_or, Result, Ok, Err, codes, if◌then◌else◌}
use Rattle.lf_rdf.specs.Equality.{text_eq}
use Rattle.lf_model.specs.declared.table.TermTable.{TermTable}
use Rattle.lf_model.specs.declared.error.LdError.{LdError}
use Rattle.lf_model.specs.declared.error.LdError.TheVariants.{InvalidFrame}
use Rattle.lf_model.specs.JsonData.{JsonValue, JsonMembers, null, array, object, no_items, item, no_members, member}
use Rattle.def_nested.specs.Nested.{Nested}
use Rattle.def_contexts.specs.Outcomes.{◌>>=◌}
use Rattle.def_contexts.specs.Members.{value_of}
use Rattle.def_contexts.specs.Table.{table_of}
use Rattle.def_contexts.specs.FrameKeys.{meaning_of, is_the_keyword}
use Rattle.def_contexts.specs.SubFrames.{top_frame}

-- what a frame text means: its top frame, its terms, its `@context` (null where there is none), and
-- whether a key of its top map is `@graph`
pub record FrameMeaning : Type 0 where
  pub nested : Nested
  pub table : TermTable
  pub context : JsonValue
  pub top_graph : Bool

-- a map or an array of at most one map; the empty array is the empty map
abbrev pub one_map : JsonValue → Result JsonMembers LdError
one_map (object members) = Ok members
one_map (array no_items) = Ok no_members
one_map (array (item (object members) no_items)) = Ok members
one_map _ = Err InvalidFrame

abbrev pub without_key : List ℕ → JsonMembers → JsonMembers
without_key key no_members = no_members
without_key key (member own value rest) =
    if text_eq key own then without_key key rest else member own value (without_key key rest)

abbrev pub is_graph_key : TermTable → List ℕ → Bool
is_graph_key table key = is_the_keyword (codes "@graph") (meaning_of table key)

-- whether a key of the map is `@graph`
abbrev pub has_graph : TermTable → JsonMembers → Bool
has_graph table no_members = false
has_graph table (member key value rest) = is_graph_key table key || has_graph table rest

-- where `@graph` is the only key, its value is the frame
abbrev pub unwrapped : TermTable → JsonMembers → Result JsonMembers LdError
unwrapped table (member key value no_members) =
    if is_graph_key table key then one_map value else Ok (member key value no_members)
unwrapped table members = Ok members

-- a frame by its own context
abbrev pub frame_by : JsonValue → JsonMembers → Result FrameMeaning LdError
frame_by context members = do
  table ← table_of context
  inner ← unwrapped table members
  nested ← top_frame table inner
  Ok (record
      { nested = nested; table = table; context = context; top_graph = has_graph table members })

-- the meaning of a frame, or its error
unfoldable pub frame_of : JsonValue → Result FrameMeaning LdError
frame_of frame = do
  members ← one_map frame
  frame_by (unwrap_or (value_of (codes "@context") members) null)
      (without_key (codes "@context") members)
