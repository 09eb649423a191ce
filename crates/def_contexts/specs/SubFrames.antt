-- Sub-frames (JSON-LD 1.1 Framing, section 4.1: frame objects, value patterns and list patterns).
use Rattle.std.specs.Prelude.{Bool, true, false, not, ◌&&◌, Option, Some, Result, Ok, Err, codes}
use Rattle.lf_model.specs.declared.table.TermTable.{TermTable}
use Rattle.lf_model.specs.declared.scalar.Scalar.TheVariants as scalar
use Rattle.lf_model.specs.declared.error.LdError.{LdError}
use Rattle.lf_model.specs.declared.error.LdError.TheVariants.{InvalidFrame, InvalidReverseValue}
use Rattle.lf_model.specs.JsonData.{JsonValue, JsonItems, JsonMembers, null, truth, whole, fraction, text, array, object, no_items, item, no_members, member}
use Rattle.def_nested.specs.Nested.{Nested}
use Rattle.def_contexts.specs.Outcomes.{◌>>=◌, refuse}
use Rattle.def_contexts.specs.FrameKeys.{MapClass, value_map, list_map, set_map, node_map, meaning_of, is_the_keyword, class_of, are_all_keywords}
use Rattle.def_contexts.specs.Places.{Place, of_reverse, of_top, term_at, place_error, under_language, placed, null_at, empty_at, scalar_at, is_array_too_deep}
use Rattle.def_contexts.specs.MapReading.{read_key, read_reverse_key}
use Rattle.def_contexts.specs.Readings.{Reading, Reader, unread, frame_read}

-- the sub-frame of a map whose keys a reader reads
abbrev pub map_read : MapClass → Place → Result Reading LdError → Result (Option Nested) LdError
map_read class place done = do
  reading ← done
  Ok (Some (placed place (frame_read class reading)))

-- a map at a place, by what it is: the value of `@set` stands for its map, and a reverse property
-- takes no pattern
abbrev pub map_by_class :
    MapClass → Place → (MapClass → Result Reading LdError) → Reader → Result (Option Nested) LdError
map_by_class set_map place read set = set place
map_by_class value_map of_reverse read set = Err InvalidReverseValue
map_by_class value_map place read set = map_read value_map place (read value_map)
map_by_class list_map of_reverse read set = Err InvalidReverseValue
map_by_class list_map place read set = map_read list_map place (read list_map)
map_by_class node_map place read set = map_read node_map place (read node_map)

-- under a term with the container `@language` a map has keywords alone
abbrev pub map_at :
    TermTable → JsonMembers → Place → (MapClass → Result Reading LdError) → Reader →
    Result (Option Nested) LdError
map_at table members place read set = do
  _ ← refuse (under_language (term_at place) && not (are_all_keywords table members)) InvalidFrame
  map_by_class (class_of table members) place read set

-- the value of the first key that is `@set`
abbrev pub set_or : Bool → Reader → Reader → Reader
set_or true this rest = this
set_or false this rest = rest

abbrev mutual
  -- a value as a sub-frame at a place, or nothing where it stands for null
  pub sub_frame : TermTable → JsonValue → Place → Result (Option Nested) LdError
  sub_frame table null place = null_at place
  sub_frame table (truth b) place = scalar_at table (scalar.Bool b) place
  sub_frame table (whole n) place = scalar_at table (scalar.Whole n) place
  sub_frame table (text t) place = scalar_at table (scalar.Text t) place
  sub_frame table fraction place = Err (place_error place)
  sub_frame table (array items) place = sub_frame_of_items table items place
  sub_frame table (object members) place =
      map_at table members place (λ class. read_members table members class place unread)
      (set_value table members)

  -- an array of one element is that element
  pub sub_frame_of_items : TermTable → JsonItems → Place → Result (Option Nested) LdError
  sub_frame_of_items table no_items place = Ok (Some (empty_at place))
  sub_frame_of_items table (item value no_items) place = do
    _ ← refuse (is_array_too_deep place value) (place_error place)
    sub_frame table value place
  sub_frame_of_items table (item value (item _ _)) place = Err (place_error place)

  -- the keys of a map, in order
  pub read_members : TermTable → JsonMembers → MapClass → Place → Reading → Result Reading LdError
  read_members table no_members class place reading = Ok reading
  read_members table (member key value rest) class place reading = do
    next ← read_key class (meaning_of table key) table place value (sub_frame table value)
        (reverse_map table value) reading
    read_members table rest class place next

  -- the value of `@set` at a place
  pub set_value : TermTable → JsonMembers → Reader
  set_value table no_members place = Err (place_error place)
  set_value table (member key value rest) place =
      set_or (is_the_keyword (codes "@set") (meaning_of table key)) (sub_frame table value)
      (set_value table rest) place

  -- the value of `@reverse`: a map of reverse properties
  pub reverse_map : TermTable → JsonValue → Reading → Result Reading LdError
  reverse_map table (object members) reading = reverse_members table members reading
  reverse_map table null reading = Err InvalidReverseValue
  reverse_map table (truth b) reading = Err InvalidReverseValue
  reverse_map table (whole n) reading = Err InvalidReverseValue
  reverse_map table fraction reading = Err InvalidReverseValue
  reverse_map table (text t) reading = Err InvalidReverseValue
  reverse_map table (array items) reading = Err InvalidReverseValue

  pub reverse_members : TermTable → JsonMembers → Reading → Result Reading LdError
  reverse_members table no_members reading = Ok reading
  reverse_members table (member key value rest) reading = do
    next ← read_reverse_key (meaning_of table key) (sub_frame table value) reading
    reverse_members table rest next

-- the nested frame of the top map
unfoldable pub top_frame : TermTable → JsonMembers → Result Nested LdError
top_frame table members = do
  reading ← read_members table members node_map of_top unread
  Ok (frame_read node_map reading)
