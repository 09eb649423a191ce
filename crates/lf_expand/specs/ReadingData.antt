-- What a program has read of a map's keys, as the definitions see it.
use Rattle.std.specs.Prelude.{◌≡◌, ◌<◌, ℕ, Bool, true, false, ◌||◌, List, [], ◌∷◌, length, Option, Some, None, is_some, Result, Ok, Err}
use Rattle.std.specs.Option.{option_map}
use Rattle.lf_sorted.specs.declared.map.Entry.{Entry}
use Rattle.lf_sorted.specs.Entries.{put_entry, value_at}
use Rattle.lf_model.specs.declared.frame.ValuePattern.{ValuePattern}
use Rattle.lf_model.specs.declared.frame.FrameKind.{FrameKind}
use Rattle.lf_model.specs.declared.frame.FrameKind.TheVariants as frame_kind
use Rattle.lf_model.specs.declared.error.LdError.{LdError}
use Rattle.lf_expand.specs.declared.error.FrameErr.{FrameErr}
use Rattle.lf_expand.specs.declared.class.MapClass.{MapClass}
use Rattle.lf_expand.specs.declared.class.MapClass.TheVariants as class
use Rattle.lf_expand.specs.declared.found.Found.{Found}
use Rattle.lf_expand.specs.declared.found.Found.TheVariants as found
use Rattle.lf_expand.specs.declared.reading.Reading as program
use Rattle.lf_expand.specs.declared.rows.Row.{Row}
use Rattle.def_nested.specs.Nested.{Nested, match_none}
use Rattle.def_nested.specs.Unfolding.{Numbered, build_within}
use Rattle.def_contexts.specs.Keywords.{one_of}
use Rattle.def_contexts.specs.ValuePatterns.{no_pattern, pattern_of}
use Rattle.def_contexts.specs.GivenValues.{Given, reference, plain_value}
use Rattle.lf_model.specs.declared.frame.IdTest.TheVariants as id_test
use Rattle.def_contexts.specs.Readings.{Reading}
use Rattle.def_contexts.specs.Places.{Place, takes_maps_alone}
use Rattle.lf_expand.specs.Gives.{Fails}
use Rattle.lf_expand.specs.RowData.{flags_data, plain_flags, plain_row, seen_props, seen_reverses, built, IsBelow, PropsWithin, ReversesWithin, Keeps}

abbrev pub has_key : {T : Type 0} → List ℕ → List (Entry T) → Bool
has_key key entries = is_some (value_at key entries)

abbrev pub unread : program.Reading
unread =
    record {
      flags = plain_flags;
      props = [];
      dropped = [];
      reverse = [];
      graph = None;
      pattern = no_pattern;
      item = None;
      keywords = [];
      flags_alone = true;
    }

abbrev pub keyword_added : List ℕ → program.Reading → program.Reading
keyword_added name r = record r { keywords = put_entry name true r.keywords }

abbrev pub property_given : List ℕ → Found → program.Reading → program.Reading
property_given iri found.Dropped r = record r { dropped = put_entry iri true r.dropped }
property_given iri found.MatchNone r =
    record r { props = put_entry iri None r.props; flags_alone = false }
property_given iri (found.Numbered n) r =
    record r { props = put_entry iri (Some n) r.props; flags_alone = false }

abbrev pub reverse_given : List ℕ → ℕ → program.Reading → program.Reading
reverse_given iri n r = record r { reverse = put_entry iri n r.reverse; flags_alone = false }

abbrev pub number_of : Found → Option ℕ
number_of found.Dropped = None
number_of found.MatchNone = None
number_of (found.Numbered n) = Some n

abbrev pub graph_given : Found → program.Reading → program.Reading
graph_given f r = record r { graph = number_of f; flags_alone = false }

abbrev pub item_given : Found → program.Reading → program.Reading
item_given f r = record r { item = number_of f }

abbrev pub wild_or_node : Bool → FrameKind
wild_or_node true = frame_kind.Wild
wild_or_node false = frame_kind.Node

abbrev pub kind_of : MapClass → ValuePattern → Option ℕ → Bool → FrameKind
kind_of class.Value pattern item alone = frame_kind.Value pattern
kind_of class.List pattern item alone = frame_kind.List item
kind_of class.Set pattern item alone = wild_or_node alone
kind_of class.Node pattern item alone = wild_or_node alone

abbrev pub row_of : MapClass → program.Reading → Row
row_of class r =
    record {
      flags = r.flags;
      props = r.props;
      reverse = r.reverse;
      graph = r.graph;
      kind = kind_of class r.pattern r.item r.flags_alone;
    }

-- the keywords, properties and reverse properties that were read, the last one first
pub record Lists : Type 0 where
  pub keywords : List (List ℕ)
  pub properties : List (List ℕ)
  pub reversed : List (List ℕ)

-- what was read, by what its numbers stand for and by what was read in which order
abbrev pub reading_of : Numbered → program.Reading → Lists → Reading
reading_of sub r lists =
    record {
      flags = flags_data r.flags;
      props = seen_props sub r.props;
      reverses = seen_reverses sub r.reverse;
      within = build_within sub r.graph;
      pattern = r.pattern;
      item = option_map sub r.item;
      keywords = lists.keywords;
      properties = lists.properties;
      reversed = lists.reversed;
      flags_alone = r.flags_alone;
    }

-- the maps of keys tell which were read, and their numbers lie below a bound
pub record Tells (bound : ℕ) (keywords dropped : List (Entry Bool))
    (props : List (Entry (Option ℕ))) (reverse : List (Entry ℕ)) (graph item : Option ℕ)
    (lists : Lists) : Type 0 where
  pub keyword : (name : List ℕ) → one_of lists.keywords name ≡ has_key name keywords
  pub property :
      (iri : List ℕ) → one_of lists.properties iri ≡ (has_key iri props || has_key iri dropped)
  pub reversed : (iri : List ℕ) → one_of lists.reversed iri ≡ has_key iri reverse
  pub props_within : PropsWithin bound props
  pub reverses_within : ReversesWithin bound reverse
  pub graph_within : IsBelow graph bound
  pub item_within : IsBelow item bound

abbrev pub Told : ℕ → program.Reading → Lists → Type 0
Told bound r lists = Tells bound r.keywords r.dropped r.props r.reverse r.graph r.item lists

-- what a value was read as
abbrev pub found_data : Numbered → Found → Option Nested
found_data sub found.Dropped = None
found_data sub found.MatchNone = Some match_none
found_data sub (found.Numbered n) = Some (sub n)

abbrev pub FoundWithin : ℕ → Found → Type 0
FoundWithin bound found.Dropped = Unit {0}
FoundWithin bound found.MatchNone = Unit {0}
FoundWithin bound (found.Numbered n) = n < bound

-- where maps alone stand nothing is match-none
abbrev pub IsMapWhere : Bool → Found → Type 0
IsMapWhere true found.MatchNone = ⊥
IsMapWhere true found.Dropped = Unit {0}
IsMapWhere true (found.Numbered n) = Unit {0}
IsMapWhere false f = Unit {0}

pub record IsFound (old new : List Row) (place : Place) (f : Found)
    (defined : Result (Option Nested) LdError) : Type 0 where
  pub keeps : Keeps old new
  pub is : defined ≡ Ok (found_data (built new) f)
  pub within : FoundWithin (length new) f
  pub maps : IsMapWhere (takes_maps_alone place) f

-- what reading a value answers
abbrev pub Finds :
    List Row → List Row → Place → Result Found FrameErr → Result (Option Nested) LdError → Type 0
Finds old new place (Ok f) defined = IsFound old new place f defined
Finds old new place (Err e) defined = Fails e defined

pub record IsRead (old new : List Row) (r : program.Reading) (defined : Result Reading LdError) :
    Type 0 where
  pub keeps : Keeps old new
  pub lists : Lists
  pub is : defined ≡ Ok (reading_of (built new) r lists)
  pub tells : Told (length new) r lists

-- what reading keys answers
abbrev pub Reads :
    {U : Type 0} → List Row → List Row → program.Reading → Result U FrameErr →
    Result Reading LdError → Type 0
Reads old new r (Ok _) defined = IsRead old new r defined
Reads old new r (Err e) defined = Fails e defined

-- a map that asks for what was given
abbrev pub given_row : Given → Row
given_row (reference node) =
    record (plain_row frame_kind.Node)
    { flags = record plain_flags { ids = id_test.OneOf (node ∷ []) } }
given_row (plain_value s datatype language) =
    plain_row (frame_kind.Value (pattern_of s datatype language))
