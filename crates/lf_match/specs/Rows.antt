-- The rows of a frame's table: which map a number names for another map, and its properties as
-- tests (JSON-LD 1.1 Framing, section 4.1: the value of a property is a sub-frame).
use Rattle.std.specs.Prelude.{◌≡◌, ◌<◌, ◌&&◌, not, if◌then◌else◌, List, ℕ, Bool, true, false, ◌||◌, Option, Some, None, is_some, length, map}
use Rattle.std.specs.List.{list_all, list_any}
use Rattle.lf_rdf.specs.declared.question.GraphRef.{GraphRef}
use Rattle.lf_rdf.specs.declared.term.Term.{Term}
use Rattle.lf_model.specs.declared.value.Value.{Value}
use Rattle.lf_model.specs.ValueBridge.{value_data}
use Rattle.lf_model.specs.declared.frame.FrameNode.{FrameNode}
use Rattle.lf_model.specs.declared.frame.FrameKind.{FrameKind}
use Rattle.lf_model.specs.declared.frame.FrameKind.TheVariants as frame_kind
use Rattle.lf_model.specs.declared.frame.FrameProp.{FrameProp}
use Rattle.def_nested.specs.Nested.{Flags, Kind, list_pattern, list_pattern_of, flags_of}
use Rattle.def_nested.specs.Unfolding.{Numbered, above, nested, sub_frame}
use Rattle.def_datasets.specs.Views.{View}
use Rattle.def_framing.specs.Views.{Views, values_under}
use Rattle.def_framing.specs.Matching.{PropTest, accepts, id_matches, is_empty, is_match_none, is_wild, prop_allows, prop_matches, tests_id, tests_types, types_match}
use Rattle.lf_match.specs.declared.verdict.Verdict.{Verdict}
use Rattle.lf_match.specs.declared.verdict.Verdict.TheVariants as verdict

-- a map is the one that a number names for the map `at`: it stands later in the table, and the
-- number stands for what it unfolds to
pub record IsRowFor (rows : List FrameNode) (at : ℕ) (number : Option ℕ) (later : ℕ) : Type 0 where
  pub follows : at < later
  pub within : later < length rows
  pub stands : sub_frame (above at (nested rows)) number ≡ nested rows later

-- a property of a map as matching sees it, by what its numbers stand for
abbrev pub prop_test : Views → GraphRef → Numbered → FrameProp → PropTest
prop_test views graph sub p =
    record {
      property = p.property;
      is_none = is_match_none (sub_frame sub p.frame);
      has_default = is_some (flags_of (sub_frame sub p.frame)).fallback;
      accepts = accepts views graph (sub_frame sub p.frame);
    }

-- the kind of a list pattern, by what its number stands for
abbrev pub list_kind : Numbered → Option ℕ → Kind
list_kind sub None = list_pattern
list_kind sub (Some number) = list_pattern_of (sub number)

-- a list pattern accepts a list of these items
abbrev pub list_accepted : Views → GraphRef → Numbered → Option ℕ → List Value → Bool
list_accepted views graph sub None items = true
list_accepted views graph sub (Some number) items =
    is_wild (sub number) || list_any (λ v. accepts views graph (sub number) (value_data v)) items

-- the properties of a map as tests
abbrev pub row_tests : Views → GraphRef → Numbered → List FrameProp → List PropTest
row_tests views graph sub props = map (prop_test views graph sub) props

-- one of the properties matches a node, by a view of it
abbrev pub any_prop : Views → GraphRef → Numbered → View → List FrameProp → Bool
any_prop views graph sub view props =
    list_any (λ p. prop_matches view (prop_test views graph sub p)) props

-- each matches, or the node may lack it
abbrev pub all_props : Views → GraphRef → Numbered → View → List FrameProp → Bool
all_props views graph sub view props =
    list_all (λ p. prop_allows view (prop_test views graph sub p)) props

-- a property that is to be absent stands in the view
abbrev pub is_unwanted : Numbered → View → FrameProp → Bool
is_unwanted sub view p =
    is_match_none (sub_frame sub p.frame) && not (is_empty (values_under view p.property))

-- a node may lack the property: it does, and the sub-frame has a default
abbrev pub may_lack : Numbered → View → FrameProp → Bool
may_lack sub view p =
    is_some (flags_of (sub_frame sub p.frame)).fallback
    && not (not (is_empty (values_under view p.property)))

-- matched exactly where a test fits
abbrev pub fits_verdict : Bool → Verdict
fits_verdict true = verdict.Matched
fits_verdict false = verdict.Refused

abbrev pub all_verdict : Bool → Verdict
all_verdict true = verdict.AllProps
all_verdict false = verdict.Refused

abbrev pub props_verdict : Bool → Verdict
props_verdict true = verdict.Matched
props_verdict false = verdict.AnyProp

-- the verdict of a map's entries on a node, by whether an unwanted property stands there and
-- whether the map has no property
abbrev pub verdict_of : Bool → Bool → Flags → Term → List Term → Verdict
verdict_of unwanted bare flags id types =
    if unwanted then verdict.Refused
    else if flags.require_all then all_verdict
    (id_matches flags.ids id && types_match flags.types types)
    else if tests_id flags.ids then fits_verdict (id_matches flags.ids id)
    else if tests_types flags.types then fits_verdict (types_match flags.types types) else
    props_verdict bare

-- what a verdict on a node comes to, where the properties still have to be tried
abbrev pub decided : Verdict → Views → GraphRef → Numbered → View → List FrameProp → Bool
decided verdict.Refused views graph sub view props = false
decided verdict.Matched views graph sub view props = true
decided verdict.AllProps views graph sub view props = all_props views graph sub view props
decided verdict.AnyProp views graph sub view props = any_prop views graph sub view props

-- a kind is a wildcard
abbrev pub kind_is_wild : FrameKind → Bool
kind_is_wild frame_kind.Wild = true
kind_is_wild frame_kind.Node = false
kind_is_wild (frame_kind.Value pattern) = false
kind_is_wild (frame_kind.List item) = false
