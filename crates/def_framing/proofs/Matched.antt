-- Wildcards and frames without entries.
use Rattle.std.proofs.Common.{◌≡◌, ℕ, true, false, not, ◌&&◌, inl, inr, List, [], Option, Some, None, is_some, refl, ap}
use Rattle.std.specs.List.{list_any}
use Rattle.lf_rdf.specs.declared.question.GraphRef.{GraphRef}
use Rattle.def_datasets.specs.Views.{View}
use Rattle.def_nested.specs.Nested.{Props, no_props, prop}
use Rattle.def_framing.specs.Views.{Views, values_under}
use Rattle.def_framing.specs.Matching.{accepts, kind_accepts, prop_tests, key_matches, is_empty, is_refused, is_match_none}
use Rattle.def_framing.specs.Outcome.{outcome_in}
use Rattle.def_framing.specs.Laws.{WildAcceptsAll, NodeFrameAcceptsMatches, EmptyMatchesKeys, AsksAbsence, PresentIsRefused, SameViewsSameTree}
use Rattle.def_framing.proofs.Bools.{either_way, or_true_second}

pub wild_accepts : WildAcceptsAll
unfolding accepts kind_accepts prop_tests
wild_accepts views graph flags props back within held = refl

pub node_frame_matches : NodeFrameAcceptsMatches
unfolding accepts kind_accepts prop_tests
node_frame_matches views graph flags props back within = (λ id. refl, λ term. refl, λ items. refl)

pub empty_matches : EmptyMatchesKeys
unfolding accepts kind_accepts prop_tests
empty_matches views graph flags back within kind id no_id no_types = decided (views.view graph id)
  where
    decided : (seen : Option View) → key_matches flags [] id seen ≡ is_some seen
    decided None = refl
    decided (Some view) = rw (no_id, no_types) (either_way flags.require_all)

-- a property with match-none that the node has refuses it
refusing :
    (views : Views) (graph : GraphRef) (view : View) (property : List ℕ) (props : Props) →
    is_empty (values_under view property) ≡ false → AsksAbsence props property →
    list_any (is_refused view) (prop_tests views graph props) ≡ true
unfolding accepts kind_accepts prop_tests
refusing views graph view property no_props has absent = absurd absent
refusing views graph view property (prop name sub rest) has (inl same) = rw (same.0, same.1, has) refl
refusing views graph view property (prop name sub rest) has (inr later) =
    or_true_second (is_match_none sub && not (is_empty (values_under view name))) _
    (refusing views graph view property rest has later)

pub present_refused : PresentIsRefused
unfolding accepts kind_accepts prop_tests
present_refused views graph flags props back within kind id view property seen has absent =
    rw (seen, refusing views graph view property props has absent) refl

-- views that give the same are the same
pub same_views : SameViewsSameTree
same_views one two view keys pointing names form graph id = ap (λ views. outcome_in views form graph id) joined
  where
    joined : one ≡ two
    joined =
        λ i. record {
          view = λ graph id. view graph id i;
          keys = λ graph. keys graph i;
          pointing = λ graph property id. pointing graph property id i;
          names_graph = λ name. names name i;
        }
