-- The verdict of a map's entries on a node, by cases of its tests.
use Rattle.std.proofs.Common.{◌≡◌, Bool, true, false, not, ◌&&◌, ◌||◌, if◌then◌else◌, List, [], ◌∷◌, refl, ap, ◌∙◌, map}
use Rattle.std.proofs.lemmas.List.Folds.{list_all-map}
use Rattle.std.specs.List.{list_all, list_any}
use Rattle.lf_rdf.specs.declared.term.Term.{Term}
use Rattle.lf_rdf.specs.declared.question.GraphRef.{GraphRef}
use Rattle.lf_model.specs.declared.frame.FrameProp.{FrameProp}
use Rattle.def_nested.specs.Nested.{Flags}
use Rattle.def_nested.specs.Unfolding.{Numbered}
use Rattle.def_datasets.specs.Views.{View}
use Rattle.def_framing.specs.Views.{Views}
use Rattle.def_framing.specs.Matching.{PropTest, id_matches, is_empty, is_refused, prop_allows, prop_matches, tests_id, tests_types, types_match, view_matches}
use Rattle.std.proofs.Math.Bool.{or-false}
use Rattle.lf_match.specs.declared.verdict.Verdict.TheVariants as verdict
use Rattle.lf_match.specs.Rows.{all_props, all_verdict, any_prop, decided, fits_verdict, is_unwanted, prop_test, props_verdict, row_tests, verdict_of}

any_tests : {A : Type 0} (p : PropTest → Bool) (f : A → PropTest) (xs : List A) → list_any p (map f xs) ≡ list_any (λ x. p (f x)) xs
any_tests p f [] = refl
any_tests p f (x ∷ xs) = ap (λ b. p (f x) || b) (any_tests p f xs)

bare_tests : {A : Type 0} (f : A → PropTest) (xs : List A) → is_empty (map f xs) ≡ is_empty xs
bare_tests f [] = refl
bare_tests f (x ∷ xs) = refl

-- a node's match by its tests, with what the properties come to as variables
abbrev shape : Flags → Term → View → Bool → Bool → Bool → Bool → Bool
shape flags id view unwanted every bare one =
    not unwanted
    && ((flags.require_all && (id_matches flags.ids id && types_match flags.types view.types && every))
    || (not flags.require_all
    && ((tests_id flags.ids && id_matches flags.ids id)
    || (not (tests_id flags.ids) && tests_types flags.types && types_match flags.types view.types)
    || (not (tests_id flags.ids) && not (tests_types flags.types) && (bare || one)))))

-- the tests one by one
module _ (views : Views) (graph : GraphRef) (sub : Numbered) (view : View) (props : List FrameProp) where
  abbrev every_prop : Bool
  every_prop = all_props views graph sub view props

  abbrev one_prop : Bool
  one_prop = any_prop views graph sub view props

  by_tests : (unwanted all asks_id fits_id asks_types fits_types bare : Bool) →
      (not unwanted
      && ((all && (fits_id && fits_types && every_prop))
      || (not all
      && ((asks_id && fits_id) || (not asks_id && asks_types && fits_types) || (not asks_id && not asks_types && (bare || one_prop))))))
      ≡ decided
      (if unwanted then verdict.Refused
      else if all then all_verdict (fits_id && fits_types)
      else if asks_id then fits_verdict fits_id
      else if asks_types then fits_verdict fits_types else props_verdict bare) views graph sub view props
  by_tests true all asks_id fits_id asks_types fits_types bare = refl
  by_tests false true asks_id true asks_types true bare = or-false every_prop
  by_tests false true asks_id true asks_types false bare = refl
  by_tests false true asks_id false asks_types fits_types bare = refl
  by_tests false false true true asks_types fits_types bare = refl
  by_tests false false true false asks_types fits_types bare = refl
  by_tests false false false fits_id true true bare = refl
  by_tests false false false fits_id true false bare = refl
  by_tests false false false fits_id false fits_types true = refl
  by_tests false false false fits_id false fits_types false = refl

pub verdict_holds :
    (views : Views) (graph : GraphRef) (sub : Numbered) (props : List FrameProp) (flags : Flags) (id : Term) (view : View) →
    view_matches flags (row_tests views graph sub props) id view
    ≡ decided (verdict_of (list_any (is_unwanted sub view) props) (is_empty props) flags id view.types) views graph sub view props
verdict_holds views graph sub props flags id view =
    joined
    ∙ by_tests views graph sub view props (list_any (is_unwanted sub view) props) flags.require_all (tests_id flags.ids) (id_matches flags.ids id)
    (tests_types flags.types) (types_match flags.types view.types) (is_empty props)
  where
    refused : list_any (is_refused view) (row_tests views graph sub props) ≡ list_any (is_unwanted sub view) props
    refused = any_tests (is_refused view) (prop_test views graph sub) props

    every : list_all (prop_allows view) (row_tests views graph sub props) ≡ all_props views graph sub view props
    every = list_all-map (prop_allows view) (prop_test views graph sub) props

    one : list_any (prop_matches view) (row_tests views graph sub props) ≡ any_prop views graph sub view props
    one = any_tests (prop_matches view) (prop_test views graph sub) props

    bare : is_empty (row_tests views graph sub props) ≡ is_empty props
    bare = bare_tests (prop_test views graph sub) props

    joined : view_matches flags (row_tests views graph sub props) id view
        ≡ shape flags id view (list_any (is_unwanted sub view) props) (all_props views graph sub view props) (is_empty props) (any_prop views graph sub view props)
    joined = λ i. shape flags id view (refused i) (every i) (bare i) (one i)
