-- Which values a sub-frame accepts and which nodes a frame matches (JSON-LD 1.1 Framing, section 4:
-- frame matching).
use Rattle.std.specs.Prelude.{List, [], ◌∷◌, ℕ, Bool, true, false, not, ◌&&◌, ◌||◌, Option, Some, None, is_some}
use Rattle.std.specs.List.{list_any, list_all}
use Rattle.lf_rdf.specs.declared.term.Term.{Term}
use Rattle.lf_rdf.specs.declared.question.GraphRef.{GraphRef}
use Rattle.lf_rdf.specs.Equality.{term_eq}
use Rattle.lf_model.specs.ValueData.{ListValue, literal, reference, list, values_list}
use Rattle.lf_model.specs.declared.frame.IdTest.{IdTest}
use Rattle.lf_model.specs.declared.frame.IdTest.TheVariants as id_test
use Rattle.lf_model.specs.declared.frame.TypeTest.{TypeTest}
use Rattle.lf_model.specs.declared.frame.TypeTest.TheVariants as type_test
use Rattle.def_nested.specs.Nested.{Flags, Nested, Props, Kind, match_none, frame_map, no_props, prop, wild, node_frame, value_pattern, list_pattern, list_pattern_of, flags_of}
use Rattle.def_datasets.specs.Views.{View}
use Rattle.def_framing.specs.Views.{Views, values_under}
use Rattle.def_framing.specs.ValuePatterns.{accepts_literal}

-- a term is among these
abbrev pub among : List Term → Term → Bool
among terms term = list_any (term_eq term) terms

-- a list has no element
abbrev pub is_empty : {A : Type 0} → List A → Bool
is_empty [] = true
is_empty (first ∷ rest) = false

-- the id test is an entry of the frame
abbrev pub tests_id : IdTest → Bool
tests_id id_test.Absent = false
tests_id id_test.Any = true
tests_id id_test.Never = true
tests_id (id_test.OneOf _) = true

-- the type test is an entry of the frame
abbrev pub tests_types : TypeTest → Bool
tests_types type_test.Absent = false
tests_types type_test.Any = true
tests_types type_test.Never = true
tests_types (type_test.OneOf _) = true
tests_types (type_test.Fallback _) = true

-- the id test matches a node; an absent one is no entry
abbrev pub id_matches : IdTest → Term → Bool
id_matches id_test.Absent id = true
id_matches id_test.Any id = true
id_matches id_test.Never id = false
id_matches (id_test.OneOf ids) id = among ids id

-- the type test matches a node by its types; a type default matches every node, and an absent test
-- is no entry
abbrev pub types_match : TypeTest → List Term → Bool
types_match type_test.Absent types = true
types_match type_test.Any types = not (is_empty types)
types_match type_test.Never types = is_empty types
types_match (type_test.OneOf wanted) types = list_any (among wanted) types
types_match (type_test.Fallback _) types = true

-- a property of a frame, as matching sees it: its sub-frame is match-none, has a default, accepts a
-- value
pub record PropTest : Type 0 where
  pub property : List ℕ
  pub is_none : Bool
  pub has_default : Bool
  pub accepts : ListValue → Bool

-- the node has the property
abbrev pub has_property : View → PropTest → Bool
has_property view test = not (is_empty (values_under view test.property))

-- a property matches a node: match-none where the node lacks it, another where its sub-frame
-- accepts a value
abbrev pub prop_matches : View → PropTest → Bool
prop_matches view test =
    (test.is_none && not (has_property view test))
    || (not test.is_none && list_any test.accepts (values_under view test.property))

-- with `@requireAll` the node may lack a property whose sub-frame has a default
abbrev pub prop_allows : View → PropTest → Bool
prop_allows view test = prop_matches view test || (test.has_default && not (has_property view test))

-- a match-none property is present
abbrev pub is_refused : View → PropTest → Bool
is_refused view test = test.is_none && has_property view test

-- every entry matches
abbrev pub all_match : Flags → List PropTest → Term → View → Bool
all_match flags tests id view =
    id_matches flags.ids id && types_match flags.types view.types
    && list_all (prop_allows view) tests

-- the properties decide where there is no other entry: one that matches suffices, and without any
-- all is matched
abbrev pub props_match : List PropTest → View → Bool
props_match tests view = is_empty tests || list_any (prop_matches view) tests

-- the id test decides where there is one, else the type test where there is one, else the
-- properties
abbrev pub some_match : Flags → List PropTest → Term → View → Bool
some_match flags tests id view =
    (tests_id flags.ids && id_matches flags.ids id)
    || (not (tests_id flags.ids) && tests_types flags.types && types_match flags.types view.types)
    || (not (tests_id flags.ids) && not (tests_types flags.types) && props_match tests view)

-- the entries of a frame match a node
abbrev pub view_matches : Flags → List PropTest → Term → View → Bool
view_matches flags tests id view =
    not (list_any (is_refused view) tests)
    && ((flags.require_all && all_match flags tests id view)
    || (not flags.require_all && some_match flags tests id view))

-- the entries of a frame match a key; what is no key of the graph isn't matched
abbrev pub key_matches : Flags → List PropTest → Term → Option View → Bool
key_matches flags tests id None = false
key_matches flags tests id (Some view) = view_matches flags tests id view

abbrev pub is_match_none : Nested → Bool
is_match_none match_none = true
is_match_none (frame_map _ _ _ _ _) = false

abbrev pub is_wild : Nested → Bool
is_wild match_none = false
is_wild (frame_map _ _ _ _ wild) = true
is_wild (frame_map _ _ _ _ node_frame) = false
is_wild (frame_map _ _ _ _ (value_pattern _)) = false
is_wild (frame_map _ _ _ _ list_pattern) = false
is_wild (frame_map _ _ _ _ (list_pattern_of _)) = false

-- only the acceptance of a value by a sub-frame recurs
unfoldable mutual
  -- a sub-frame accepts a value in a graph
  pub accepts : Views → GraphRef → Nested → ListValue → Bool
  accepts views graph match_none held = false
  accepts views graph (frame_map flags props _ _ kind) held =
      kind_accepts views graph kind
      (λ id. key_matches flags (prop_tests views graph props) id (views.view graph id)) held

  -- a wildcard accepts all, a node frame the references to nodes that match it, a value pattern
  -- literals, and a list pattern a list where it has no item pattern, or one that is wild or
  -- accepts an item
  pub kind_accepts : Views → GraphRef → Kind → (Term → Bool) → ListValue → Bool
  kind_accepts views graph wild matched held = true
  kind_accepts views graph node_frame matched (reference id) = matched id
  kind_accepts views graph node_frame matched (literal _) = false
  kind_accepts views graph node_frame matched (list _) = false
  kind_accepts views graph (value_pattern pattern) matched (literal term) =
      accepts_literal pattern term
  kind_accepts views graph (value_pattern pattern) matched (reference _) = false
  kind_accepts views graph (value_pattern pattern) matched (list _) = false
  kind_accepts views graph list_pattern matched (list _) = true
  kind_accepts views graph list_pattern matched (literal _) = false
  kind_accepts views graph list_pattern matched (reference _) = false
  kind_accepts views graph (list_pattern_of item) matched (list items) =
      is_wild item || list_any (accepts views graph item) (values_list items)
  kind_accepts views graph (list_pattern_of item) matched (literal _) = false
  kind_accepts views graph (list_pattern_of item) matched (reference _) = false

  -- the properties of a frame as tests
  pub prop_tests : Views → GraphRef → Props → List PropTest
  prop_tests views graph no_props = []
  prop_tests views graph (prop property sub rest) =
      record {
        property = property;
        is_none = is_match_none sub;
        has_default = is_some (flags_of sub).fallback;
        accepts = accepts views graph sub;
      }
      ∷ prop_tests views graph rest

-- a frame matches a node of a graph
abbrev pub matches : Views → GraphRef → Nested → Term → Bool
matches views graph match_none id = false
matches views graph (frame_map flags props _ _ _) id =
    key_matches flags (prop_tests views graph props) id (views.view graph id)
