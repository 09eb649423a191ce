-- What each step of matching comes to, by the definitions, whatever the views of the nodes are.
use Rattle.std.proofs.Common.{◌≡◌, ℕ, Bool, true, false, not, ◌&&◌, ◌||◌, List, [], ◌∷◌, map, slice_get, Option, Some, None, refl, sym, ap, subst, ◌∙◌}
use Rattle.std.specs.List.{list_any}
use Rattle.std.proofs.lemmas.Bool.{or_right}
use Rattle.lf_rdf.specs.declared.term.Term.{Term}
use Rattle.lf_rdf.specs.declared.question.GraphRef.{GraphRef}
use Rattle.lf_model.specs.declared.frame.FrameNode.{FrameNode}
use Rattle.lf_model.specs.declared.frame.FrameProp.{FrameProp}
use Rattle.lf_model.specs.declared.frame.FrameKind.{FrameKind}
use Rattle.lf_model.specs.declared.frame.FrameKind.TheVariants as frame_kind
use Rattle.lf_model.specs.declared.frame.ValuePattern.{ValuePattern}
use Rattle.lf_model.specs.declared.value.Value.{Value}
use Rattle.lf_model.specs.declared.value.Value.TheVariants as v
use Rattle.lf_model.specs.ValueData.{ListValue, literal, reference, list, values_list, values_of}
use Rattle.lf_model.specs.ValueBridge.{value_data, values_data}
use Rattle.lf_model.proofs.ValueLemmas.{value_data-List, value_data-Literal, value_data-Ref}
use Rattle.def_nested.specs.Nested.{Nested, match_none, frame_map}
use Rattle.def_nested.specs.Unfolding.{Numbered, above, build, build_kind, nested, row_flags, sub_frame}
use Rattle.def_datasets.specs.Views.{View}
use Rattle.def_framing.specs.Views.{Views, values_under}
use Rattle.def_framing.specs.ValuePatterns.{accepts_literal}
use Rattle.def_framing.specs.Matching.{accepts, is_empty, is_match_none, is_wild, kind_accepts, matches, prop_allows, prop_matches, prop_tests, view_matches}
use Rattle.lf_match.specs.declared.verdict.Verdict.{Verdict}
use Rattle.lf_match.specs.Rows.{IsRowFor, decided, is_unwanted, list_accepted, list_kind, may_lack, prop_test, verdict_of}
use Rattle.lf_match.specs.Viewed.{matches_viewed}
use Rattle.lf_match.proofs.RowProofs.{built_tests, no_row, row_is_map, with_row}
use Rattle.lf_match.proofs.VerdictProofs.{verdict_holds}

-- ---- a node

pub no_view : (views : Views) (graph : GraphRef) (form : Nested) (id : Term) → None ≡ views.view graph id → false ≡ matches views graph form id
no_view views graph match_none id missing = refl
no_view views graph (frame_map flags props back within kind) id missing = rw (sym missing) refl

pub seen_matches :
    (views : Views) (graph : GraphRef) (form : Nested) (id : Term) (view : View) → Some view ≡ views.view graph id →
    matches_viewed views graph form id view ≡ matches views graph form id
seen_matches views graph match_none id view seen = refl
seen_matches views graph (frame_map flags props back within kind) id view seen = rw (sym seen) refl

pub viewed_no_row :
    (views : Views) (graph : GraphRef) (rows : List FrameNode) (at : ℕ) (id : Term) (view : View) → None ≡ slice_get rows at →
    false ≡ matches_viewed views graph (nested rows at) id view
viewed_no_row views graph rows at id view missing = sym (ap (λ form. matches_viewed views graph form id view) (no_row rows at missing))

-- a row's verdict decides
pub viewed_by_verdict :
    (views : Views) (graph : GraphRef) (rows : List FrameNode) (at : ℕ) (row : FrameNode) (id : Term) (view : View) (verdict : Verdict) →
    Some row ≡ slice_get rows at →
    verdict ≡ verdict_of (list_any (is_unwanted (above at (nested rows)) view) row.props) (is_empty row.props) (row_flags row) id view.types →
    decided verdict views graph (above at (nested rows)) view row.props ≡ matches_viewed views graph (nested rows at) id view
viewed_by_verdict views graph rows at row id view verdict found told =
    sym
    (ap (λ form. matches_viewed views graph form id view) (with_row rows at row found)
    ∙ ap (λ tests. view_matches (row_flags row) tests id view) (built_tests views graph (above at (nested rows)) row.props)
    ∙ verdict_holds views graph (above at (nested rows)) row.props (row_flags row) id view
    ∙ ap (λ other. decided other views graph (above at (nested rows)) view row.props) (sym told))

-- ---- a property

pub lacking :
    (views : Views) (graph : GraphRef) (sub : Numbered) (view : View) (p : FrameProp) → may_lack sub view p ≡ true →
    true ≡ prop_allows view (prop_test views graph sub p)
lacking views graph sub view p lacks = sym (or_right (prop_matches view (prop_test views graph sub p)) (may_lack sub view p) lacks)

pub not_lacking :
    (views : Views) (graph : GraphRef) (sub : Numbered) (view : View) (p : FrameProp) → may_lack sub view p ≡ false →
    prop_matches view (prop_test views graph sub p) ≡ prop_allows view (prop_test views graph sub p)
not_lacking views graph sub view p lacks = go (prop_matches view (prop_test views graph sub p)) ∙ ap (λ b. prop_matches view (prop_test views graph sub p) || b) (sym lacks)
  where
    go : (b : Bool) → b ≡ (b || false)
    go true = refl
    go false = refl

none_matches-form :
    (views : Views) (graph : GraphRef) (view : View) (property : List ℕ) (has : Bool) (held : List ListValue) (form : Nested) → form ≡ match_none →
    not has ≡ ((is_match_none form && not has) || (not (is_match_none form) && list_any (accepts views graph form) held))
none_matches-form views graph view property has held form none = rw none (go has)
  where
    go : (b : Bool) → not b ≡ ((true && not b) || (not true && list_any (accepts views graph match_none) held))
    go true = refl
    go false = refl

pub none_matches :
    (views : Views) (graph : GraphRef) (sub : Numbered) (view : View) (p : FrameProp) (has : Bool) → sub_frame sub p.frame ≡ match_none →
    has ≡ not (is_empty (values_under view p.property)) → not has ≡ prop_matches view (prop_test views graph sub p)
none_matches views graph sub view p has none held =
    subst (λ b. not b ≡ prop_matches view (prop_test views graph sub p)) (sym held)
    (none_matches-form views graph view p.property (not (is_empty (values_under view p.property))) (values_under view p.property) (sub_frame sub p.frame) none)

any_mapped : {A B : Type 0} (p : B → Bool) (f : A → B) (xs : List A) → list_any p (map f xs) ≡ list_any (λ x. p (f x)) xs
any_mapped p f [] = refl
any_mapped p f (x ∷ xs) = ap (λ b. p (f x) || b) (any_mapped p f xs)

some_matches-form :
    (views : Views) (graph : GraphRef) (has : Bool) (held : List ListValue) (form later : Nested) → form ≡ later → is_match_none later ≡ false →
    list_any (accepts views graph later) held ≡ ((is_match_none form && not has) || (not (is_match_none form) && list_any (accepts views graph form) held))
some_matches-form views graph has held form later stands is_map = rw (stands, is_map) refl

pub some_matches :
    (views : Views) (graph : GraphRef) (rows : List FrameNode) (at later : ℕ) (view : View) (p : FrameProp) (values : List Value) →
    IsRowFor rows at p.frame later → map value_data values ≡ values_under view p.property →
    list_any (λ held. accepts views graph (nested rows later) (value_data held)) values
    ≡ prop_matches view (prop_test views graph (above at (nested rows)) p)
some_matches views graph rows at later view p values is_row held =
    sym (any_mapped (accepts views graph (nested rows later)) value_data values)
    ∙ ap (λ xs. list_any (accepts views graph (nested rows later)) xs) held
    ∙ some_matches-form views graph (not (is_empty (values_under view p.property))) (values_under view p.property)
    (sub_frame (above at (nested rows)) p.frame) (nested rows later) is_row.stands (row_is_map rows later is_row.within)

-- ---- a value

pub accepts_no_row :
    (views : Views) (graph : GraphRef) (rows : List FrameNode) (at : ℕ) (held : ListValue) → None ≡ slice_get rows at →
    false ≡ accepts views graph (nested rows at) held
unfolding accepts kind_accepts prop_tests
accepts_no_row views graph rows at held missing = sym (ap (λ form. accepts views graph form held) (no_row rows at missing))

-- a row accepts by its kind
accepts_row :
    (views : Views) (graph : GraphRef) (rows : List FrameNode) (at : ℕ) (row : FrameNode) (kind : FrameKind) (held : ListValue) →
    Some row ≡ slice_get rows at → row.kind ≡ kind →
    kind_accepts views graph (build_kind (above at (nested rows)) kind) (λ id. matches views graph (build (above at (nested rows)) row) id) held
    ≡ accepts views graph (nested rows at) held
unfolding accepts kind_accepts prop_tests
accepts_row views graph rows at row kind held found is =
    sym
    (ap (λ form. accepts views graph form held) (with_row rows at row found)
    ∙ ap (λ k. kind_accepts views graph (build_kind (above at (nested rows)) k) (λ id. matches views graph (build (above at (nested rows)) row) id) held) is)

module _ (views : Views) (graph : GraphRef) (rows : List FrameNode) (at : ℕ) (row : FrameNode) (value : Value) (found : Some row ≡ slice_get rows at) where
  pub accepts_wild : row.kind ≡ frame_kind.Wild → true ≡ accepts views graph (nested rows at) (value_data value)
  unfolding accepts kind_accepts prop_tests
  accepts_wild is = accepts_row views graph rows at row frame_kind.Wild (value_data value) found is

  pub node_ref : (id : Term) → row.kind ≡ frame_kind.Node → value ≡ v.Ref id → matches views graph (nested rows at) id ≡ accepts views graph (nested rows at) (value_data value)
  unfolding accepts kind_accepts prop_tests
  node_ref id is same =
      ap (λ form. matches views graph form id) (with_row rows at row found)
      ∙ accepts_row views graph rows at row frame_kind.Node (reference id) found is
      ∙ ap (accepts views graph (nested rows at)) (sym (ap value_data same ∙ value_data-Ref id))

  pub node_literal : (term : Term) → row.kind ≡ frame_kind.Node → value ≡ v.Literal term → false ≡ accepts views graph (nested rows at) (value_data value)
  unfolding accepts kind_accepts prop_tests
  node_literal term is same =
      accepts_row views graph rows at row frame_kind.Node (literal term) found is
      ∙ ap (accepts views graph (nested rows at)) (sym (ap value_data same ∙ value_data-Literal term))

  pub node_list : (items : List Value) → row.kind ≡ frame_kind.Node → value ≡ v.List items → false ≡ accepts views graph (nested rows at) (value_data value)
  unfolding accepts kind_accepts prop_tests
  node_list items is same =
      accepts_row views graph rows at row frame_kind.Node (list (values_data items)) found is
      ∙ ap (accepts views graph (nested rows at)) (sym (ap value_data same ∙ value_data-List items))

  pub pattern_literal : (pattern : ValuePattern) (term : Term) → row.kind ≡ frame_kind.Value pattern → value ≡ v.Literal term → accepts_literal pattern term ≡ accepts views graph (nested rows at) (value_data value)
  unfolding accepts kind_accepts prop_tests
  pattern_literal pattern term is same =
      accepts_row views graph rows at row (frame_kind.Value pattern) (literal term) found is
      ∙ ap (accepts views graph (nested rows at)) (sym (ap value_data same ∙ value_data-Literal term))

  pub pattern_ref : (pattern : ValuePattern) (id : Term) → row.kind ≡ frame_kind.Value pattern → value ≡ v.Ref id → false ≡ accepts views graph (nested rows at) (value_data value)
  unfolding accepts kind_accepts prop_tests
  pattern_ref pattern id is same =
      accepts_row views graph rows at row (frame_kind.Value pattern) (reference id) found is
      ∙ ap (accepts views graph (nested rows at)) (sym (ap value_data same ∙ value_data-Ref id))

  pub pattern_list : (pattern : ValuePattern) (items : List Value) → row.kind ≡ frame_kind.Value pattern → value ≡ v.List items → false ≡ accepts views graph (nested rows at) (value_data value)
  unfolding accepts kind_accepts prop_tests
  pattern_list pattern items is same =
      accepts_row views graph rows at row (frame_kind.Value pattern) (list (values_data items)) found is
      ∙ ap (accepts views graph (nested rows at)) (sym (ap value_data same ∙ value_data-List items))

  pub list_literal : (item : Option ℕ) (term : Term) → row.kind ≡ frame_kind.List item → value ≡ v.Literal term → false ≡ accepts views graph (nested rows at) (value_data value)
  unfolding accepts kind_accepts prop_tests
  list_literal item term is same =
      go item
      ∙ accepts_row views graph rows at row (frame_kind.List item) (literal term) found is
      ∙ ap (accepts views graph (nested rows at)) (sym (ap value_data same ∙ value_data-Literal term))
    where
      go : (i : Option ℕ) → false ≡ kind_accepts views graph (build_kind (above at (nested rows)) (frame_kind.List i)) (λ id. matches views graph (build (above at (nested rows)) row) id) (literal term)
      go None = refl
      go (Some number) = refl

  pub list_ref : (item : Option ℕ) (id : Term) → row.kind ≡ frame_kind.List item → value ≡ v.Ref id → false ≡ accepts views graph (nested rows at) (value_data value)
  unfolding accepts kind_accepts prop_tests
  list_ref item id is same =
      go item
      ∙ accepts_row views graph rows at row (frame_kind.List item) (reference id) found is
      ∙ ap (accepts views graph (nested rows at)) (sym (ap value_data same ∙ value_data-Ref id))
    where
      go : (i : Option ℕ) → false ≡ kind_accepts views graph (build_kind (above at (nested rows)) (frame_kind.List i)) (λ id. matches views graph (build (above at (nested rows)) row) id) (reference id)
      go None = refl
      go (Some number) = refl

-- the values of a list as a list
pub listed : (xs : List ListValue) → values_list (values_of xs) ≡ xs
listed [] = refl
listed (x ∷ xs) = ap (λ rest. x ∷ rest) (listed xs)

-- a list pattern accepts a list by its items
list_by_items :
    (views : Views) (graph : GraphRef) (sub : Numbered) (item : Option ℕ) (matched : Term → Bool) (items : List Value) →
    list_accepted views graph sub item items ≡ kind_accepts views graph (list_kind sub item) matched (list (values_data items))
unfolding accepts kind_accepts prop_tests
list_by_items views graph sub None matched items = refl
list_by_items views graph sub (Some number) matched items =
    ap (λ b. is_wild (sub number) || b)
    (sym (any_mapped (accepts views graph (sub number)) value_data items) ∙ ap (λ xs. list_any (accepts views graph (sub number)) xs) (sym (listed (map value_data items))))

pub same_kind : (sub : Numbered) (item : Option ℕ) → list_kind sub item ≡ build_kind sub (frame_kind.List item)
same_kind sub None = refl
same_kind sub (Some number) = refl

pub list_items :
    (views : Views) (graph : GraphRef) (rows : List FrameNode) (at : ℕ) (row : FrameNode) (value : Value) → Some row ≡ slice_get rows at →
    (item : Option ℕ) (items : List Value) → row.kind ≡ frame_kind.List item → value ≡ v.List items →
    list_accepted views graph (above at (nested rows)) item items ≡ accepts views graph (nested rows at) (value_data value)
list_items views graph rows at row value found item items is same =
    list_by_items views graph (above at (nested rows)) item (λ id. matches views graph (build (above at (nested rows)) row) id) items
    ∙ ap (λ kind. kind_accepts views graph kind (λ id. matches views graph (build (above at (nested rows)) row) id) (list (values_data items))) (same_kind (above at (nested rows)) item)
    ∙ accepts_row views graph rows at row (frame_kind.List item) (list (values_data items)) found is
    ∙ ap (accepts views graph (nested rows at)) (sym (ap value_data same ∙ value_data-List items))

-- match-none accepts no item
none_accept : (views : Views) (graph : GraphRef) (items : List Value) → list_any (λ held. accepts views graph match_none (value_data held)) items ≡ false
unfolding accepts kind_accepts prop_tests
none_accept views graph [] = refl
none_accept views graph (x ∷ xs) = none_accept views graph xs

pub no_item :
    (views : Views) (graph : GraphRef) (sub : Numbered) (item : Option ℕ) (number : ℕ) (items : List Value) → item ≡ Some number →
    sub_frame sub item ≡ match_none → false ≡ list_accepted views graph sub item items
no_item views graph sub item number items is none =
    sym (ap (λ i. list_accepted views graph sub i items) is ∙ go (sub number) (sym (ap (sub_frame sub) is) ∙ none))
  where
    go : (form : Nested) → form ≡ match_none → (is_wild form || list_any (λ held. accepts views graph form (value_data held)) items) ≡ false
    go form e = rw e (none_accept views graph items)

pub wild_item :
    (views : Views) (graph : GraphRef) (rows : List FrameNode) (at later : ℕ) (item : Option ℕ) (number : ℕ) (items : List Value) → item ≡ Some number →
    IsRowFor rows at item later → is_wild (nested rows later) ≡ true → true ≡ list_accepted views graph (above at (nested rows)) item items
wild_item views graph rows at later item number items is is_row wild =
    sym (ap (λ i. list_accepted views graph (above at (nested rows)) i items) is
    ∙ go (above at (nested rows) number) (ap is_wild (sym (ap (sub_frame (above at (nested rows))) is) ∙ is_row.stands) ∙ wild))
  where
    go : (form : Nested) → is_wild form ≡ true → (is_wild form || list_any (λ held. accepts views graph form (value_data held)) items) ≡ true
    go form e = rw e refl

pub some_item :
    (views : Views) (graph : GraphRef) (rows : List FrameNode) (at later : ℕ) (item : Option ℕ) (number : ℕ) (items : List Value) → item ≡ Some number →
    IsRowFor rows at item later → is_wild (nested rows later) ≡ false →
    list_any (λ held. accepts views graph (nested rows later) (value_data held)) items ≡ list_accepted views graph (above at (nested rows)) item items
some_item views graph rows at later item number items is is_row wild =
    sym (ap (λ i. list_accepted views graph (above at (nested rows)) i items) is
    ∙ go (above at (nested rows) number) (sym (ap (sub_frame (above at (nested rows))) is) ∙ is_row.stands))
  where
    go : (form : Nested) → form ≡ nested rows later → (is_wild form || list_any (λ held. accepts views graph form (value_data held)) items) ≡ list_any (λ held. accepts views graph (nested rows later) (value_data held)) items
    go form e = rw (e, wild) refl
