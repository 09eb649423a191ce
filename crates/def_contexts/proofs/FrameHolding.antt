-- What a frame's map keeps as its keys are read, and which errors it gives.
use Rattle.std.proofs.Common.{◌≡◌, ℕ, Bool, true, false, not, ◌&&◌, ◌||◌, List, [], ◌∷◌, Option, Some, None, Result, Ok, Err, IsTrue, refl, sym, ap, ◌∙◌, true≢false, codes, cond}
use Rattle.std.specs.Bool.{⊤}
use Rattle.std.specs.List.{list_any}
use Rattle.lf_rdf.specs.Equality.{text_eq}
use Rattle.lf_model.specs.declared.table.TermTable.{TermTable}
use Rattle.lf_model.specs.declared.table.TermDef.{TermDef}
use Rattle.lf_model.specs.declared.table.Container.{Container}
use Rattle.lf_model.specs.declared.table.Container.TheVariants as container
use Rattle.lf_model.specs.declared.scalar.Scalar.{Scalar}
use Rattle.lf_model.specs.declared.frame.IdTest.{IdTest}
use Rattle.lf_model.specs.declared.frame.TypeTest.{TypeTest}
use Rattle.lf_model.specs.declared.frame.PartTest.{PartTest}
use Rattle.lf_model.specs.declared.frame.DefaultValue.{DefaultValue}
use Rattle.lf_model.specs.declared.error.LdError.{LdError}
use Rattle.lf_model.specs.declared.error.LdError.TheVariants as ld
use Rattle.lf_model.specs.JsonData.{JsonValue, null}
use Rattle.def_nested.specs.Nested.{Flags, Nested, Props, Reverses, Within, match_none, frame_map, wild, node_frame, value_pattern, list_pattern, list_pattern_of}
use Rattle.def_contexts.specs.Keywords.{one_of}
use Rattle.def_contexts.specs.Outcomes.{refuse}
use Rattle.def_contexts.specs.NodeTests.{id_test_of, type_test_of}
use Rattle.def_contexts.specs.FrameFlags.{FlagKey, embed_key, explicit_key, require_all_key, omit_default_key, flag_stated}
use Rattle.def_contexts.specs.GivenValues.{Given, reference, plain_value, given}
use Rattle.def_contexts.specs.ValuePatterns.{scalar_of, datatype_of, language_scalar, part_of}
use Rattle.def_contexts.specs.Defaults.{defaults_of}
use Rattle.def_contexts.specs.FrameKeys.{Meaning, dropped, keyword, property, reverse_property, is_the_keyword, MapClass, value_map, list_map, set_map, node_map, FrameKey, flag_key, default_key, id_key, type_key, graph_key, reverse_key, value_key, language_key, list_key, other_key, frame_key}
use Rattle.def_contexts.specs.Places.{Place, of_property, of_item, of_graph, of_reverse, of_top, term_at, place_error, takes_maps_alone, takes_default, under_language, in_container, as_list, placed, null_at, empty_at, frame_of_given, scalar_at}
use Rattle.def_contexts.specs.MapReading.{read_property, read_reverse, read_node_key, read_value_key, read_list_key, read_class_key, read_keyword, read_key, read_reverse_key}
use Rattle.def_contexts.specs.Readings.{Reading, unread, Reader, ReverseReader, within_found, with_property, with_reverse, item_found, list_kind, node_kind, kind_of, frame_read}
use Rattle.def_contexts.specs.FrameLaws.{is_map, is_bare, fits_kind, is_sound, are_sound, are_sound_reverses, is_sound_within, is_sound_kind}
use Rattle.def_contexts.specs.FrameCauses.{refers, speaks, is_no_embed, is_no_id, is_no_type, is_no_map, is_no_value, gives, gives_reverses, is_misused, holds_frames}
use Rattle.def_contexts.proofs.Holding.{Holds, then-holds, refuse-holds, or_left, or_right}
use Rattle.def_contexts.proofs.FrameOrder.{sound-put, sound-put_reverse}
use Rattle.def_contexts.proofs.Ordered.{both_true}
use Rattle.def_contexts.proofs.FrameParts.{FlagAllows, id_test-caused, type_test-caused, flag-refuses, part-refuses, given-refuses, defaults-refuses}

abbrev pub is_node_map : MapClass → Bool
is_node_map node_map = true
is_node_map _ = false

abbrev pub is_sound_item : Option Nested → Bool
is_sound_item None = true
is_sound_item (Some sub) = is_map sub && is_sound sub

-- what is read of a map of a class, by keys of these meanings
pub record IsRead (class : MapClass) (now : List Meaning) (r : Reading) : Type 0 where
  pub props : are_sound r.props ≡ true
  pub reverses : are_sound_reverses r.reverses ≡ true
  pub within : is_sound_within r.within ≡ true
  pub item : is_sound_item r.item ≡ true
  pub bare : r.flags_alone ≡ true → is_bare r.props r.reverses r.within ≡ true
  pub alone : is_node_map class ≡ false → r.flags_alone ≡ true
  pub keywords : (name : List ℕ) → one_of r.keywords name ≡ true → list_any (is_the_keyword name) now ≡ true
  pub properties : (iri : List ℕ) → one_of r.properties iri ≡ true → list_any (gives iri) now ≡ true
  pub reversed : (iri : List ℕ) → one_of r.reversed iri ≡ true → list_any gives_reverses now ≡ true

pub unread-read : (class : MapClass) → IsRead class [] unread
unread-read class =
    record {
      props = refl;
      reverses = refl;
      within = refl;
      item = refl;
      bare = λ _. refl;
      alone = λ _. refl;
      keywords = λ name h. h;
      properties = λ iri h. h;
      reversed = λ iri h. h;
    }

-- one more key gives no less
later-read : (class : MapClass) (m : Meaning) (now : List Meaning) (r : Reading) → IsRead class now r → IsRead class (m ∷ now) r
later-read class m now r h =
    record {
      props = h.props;
      reverses = h.reverses;
      within = h.within;
      item = h.item;
      bare = h.bare;
      alone = h.alone;
      keywords = λ name k. or_right (is_the_keyword name m) (list_any (is_the_keyword name) now) (h.keywords name k);
      properties = λ iri k. or_right (gives iri m) (list_any (gives iri) now) (h.properties iri k);
      reversed = λ iri k. or_right (gives_reverses m) (list_any gives_reverses now) (h.reversed iri k);
    }

second_false : (a b : Bool) → (a || b) ≡ false → b ≡ false
second_false true b h = absurd (true≢false h)
second_false false b h = h

-- a name joins those that were read with a key that gives it
joins : (test : List ℕ → Meaning → Bool) (name : List ℕ) (m : Meaning) (names : List (List ℕ)) (now : List Meaning) → ((other : List ℕ) → text_eq other name ≡ true → test other m ≡ true) → ((other : List ℕ) → one_of names other ≡ true → list_any (test other) (m ∷ now) ≡ true) → (other : List ℕ) → one_of (name ∷ names) other ≡ true → list_any (test other) (m ∷ now) ≡ true
joins test name m names now same more other h = by (text_eq other name) refl h
  where
    by : (b : Bool) → text_eq other name ≡ b → (b || one_of names other) ≡ true → list_any (test other) (m ∷ now) ≡ true
    by true e k = or_left (test other m) (list_any (test other) now) (same other e)
    by false e k = more other k

list_kind-sound : (o : Option Nested) → is_sound_item o ≡ true → is_sound_kind (list_kind o) ≡ true
list_kind-sound None h = refl
list_kind-sound (Some sub) h = h

list_kind-fits : (o : Option Nested) (props : Props) (reverses : Reverses) (within : Within) → is_bare props reverses within ≡ true → fits_kind (list_kind o) props reverses within ≡ true
list_kind-fits None props _ within h = h
list_kind-fits (Some sub) props _ within h = h

node_kind-sound : (b : Bool) → is_sound_kind (node_kind b) ≡ true
node_kind-sound true = refl
node_kind-sound false = refl

node_kind-fits : (b : Bool) (props : Props) (reverses : Reverses) (within : Within) → (b ≡ true → is_bare props reverses within ≡ true) → fits_kind (node_kind b) props reverses within ≡ true
node_kind-fits true props _ within h = h refl
node_kind-fits false props _ within h = refl

kind-sound : (class : MapClass) (now : List Meaning) (r : Reading) → IsRead class now r → is_sound_kind (kind_of class r) ≡ true
kind-sound value_map now r h = refl
kind-sound list_map now r h = list_kind-sound r.item h.item
kind-sound set_map now r h = node_kind-sound r.flags_alone
kind-sound node_map now r h = node_kind-sound r.flags_alone

kind-fits : (class : MapClass) (now : List Meaning) (r : Reading) → IsRead class now r → fits_kind (kind_of class r) r.props r.reverses r.within ≡ true
kind-fits value_map now r h = h.bare (h.alone refl)
kind-fits list_map now r h = list_kind-fits r.item r.props r.reverses r.within (h.bare (h.alone refl))
kind-fits set_map now r h = node_kind-fits r.flags_alone r.props r.reverses r.within h.bare
kind-fits node_map now r h = node_kind-fits r.flags_alone r.props r.reverses r.within h.bare

pub frame-sound : (class : MapClass) (now : List Meaning) (r : Reading) → IsRead class now r → is_sound (frame_read class r) ≡ true
frame-sound class now r h = rw (h.props, h.reverses, h.within, kind-sound class now r h, kind-fits class now r h) refl

-- what is found at a place
abbrev pub Fits : Place → Option Nested → Type 0
Fits place None = ⊤
Fits place (Some sub) = (is_sound sub ≡ true) × (takes_maps_alone place ≡ true → is_map sub ≡ true)

as_list-sound : (sub : Nested) → is_sound sub ≡ true → is_sound (as_list sub) ≡ true
as_list-sound match_none h = h
as_list-sound (frame_map flags props _ within wild) h = h
as_list-sound (frame_map flags props _ within node_frame) h = rw h refl
as_list-sound (frame_map flags props _ within (value_pattern pattern)) h = rw h refl
as_list-sound (frame_map flags props _ within list_pattern) h = h
as_list-sound (frame_map flags props _ within (list_pattern_of sub)) h = h

in_container-sound : (c : Container) (sub : Nested) → is_sound sub ≡ true → is_sound (in_container c sub) ≡ true
in_container-sound container.List sub h = as_list-sound sub h
in_container-sound container.NoContainer sub h = h
in_container-sound container.Set sub h = h
in_container-sound container.Language sub h = h
in_container-sound container.LanguageSet sub h = h

placed-sound : (place : Place) (sub : Nested) → is_sound sub ≡ true → is_sound (placed place sub) ≡ true
placed-sound (of_property (Some d)) sub h = in_container-sound d.container sub h
placed-sound (of_property None) sub h = h
placed-sound (of_item term) sub h = h
placed-sound of_graph sub h = h
placed-sound of_reverse sub h = h
placed-sound of_top sub h = h

placed-map : (place : Place) (sub : Nested) → is_map sub ≡ true → takes_maps_alone place ≡ true → is_map (placed place sub) ≡ true
placed-map (of_property term) sub h t = absurd (true≢false (sym t))
placed-map (of_item term) sub h t = absurd (true≢false (sym t))
placed-map of_graph sub h t = h
placed-map of_reverse sub h t = h
placed-map of_top sub h t = h

pub placed-fits : (place : Place) (class : MapClass) (now : List Meaning) (r : Reading) → IsRead class now r → Fits place (Some (placed place (frame_read class r)))
placed-fits place class now r h =
    (placed-sound place (frame_read class r) (frame-sound class now r h), placed-map place (frame_read class r) refl)

given-sound : (g : Given) → is_sound (frame_of_given g) ≡ true
given-sound (reference node) = refl
given-sound (plain_value s datatype language) = refl

-- whether a value can't stand at a place
abbrev pub is_bad_at : JsonValue → Place → Bool
is_bad_at value place = cond (takes_maps_alone place) (is_no_map value) (is_no_value value)

abbrev pub is_flag : FrameKey → Bool
is_flag (flag_key flag) = true
is_flag _ = false

module _ (Q : LdError → Type 0) where
  -- the errors that a place may give, for a value that can't stand there or that can
  pub record Allows (place : Place) (bad : Bool) : Type 0 where
    pub misplaced : bad ≡ true → Q (place_error place)
    pub instead : Q ld.InvalidFrame → Q (place_error place)
    pub refers : refers (term_at place) ≡ true → Q ld.InvalidIdValue
    pub language : under_language (term_at place) ≡ true → Q ld.InvalidFrame

  pub null-holds : (place : Place) → Allows place (is_bad_at null place) → Holds Q (Fits place) (null_at place)
  null-holds (of_property term) allows = tt
  null-holds (of_item term) allows = tt
  null-holds of_graph allows = allows.misplaced refl
  null-holds of_reverse allows = allows.misplaced refl
  null-holds of_top allows = allows.misplaced refl

  pub empty-fits : (place : Place) → Fits place (Some (empty_at place))
  empty-fits (of_property term) = (refl, λ t. absurd (true≢false (sym t)))
  empty-fits (of_item term) = (refl, λ t. absurd (true≢false (sym t)))
  empty-fits of_graph = (refl, λ _. refl)
  empty-fits of_reverse = (refl, λ _. refl)
  empty-fits of_top = (refl, λ _. refl)

  pub scalar-holds : (table : TermTable) (s : Scalar) (place : Place) (bad : Bool) → Allows place bad → (takes_maps_alone place ≡ true → bad ≡ true) → Holds Q (Fits place) (scalar_at table s place)
  scalar-holds table s (of_property term) bad allows b =
      then-holds Q (λ (_ : Given). ⊤) (Fits (of_property term)) (given table term s) _ (given-refuses Q table term s allows.refers)
      (λ g _. (placed-sound (of_property term) (frame_of_given g) (given-sound g), λ t. absurd (true≢false (sym t))))
  scalar-holds table s (of_item term) bad allows b =
      then-holds Q (λ (_ : Given). ⊤) (Fits (of_item term)) (given table term s) _ (given-refuses Q table term s allows.refers)
      (λ g _. (placed-sound (of_item term) (frame_of_given g) (given-sound g), λ t. absurd (true≢false (sym t))))
  scalar-holds table s of_graph bad allows b = allows.misplaced (b refl)
  scalar-holds table s of_reverse bad allows b = allows.misplaced (b refl)
  scalar-holds table s of_top bad allows b = allows.misplaced (b refl)

  -- what a reader of a value gives at each place
  abbrev pub Reads : (Place → Bool) → Reader → Type 0
  Reads bad sub = (place : Place) → Allows place (bad place) → Holds Q (Fits place) (sub place)

  abbrev pub ReadsReverse : ReverseReader → Type 0
  ReadsReverse reverses =
      (now : List Meaning) (r : Reading) → Q ld.InvalidReverseValue →
      ((iri : List ℕ) → one_of r.reversed iri ≡ true → Q ld.InvalidFrame) → list_any gives_reverses now ≡ true →
      IsRead node_map now r → Holds Q (IsRead node_map now) (reverses r)

  with_property-read : (iri : List ℕ) (o : Option Nested) (now : List Meaning) (r : Reading) (term : Option TermDef) → Fits (of_property term) o → IsRead node_map now r → IsRead node_map (property iri term ∷ now) (with_property iri o r)
  with_property-read iri None now r term fits h =
      let more : IsRead node_map (property iri term ∷ now) r = later-read node_map (property iri term) now r h in
      record {
        props = h.props;
        reverses = h.reverses;
        within = h.within;
        item = h.item;
        bare = h.bare;
        alone = h.alone;
        keywords = more.keywords;
        properties = joins gives iri (property iri term) r.properties now (λ other e. e) more.properties;
        reversed = more.reversed;
      }
  with_property-read iri (Some sub) now r term fits h =
      let more : IsRead node_map (property iri term ∷ now) r = later-read node_map (property iri term) now r h in
      record {
        props = sound-put iri sub r.props fits.0 h.props;
        reverses = h.reverses;
        within = h.within;
        item = h.item;
        bare = λ e. absurd (true≢false (sym e));
        alone = λ e. absurd (true≢false e);
        keywords = more.keywords;
        properties = joins gives iri (property iri term) r.properties now (λ other e. e) more.properties;
        reversed = more.reversed;
      }

  -- one reverse property more was read
  abbrev pub IsReversed : List ℕ → List Meaning → Reading → Reading → Type 0
  IsReversed iri now r next = IsRead node_map now next × (next.reversed ≡ iri ∷ r.reversed)

  with_reverse-holds : (iri : List ℕ) (o : Option Nested) (now : List Meaning) (r : Reading) → Q ld.InvalidReverseValue → list_any gives_reverses now ≡ true → Fits of_reverse o → IsRead node_map now r → Holds Q (IsReversed iri now r) (with_reverse iri o r)
  with_reverse-holds iri None now r q turned fits h = q
  with_reverse-holds iri (Some sub) now r q turned fits h = (
    record {
      props = h.props;
      reverses = sound-put_reverse iri sub r.reverses (fits.1 refl) fits.0 h.reverses;
      within = h.within;
      item = h.item;
      bare = λ e. absurd (true≢false (sym e));
      alone = λ e. absurd (true≢false e);
      keywords = h.keywords;
      properties = h.properties;
      reversed = λ other k. turned;
    },
    refl,
  )

  read_property-holds : (iri : List ℕ) (term : Option TermDef) (bad : Place → Bool) (sub : Reader) (now : List Meaning) (r : Reading) → (list_any (gives iri) now ≡ true → Q ld.InvalidFrame) → (bad (of_property term) ≡ true → Q ld.InvalidFrame) → (under_language term ≡ true → Q ld.InvalidFrame) → (refers term ≡ true → Q ld.InvalidIdValue) → Reads bad sub → IsRead node_map now r → Holds Q (IsRead node_map (property iri term ∷ now)) (read_property iri term sub r)
  read_property-holds iri term bad sub now r again misplaced language id reads h =
      then-holds Q (λ _. ⊤) (IsRead node_map (property iri term ∷ now)) (refuse (one_of r.properties iri) ld.InvalidFrame) _
      (refuse-holds Q (one_of r.properties iri) ld.InvalidFrame (λ k. again (h.properties iri k)))
      (λ _ _. then-holds Q (Fits (of_property term)) (IsRead node_map (property iri term ∷ now)) (sub (of_property term)) _
      (reads (of_property term) (record { misplaced = misplaced; instead = λ q. q; refers = id; language = language }))
      (λ found fits. with_property-read iri found now r term fits h))

  pub read_reverse-holds : (iri : List ℕ) (bad : Place → Bool) (sub : Reader) (now : List Meaning) (r : Reading) → (one_of r.reversed iri ≡ true → Q ld.InvalidFrame) → Q ld.InvalidReverseValue → list_any gives_reverses now ≡ true → Reads bad sub → IsRead node_map now r → Holds Q (IsReversed iri now r) (read_reverse iri sub r)
  read_reverse-holds iri bad sub now r again v turned reads h =
      then-holds Q (λ _. ⊤) (IsReversed iri now r) (refuse (one_of r.reversed iri) ld.InvalidFrame) _
      (refuse-holds Q (one_of r.reversed iri) ld.InvalidFrame again)
      (λ _ _. then-holds Q (Fits of_reverse) (IsReversed iri now r) (sub of_reverse) _
      (reads of_reverse (record { misplaced = λ _. v; instead = λ _. v; refers = λ e. absurd (true≢false (sym e)); language = λ e. absurd (true≢false (sym e)) }))
      (λ found fits. with_reverse-holds iri found now r v turned fits h))

  -- the keyword of a key is one that its name spells
  abbrev KeyFits : FrameKey → List ℕ → Type 0
  KeyFits (flag_key embed_key) name = text_eq name (codes "@embed") ≡ true
  KeyFits id_key name = text_eq name (codes "@id") ≡ true
  KeyFits type_key name = text_eq name (codes "@type") ≡ true
  KeyFits graph_key name = text_eq name (codes "@graph") ≡ true
  KeyFits reverse_key name = text_eq name (codes "@reverse") ≡ true
  KeyFits list_key name = text_eq name (codes "@list") ≡ true
  KeyFits _ _ = ⊤

  key-cond : (b : Bool) (k l : FrameKey) (name : List ℕ) → (b ≡ true → KeyFits k name) → KeyFits l name → KeyFits (cond b k l) name
  key-cond true k l name h g = h refl
  key-cond false k l name h g = g

  key-fits : (name : List ℕ) → KeyFits (frame_key name) name
  key-fits name =
      key-cond (text_eq name (codes "@embed")) (flag_key embed_key) _ name (λ e. e)
      (key-cond (text_eq name (codes "@explicit")) (flag_key explicit_key) _ name (λ _. tt)
      (key-cond (text_eq name (codes "@requireAll")) (flag_key require_all_key) _ name (λ _. tt)
      (key-cond (text_eq name (codes "@omitDefault")) (flag_key omit_default_key) _ name (λ _. tt)
      (key-cond (text_eq name (codes "@default")) default_key _ name (λ _. tt)
      (key-cond (text_eq name (codes "@id")) id_key _ name (λ e. e)
      (key-cond (text_eq name (codes "@type")) type_key _ name (λ e. e)
      (key-cond (text_eq name (codes "@graph")) graph_key _ name (λ e. e)
      (key-cond (text_eq name (codes "@reverse")) reverse_key _ name (λ e. e)
      (key-cond (text_eq name (codes "@value")) value_key _ name (λ _. tt)
      (key-cond (text_eq name (codes "@language")) language_key _ name (λ _. tt)
      (key-cond (text_eq name (codes "@list")) list_key other_key name (λ e. e) tt)))))))))))

  -- the errors of which a key and its value speak
  abbrev pub Says : TermTable → List Meaning → Meaning → JsonValue → Type 0
  Says table before m value = (e : LdError) → IsTrue (speaks e table before m value) → Q e

  -- a value pattern may be refused as a value object, and all but node frames as frames
  abbrev pub ClassAllows : MapClass → Type 0
  ClassAllows value_map = Q ld.InvalidValueObject × Q ld.InvalidFrame
  ClassAllows list_map = Q ld.InvalidFrame
  ClassAllows set_map = Q ld.InvalidFrame
  ClassAllows node_map = ⊤

  -- a keyword that is misused is refused as a frame
  abbrev Misuses : List Meaning → FrameKey → JsonValue → Type 0
  Misuses before key value = is_misused before key value ≡ true → Q ld.InvalidFrame

  -- the reverse properties that were read came from the keys before
  abbrev CameFrom : List Meaning → Reading → Type 0
  CameFrom before r = (iri : List ℕ) → one_of r.reversed iri ≡ true → list_any gives_reverses before ≡ true

  read_node_key-holds : (key : FrameKey) (name : List ℕ) (before : List Meaning) (table : TermTable) (value : JsonValue) (sub : Reader) (reverses : ReverseReader) (r : Reading) → is_flag key ≡ false → KeyFits key name → Says table before (keyword name) value → Misuses before key value → CameFrom before r → (holds_frames (keyword name) ≡ true → Reads (is_bad_at value) sub) → (holds_frames (keyword name) ≡ true → ReadsReverse reverses) → IsRead node_map (keyword name ∷ before) r → Holds Q (IsRead node_map (keyword name ∷ before)) (read_node_key key table value sub reverses r)
  read_node_key-holds id_key name before table value sub reverses r flag fits says misused came reads turns h =
      then-holds Q (λ (_ : IdTest). ⊤) (IsRead node_map (keyword name ∷ before)) (id_test_of table value) _ (id_test-caused Q table value (λ refused. says ld.InvalidIdValue (both_true (text_eq name (codes "@id")) (is_no_id table value) fits refused)))
      (λ t _. record { props = h.props; reverses = h.reverses; within = h.within; item = h.item; bare = λ e. absurd (true≢false (sym e)); alone = λ e. absurd (true≢false e); keywords = h.keywords; properties = h.properties; reversed = h.reversed })
  read_node_key-holds type_key name before table value sub reverses r flag fits says misused came reads turns h =
      then-holds Q (λ (_ : TypeTest). ⊤) (IsRead node_map (keyword name ∷ before)) (type_test_of table value) _ (type_test-caused Q table value (λ refused. says ld.InvalidTypeValue (both_true (text_eq name (codes "@type")) (is_no_type table value) fits refused)))
      (λ t _. record { props = h.props; reverses = h.reverses; within = h.within; item = h.item; bare = λ e. absurd (true≢false (sym e)); alone = λ e. absurd (true≢false e); keywords = h.keywords; properties = h.properties; reversed = h.reversed })
  read_node_key-holds graph_key name before table value sub reverses r flag fits says misused came reads turns h =
      then-holds Q (Fits of_graph) (IsRead node_map (keyword name ∷ before)) (sub of_graph) _
      (reads (or_left (text_eq name (codes "@graph")) _ fits) of_graph (record { misplaced = misused; instead = λ q. q; refers = λ e. absurd (true≢false (sym e)); language = λ e. absurd (true≢false (sym e)) }))
      (λ found f. record { props = h.props; reverses = h.reverses; within = found-within found f; item = h.item; bare = λ e. absurd (true≢false (sym e)); alone = λ e. absurd (true≢false e); keywords = h.keywords; properties = h.properties; reversed = h.reversed })
    where
      found-within : (found : Option Nested) → Fits of_graph found → is_sound_within (within_found found) ≡ true
      found-within None f = refl
      found-within (Some sub) f = rw (f.1 refl, f.0) refl
  read_node_key-holds reverse_key name before table value sub reverses r flag fits says misused came reads turns h =
      turns (or_right (text_eq name (codes "@graph")) _ (or_right (text_eq name (codes "@list")) _ (or_left (text_eq name (codes "@reverse")) _ fits)))
      (keyword name ∷ before) (record r { flags_alone = false }) (says ld.InvalidReverseValue fits)
      (λ iri k. misused (came iri k)) (or_left (text_eq name (codes "@reverse")) (list_any gives_reverses before) fits)
      (record { props = h.props; reverses = h.reverses; within = h.within; item = h.item; bare = λ e. absurd (true≢false (sym e)); alone = λ e. absurd (true≢false e); keywords = h.keywords; properties = h.properties; reversed = h.reversed })
  read_node_key-holds (flag_key _) name before table value sub reverses r flag fits says misused came reads turns h = absurd (true≢false flag)
  read_node_key-holds _ name before table value sub reverses r flag fits says misused came reads turns h = misused refl

  read_value_key-holds : (key : FrameKey) (now : List Meaning) (table : TermTable) (value : JsonValue) (r : Reading) → Q ld.InvalidValueObject → IsRead value_map now r → Holds Q (IsRead value_map now) (read_value_key key table value r)
  read_value_key-holds value_key now table value r q h =
      then-holds Q (λ (_ : PartTest). ⊤) (IsRead value_map now) (part_of scalar_of value) _ (part-refuses Q scalar_of value q)
      (λ t _. record { props = h.props; reverses = h.reverses; within = h.within; item = h.item; bare = h.bare; alone = h.alone; keywords = h.keywords; properties = h.properties; reversed = h.reversed })
  read_value_key-holds type_key now table value r q h =
      then-holds Q (λ (_ : PartTest). ⊤) (IsRead value_map now) (part_of (datatype_of table) value) _ (part-refuses Q (datatype_of table) value q)
      (λ t _. record { props = h.props; reverses = h.reverses; within = h.within; item = h.item; bare = h.bare; alone = h.alone; keywords = h.keywords; properties = h.properties; reversed = h.reversed })
  read_value_key-holds language_key now table value r q h =
      then-holds Q (λ (_ : PartTest). ⊤) (IsRead value_map now) (part_of language_scalar value) _ (part-refuses Q language_scalar value q)
      (λ t _. record { props = h.props; reverses = h.reverses; within = h.within; item = h.item; bare = h.bare; alone = h.alone; keywords = h.keywords; properties = h.properties; reversed = h.reversed })
  read_value_key-holds _ now table value r q h = q

  item-sound : (term : Option TermDef) (o : Option Nested) → Fits (of_item term) o → is_sound_item (item_found o) ≡ true
  item-sound term None fits = refl
  item-sound term (Some match_none) fits = refl
  item-sound term (Some (frame_map flags props _ within kind)) fits = fits.0

  read_list_key-holds : (key : FrameKey) (name : List ℕ) (term : Option TermDef) (value : JsonValue) (sub : Reader) (now : List Meaning) (r : Reading) → KeyFits key name → Q ld.InvalidFrame → (refers term ≡ true → Q ld.InvalidIdValue) → (holds_frames (keyword name) ≡ true → Reads (is_bad_at value) sub) → IsRead list_map now r → Holds Q (IsRead list_map now) (read_list_key key term sub r)
  read_list_key-holds list_key name term value sub now r fits q id reads h =
      then-holds Q (Fits (of_item term)) (IsRead list_map now) (sub (of_item term)) _
      (reads (or_right (text_eq name (codes "@graph")) _ (or_left (text_eq name (codes "@list")) _ fits)) (of_item term) (record { misplaced = λ _. q; instead = λ q. q; refers = id; language = λ _. q }))
      (λ found fits. record { props = h.props; reverses = h.reverses; within = h.within; item = item-sound term found fits; bare = h.bare; alone = h.alone; keywords = h.keywords; properties = h.properties; reversed = h.reversed })
  read_list_key-holds _ name term value sub now r fits q id reads h = q

  read_class_key-holds : (class : MapClass) (key : FrameKey) (name : List ℕ) (before : List Meaning) (table : TermTable) (place : Place) (bad : Bool) (value : JsonValue) (sub : Reader) (reverses : ReverseReader) (r : Reading) → is_flag key ≡ false → KeyFits key name → Says table before (keyword name) value → Misuses before key value → CameFrom before r → ClassAllows class → Allows place bad → (holds_frames (keyword name) ≡ true → Reads (is_bad_at value) sub) → (holds_frames (keyword name) ≡ true → ReadsReverse reverses) → IsRead class (keyword name ∷ before) r → Holds Q (IsRead class (keyword name ∷ before)) (read_class_key class key table place value sub reverses r)
  read_class_key-holds value_map key name before table place bad value sub reverses r flag fits says misused came c allows reads turns h = read_value_key-holds key (keyword name ∷ before) table value r c.0 h
  read_class_key-holds list_map key name before table place bad value sub reverses r flag fits says misused came c allows reads turns h = read_list_key-holds key name (term_at place) value sub (keyword name ∷ before) r fits c allows.refers reads h
  read_class_key-holds node_map key name before table place bad value sub reverses r flag fits says misused came c allows reads turns h = read_node_key-holds key name before table value sub reverses r flag fits says misused came reads turns h
  read_class_key-holds set_map key name before table place bad value sub reverses r flag fits says misused came c allows reads turns h = c

  flag-allows : (flag : FlagKey) (name : List ℕ) (before : List Meaning) (table : TermTable) (value : JsonValue) → KeyFits (flag_key flag) name → Says table before (keyword name) value → Misuses before (flag_key flag) value → FlagAllows Q flag value
  flag-allows embed_key name before table value fits says misused =
      λ refused. says ld.InvalidEmbedValue (both_true (text_eq name (codes "@embed")) (is_no_embed value) fits refused)
  flag-allows explicit_key name before table value fits says misused = misused
  flag-allows require_all_key name before table value fits says misused = misused
  flag-allows omit_default_key name before table value fits says misused = misused

  read_keyword-holds : (class : MapClass) (key : FrameKey) (name : List ℕ) (before : List Meaning) (table : TermTable) (place : Place) (bad : Bool) (value : JsonValue) (sub : Reader) (reverses : ReverseReader) (r : Reading) → KeyFits key name → Says table before (keyword name) value → Misuses before key value → CameFrom before r → ClassAllows class → Allows place bad → (holds_frames (keyword name) ≡ true → Reads (is_bad_at value) sub) → (holds_frames (keyword name) ≡ true → ReadsReverse reverses) → IsRead class (keyword name ∷ before) r → Holds Q (IsRead class (keyword name ∷ before)) (read_keyword class key table place value sub reverses r)
  read_keyword-holds class (flag_key flag) name before table place bad value sub reverses r fits says misused came c allows reads turns h =
      then-holds Q (λ (_ : Flags). ⊤) (IsRead class (keyword name ∷ before)) (flag_stated flag value r.flags) _
      (flag-refuses Q flag value r.flags (flag-allows flag name before table value fits says misused))
      (λ flags _. record { props = h.props; reverses = h.reverses; within = h.within; item = h.item; bare = h.bare; alone = h.alone; keywords = h.keywords; properties = h.properties; reversed = h.reversed })
  read_keyword-holds class default_key name before table place bad value sub reverses r fits says misused came c allows reads turns h =
      then-holds Q (λ _. ⊤) (IsRead class (keyword name ∷ before)) (refuse (not (takes_default place)) ld.InvalidFrame) _
      (refuse-holds Q (not (takes_default place)) ld.InvalidFrame (λ _. misused refl))
      (λ _ _. then-holds Q (λ (_ : List DefaultValue). ⊤) (IsRead class (keyword name ∷ before)) (defaults_of table (term_at place) value) _
      (defaults-refuses Q table (term_at place) value allows.refers (misused refl))
      (λ values _. record { props = h.props; reverses = h.reverses; within = h.within; item = h.item; bare = h.bare; alone = h.alone; keywords = h.keywords; properties = h.properties; reversed = h.reversed }))
  read_keyword-holds class key name before table place bad value sub reverses r fits says misused came c allows reads turns h =
      read_class_key-holds class key name before table place bad value sub reverses r refl fits says misused came c allows reads turns h

  pub read_key-holds : (class : MapClass) (m : Meaning) (before : List Meaning) (table : TermTable) (place : Place) (bad : Bool) (value : JsonValue) (sub : Reader) (reverses : ReverseReader) (r : Reading) → Says table before m value → ClassAllows class → Allows place bad → (holds_frames m ≡ true → Reads (is_bad_at value) sub) → (holds_frames m ≡ true → ReadsReverse reverses) → IsRead class before r → Holds Q (IsRead class (m ∷ before)) (read_key class m table place value sub reverses r)
  read_key-holds class dropped before table place bad value sub reverses r says c allows reads turns h = later-read class dropped before r h
  read_key-holds class (keyword name) before table place bad value sub reverses r says c allows reads turns h =
      let more : IsRead class (keyword name ∷ before) r = later-read class (keyword name) before r h in
      then-holds Q (λ _. ⊤) (IsRead class (keyword name ∷ before)) (refuse (one_of r.keywords name) ld.CollidingKeywords) _
      (refuse-holds Q (one_of r.keywords name) ld.CollidingKeywords (λ k. says ld.CollidingKeywords (h.keywords name k)))
      (λ _ _. read_keyword-holds class (frame_key name) name before table place bad value sub reverses (record r { keywords = name ∷ r.keywords })
      (key-fits name) says (says ld.InvalidFrame) h.reversed c allows reads turns
      (record {
        props = h.props;
        reverses = h.reverses;
        within = h.within;
        item = h.item;
        bare = h.bare;
        alone = h.alone;
        keywords = joins is_the_keyword name (keyword name) r.keywords before (λ other e. e) more.keywords;
        properties = more.properties;
        reversed = more.reversed;
      }))
  read_key-holds node_map (property iri term) before table place bad value sub reverses r says c allows reads turns h =
      read_property-holds iri term (is_bad_at value) sub before r
      (λ k. says ld.InvalidFrame (or_left (list_any (gives iri) before) (is_no_value value || under_language term) k))
      (λ k. says ld.InvalidFrame (or_right (list_any (gives iri) before) (is_no_value value || under_language term) (or_left (is_no_value value) (under_language term) k)))
      (λ k. says ld.InvalidFrame (or_right (list_any (gives iri) before) (is_no_value value || under_language term) (or_right (is_no_value value) (under_language term) k)))
      (says ld.InvalidIdValue) (reads refl) h
  read_key-holds value_map (property iri term) before table place bad value sub reverses r says c allows reads turns h = c.0
  read_key-holds list_map (property iri term) before table place bad value sub reverses r says c allows reads turns h = c
  read_key-holds set_map (property iri term) before table place bad value sub reverses r says c allows reads turns h = c
  read_key-holds node_map (reverse_property iri) before table place bad value sub reverses r says c allows reads turns h =
      reversed-read (read_reverse iri sub r)
      (read_reverse-holds iri (is_bad_at value) sub (reverse_property iri ∷ before) r (λ k. says ld.InvalidFrame (h.reversed iri k)) (says ld.InvalidReverseValue refl) refl (reads refl)
      (later-read node_map (reverse_property iri) before r h))
    where
      reversed-read : (o : Result Reading LdError) → Holds Q (IsReversed iri (reverse_property iri ∷ before) r) o → Holds Q (IsRead node_map (reverse_property iri ∷ before)) o
      reversed-read (Ok next) k = k.0
      reversed-read (Err e) k = k
  read_key-holds value_map (reverse_property iri) before table place bad value sub reverses r says c allows reads turns h = c.0
  read_key-holds list_map (reverse_property iri) before table place bad value sub reverses r says c allows reads turns h = c
  read_key-holds set_map (reverse_property iri) before table place bad value sub reverses r says c allows reads turns h = c

  -- the reverse properties that were read came from the keys of this map, or else `invalid frame` may come
  abbrev pub IsSourced : List Meaning → Reading → Type 0
  IsSourced before r = (iri : List ℕ) → one_of r.reversed iri ≡ true → (list_any (gives iri) before ≡ false → Q ld.InvalidFrame)

  -- a map of `@reverse` in the midst of its keys
  abbrev pub IsTurned : List Meaning → List Meaning → Reading → Type 0
  IsTurned now before r = IsRead node_map now r × IsSourced before r

  sourced-later : (m : Meaning) (before : List Meaning) (r : Reading) → IsSourced before r → IsSourced (m ∷ before) r
  sourced-later m before r h iri k none = h iri k (second_false (gives iri m) (list_any (gives iri) before) none)

  sourced-more : (iri : List ℕ) (term : Option TermDef) (before : List Meaning) (r next : Reading) → next.reversed ≡ iri ∷ r.reversed → IsSourced before r → IsSourced (property iri term ∷ before) next
  sourced-more iri term before r next same h other k none =
      h other
      (by (text_eq other iri) (list_any (gives other) before) (one_of r.reversed other) (sym (ap (λ names. one_of names other) same) ∙ k) none)
      (second_false (text_eq other iri) (list_any (gives other) before) none)
    where
      by : (a b c : Bool) → (a || c) ≡ true → (a || b) ≡ false → c ≡ true
      by true b c h n = absurd (true≢false n)
      by false b c h n = h

  pub read-turned : (now before : List Meaning) (o : Result Reading LdError) → Holds Q (IsTurned now before) o → Holds Q (IsRead node_map now) o
  read-turned now before (Ok next) h = h.0
  read-turned now before (Err e) h = h

  -- a key of `@reverse`
  pub read_reverse_key-holds : (m : Meaning) (before now : List Meaning) (table : TermTable) (value : JsonValue) (sub : Reader) (r : Reading) → Says table before m value → Q ld.InvalidReverseValue → list_any gives_reverses now ≡ true → (holds_frames m ≡ true → Reads (is_bad_at value) sub) → IsTurned now before r → Holds Q (IsTurned now (m ∷ before)) (read_reverse_key m sub r)
  read_reverse_key-holds dropped before now table value sub r says v turned reads h = (h.0, sourced-later dropped before r h.1)
  read_reverse_key-holds (keyword name) before now table value sub r says v turned reads h = v
  read_reverse_key-holds (reverse_property iri) before now table value sub r says v turned reads h = v
  read_reverse_key-holds (property iri term) before now table value sub r says v turned reads h =
      turned-read (read_reverse iri sub r) (read_reverse-holds iri (is_bad_at value) sub now r again v turned (reads refl) h.0)
    where
      again : one_of r.reversed iri ≡ true → Q ld.InvalidFrame
      again k = by (list_any (gives iri) before) refl
        where
          by : (b : Bool) → list_any (gives iri) before ≡ b → Q ld.InvalidFrame
          by true same = says ld.InvalidFrame (or_left (list_any (gives iri) before) (is_no_value value || under_language term) same)
          by false same = h.1 iri k same

      turned-read : (o : Result Reading LdError) → Holds Q (IsReversed iri now r) o → Holds Q (IsTurned now (property iri term ∷ before)) o
      turned-read (Ok next) k = (k.0, sourced-more iri term before r next k.1 h.1)
      turned-read (Err e) k = k
