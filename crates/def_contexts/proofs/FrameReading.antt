-- What a frame means, and which errors it gives.
use Rattle.std.proofs.Common.{◌≡◌, ℕ, Bool, true, false, not, ◌&&◌, ◌||◌, List, [], ◌∷◌, Result, IsTrue, refl, sym, subst, true≢false, codes, cond}
use Rattle.std.specs.Bool.{⊤}
use Rattle.std.specs.List.{list_any}
use Rattle.std.specs.Cmp.Lexicographic.{bytes_decides}
use Rattle.lf_rdf.specs.Equality.{text_eq}
use Rattle.lf_model.specs.declared.table.TermTable.{TermTable}
use Rattle.lf_model.specs.declared.scalar.Scalar.TheVariants as scalar
use Rattle.lf_model.specs.declared.error.LdError.{LdError}
use Rattle.lf_model.specs.declared.error.LdError.TheVariants as ld
use Rattle.lf_model.specs.JsonData.{JsonValue, JsonItems, JsonMembers, null, truth, whole, fraction, text, array, object, no_items, item, no_members, member}
use Rattle.def_contexts.specs.Outcomes.{refuse}
use Rattle.def_contexts.specs.FrameKeys.{Meaning, dropped, keyword, property, reverse_property, meaning_of, is_the_keyword, keep, kept, stands_for_null, has_keyword, is_set_only, MapClass, value_map, list_map, set_map, node_map, class_of, class_of_kept, are_all_keywords, frame_key}
use Rattle.def_contexts.specs.Places.{Place, of_property, of_item, of_graph, of_reverse, of_top, term_at, place_error, under_language, is_array_too_deep, is_array, takes_maps_alone}
use Rattle.def_contexts.specs.Readings.{Reading, unread, Reader}
use Rattle.def_contexts.specs.SubFrames.{map_read, map_by_class, map_at, set_or, sub_frame, sub_frame_of_items, read_members, set_value, reverse_map, reverse_members, top_frame}
use Rattle.def_contexts.specs.FrameLaws.{is_sound}
use Rattle.def_contexts.specs.FrameCauses.{is_misused, is_no_map, is_no_object, is_no_value, gives_reverses, speaks, holds_frames, value_speaks, items_speak, members_speak}
use Rattle.def_contexts.proofs.Holding.{Holds, then-holds, refuse-holds, or_left, or_right}
use Rattle.def_contexts.proofs.Expanding.{first_true}
use Rattle.def_contexts.proofs.Ordered.{both_true}
use Rattle.def_contexts.proofs.FrameHolding.{IsRead, unread-read, Fits, placed-fits, frame-sound, Allows, null-holds, empty-fits, scalar-holds, Reads, ReadsReverse, Says, ClassAllows, is_bad_at, IsTurned, read-turned, read_key-holds, read_reverse_key-holds}

-- a keyword that is kept stands among the keys
keep-any : (test : Meaning → Bool) (m : Meaning) (b : Bool) (rest : List Meaning) → list_any test (keep m b rest) ≡ true → (test m || list_any test rest) ≡ true
keep-any test dropped b rest h = or_right (test dropped) (list_any test rest) h
keep-any test (keyword name) b rest h = h
keep-any test (property iri term) true rest h = or_right (test (property iri term)) (list_any test rest) h
keep-any test (property iri term) false rest h = h
keep-any test (reverse_property iri) b rest h = h

turned : (xs ys : List ℕ) → text_eq xs ys ≡ true → text_eq ys xs ≡ true
turned xs ys h = (bytes_decides ys xs).1 (sym ((bytes_decides xs ys).0 h))

-- a key that is this keyword speaks of an error, whatever stands before it
abbrev WordSpeaks : LdError → List ℕ → Type 0
WordSpeaks e word = (table : TermTable) (before : List Meaning) (m : Meaning) (value : JsonValue) → is_the_keyword word m ≡ true → IsTrue (speaks e table before m value)

value-speaks : WordSpeaks ld.InvalidValueObject (codes "@value")
value-speaks table before (keyword name) value h =
    or_left (text_eq name (codes "@value")) (text_eq name (codes "@language")) (turned (codes "@value") name h)
value-speaks table before dropped value h = h
value-speaks table before (property iri term) value h = absurd (true≢false (sym h))
value-speaks table before (reverse_property iri) value h = absurd (true≢false (sym h))

language-speaks : WordSpeaks ld.InvalidValueObject (codes "@language")
language-speaks table before (keyword name) value h =
    or_right (text_eq name (codes "@value")) (text_eq name (codes "@language")) (turned (codes "@language") name h)
language-speaks table before dropped value h = h
language-speaks table before (property iri term) value h = absurd (true≢false (sym h))
language-speaks table before (reverse_property iri) value h = absurd (true≢false (sym h))

-- a keyword that is always misused where it is no pattern's
word-misused : (word : List ℕ) → ((before : List Meaning) (value : JsonValue) → is_misused before (frame_key word) value ≡ true) → WordSpeaks ld.InvalidFrame word
word-misused word misused table before (keyword name) value h =
    subst (λ own. is_misused before (frame_key own) value ≡ true) ((bytes_decides word name).0 h) (misused before value)
word-misused word misused table before dropped value h = h
word-misused word misused table before (property iri term) value h = absurd (true≢false (sym h))
word-misused word misused table before (reverse_property iri) value h = absurd (true≢false (sym h))

-- where one of the kept keys speaks of an error, the map does
kept-speaks :
    (e : LdError) (test : Meaning → Bool) (table : TermTable) (before : List Meaning) (given : JsonMembers) →
    ((before : List Meaning) (m : Meaning) (value : JsonValue) → test m ≡ true → IsTrue (speaks e table before m value)) →
    list_any test (kept table given) ≡ true → IsTrue (members_speak e table before given)
kept-speaks e test table before no_members says h = h
kept-speaks e test table before (member key value rest) says h =
    by (test (meaning_of table key)) refl (keep-any test (meaning_of table key) (stands_for_null table value) (kept table rest) h)
    (λ later. kept-speaks e test table (meaning_of table key ∷ before) rest says later)
  where
    m : Meaning
    m = meaning_of table key

    by : (b : Bool) → test m ≡ b → (b || list_any test (kept table rest)) ≡ true → (list_any test (kept table rest) ≡ true → IsTrue (members_speak e table (m ∷ before) rest)) → IsTrue (speaks e table before m value || ((holds_frames m && value_speaks e table value) || members_speak e table (m ∷ before) rest))
    by true same h later =
        or_left (speaks e table before m value) ((holds_frames m && value_speaks e table value) || members_speak e table (m ∷ before) rest)
        (says before m value same)
    by false same h later =
        or_right (speaks e table before m value) ((holds_frames m && value_speaks e table value) || members_speak e table (m ∷ before) rest)
        (or_right (holds_frames m && value_speaks e table value) (members_speak e table (m ∷ before) rest) (later h))

-- `@set` alone is one of the kept keys
set-kept : (meanings : List Meaning) → is_set_only meanings ≡ true → has_keyword (codes "@set") meanings ≡ true
set-kept (m ∷ []) h = or_left (is_the_keyword (codes "@set") m) false h
set-kept [] h = absurd (true≢false (sym h))
set-kept (m ∷ n ∷ rest) h = absurd (true≢false (sym h))

module _ (Q : LdError → Type 0) where
  class-cond : (b : Bool) (c d : MapClass) → (b ≡ true → ClassAllows Q c) → (b ≡ false → ClassAllows Q d) → ClassAllows Q (cond b c d)
  class-cond true c d h k = h refl
  class-cond false c d h k = k refl

  class-allows : (meanings : List Meaning) → ((has_keyword (codes "@value") meanings || has_keyword (codes "@language") meanings) ≡ true → Q ld.InvalidValueObject × Q ld.InvalidFrame) → (has_keyword (codes "@list") meanings ≡ true → Q ld.InvalidFrame) → (is_set_only meanings ≡ true → Q ld.InvalidFrame) → ClassAllows Q (class_of_kept meanings)
  class-allows meanings q lists sets =
      class-cond (has_keyword (codes "@value") meanings || has_keyword (codes "@language") meanings) value_map _ q
      (λ _. class-cond (has_keyword (codes "@list") meanings) list_map _ lists
      (λ _. class-cond (is_set_only meanings) set_map node_map sets (λ _. tt)))

  -- the errors of which a map speaks
  abbrev MapSays : TermTable → List Meaning → JsonMembers → Type 0
  MapSays table before given = (e : LdError) → IsTrue (members_speak e table before given) → Q e

  map-class-allows : (table : TermTable) (given : JsonMembers) → MapSays table [] given → ClassAllows Q (class_of table given)
  map-class-allows table given says =
      class-allows (kept table given)
      (λ h. (
        says ld.InvalidValueObject (either ld.InvalidValueObject value-speaks language-speaks (has_keyword (codes "@value") (kept table given)) refl h),
        says ld.InvalidFrame (either ld.InvalidFrame (word-misused (codes "@value") (λ before value. refl)) (word-misused (codes "@language") (λ before value. refl)) (has_keyword (codes "@value") (kept table given)) refl h),
      ))
      (λ h. says ld.InvalidFrame (kept-speaks ld.InvalidFrame (is_the_keyword (codes "@list")) table [] given (word-misused (codes "@list") (λ before value. refl) table) h))
      (λ h. says ld.InvalidFrame (kept-speaks ld.InvalidFrame (is_the_keyword (codes "@set")) table [] given (word-misused (codes "@set") (λ before value. refl) table) (set-kept (kept table given) h)))
    where
      either : (e : LdError) → WordSpeaks e (codes "@value") → WordSpeaks e (codes "@language") → (b : Bool) → has_keyword (codes "@value") (kept table given) ≡ b → (b || has_keyword (codes "@language") (kept table given)) ≡ true → IsTrue (members_speak e table [] given)
      either e values languages true same h = kept-speaks e (is_the_keyword (codes "@value")) table [] given (values table) same
      either e values languages false same h = kept-speaks e (is_the_keyword (codes "@language")) table [] given (languages table) h

  map_read-holds : (class : MapClass) (now : List Meaning) (place : Place) (r : Result Reading LdError) → Holds Q (IsRead class now) r → Holds Q (Fits place) (map_read class place r)
  map_read-holds class now place r h = then-holds Q (IsRead class now) (Fits place) r _ h (λ reading k. placed-fits place class now reading k)

  -- what the keys of a map give in each class
  abbrev ReadsKeys : List Meaning → (MapClass → Result Reading LdError) → Type 0
  ReadsKeys now read = (class : MapClass) → ClassAllows Q class → Holds Q (IsRead class now) (read class)

  map_by_class-holds : (class : MapClass) (now : List Meaning) (place : Place) (bad : Bool) (read : MapClass → Result Reading LdError) (set : Reader) → ClassAllows Q class → Allows Q place bad → ReadsKeys now read → (Q ld.InvalidFrame → Holds Q (Fits place) (set place)) → Holds Q (Fits place) (map_by_class class place read set)
  map_by_class-holds set_map now place bad read set c allows keys sets = sets c
  map_by_class-holds value_map now of_reverse bad read set c allows keys sets = allows.instead c.1
  map_by_class-holds value_map now (of_property term) bad read set c allows keys sets = map_read-holds value_map now (of_property term) (read value_map) (keys value_map c)
  map_by_class-holds value_map now (of_item term) bad read set c allows keys sets = map_read-holds value_map now (of_item term) (read value_map) (keys value_map c)
  map_by_class-holds value_map now of_graph bad read set c allows keys sets = map_read-holds value_map now of_graph (read value_map) (keys value_map c)
  map_by_class-holds value_map now of_top bad read set c allows keys sets = map_read-holds value_map now of_top (read value_map) (keys value_map c)
  map_by_class-holds list_map now of_reverse bad read set c allows keys sets = allows.instead c
  map_by_class-holds list_map now (of_property term) bad read set c allows keys sets = map_read-holds list_map now (of_property term) (read list_map) (keys list_map c)
  map_by_class-holds list_map now (of_item term) bad read set c allows keys sets = map_read-holds list_map now (of_item term) (read list_map) (keys list_map c)
  map_by_class-holds list_map now of_graph bad read set c allows keys sets = map_read-holds list_map now of_graph (read list_map) (keys list_map c)
  map_by_class-holds list_map now of_top bad read set c allows keys sets = map_read-holds list_map now of_top (read list_map) (keys list_map c)
  map_by_class-holds node_map now place bad read set c allows keys sets = map_read-holds node_map now place (read node_map) (keys node_map c)

  map_at-holds : (table : TermTable) (given : JsonMembers) (now : List Meaning) (place : Place) (bad : Bool) (read : MapClass → Result Reading LdError) (set : Reader) → MapSays table [] given → Allows Q place bad → ReadsKeys now read → (Q ld.InvalidFrame → Holds Q (Fits place) (set place)) → Holds Q (Fits place) (map_at table given place read set)
  map_at-holds table given now place bad read set says allows keys sets =
      then-holds Q (λ _. ⊤) (Fits place) (refuse (under_language (term_at place) && not (are_all_keywords table given)) ld.InvalidFrame) _
      (refuse-holds Q (under_language (term_at place) && not (are_all_keywords table given)) ld.InvalidFrame
      (λ h. allows.language (first_true (under_language (term_at place)) (not (are_all_keywords table given)) h)))
      (λ _ _. map_by_class-holds (class_of table given) now place bad read set (map-class-allows table given says) allows keys sets)

  -- where `invalid frame` may come, a value may stand at a place or not
  abbrev ReadsAny : Reader → Type 0
  ReadsAny sub = (place : Place) (bad : Bool) → Q ld.InvalidFrame → Allows Q place bad → Holds Q (Fits place) (sub place)

  set_or-holds : (b : Bool) (this rest : Reader) → (b ≡ true → ReadsAny this) → ReadsAny rest → ReadsAny (set_or b this rest)
  set_or-holds true this rest h k = h refl
  set_or-holds false this rest h k = k

  -- what is said of the first value or of the later ones
  said-key : (table : TermTable) (before : List Meaning) (key : List ℕ) (value : JsonValue) (rest : JsonMembers) → MapSays table before (member key value rest) → Says Q table before (meaning_of table key) value
  said-key table before key value rest says e h = says e (or_left (speaks e table before (meaning_of table key) value) _ h)

  said-value : (table : TermTable) (before : List Meaning) (key : List ℕ) (value : JsonValue) (rest : JsonMembers) → MapSays table before (member key value rest) → holds_frames (meaning_of table key) ≡ true → (e : LdError) → IsTrue (value_speaks e table value) → Q e
  said-value table before key value rest says held e h =
      says e (or_right (speaks e table before (meaning_of table key) value) _
      (or_left (holds_frames (meaning_of table key) && value_speaks e table value) _
      (both_true (holds_frames (meaning_of table key)) (value_speaks e table value) held h)))

  said-rest : (table : TermTable) (before : List Meaning) (key : List ℕ) (value : JsonValue) (rest : JsonMembers) → MapSays table before (member key value rest) → MapSays table (meaning_of table key ∷ before) rest
  said-rest table before key value rest says e h =
      says e (or_right (speaks e table before (meaning_of table key) value) _
      (or_right (holds_frames (meaning_of table key) && value_speaks e table value) _ h))

-- the keys of a map, after those before it
abbrev all_read : TermTable → List Meaning → JsonMembers → List Meaning
all_read table before no_members = before
all_read table before (member key value rest) = all_read table (meaning_of table key ∷ before) rest

set-held : (m : Meaning) → is_the_keyword (codes "@set") m ≡ true → holds_frames m ≡ true
set-held (keyword name) h =
    or_right (text_eq name (codes "@graph")) _
    (or_right (text_eq name (codes "@list")) _
    (or_right (text_eq name (codes "@reverse")) _ (or_left (text_eq name (codes "@set")) false (turned (codes "@set") name h))))
set-held dropped h = h
set-held (property iri term) h = refl
set-held (reverse_property iri) h = refl

always-bad : (b : Bool) → cond b true true ≡ true
always-bad true = refl
always-bad false = refl

no-object : (value : JsonValue) → is_no_map value ≡ true → is_no_object value ≡ true
no-object (object given) h = h
no-object null h = refl
no-object (truth b) h = refl
no-object (whole n) h = refl
no-object fraction h = refl
no-object (text t) h = refl
no-object (array items) h = refl

array-no_object : (value : JsonValue) → is_array value ≡ true → is_no_object value ≡ true
array-no_object (array items) h = refl
array-no_object (object given) h = h
array-no_object null h = refl
array-no_object (truth b) h = refl
array-no_object (whole n) h = refl
array-no_object fraction h = refl
array-no_object (text t) h = refl

-- an array of a value that can't stand at a place can't stand there
bad-inner : (value : JsonValue) (t : Bool) → cond t (is_no_map value) (is_no_value value) ≡ true → cond t (is_no_object value) (is_no_value value) ≡ true
bad-inner value true h = no-object value h
bad-inner value false h = h

bad-deep : (value : JsonValue) (t : Bool) → (t && is_array value) ≡ true → cond t (is_no_object value) (is_no_value value) ≡ true
bad-deep value true h = array-no_object value h
bad-deep value false h = absurd (true≢false (sym h))

mutual
  sub_frame-holds : (Q : LdError → Type 0) (table : TermTable) (value : JsonValue) → ((e : LdError) → IsTrue (value_speaks e table value) → Q e) → Reads Q (is_bad_at value) (sub_frame table value)
  sub_frame-holds Q table null says place allows = null-holds Q place allows
  sub_frame-holds Q table (truth b) says place allows = scalar-holds Q table (scalar.Bool b) place _ allows (λ t. rw t refl)
  sub_frame-holds Q table (whole n) says place allows = scalar-holds Q table (scalar.Whole n) place _ allows (λ t. rw t refl)
  sub_frame-holds Q table (text t) says place allows = scalar-holds Q table (scalar.Text t) place _ allows (λ t. rw t refl)
  sub_frame-holds Q table fraction says place allows = allows.misplaced (always-bad (takes_maps_alone place))
  sub_frame-holds Q table (array items) says place allows = items-holds Q table items says place allows
  sub_frame-holds Q table (object given) says place allows =
      map_at-holds Q table given (all_read table [] given) place _ (λ class. read_members table given class place unread) (set_value table given) says allows
      (λ class c. read_members-holds Q table given [] says class place _ unread c allows (unread-read class))
      (λ q. set_value-holds Q table given [] says place _ q allows)

  items-holds : (Q : LdError → Type 0) (table : TermTable) (items : JsonItems) → ((e : LdError) → IsTrue (items_speak e table items) → Q e) → Reads Q (is_bad_at (array items)) (sub_frame_of_items table items)
  items-holds Q table no_items says place allows = empty-fits Q place
  items-holds Q table (item value no_items) says place allows =
      then-holds Q (λ _. ⊤) (Fits place) (refuse (is_array_too_deep place value) (place_error place)) _
      (refuse-holds Q (is_array_too_deep place value) (place_error place) (λ h. allows.misplaced (bad-deep value (takes_maps_alone place) h)))
      (λ _ _. sub_frame-holds Q table value (λ e h. says e (or_left (value_speaks e table value) false h)) place
      (record { misplaced = λ b. allows.misplaced (bad-inner value (takes_maps_alone place) b); instead = allows.instead; refers = allows.refers; language = allows.language }))
  items-holds Q table (item value (item _ _)) says place allows = allows.misplaced (always-bad (takes_maps_alone place))

  read_members-holds : (Q : LdError → Type 0) (table : TermTable) (given : JsonMembers) (before : List Meaning) → ((e : LdError) → IsTrue (members_speak e table before given) → Q e) → (class : MapClass) (place : Place) (bad : Bool) (r : Reading) → ClassAllows Q class → Allows Q place bad → IsRead class before r → Holds Q (IsRead class (all_read table before given)) (read_members table given class place r)
  read_members-holds Q table no_members before says class place bad r c allows h = h
  read_members-holds Q table (member key value rest) before says class place bad r c allows h =
      then-holds Q (IsRead class (meaning_of table key ∷ before)) (IsRead class (all_read table (meaning_of table key ∷ before) rest)) _ _
      (read_key-holds Q class (meaning_of table key) before table place bad value (sub_frame table value) (reverse_map table value) r
      (said-key Q table before key value rest says) c allows
      (λ held. sub_frame-holds Q table value (said-value Q table before key value rest says held))
      (λ held. reverse_map-holds Q table value (said-value Q table before key value rest says held)) h)
      (λ next k. read_members-holds Q table rest (meaning_of table key ∷ before) (said-rest Q table before key value rest says) class place bad next c allows k)

  set_value-holds : (Q : LdError → Type 0) (table : TermTable) (given : JsonMembers) (before : List Meaning) → ((e : LdError) → IsTrue (members_speak e table before given) → Q e) → ReadsAny Q (set_value table given)
  set_value-holds Q table no_members before says place bad q allows = allows.instead q
  set_value-holds Q table (member key value rest) before says place bad q allows =
      set_or-holds Q (is_the_keyword (codes "@set") (meaning_of table key)) (sub_frame table value) (set_value table rest)
      (λ same other b p given. sub_frame-holds Q table value (said-value Q table before key value rest says (set-held (meaning_of table key) same)) other
      (record { misplaced = λ _. given.instead p; instead = given.instead; refers = given.refers; language = given.language }))
      (set_value-holds Q table rest (meaning_of table key ∷ before) (said-rest Q table before key value rest says)) place bad q allows

  reverse_map-holds : (Q : LdError → Type 0) (table : TermTable) (value : JsonValue) → ((e : LdError) → IsTrue (value_speaks e table value) → Q e) → ReadsReverse Q (reverse_map table value)
  reverse_map-holds Q table (object given) says now r v again reversed h =
      read-turned Q now (all_read table [] given) (reverse_members table given r)
      (reverse_members-holds Q table given [] now says r v reversed (h, λ iri k none. again iri k))
  reverse_map-holds Q table null says now r v again reversed h = v
  reverse_map-holds Q table (truth b) says now r v again reversed h = v
  reverse_map-holds Q table (whole n) says now r v again reversed h = v
  reverse_map-holds Q table fraction says now r v again reversed h = v
  reverse_map-holds Q table (text t) says now r v again reversed h = v
  reverse_map-holds Q table (array items) says now r v again reversed h = v

  reverse_members-holds : (Q : LdError → Type 0) (table : TermTable) (given : JsonMembers) (before now : List Meaning) → ((e : LdError) → IsTrue (members_speak e table before given) → Q e) → (r : Reading) → Q ld.InvalidReverseValue → list_any gives_reverses now ≡ true → IsTurned Q now before r → Holds Q (IsTurned Q now (all_read table before given)) (reverse_members table given r)
  reverse_members-holds Q table no_members before now says r v reversed h = h
  reverse_members-holds Q table (member key value rest) before now says r v reversed h =
      then-holds Q (IsTurned Q now (meaning_of table key ∷ before)) (IsTurned Q now (all_read table (meaning_of table key ∷ before) rest)) _ _
      (read_reverse_key-holds Q (meaning_of table key) before now table value (sub_frame table value) r (said-key Q table before key value rest says) v reversed
      (λ held. sub_frame-holds Q table value (said-value Q table before key value rest says held)) h)
      (λ next k. reverse_members-holds Q table rest (meaning_of table key ∷ before) now (said-rest Q table before key value rest says) next v reversed k)

-- what a top map means
pub top-holds : (table : TermTable) (given : JsonMembers) → Holds (λ e. IsTrue (members_speak e table [] given)) (λ nested. is_sound nested ≡ true) (top_frame table given)
unfolding top_frame
top-holds table given =
    then-holds (λ e. IsTrue (members_speak e table [] given)) (IsRead node_map (all_read table [] given)) (λ nested. is_sound nested ≡ true)
    (read_members table given node_map of_top unread) _
    (read_members-holds (λ e. IsTrue (members_speak e table [] given)) table given [] (λ e h. h) node_map of_top false unread tt
    (record { misplaced = λ e. absurd (true≢false (sym e)); instead = λ q. q; refers = λ e. absurd (true≢false (sym e)); language = λ e. absurd (true≢false (sym e)) })
    (unread-read node_map))
    (λ reading h. frame-sound node_map (all_read table [] given) reading h)
