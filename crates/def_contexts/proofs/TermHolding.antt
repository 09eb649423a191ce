-- What each step of a term definition keeps, and which errors it gives.
use Rattle.std.proofs.Common.{◌≡◌, ℕ, Bool, true, false, not, ◌&&◌, ◌||◌, List, ◌++◌, Option, Some, None, is_some, Ok, IsTrue, refl, sym, ap, ◌∙◌, true≢false, codes, cond, [], ◌∷◌}
use Rattle.std.specs.Bool.{⊤}
use Rattle.std.specs.Cmp.Lexicographic.{bytes_decides}
use Rattle.lf_model.specs.declared.table.Container.{Container}
use Rattle.lf_model.specs.declared.table.Container.TheVariants as container
use Rattle.lf_model.specs.declared.error.LdError.{LdError}
use Rattle.lf_model.specs.declared.error.LdError.TheVariants as ld
use Rattle.lf_model.specs.JsonData.{JsonValue, JsonMembers, null, truth, whole, fraction, text, array, object}
use Rattle.lf_rdf.specs.Equality.{text_eq, option_eq}
use Rattle.def_contexts.specs.Texts.{is_absolute, has_later_colon, before_colon, after_colon, begins_authority}
use Rattle.def_contexts.specs.Keywords.{keywords, is_keyword, has_keyword_form}
use Rattle.def_contexts.specs.Expansion.{expand, find_term, Split, unsplit, as_is, split, split_of}
use Rattle.def_contexts.specs.Outcomes.{refuse}
use Rattle.def_contexts.specs.Members.{value_of, has_key, all_keys}
use Rattle.def_contexts.specs.Drafts.{Draft, Need, Expanded, need_if, need_whole, need_split, need_prefix, expanded, self_expanded}
use Rattle.def_contexts.specs.TermParts.{container_or_refused, container_given, container_of, set_or_refused, reverse_container_of, language_of, prefix_given, prefix_of, has_colon_or_slash}
use Rattle.def_contexts.specs.Terms.{Source, no_iri, entries, source_of, source_of_map, is_definition_key, reverse_term, Naming, by_id, by_name, undefined, no_text, naming_of, mapped_term, plain_term, bare_definition, typed_term, sourced_term, ordinary_term}
use Rattle.def_contexts.specs.Mappings.{Typed, is_type_mapping, type_expanded, type_mapping, Mapped, absolute_or_refused, reverse_mapping, named_iri, confirmed, id_mapping, vocab_mapping, name_mapping, iri_by_prefix, must_expand}
use Rattle.def_contexts.specs.TableLaws.{is_term_name, is_term_iri, is_absolute_or_none}
use Rattle.def_contexts.specs.Causes.{is_set, is_bad_container, is_bad_reverse_container, is_bad_language, is_bad_prefix, is_type_word, is_bad_type, is_null, is_text, has_other_key, is_forward, is_misplaced_prefix, is_open_id, definition_cause, value_cause}
use Rattle.def_contexts.specs.Circles.{prefix_of_split, named_by_text, named_by_name, named_by_map, named_by_value, named_by}
use Rattle.def_contexts.proofs.Holding.{Holds, then-holds, refuse-holds, cond-holds, or_left, or_right}
use Rattle.def_contexts.proofs.Ordered.{both_true}
use Rattle.def_contexts.proofs.Expanding.{keywords_stay, first_true}
use Rattle.def_contexts.proofs.Sound.{IsSoundDraft, defined-sound, absolute-append}

-- P of each text of a list
abbrev pub Each : (List ℕ → Type 0) → List (List ℕ) → Type 0
Each P [] = ⊤
Each P (x ∷ rest) = P x × Each P rest

pub each-first : (P : List ℕ → Type 0) (xs ys : List (List ℕ)) → Each P (xs ++ ys) → Each P xs
each-first P [] ys h = tt
each-first P (x ∷ rest) ys h = (h.0, each-first P rest ys h.1)

pub each-second : (P : List ℕ → Type 0) (xs ys : List (List ℕ)) → Each P (xs ++ ys) → Each P ys
each-second P [] ys h = h
each-second P (x ∷ rest) ys h = each-second P rest ys h.1

id-keyword : is_keyword (codes "@id") ≡ true
unfolding keywords is_keyword
id-keyword = refl

vocab-keyword : is_keyword (codes "@vocab") ≡ true
unfolding keywords is_keyword
vocab-keyword = refl

none-keyword : is_keyword (codes "@none") ≡ true
unfolding keywords is_keyword
none-keyword = refl

same-text : (xs ys : List ℕ) → text_eq xs ys ≡ true → xs ≡ ys
same-text xs ys h = (bytes_decides xs ys).0 h

-- the words that a type mapping may be are keywords
type_word-keyword : (name : List ℕ) → is_type_word name ≡ true → is_keyword name ≡ true
type_word-keyword name h = by (text_eq name (codes "@id")) (text_eq name (codes "@vocab")) (text_eq name (codes "@none")) refl refl refl h
  where
    by :
        (one two three : Bool) → text_eq name (codes "@id") ≡ one → text_eq name (codes "@vocab") ≡ two →
        text_eq name (codes "@none") ≡ three → (one || (two || (three || false))) ≡ true → is_keyword name ≡ true
    by true two three a b c h = ap is_keyword (same-text name (codes "@id") a) ∙ id-keyword
    by false true three a b c h = ap is_keyword (same-text name (codes "@vocab") b) ∙ vocab-keyword
    by false false true a b c h = ap is_keyword (same-text name (codes "@none") c) ∙ none-keyword
    by false false false a b c h = absurd (true≢false (sym h))

typed : (name : List ℕ) → is_type_word name ≡ true → not (is_type_mapping name) ≡ false
typed name h = rw h refl

word-named : (id : List ℕ) → is_keyword id ≡ true → not (is_keyword id || is_absolute id) ≡ false
word-named id h = rw h refl

-- a keyword other than `@context`, or an absolute IRI
term-iri : (iri : List ℕ) → text_eq iri (codes "@context") ≡ false → (is_keyword iri || is_absolute iri) ≡ true → is_term_iri (Some iri) ≡ true
term-iri iri n h = rw n (by (is_keyword iri) h)
  where
    by : (word : Bool) → (word || is_absolute iri) ≡ true → ((word && true) || is_absolute iri) ≡ true
    by true h = refl
    by false h = h

absolute-iri : (iri : List ℕ) → is_absolute iri ≡ true → is_term_iri (Some iri) ≡ true
absolute-iri iri h = or_right (is_keyword iri && not (text_eq iri (codes "@context"))) (is_absolute iri) h

-- a test that a refusal makes fails where it isn't refused
refused-or-not : (Q : LdError → Type 0) (b : Bool) (e : LdError) → (b ≡ true → Q e) → Holds Q (λ (_ : ⊤). b ≡ false) (refuse b e)
refused-or-not Q true e q = q refl
refused-or-not Q false e q = refl

-- of errors, and of the names that may be needed
module _ (Q : LdError → Type 0) (W : List ℕ → Type 0) where
  -- a need keeps tables sound
  abbrev pub Keeps : Need → Type 0
  Keeps need = (name : List ℕ) (draft : Draft) → W name → IsSoundDraft draft → Holds Q IsSoundDraft (need name draft)

  need_if-holds : (b : Bool) (need : Need) (name : List ℕ) (draft : Draft) → W name → Keeps need → IsSoundDraft draft → Holds Q IsSoundDraft (need_if b need name draft)
  need_if-holds true need name draft w keeps sound = keeps name draft w sound
  need_if-holds false need name draft w keeps sound = sound

  need_split-holds : (s : Split) (need : Need) (draft : Draft) → Each W (prefix_of_split s) → Keeps need → IsSoundDraft draft → Holds Q IsSoundDraft (need_split need s draft)
  need_split-holds unsplit need draft w keeps sound = sound
  need_split-holds as_is need draft w keeps sound = sound
  need_split-holds (split before after) need draft w keeps sound = keeps before draft w.0 sound

  unless-term : (b : Bool) (s : Split) → Each W (prefix_of_split s) → Each W (prefix_of_split (cond b unsplit s))
  unless-term true s w = tt
  unless-term false s w = w

  -- what a text expands to by the table of its draft
  abbrev IsExpanded : List ℕ → Expanded → Type 0
  IsExpanded name e = IsSoundDraft e.draft × (e.iri ≡ expand e.draft.table name true)

  self_expanded-holds : (need : Need) (name : List ℕ) (draft : Draft) → Each W (prefix_of_split (split_of name)) → Keeps need → IsSoundDraft draft → Holds Q (IsExpanded name) (self_expanded need name draft)
  self_expanded-holds need name draft w keeps sound =
      then-holds Q IsSoundDraft (IsExpanded name) (need_prefix need name draft) _
      (need_split-holds _ need draft (unless-term (is_some (find_term name draft.table.terms)) (split_of name) w) keeps sound) (λ both b. (b, refl))

  expanded-holds : (need : Need) (name : List ℕ) (draft : Draft) → Each W (named_by_text (Some (text name))) → Keeps need → IsSoundDraft draft → Holds Q (IsExpanded name) (expanded need name draft)
  expanded-holds need name draft w keeps sound =
      then-holds Q IsSoundDraft (IsExpanded name) (need_whole need name draft) _
      (need_if-holds _ need name draft w.0 keeps sound)
      (λ whole h. self_expanded-holds need name whole w.1 keeps h)

  -- no type mapping
  abbrev is_no_type : Option (List ℕ) → Bool
  is_no_type (Some iri) = not (is_type_mapping iri)
  is_no_type None = true

  type_expanded-holds : (e : Expanded) (iri : Option (List ℕ)) → (is_no_type iri ≡ true → Q ld.InvalidTypeMapping) → IsSoundDraft e.draft → Holds Q (λ (t : Typed). IsSoundDraft t.draft) (type_expanded e iri)
  type_expanded-holds e (Some iri) q sound =
      cond-holds Q (λ (t : Typed). IsSoundDraft t.draft) (is_type_mapping iri) _ _ (λ _. sound) (λ fails. q (rw fails refl))
  type_expanded-holds e None q sound = q refl

  -- what a text expands to is a type mapping where the text is a word that may be one
  word-type : (name : List ℕ) (e : Expanded) → IsExpanded name e → (IsTrue (is_bad_type (Some (text name))) → Q ld.InvalidTypeMapping) → is_no_type e.iri ≡ true → Q ld.InvalidTypeMapping
  word-type name e h q fails = by (is_type_word name) refl q
    where
      by : (word : Bool) → is_type_word name ≡ word → (not word ≡ true → Q ld.InvalidTypeMapping) → Q ld.InvalidTypeMapping
      by false same q = q refl
      by true same q = absurd (true≢false (sym fails ∙ ap is_no_type (h.1 ∙ keywords_stay e.draft.table name true (type_word-keyword name same)) ∙ typed name same))

  type_mapping-holds : (need : Need) (o : Option JsonValue) (draft : Draft) → (IsTrue (is_bad_type o) → Q ld.InvalidTypeMapping) → Each W (named_by_text o) → Keeps need → IsSoundDraft draft → Holds Q (λ (t : Typed). IsSoundDraft t.draft) (type_mapping need o draft)
  type_mapping-holds need None draft q w keeps sound = sound
  type_mapping-holds need (Some (text name)) draft q w keeps sound =
      then-holds Q (IsExpanded name) (λ (t : Typed). IsSoundDraft t.draft) (expanded need name draft) _
      (expanded-holds need name draft w keeps sound) (λ e h. type_expanded-holds e e.iri (word-type name e h q) h.0)
  type_mapping-holds need (Some _) draft q w keeps sound = q refl

  -- a mapping to an IRI that a term may have
  abbrev pub IsSoundMapped : Mapped → Type 0
  IsSoundMapped m = IsSoundDraft m.draft × (is_term_iri (Some m.iri) ≡ true)

  absolute-holds : (draft : Draft) (o : Option (List ℕ)) → Q ld.InvalidIriMapping → IsSoundDraft draft → Holds Q IsSoundMapped (absolute_or_refused draft o)
  absolute-holds draft (Some iri) q sound =
      cond-holds Q IsSoundMapped (is_absolute iri) _ _ (λ e. (sound, absolute-iri iri e)) (λ _. q)
  absolute-holds draft None q sound = q

  reverse_mapping-holds : (need : Need) (value : JsonValue) (draft : Draft) → Q ld.InvalidIriMapping → Each W (named_by_text (Some value)) → Keeps need → IsSoundDraft draft → Holds Q IsSoundMapped (reverse_mapping need value draft)
  reverse_mapping-holds need (text name) draft q w keeps sound =
      then-holds Q (IsExpanded name) IsSoundMapped (expanded need name draft) _
      (expanded-holds need name draft w keeps sound) (λ e h. absolute-holds e.draft e.iri q h.0)
  reverse_mapping-holds need _ draft q w keeps sound = q

  container_or_refused-holds : (o : Option Container) → (IsTrue (not (is_some o)) → Q ld.InvalidContainerMapping) → Holds Q (λ (_ : Container). ⊤) (container_or_refused ld.InvalidContainerMapping o)
  container_or_refused-holds (Some c) q = tt
  container_or_refused-holds None q = q refl

  container-holds : (o : Option JsonValue) → (IsTrue (is_bad_container o) → Q ld.InvalidContainerMapping) → Holds Q (λ (_ : Container). ⊤) (container_of o)
  container-holds None q = tt
  container-holds (Some value) q = container_or_refused-holds (container_given value) q

  set-holds : (o : Option Container) → (IsTrue (not (is_set o)) → Q ld.InvalidReverseProperty) → Holds Q (λ (_ : Container). ⊤) (set_or_refused o)
  set-holds (Some container.Set) q = tt
  set-holds (Some container.NoContainer) q = q refl
  set-holds (Some container.List) q = q refl
  set-holds (Some container.Language) q = q refl
  set-holds (Some container.LanguageSet) q = q refl
  set-holds None q = q refl

  reverse_container-holds : (o : Option JsonValue) → (IsTrue (is_bad_reverse_container o) → Q ld.InvalidReverseProperty) → Holds Q (λ (_ : Container). ⊤) (reverse_container_of o)
  reverse_container-holds None q = tt
  reverse_container-holds (Some null) q = tt
  reverse_container-holds (Some (truth b)) q = set-holds (container_given (truth b)) q
  reverse_container-holds (Some (whole n)) q = set-holds (container_given (whole n)) q
  reverse_container-holds (Some fraction) q = set-holds (container_given fraction) q
  reverse_container-holds (Some (text t)) q = set-holds (container_given (text t)) q
  reverse_container-holds (Some (array items)) q = set-holds (container_given (array items)) q
  reverse_container-holds (Some (object members)) q = set-holds (container_given (object members)) q

  language-holds : (typed language : Option JsonValue) → (IsTrue (not (is_some typed) && is_bad_language language) → Q ld.InvalidLanguageMapping) → Holds Q (λ (_ : Option (Option (List ℕ))). ⊤) (language_of typed language)
  language-holds (Some value) language q = tt
  language-holds None None q = tt
  language-holds None (Some null) q = tt
  language-holds None (Some (text t)) q = tt
  language-holds None (Some _) q = q refl

  prefix_given-holds : (name iri : List ℕ) (value : JsonValue) → (IsTrue (is_misplaced_prefix name (Some value)) → Q ld.InvalidTermDefinition) → (IsTrue (is_bad_prefix (Some value)) → Q ld.InvalidPrefixValue) → Holds Q (λ (_ : Bool). ⊤) (prefix_given iri value)
  prefix_given-holds name iri (truth b) q p =
      cond-holds Q (λ (_ : Bool). ⊤) (b && is_keyword iri) _ _
      (λ h. q (or_left b (has_colon_or_slash name) (first_true b (is_keyword iri) h))) (λ _. tt)
  prefix_given-holds name iri _ q p = p refl

  misplaced : (name : List ℕ) (value : JsonValue) → has_colon_or_slash name ≡ true → IsTrue (is_misplaced_prefix name (Some value))
  misplaced name (truth b) h = or_right b (has_colon_or_slash name) h
  misplaced name _ h = h

  prefix-holds : (name iri : List ℕ) (by_form : Bool) (o : Option JsonValue) → (IsTrue (is_misplaced_prefix name o) → Q ld.InvalidTermDefinition) → (IsTrue (not (has_colon_or_slash name) && is_bad_prefix o) → Q ld.InvalidPrefixValue) → Holds Q (λ (_ : Bool). ⊤) (prefix_of name iri by_form o)
  prefix-holds name iri by_form None q p = tt
  prefix-holds name iri by_form (Some value) q p =
      cond-holds Q (λ (_ : Bool). ⊤) (has_colon_or_slash name) _ _ (λ h. q (misplaced name value h))
      (λ h. prefix_given-holds name iri value q (λ b. p (rw (h, b) refl)))

  -- the causes that the map of a term may have
  abbrev pub Allows : List ℕ → JsonMembers → Type 0
  Allows name members = (e : LdError) → IsTrue (definition_cause e name members) → Q e

  -- the names that the map of a term may need
  record Wants (given : JsonMembers) : Type 0 where
    ids : Each W (named_by_text (value_of (codes "@id") given))
    types : Each W (named_by_text (value_of (codes "@type") given))
    reverses : Each W (named_by_text (value_of (codes "@reverse") given))

  reverse_term-holds : (need : Need) (name : List ℕ) (members : JsonMembers) (value : JsonValue) (typed : Typed) → is_term_name name ≡ true → (IsTrue (has_key (codes "@id") members || is_bad_reverse_container (value_of (codes "@container") members)) → Q ld.InvalidReverseProperty) → (IsTrue (not (has_key (codes "@id") members)) → Q ld.InvalidIriMapping) → Each W (named_by_text (Some value)) → Keeps need → IsSoundDraft typed.draft → Holds Q IsSoundDraft (reverse_term need name members value typed)
  reverse_term-holds need name members value typed named q iri w keeps sound =
      then-holds Q (λ (_ : ⊤). has_key (codes "@id") members ≡ false) IsSoundDraft (refuse (has_key (codes "@id") members) ld.InvalidReverseProperty) _
      (refused-or-not Q (has_key (codes "@id") members) ld.InvalidReverseProperty
      (λ h. q (or_left (has_key (codes "@id") members) (is_bad_reverse_container (value_of (codes "@container") members)) h)))
      (λ _ no_id. then-holds Q IsSoundMapped IsSoundDraft (reverse_mapping need value typed.draft) _
      (reverse_mapping-holds need value typed.draft (iri (rw no_id refl)) w keeps sound)
      (λ m h. then-holds Q (λ _. ⊤) IsSoundDraft (reverse_container_of (value_of (codes "@container") members)) _
      (reverse_container-holds (value_of (codes "@container") members)
      (λ b. q (or_right (has_key (codes "@id") members) (is_bad_reverse_container (value_of (codes "@container") members)) b)))
      (λ c _. defined-sound _ m.draft (both_true (is_term_name name) (is_term_iri (Some m.iri)) named h.1) h.0)))

  -- neither a keyword nor an absolute IRI
  abbrev is_no_name : Option (List ℕ) → Bool
  is_no_name None = true
  is_no_name (Some iri) = not (is_keyword iri || is_absolute iri)

  named_iri-holds : (o : Option (List ℕ)) → (is_no_name o ≡ true → Q ld.InvalidIriMapping) → Q ld.InvalidKeywordAlias → Holds Q (λ iri. is_term_iri (Some iri) ≡ true) (named_iri o)
  named_iri-holds None q a = q refl
  named_iri-holds (Some iri) q a =
      cond-holds Q (λ i. is_term_iri (Some i) ≡ true) (text_eq iri (codes "@context")) _ _ (λ _. a)
      (λ n. cond-holds Q (λ i. is_term_iri (Some i) ≡ true) (is_keyword iri || is_absolute iri) _ _ (term-iri iri n) (λ fails. q (rw fails refl)))

  confirmed-holds : (b : Bool) (need : Need) (name iri : List ℕ) (draft : Draft) → (b ≡ true → Q ld.InvalidIriMapping) → Each W (prefix_of_split (split_of name)) → Keeps need → IsSoundDraft draft → Holds Q IsSoundDraft (confirmed b need name iri draft)
  confirmed-holds false need name iri draft q w keeps sound = sound
  confirmed-holds true need name iri draft q w keeps sound =
      then-holds Q (IsExpanded name) IsSoundDraft (self_expanded need name draft) _
      (self_expanded-holds need name draft w keeps sound)
      (λ e h. then-holds Q (λ _. ⊤) IsSoundDraft (refuse (not (option_eq text_eq e.iri (Some iri))) ld.InvalidIriMapping) (λ _. Ok e.draft)
      (refuse-holds Q (not (option_eq text_eq e.iri (Some iri))) ld.InvalidIriMapping (λ _. q refl)) (λ _ _. h.0))

  -- the prefix of a name is one that it names
  name-split : (name : List ℕ) → Each W (named_by_name name) → Each W (prefix_of_split (split_of name))
  name-split name n = by (has_later_colon name) (text_eq (before_colon name) (95 ∷ []) || begins_authority (after_colon name)) n
    where
      by : (later kept : Bool) → Each W (cond later (before_colon name ∷ []) []) → Each W (prefix_of_split (cond later (cond kept as_is (split (before_colon name) (after_colon name))) unsplit))
      by true true n = tt
      by true false n = n
      by false kept n = tt

  id_mapping-holds : (need : Need) (name : List ℕ) (simple : Bool) (id : List ℕ) (draft : Draft) → (is_keyword id ≡ false → Q ld.InvalidIriMapping) → (must_expand name ≡ true → Q ld.InvalidIriMapping) → Q ld.InvalidKeywordAlias → Each W (named_by_text (Some (text id))) → Each W (named_by_name name) → Keeps need → IsSoundDraft draft → Holds Q IsSoundMapped (id_mapping need name simple id draft)
  id_mapping-holds need name simple id draft q m a w n keeps sound =
      then-holds Q (IsExpanded id) IsSoundMapped (expanded need id draft) _
      (expanded-holds need id draft w keeps sound)
      (λ e h. then-holds Q (λ iri. is_term_iri (Some iri) ≡ true) IsSoundMapped (named_iri e.iri) _
      (named_iri-holds e.iri (named e h) a)
      (λ iri i. then-holds Q IsSoundDraft IsSoundMapped (confirmed (must_expand name) need name iri e.draft) _
      (confirmed-holds (must_expand name) need name iri e.draft m (name-split name n) keeps h.0)
      (λ after s. (s, i))))
    where
      -- a keyword expands to itself
      named : (e : Expanded) → IsExpanded id e → is_no_name e.iri ≡ true → Q ld.InvalidIriMapping
      named e h fails = by (is_keyword id) refl
        where
          by : (word : Bool) → is_keyword id ≡ word → Q ld.InvalidIriMapping
          by false same = q same
          by true same = absurd (true≢false (sym fails ∙ ap is_no_name (h.1 ∙ keywords_stay e.draft.table id true same) ∙ word-named id same))

  vocab_mapping-holds : (name : List ℕ) (draft : Draft) (o : Option (List ℕ)) → Q ld.InvalidIriMapping → is_absolute_or_none o ≡ true → IsSoundDraft draft → Holds Q IsSoundMapped (vocab_mapping name draft o)
  vocab_mapping-holds name draft (Some vocab) q v sound =
      (sound, absolute-iri (vocab ++ name) (absolute-append vocab name v))
  vocab_mapping-holds name draft None q v sound = q

  name_mapping-holds : (b : Bool) (need : Need) (name : List ℕ) (draft : Draft) → Q ld.InvalidIriMapping → Each W (cond b (before_colon name ∷ []) []) → Keeps need → IsSoundDraft draft → Holds Q IsSoundMapped (name_mapping b need name draft)
  name_mapping-holds true need name draft q n keeps sound =
      then-holds Q IsSoundDraft IsSoundMapped (need (before_colon name) draft) _ (keeps (before_colon name) draft n.0 sound)
      (λ after h. absolute-holds after (Some (iri_by_prefix name (find_term (before_colon name) after.table.terms))) q h)
  name_mapping-holds false need name draft q n keeps sound = vocab_mapping-holds name draft draft.table.vocab q sound.vocab sound

  mapped_term-holds : (name : List ℕ) (members : JsonMembers) (coercion : Option (List ℕ)) (m : Mapped) → is_term_name name ≡ true → Allows name members → is_forward members ≡ true → IsSoundMapped m → Holds Q IsSoundDraft (mapped_term name members coercion m)
  mapped_term-holds name members coercion m named allows forward h =
      then-holds Q (λ _. ⊤) IsSoundDraft (container_of (value_of (codes "@container") members)) _
      (container-holds (value_of (codes "@container") members)
      (λ b. allows ld.InvalidContainerMapping (both_true (is_forward members) _ forward b)))
      (λ c _. then-holds Q (λ _. ⊤) IsSoundDraft (language_of (value_of (codes "@type") members) (value_of (codes "@language") members)) _
      (language-holds (value_of (codes "@type") members) (value_of (codes "@language") members)
      (λ b. allows ld.InvalidLanguageMapping (both_true (is_forward members) _ forward b)))
      (λ l _. then-holds Q (λ _. ⊤) IsSoundDraft (prefix_of name m.iri m.by_form (value_of (codes "@prefix") members)) _
      (prefix-holds name m.iri m.by_form (value_of (codes "@prefix") members)
      (λ s. allows ld.InvalidTermDefinition (or_right (has_other_key members) (is_forward members && is_misplaced_prefix name (value_of (codes "@prefix") members))
      (both_true (is_forward members) _ forward s)))
      (λ b. allows ld.InvalidPrefixValue (both_true (is_forward members) _ forward b)))
      (λ p _. defined-sound _ m.draft (both_true (is_term_name name) (is_term_iri (Some m.iri)) named h.1) h.0)))

  -- an alias of a keyword is made by `@id` alone, and a bad IRI mapping by an id that may give no IRI
  abbrev NamingFits : List ℕ → Naming → Type 0
  NamingFits name (by_id id) =
      Q ld.InvalidKeywordAlias × ((is_keyword id ≡ false → Q ld.InvalidIriMapping)
      × ((must_expand name ≡ true → Q ld.InvalidIriMapping) × Each W (named_by_text (Some (text id)))))
  NamingFits name by_name = Q ld.InvalidIriMapping
  NamingFits name undefined = ⊤
  NamingFits name no_text = Q ld.InvalidIriMapping

  naming_of_id-fits : (name id : List ℕ) → Q ld.InvalidKeywordAlias → (IsTrue (is_open_id name (Some (text id))) → Q ld.InvalidIriMapping) → Each W (named_by_text (Some (text id))) → NamingFits name (naming_of name (Some (text id)))
  naming_of_id-fits name id a q w = by (text_eq id name) (is_keyword id) (has_keyword_form id) (must_expand name) refl refl refl q
    where
      by :
          (same word formed must : Bool) → is_keyword id ≡ word → has_keyword_form id ≡ formed → must_expand name ≡ must →
          (IsTrue (same || cond word must (not formed)) → Q ld.InvalidIriMapping) →
          NamingFits name (cond same by_name (cond (formed && not word) undefined (by_id id)))
      by true word formed must x y z q = q refl
      by false true true must x y z q = (a, (λ fails. absurd (true≢false (sym x ∙ fails)), (λ m. q (sym z ∙ m), w)))
      by false true false must x y z q = (a, (λ fails. absurd (true≢false (sym x ∙ fails)), (λ m. q (sym z ∙ m), w)))
      by false false true must x y z q = tt
      by false false false must x y z q = (a, (λ _. q refl, (λ _. q refl, w)))

  naming-fits : (name : List ℕ) (o : Option JsonValue) → (IsTrue (is_text o) → Q ld.InvalidKeywordAlias) → (IsTrue (is_open_id name o) → Q ld.InvalidIriMapping) → Each W (named_by_text o) → NamingFits name (naming_of name o)
  naming-fits name None a q w = q refl
  naming-fits name (Some (text id)) a q w = naming_of_id-fits name id (a refl) q w
  naming-fits name (Some _) a q w = q refl

  plain_term-holds : (n : Naming) (need : Need) (name : List ℕ) (members : JsonMembers) (simple : Bool) (typed : Typed) → NamingFits name n → is_term_name name ≡ true → Allows name members → is_forward members ≡ true → Each W (named_by_name name) → Keeps need → IsSoundDraft typed.draft → Holds Q IsSoundDraft (plain_term n need name members simple typed)
  plain_term-holds undefined need name _ simple typed a named allows forward n keeps sound = sound
  plain_term-holds no_text need name _ simple typed a named allows forward n keeps sound = a
  plain_term-holds (by_id id) need name members simple typed a named allows forward n keeps sound =
      then-holds Q IsSoundMapped IsSoundDraft (id_mapping need name simple id typed.draft) _
      (id_mapping-holds need name simple id typed.draft a.1.0 a.1.1.0 a.0 a.1.1.1 n keeps sound)
      (λ m h. mapped_term-holds name members typed.coercion m named allows forward h)
  plain_term-holds by_name need name members simple typed a named allows forward n keeps sound =
      then-holds Q IsSoundMapped IsSoundDraft (name_mapping (has_later_colon name) need name typed.draft) _
      (name_mapping-holds (has_later_colon name) need name typed.draft a n keeps sound)
      (λ m h. mapped_term-holds name members typed.coercion m named allows forward h)

  typed_term-holds : (o : Option JsonValue) (need : Need) (name : List ℕ) (members : JsonMembers) (simple : Bool) (typed : Typed) → has_key (codes "@reverse") members ≡ is_some o → Each W (named_by_text o) → is_term_name name ≡ true → Allows name members → Wants members → Each W (named_by_name name) → Keeps need → IsSoundDraft typed.draft → Holds Q IsSoundDraft (typed_term o need name members simple typed)
  typed_term-holds (Some value) need name members simple typed reversed v named allows w n keeps sound =
      reverse_term-holds need name members value typed named
      (λ b. allows ld.InvalidReverseProperty (both_true (has_key (codes "@reverse") members) _ reversed b))
      (λ b. allows ld.InvalidIriMapping (rw reversed b)) v keeps sound
  typed_term-holds None need name members simple typed reversed v named allows w n keeps sound =
      let forward : is_forward members ≡ true = rw reversed refl in
      plain_term-holds (naming_of name (value_of (codes "@id") members)) need name members simple typed
      (naming-fits name (value_of (codes "@id") members)
      (λ t. allows ld.InvalidKeywordAlias (both_true (is_forward members) _ forward t))
      (λ b. allows ld.InvalidIriMapping (rw reversed b)) w.ids) named allows forward n keeps sound

  -- the causes that a term's value may have are those of its map
  abbrev SourceFits : List ℕ → Source → Type 0
  SourceFits name no_iri = ⊤
  SourceFits name (entries members simple) = Allows name members × Wants members

  sourced_term-holds : (s : Source) (need : Need) (name : List ℕ) (draft : Draft) → SourceFits name s → is_term_name name ≡ true → Each W (named_by_name name) → Keeps need → IsSoundDraft draft → Holds Q IsSoundDraft (sourced_term s need name draft)
  sourced_term-holds no_iri need name draft fits named n keeps sound =
      defined-sound (bare_definition name) draft (both_true (is_term_name name) true named refl) sound
  sourced_term-holds (entries members simple) need name draft fits named n keeps sound =
      then-holds Q (λ (t : Typed). IsSoundDraft t.draft) IsSoundDraft (type_mapping need (value_of (codes "@type") members) draft) _
      (type_mapping-holds need (value_of (codes "@type") members) draft (fits.0 ld.InvalidTypeMapping) fits.1.types keeps sound)
      (λ typed h. typed_term-holds (value_of (codes "@reverse") members) need name members simple typed
      refl fits.1.reverses named fits.0 fits.1 n keeps h)

  source_of_map-holds : (name : List ℕ) (members : JsonMembers) (o : Option JsonValue) → (is_null o ≡ false → Allows name members) → Wants members → Holds Q (SourceFits name) (source_of_map members o)
  source_of_map-holds name _ (Some null) allows w = tt
  source_of_map-holds name members _ allows w =
      cond-holds Q (SourceFits name) (all_keys is_definition_key members) _ _ (λ _. (allows refl, w))
      (λ e. allows refl ld.InvalidTermDefinition (or_left (has_other_key members) (is_forward members && is_misplaced_prefix name (value_of (codes "@prefix") members)) (rw e refl)))

  map-wants : (given : JsonMembers) → Each W (named_by_map given) → Wants given
  map-wants given w =
      let two : Each W (named_by_text (value_of (codes "@id") given) ++ named_by_text (value_of (codes "@type") given)) =
      each-first W _ (named_by_text (value_of (codes "@reverse") given)) w in
      record {
        ids = each-first W (named_by_text (value_of (codes "@id") given)) (named_by_text (value_of (codes "@type") given)) two;
        types = each-second W (named_by_text (value_of (codes "@id") given)) (named_by_text (value_of (codes "@type") given)) two;
        reverses = each-second W (named_by_text (value_of (codes "@id") given) ++ named_by_text (value_of (codes "@type") given)) (named_by_text (value_of (codes "@reverse") given)) w;
      }

  source-holds : (name : List ℕ) (value : JsonValue) → ((e : LdError) → IsTrue (value_cause e name value) → Q e) → Each W (named_by_value value) → Holds Q (SourceFits name) (source_of value)
  source-holds name null causes w = tt
  source-holds name (text id) causes w = (causes, record { ids = w; types = tt; reverses = tt })
  source-holds name (object members) causes w =
      source_of_map-holds name members (value_of (codes "@id") members)
      (λ some e h. causes e (both_true (not (is_null (value_of (codes "@id") members))) _ (rw some refl) h)) (map-wants members w)
  source-holds name (truth b) causes w = causes ld.InvalidTermDefinition refl
  source-holds name (whole n) causes w = causes ld.InvalidTermDefinition refl
  source-holds name fraction causes w = causes ld.InvalidTermDefinition refl
  source-holds name (array items) causes w = causes ld.InvalidTermDefinition refl

  pub ordinary_term-holds : (need : Need) (name : List ℕ) (value : JsonValue) (draft : Draft) → is_term_name name ≡ true → ((e : LdError) → IsTrue (value_cause e name value) → Q e) → Each W (named_by name value) → Keeps need → IsSoundDraft draft → Holds Q IsSoundDraft (ordinary_term need name value draft)
  unfolding ordinary_term
  ordinary_term-holds need name value draft named causes w keeps sound =
      then-holds Q (SourceFits name) IsSoundDraft (source_of value) _ (source-holds name value causes (each-second W (named_by_name name) (named_by_value value) w))
      (λ source fits. sourced_term-holds source need name draft fits named (each-first W (named_by_name name) (named_by_value value) w) keeps sound)
