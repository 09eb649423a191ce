-- What the table of a context keeps, and which errors it gives.
use Rattle.std.proofs.Common.{◌≡◌, ℕ, zero, suc, Bool, true, false, not, ◌&&◌, ◌||◌, List, [], ◌∷◌, Option, Some, None, is_some, IsTrue, refl, sym, ap, ◌∙◌, subst, true≢false, codes, cond, length, ◌<◌, ◌≤◌, arith, inl, inr}
use Rattle.std.specs.Bool.{⊤}
use Rattle.std.specs.List.{list_any}
use Rattle.std.specs.Cmp.Lexicographic.{bytes_decides}
use Rattle.std.proofs.lemmas.Option.{same_Some}
use Rattle.lf_model.specs.declared.table.TermTable.{TermTable}
use Rattle.lf_model.specs.declared.error.LdError.{LdError}
use Rattle.lf_model.specs.declared.error.LdError.TheVariants as ld
use Rattle.lf_model.specs.JsonData.{JsonValue, JsonItems, JsonMembers, null, truth, whole, fraction, text, array, object, no_items, item, no_members, member}
use Rattle.lf_rdf.specs.Equality.{text_eq}
use Rattle.def_contexts.specs.Texts.{is_absolute, is_empty}
use Rattle.def_contexts.specs.Keywords.{keywords, is_keyword, has_keyword_form, one_of}
use Rattle.def_contexts.specs.Expansion.{expand}
use Rattle.def_contexts.specs.Outcomes.{refuse}
use Rattle.def_contexts.specs.Members.{value_of}
use Rattle.def_contexts.specs.Drafts.{Draft, Need, forgotten}
use Rattle.def_contexts.specs.Table.{terms_of, is_bad_version, has_refused_key, vocab_expanded, vocab_of, default_language_of, map_table, empty_table, table_after, items_after, table_of}
use Rattle.def_contexts.specs.Defining.{NameKind, empty_name, type_name, keyword_name, ignored_name, ordinary_name, name_kind, sets_type, type_term, term_defined, Entry, entry_value, standing_of, made_ready, needed, Define, define, define_each, define_terms}
use Rattle.def_contexts.specs.TableLaws.{is_term_name, is_absolute_or_none}
use Rattle.def_contexts.specs.Causes.{is_null, is_given, is_bad_language, is_definition_error, definition_cause, value_cause, entry_cause, map_cause, context_cause, items_cause}
use Rattle.def_contexts.specs.Circles.{named_by, Leads, step, chain, HasCircle, ContextHasCircle, ItemsHaveCircle, CyclesAreCircles}
use Rattle.def_contexts.proofs.Room.{free, free-less, free-length}
use Rattle.def_contexts.proofs.Holding.{Holds, then-holds, refuse-holds, cond-holds, or_left, or_right}
use Rattle.def_contexts.proofs.Expanding.{second_true}
use Rattle.def_contexts.proofs.Ordered.{both_true}
use Rattle.def_contexts.proofs.Sound.{IsSound, IsSoundDraft, empty-sound, forgotten-sound}
use Rattle.def_contexts.proofs.TermHolding.{Each, Keeps, ordinary_term-holds}

-- what the kind of a name says of it
abbrev KindFits : NameKind → List ℕ → Type 0
KindFits empty_name name = is_empty name ≡ true
KindFits type_name name = is_keyword name ≡ true
KindFits keyword_name name = (is_keyword name ≡ true) × (text_eq name (codes "@type") ≡ false)
KindFits ignored_name name = ⊤
KindFits ordinary_name name = is_term_name name ≡ true

type-keyword : is_keyword (codes "@type") ≡ true
unfolding keywords is_keyword
type-keyword = refl

same-text : (xs ys : List ℕ) → text_eq xs ys ≡ true → xs ≡ ys
same-text xs ys h = (bytes_decides xs ys).0 h

kind-fits : (name : List ℕ) → KindFits (name_kind name) name
kind-fits name = by (is_empty name) (text_eq name (codes "@type")) (is_keyword name) (has_keyword_form name) refl refl refl refl
  where
    by :
        (empty typed word formed : Bool) → is_empty name ≡ empty → text_eq name (codes "@type") ≡ typed →
        is_keyword name ≡ word → has_keyword_form name ≡ formed →
        KindFits (cond empty empty_name (cond typed type_name (cond word keyword_name (cond formed ignored_name ordinary_name)))) name
    by true typed word formed a b c d = a
    by false true word formed a b c d = ap is_keyword (same-text name (codes "@type") b) ∙ type-keyword
    by false false true formed a b c d = (c, b)
    by false false false true a b c d = tt
    by false false false false a b c d = rw (a, c, d) refl

pub and-false : (a b : Bool) → b ≡ false → (a && b) ≡ false
and-false true b h = h
and-false false b h = refl

-- no value causes an error of which no definition speaks
pub value-none :
    (e : LdError) (name : List ℕ) (value : JsonValue) → ((given : JsonMembers) → definition_cause e name given ≡ false) →
    is_definition_error e ≡ false → value_cause e name value ≡ false
value-none e name null d b = refl
value-none e name (truth x) d b = b
value-none e name (whole n) d b = b
value-none e name fraction d b = b
value-none e name (text t) d b = d (member (codes "@id") (text t) no_members)
value-none e name (array items) d b = b
value-none e name (object given) d b = and-false (not (is_null (value_of (codes "@id") given))) (definition_cause e name given) (d given)

no-value :
    (e : LdError) (name : List ℕ) (value : JsonValue) → ((given : JsonMembers) → definition_cause e name given ≡ false) →
    is_definition_error e ≡ false → IsTrue (value_cause e name value) → ⊥
no-value e name value d b h = true≢false (sym h ∙ value-none e name value d b)

-- a cause in a value is a cause in the entry of its term
cause-up : (e : LdError) (name : List ℕ) (value : JsonValue) → is_term_name name ≡ true → IsTrue (value_cause e name value) → IsTrue (entry_cause e (record { name = name; value = value }))
cause-up ld.CyclicIriMapping name value named h = refl
cause-up ld.KeywordRedefinition name value named h = absurd (no-value ld.KeywordRedefinition name value (λ _. refl) refl h)
cause-up ld.InvalidTermDefinition name value named h =
    or_right (is_empty name) (is_term_name name && value_cause ld.InvalidTermDefinition name value)
    (both_true (is_term_name name) (value_cause ld.InvalidTermDefinition name value) named h)
cause-up e name value named h = both_true (is_term_name name) (value_cause e name value) named h

-- what a look-up finds is a term of the list
found-any : (test : Entry → Bool) (name : List ℕ) (terms : List Entry) (value : JsonValue) → entry_value name terms ≡ Some value → IsTrue (test (record { name = name; value = value })) → IsTrue (list_any test terms)
found-any test name [] value found h = absurd (true≢false (sym (ap is_some found)))
found-any test name (e ∷ rest) value found h = by (text_eq name e.name) refl found (λ later. found-any test name rest value later h)
  where
    by : (same : Bool) → text_eq name e.name ≡ same → cond same (Some e.value) (entry_value name rest) ≡ Some value → (entry_value name rest ≡ Some value → IsTrue (list_any test rest)) → IsTrue (test e || list_any test rest)
    by true same here later =
        or_left (test e) (list_any test rest)
        (subst (λ (x : Entry). IsTrue (test x))
        (λ i. record { name = same-text name e.name same i; value = sym (same_Some e.value value here) i }) h)
    by false same here later = or_right (test e) (list_any test rest) (later here)

-- whether an error is that of a cycle
abbrev pub is_cycle : LdError → Bool
is_cycle ld.CyclicIriMapping = true
is_cycle _ = false

-- what leads from the last of the terms that are being defined
abbrev HeadLeads : List Entry → List (List ℕ) → List ℕ → Type 0
HeadLeads terms [] name = ⊤
HeadLeads terms (b ∷ rest) name = Leads terms b name

-- each of the terms that are being defined leads to the next
abbrev Chain : List Entry → List (List ℕ) → Type 0
Chain terms [] = ⊤
Chain terms (b ∷ rest) = HeadLeads terms rest b × Chain terms rest

-- a term that is being defined and is needed again leads to itself
circle : (terms : List Entry) (beings : List (List ℕ)) (name : List ℕ) → Chain terms beings → HeadLeads terms beings name → one_of beings name ≡ true → Leads terms name name
circle terms [] name links head held = absurd (true≢false (sym held))
circle terms (b ∷ rest) name links head held =
    by (text_eq name b) refl held (λ later further. circle terms rest name links.1 further later)
  where
    further : (rest : List (List ℕ)) → HeadLeads terms rest b → HeadLeads terms rest name
    further [] h = tt
    further (c ∷ rest) h = chain h head

    by : (same : Bool) → text_eq name b ≡ same → (same || one_of rest name) ≡ true → (one_of rest name ≡ true → HeadLeads terms rest name → Leads terms name name) → Leads terms name name
    by true same held more = subst (λ x. Leads terms x name) (sym (same-text name b same)) head
    by false same held more = more held (further rest links.0)

text-refl : (xs : List ℕ) → text_eq xs xs ≡ true
text-refl xs = (bytes_decides xs xs).1 refl

-- each text of a list is one of it
each-held : (W : List ℕ → Type 0) (xs : List (List ℕ)) → ((x : List ℕ) → IsTrue (one_of xs x) → W x) → Each W xs
each-held W [] h = tt
each-held W (x ∷ rest) h =
    (h x (or_left (text_eq x x) (one_of rest x) (text-refl x)), each-held W rest (λ y k. h y (or_right (text_eq y x) (one_of rest y) k)))

-- what leads on is a term of the list
leads-entry : (terms : List Entry) {from to : List ℕ} → Leads terms from to → (value : JsonValue) × (entry_value from terms ≡ Some value)
leads-entry terms (step value found named) = (value, found)
leads-entry terms (chain first second) = leads-entry terms first

module _ (Q : LdError → Type 0) where
  type_term-holds : (value : JsonValue) (draft : Draft) → (sets_type value ≡ false → Q ld.KeywordRedefinition) → IsSoundDraft draft → Holds Q IsSoundDraft (type_term value draft)
  type_term-holds value draft q sound =
      cond-holds Q IsSoundDraft (sets_type value) _ _
      (λ _. record { ascending = sound.ascending; terms = sound.terms; vocab = sound.vocab }) q

  -- the causes of a term's entry, but for a cycle
  abbrev pub AllowsEntry : List ℕ → JsonValue → Type 0
  AllowsEntry name value = (e : LdError) → is_cycle e ≡ false → IsTrue (entry_cause e (record { name = name; value = value })) → Q e

  value-allows : (name : List ℕ) (value : JsonValue) → is_term_name name ≡ true → AllowsEntry name value → (e : LdError) → IsTrue (value_cause e name value) → Q e
  value-allows name value named allows ld.CyclicIriMapping h = absurd (no-value ld.CyclicIriMapping name value (λ _. refl) refl h)
  value-allows name value named allows e h = allows e refl (cause-up e name value named h)

  redefined : (name : List ℕ) (value : JsonValue) → AllowsEntry name value → is_keyword name ≡ true → (text_eq name (codes "@type") && sets_type value) ≡ false → Q ld.KeywordRedefinition
  redefined name value allows word other =
      allows ld.KeywordRedefinition refl
      (both_true (is_keyword name) (not (text_eq name (codes "@type") && sets_type value)) word (rw other refl))

  term_defined-holds : (W : List ℕ → Type 0) (kind : NameKind) (need : Need) (name : List ℕ) (value : JsonValue) (draft : Draft) → KindFits kind name → AllowsEntry name value → Each W (named_by name value) → Keeps Q W need → IsSoundDraft draft → Holds Q IsSoundDraft (term_defined kind need name value draft)
  term_defined-holds W empty_name need name value draft fits allows w keeps sound =
      allows ld.InvalidTermDefinition refl
      (or_left (is_empty name) (is_term_name name && value_cause ld.InvalidTermDefinition name value) fits)
  term_defined-holds W type_name need name value draft fits allows w keeps sound =
      type_term-holds value draft
      (λ fails. redefined name value allows fits (and-false (text_eq name (codes "@type")) (sets_type value) fails)) sound
  term_defined-holds W keyword_name need name value draft fits allows w keeps sound =
      redefined name value allows fits.0 (rw (fits.1) refl)
  term_defined-holds W ignored_name need name value draft fits allows w keeps sound = sound
  term_defined-holds W ordinary_name need name value draft fits allows w keeps sound =
      ordinary_term-holds Q W need name value (forgotten name draft) fits (value-allows name value fits allows)
      w keeps (forgotten-sound name draft sound)

  -- what a definition of a term of the list keeps, where these are being defined
  abbrev pub Defines : List Entry → Define → List (List ℕ) → Type 0
  Defines terms define beings =
      (name : List ℕ) (value : JsonValue) (draft : Draft) → entry_value name terms ≡ Some value →
      one_of beings name ≡ false → HeadLeads terms beings name → IsSoundDraft draft →
      Holds Q IsSoundDraft (define beings name value draft)

  -- the causes of each entry, and of a cycle
  pub record AllowsTerms (terms : List Entry) : Type 0 where
    pub entries : (name : List ℕ) (value : JsonValue) → entry_value name terms ≡ Some value → AllowsEntry name value
    pub circular : HasCircle terms → Q ld.CyclicIriMapping

  needed-holds : (terms : List Entry) (define : Define) (beings : List (List ℕ)) (name : List ℕ) (draft : Draft) → AllowsTerms terms → Chain terms beings → Defines terms define beings → HeadLeads terms beings name → IsSoundDraft draft → Holds Q IsSoundDraft (needed terms define beings name draft)
  needed-holds terms define beings name draft allows links defines head sound =
      by (one_of draft.done name) (one_of beings name) (entry_value name terms) refl refl
    where
      by : (done being : Bool) (o : Option JsonValue) → one_of beings name ≡ being → entry_value name terms ≡ o → Holds Q IsSoundDraft (made_ready (standing_of done being o) define beings name draft)
      by done being None held found = sound
      by true being (Some value) held found = sound
      by false true (Some value) held found = allows.circular (name, circle terms beings name links head held)
      by false false (Some value) held found = defines name value draft found held head sound

  define-holds : (terms : List Entry) (room : ℕ) (beings : List (List ℕ)) → AllowsTerms terms → free beings terms ≤ room → Chain terms beings → Defines terms (define terms room) beings
  unfolding define
  define-holds terms zero beings allows room links name value draft found new head sound =
      absurd (none (free-less name beings terms value found new))
    where
      none : free (name ∷ beings) terms < free beings terms → ⊥
      none h = omega arith
  define-holds terms (suc left) beings allows room links name value draft found new head sound =
      let less : free (name ∷ beings) terms < free beings terms = free-less name beings terms value found new in
      let fits : free (name ∷ beings) terms ≤ left = omega arith in
      term_defined-holds (λ n. IsTrue (one_of (named_by name value) n)) (name_kind name)
      (needed terms (define terms left) (name ∷ beings)) name value draft (kind-fits name) (allows.entries name value found)
      (each-held (λ n. IsTrue (one_of (named_by name value) n)) (named_by name value) (λ x h. h))
      (λ n d w h. needed-holds terms (define terms left) (name ∷ beings) n d allows (head, links)
      (define-holds terms left (name ∷ beings) allows fits (head, links)) (step value found w) h)
      sound

  define_each-holds : (need : Need) (terms : List Entry) (draft : Draft) → Keeps Q (λ _. ⊤) need → IsSoundDraft draft → Holds Q IsSoundDraft (define_each need terms draft)
  define_each-holds need [] draft keeps sound = sound
  define_each-holds need (e ∷ rest) draft keeps sound =
      then-holds Q IsSoundDraft IsSoundDraft (need e.name draft) _ (keeps e.name draft tt sound)
      (λ next h. define_each-holds need rest next keeps h)

  define_terms-holds : (terms : List Entry) (table : TermTable) → AllowsTerms terms → IsSound table → Holds Q IsSoundDraft (define_terms terms table)
  unfolding define_terms
  define_terms-holds terms table allows sound =
      define_each-holds (needed terms (define terms (length terms)) []) terms (record { table = table; done = [] })
      (λ name draft _ h. needed-holds terms (define terms (length terms)) [] name draft allows tt
      (define-holds terms (length terms) [] allows (free-length [] terms) tt) tt h) sound

  vocab_expanded-holds : (o : Option (List ℕ)) → Q ld.InvalidVocabMapping → Holds Q (λ v. is_absolute_or_none v ≡ true) (vocab_expanded o)
  vocab_expanded-holds (Some iri) q =
      cond-holds Q (λ v. is_absolute_or_none v ≡ true) (is_absolute iri) _ _ (λ e. e) (λ _. q)
  vocab_expanded-holds None q = q

  vocab-holds : (table : TermTable) (o : Option JsonValue) → (IsTrue (is_given o) → Q ld.InvalidVocabMapping) → IsSound table → Holds Q (λ v. is_absolute_or_none v ≡ true) (vocab_of table o)
  vocab-holds table None q sound = sound.vocab
  vocab-holds table (Some null) q sound = refl
  vocab-holds table (Some (text name)) q sound = vocab_expanded-holds (expand table name true) (q refl)
  vocab-holds table (Some _) q sound = q refl

  default_language-holds : (table : TermTable) (o : Option JsonValue) → (IsTrue (is_bad_language o) → Q ld.InvalidDefaultLanguage) → Holds Q (λ (_ : Option (List ℕ)). ⊤) (default_language_of table o)
  default_language-holds table None q = tt
  default_language-holds table (Some null) q = tt
  default_language-holds table (Some (text t)) q = tt
  default_language-holds table (Some _) q = q refl

  -- the causes of a map are those of its terms too
  pub record AllowsMap (given : JsonMembers) : Type 0 where
    pub causes : (e : LdError) → is_cycle e ≡ false → IsTrue (map_cause e given) → Q e
    pub circular : HasCircle (terms_of given) → Q ld.CyclicIriMapping

  entry-map : (given : JsonMembers) (name : List ℕ) (value : JsonValue) → AllowsMap given → entry_value name (terms_of given) ≡ Some value → AllowsEntry name value
  entry-map given name value allows found e c h = by e c h (found-any (entry_cause e) name (terms_of given) value found h)
    where
      by : (e : LdError) → is_cycle e ≡ false → IsTrue (entry_cause e (record { name = name; value = value })) → IsTrue (list_any (entry_cause e) (terms_of given)) → Q e
      by ld.InvalidVersionValue c h k = absurd (no-value ld.InvalidVersionValue name value (λ _. refl) refl (second_true (is_term_name name) (value_cause ld.InvalidVersionValue name value) h))
      by ld.InvalidLocalContext c h k = absurd (no-value ld.InvalidLocalContext name value (λ _. refl) refl (second_true (is_term_name name) (value_cause ld.InvalidLocalContext name value) h))
      by ld.InvalidVocabMapping c h k = absurd (no-value ld.InvalidVocabMapping name value (λ _. refl) refl (second_true (is_term_name name) (value_cause ld.InvalidVocabMapping name value) h))
      by ld.InvalidDefaultLanguage c h k = absurd (no-value ld.InvalidDefaultLanguage name value (λ _. refl) refl (second_true (is_term_name name) (value_cause ld.InvalidDefaultLanguage name value) h))
      by e c h k = allows.causes e c k

  map_table-holds : (given : JsonMembers) (table : TermTable) → AllowsMap given → IsSound table → Holds Q IsSound (map_table given table)
  unfolding map_table
  map_table-holds given table allows sound =
      then-holds Q (λ _. ⊤) IsSound (refuse (is_bad_version (value_of (codes "@version") given)) ld.InvalidVersionValue) _
      (refuse-holds Q (is_bad_version (value_of (codes "@version") given)) ld.InvalidVersionValue (allows.causes ld.InvalidVersionValue refl))
      (λ _ _. then-holds Q (λ _. ⊤) IsSound (refuse (has_refused_key given) ld.InvalidLocalContext) _
      (refuse-holds Q (has_refused_key given) ld.InvalidLocalContext (allows.causes ld.InvalidLocalContext refl))
      (λ _ _. then-holds Q (λ v. is_absolute_or_none v ≡ true) IsSound (vocab_of table (value_of (codes "@vocab") given)) _
      (vocab-holds table (value_of (codes "@vocab") given) (allows.causes ld.InvalidVocabMapping refl) sound)
      (λ vocab v. then-holds Q (λ _. ⊤) IsSound (default_language_of table (value_of (codes "@language") given)) _
      (default_language-holds table (value_of (codes "@language") given) (allows.causes ld.InvalidDefaultLanguage refl))
      (λ language _. then-holds Q IsSoundDraft IsSound (define_terms (terms_of given) (record table { vocab = vocab; language = language })) _
      (define_terms-holds (terms_of given) (record table { vocab = vocab; language = language })
      (record { entries = λ name value found. entry-map given name value allows found; circular = allows.circular })
      (record { ascending = sound.ascending; terms = sound.terms; vocab = v }))
      (λ draft h. h)))))

-- what the errors of a context may be
record AllowsContext (Q : LdError → Type 0) (context : JsonValue) : Type 0 where
  causes : (e : LdError) → is_cycle e ≡ false → IsTrue (context_cause e context) → Q e
  circular : ContextHasCircle context → Q ld.CyclicIriMapping

record AllowsItems (Q : LdError → Type 0) (items : JsonItems) : Type 0 where
  causes : (e : LdError) → is_cycle e ≡ false → IsTrue (items_cause e items) → Q e
  circular : ItemsHaveCircle items → Q ld.CyclicIriMapping

-- what the errors of a context and its table are
mutual
  table_after-holds : (Q : LdError → Type 0) (context : JsonValue) (table : TermTable) → AllowsContext Q context → IsSound table → Holds Q IsSound (table_after context table)
  table_after-holds Q null table allows sound = empty-sound
  table_after-holds Q (text url) table allows sound = allows.causes ld.LoadingRemoteContextFailed refl refl
  table_after-holds Q (array items) table allows sound =
      items_after-holds Q items table (record { causes = allows.causes; circular = allows.circular }) sound
  table_after-holds Q (object given) table allows sound =
      map_table-holds Q given table (record { causes = allows.causes; circular = allows.circular }) sound
  table_after-holds Q (truth b) table allows sound = allows.causes ld.InvalidLocalContext refl refl
  table_after-holds Q (whole n) table allows sound = allows.causes ld.InvalidLocalContext refl refl
  table_after-holds Q fraction table allows sound = allows.causes ld.InvalidLocalContext refl refl

  items_after-holds : (Q : LdError → Type 0) (items : JsonItems) (table : TermTable) → AllowsItems Q items → IsSound table → Holds Q IsSound (items_after items table)
  items_after-holds Q no_items table allows sound = sound
  items_after-holds Q (item value rest) table allows sound =
      then-holds Q IsSound IsSound (table_after value table) _
      (table_after-holds Q value table
      (record { causes = λ e c h. allows.causes e c (or_left (context_cause e value) (items_cause e rest) h); circular = λ c. allows.circular (inl c) }) sound)
      (λ next h. items_after-holds Q rest next
      (record { causes = λ e c k. allows.causes e c (or_right (context_cause e value) (items_cause e rest) k); circular = λ c. allows.circular (inr c) }) h)

-- a circle is a cause of a cycle
mutual
  circle-cause : (context : JsonValue) → ContextHasCircle context → IsTrue (context_cause ld.CyclicIriMapping context)
  circle-cause null c = absurd c
  circle-cause (text url) c = absurd c
  circle-cause (array items) c = circles-cause items c
  circle-cause (object given) c =
      let entry : (value : JsonValue) × (entry_value c.0 (terms_of given) ≡ Some value) = leads-entry (terms_of given) c.1 in
      found-any (entry_cause ld.CyclicIriMapping) c.0 (terms_of given) entry.0 entry.1 refl
  circle-cause (truth b) c = absurd c
  circle-cause (whole n) c = absurd c
  circle-cause fraction c = absurd c

  circles-cause : (items : JsonItems) → ItemsHaveCircle items → IsTrue (items_cause ld.CyclicIriMapping items)
  circles-cause no_items c = absurd c
  circles-cause (item value rest) (inl c) =
      or_left (context_cause ld.CyclicIriMapping value) (items_cause ld.CyclicIriMapping rest) (circle-cause value c)
  circles-cause (item value rest) (inr c) =
      or_right (context_cause ld.CyclicIriMapping value) (items_cause ld.CyclicIriMapping rest) (circles-cause rest c)

pub table-holds : (context : JsonValue) → Holds (λ e. IsTrue (context_cause e context)) IsSound (table_of context)
unfolding table_of
table-holds context =
    table_after-holds (λ e. IsTrue (context_cause e context)) context empty_table
    (record { causes = λ e c h. h; circular = circle-cause context }) empty-sound

-- what is asked of a cycle alone
abbrev OnCycle : Type 0 → LdError → Type 0
OnCycle P ld.CyclicIriMapping = P
OnCycle P _ = ⊤

other-error : (P : Type 0) (e : LdError) → is_cycle e ≡ false → OnCycle P e
other-error P ld.CyclicIriMapping c = absurd (true≢false c)
other-error P _ c = tt

circle-holds : (context : JsonValue) → Holds (OnCycle (ContextHasCircle context)) IsSound (table_of context)
unfolding table_of
circle-holds context =
    table_after-holds (OnCycle (ContextHasCircle context)) context empty_table
    (record { causes = λ e c h. other-error (ContextHasCircle context) e c; circular = λ c. c }) empty-sound

pub cycles_are_circles : CyclesAreCircles
cycles_are_circles context h = subst (Holds (OnCycle (ContextHasCircle context)) IsSound) h (circle-holds context)
