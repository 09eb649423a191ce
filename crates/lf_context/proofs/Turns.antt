-- The turns of a term's definition are the definition, cut where it needs another term.
use Rattle.std.proofs.Common.{◌≡◌, ℕ, Bool, true, false, not, ◌||◌, List, ◌++◌, Option, Some, None, is_some, Result, Ok, Err, cond, codes, refl, sym, ap, ◌∙◌}
use Rattle.lf_model.specs.declared.table.TermTable.{TermTable}
use Rattle.lf_model.specs.declared.error.LdError.{LdError}
use Rattle.lf_model.specs.declared.error.LdError.TheVariants.{InvalidIriMapping, InvalidReverseProperty, InvalidTypeMapping, InvalidTermDefinition}
use Rattle.lf_model.specs.JsonData.{JsonValue, null, truth, whole, fraction, text, array, object}
use Rattle.lf_rdf.specs.Equality.{text_eq, option_eq}
use Rattle.def_contexts.specs.Texts.{is_absolute, has_later_colon, before_colon}
use Rattle.def_contexts.specs.Keywords.{is_keyword, has_keyword_form}
use Rattle.def_contexts.specs.Outcomes.{◌>>=◌, refuse}
use Rattle.def_contexts.specs.Members.{value_of, all_keys}
use Rattle.def_contexts.specs.Expansion.{find_term, expand, Split, unsplit, as_is, split, split_of}
use Rattle.def_contexts.specs.Drafts.{Draft, Need, defined, Expanded, expanded, expanded_by, self_expanded, need_if, need_whole, need_split, need_prefix}
use Rattle.def_contexts.specs.TermParts.{container_of, reverse_container_of, language_of, prefix_of}
use Rattle.def_contexts.specs.Mappings.{is_type_mapping, type_mapping, Mapped, mapped, absolute_or_refused, reverse_mapping, must_expand, is_prefix_by_form, named_iri, confirmed, iri_by_prefix, vocab_mapping, name_mapping}
use Rattle.def_contexts.specs.Terms.{entries, is_definition_key, source_of_map, reverse_definition, reverse_term, Naming, by_id, by_name, undefined, no_text, naming_of, mapped_term, plain_term, typed_term, sourced_term, ordinary_term}
use Rattle.lf_context.specs.declared.stage.Wanted.{Wanted}
use Rattle.lf_context.specs.declared.stage.Wanted.TheVariants.{Reverse, Id}
use Rattle.lf_context.specs.declared.stage.Stage.{Stage}
use Rattle.lf_context.specs.declared.stage.Stage.TheVariants.{TypePrefix, TypeExpanding, IriPrefix, IriExpanding, Confirming, ByName}
use Rattle.lf_context.specs.declared.stage.Turn.{Turn}
use Rattle.lf_context.specs.declared.stage.Turn.TheVariants.{Asks}
use Rattle.lf_context.specs.Stages.{members_in, is_simple, part, drafted, after_iri, after_type, resumed, turned, Step, Tells}
use Rattle.lf_context.specs.Turns.{asked_of, asked_prefix, absolute_iri, finished_turn, reverse_turn, confirming_turn, confirm_asked, confirm_if, id_turn, by_prefix_turn, in_vocabulary_turn, by_name_turn, iri_expanded_turn, iri_expanding_turn, iri_asked, iri_prefix_turn, iri_whole_turn, reverse_words, reverse_begun_turn, named_turn, plain_turn, typed_by, typed_turn, type_expanded_turn, type_expanding_turn, type_asked, type_prefix_turn, type_whole_turn, members_by, members_turn, map_states, stated_turn, begun_turn, resumed_turn}

-- ---- chains of steps

pub then-then :
    {A B C : Type 0} (r : Result A LdError) (f : A → Result B LdError) (g : B → Result C LdError) →
    ((r >>= f) >>= g) ≡ (r >>= λ x. f x >>= g)
then-then (Ok x) f g = refl
then-then (Err e) f g = refl

pub then-same :
    {A B : Type 0} (r : Result A LdError) (f g : A → Result B LdError) → ((x : A) → f x ≡ g x) → (r >>= f) ≡ (r >>= g)
then-same (Ok x) f g same = same x
then-same (Err e) f g same = refl

-- one step after another, and what follows both
chain :
    {A B C : Type 0} (r : Result A LdError) (f : A → Result B LdError) (g : B → Result C LdError) (h : A → Result C LdError) →
    ((x : A) → (f x >>= g) ≡ h x) → ((r >>= f) >>= g) ≡ (r >>= h)
chain r f g h same = then-then r f g ∙ then-same r (λ x. f x >>= g) h same

module _ (table : TermTable) (name : List ℕ) (value : JsonValue) where
  abbrev says : Step → Result Turn LdError → Type 0
  says = Tells table name value

  -- a definition that is finished
  abbrev comes : Need → Draft → Result Turn LdError → Result Draft LdError
  comes need draft turn = turn >>= λ t. turned t need name value draft

  -- ---- the last parts

  finished : (coercion : Option (List ℕ)) (iri : List ℕ) (by_form : Bool) → says (λ need draft. mapped_term name (members_in value) coercion (mapped draft iri by_form)) (finished_turn name value coercion iri by_form)
  unfolding finished_turn
  finished coercion iri by_form need done =
      sym (chain (container_of (part (codes "@container") value)) _ (λ t. turned t need name value (drafted table done)) _ (λ container.
      chain (language_of (part (codes "@type") value) (part (codes "@language") value)) _ (λ t. turned t need name value (drafted table done)) _ (λ language.
      chain (prefix_of name iri by_form (part (codes "@prefix") value)) _ (λ t. turned t need name value (drafted table done)) _ (λ prefix. refl))))

  absolute : {A : Type 0} (draft : Draft) (found : Option (List ℕ)) (f : Mapped → Result A LdError) → (absolute_or_refused draft found >>= f) ≡ (absolute_iri found >>= λ iri. f (mapped draft iri false))
  absolute draft None f = refl
  absolute draft (Some iri) f = by (is_absolute iri)
    where
      by : (b : Bool) → (cond b (Ok (mapped draft iri false)) (Err InvalidIriMapping) >>= f) ≡ (cond b (Ok iri) (Err InvalidIriMapping) >>= λ iri. f (mapped draft iri false))
      by true = refl
      by false = refl

  reversed : (coercion found : Option (List ℕ)) → says (λ need draft. after_iri (Reverse coercion) need name value (record { draft = draft; iri = found })) (reverse_turn name value coercion found)
  unfolding reverse_turn
  reversed coercion found need done =
      absolute (drafted table done) found _
      ∙ sym (chain (absolute_iri found) _ (λ t. turned t need name value (drafted table done)) _ (λ iri.
      chain (reverse_container_of (part (codes "@container") value)) _ (λ t. turned t need name value (drafted table done)) _ (λ container. refl)))

  confirming : (coercion : Option (List ℕ)) (iri : List ℕ) → says (λ need draft. resumed (Confirming coercion iri) need name value draft) (confirming_turn table name value coercion iri)
  unfolding confirming_turn
  confirming coercion iri need done =
      sym (chain (refuse (not (option_eq text_eq (expand table name true) (Some iri))) InvalidIriMapping) _ (λ t. turned t need name value (drafted table done)) _ (λ _.
      sym (finished coercion iri (is_prefix_by_form name iri (is_simple value)) need done)))

  -- the term before the first `:` of the name
  by_prefix : (coercion : Option (List ℕ)) → says (λ need draft. resumed (ByName coercion) need name value draft) (by_prefix_turn table name value coercion)
  unfolding by_prefix_turn
  by_prefix coercion need done =
      absolute (drafted table done) (Some (iri_by_prefix name (find_term (before_colon name) table.terms))) _
      ∙ sym (chain (absolute_iri (Some (iri_by_prefix name (find_term (before_colon name) table.terms)))) _ (λ t. turned t need name value (drafted table done)) _ (λ iri.
      sym (finished coercion iri false need done)))

  -- ---- what is needed before a text is expanded

  abbrev ask : Need → Option (List ℕ) → Draft → Result Draft LdError
  ask need None draft = Ok draft
  ask need (Some words) draft = need words draft

  split-asked : (need : Need) (draft : Draft) (s : Split) → need_split need s draft ≡ ask need (asked_of s) draft
  split-asked need draft unsplit = refl
  split-asked need draft as_is = refl
  split-asked need draft (split before after) = refl

  prefix-asked : (need : Need) (words : List ℕ) (done : List (List ℕ)) → need_prefix need words (drafted table done) ≡ ask need (asked_prefix words table) (drafted table done)
  prefix-asked need words done = split-asked need (drafted table done) (cond (is_some (find_term words table.terms)) unsplit (split_of words))

  expanded-then : {A : Type 0} (need : Need) (words : List ℕ) (draft : Draft) (after : Expanded → Result A LdError) → (expanded need words draft >>= after) ≡ (need_whole need words draft >>= λ w. need_prefix need words w >>= λ both. after (expanded_by words both))
  expanded-then need words draft after =
      chain (need_whole need words draft) _ after _ (λ w. chain (need_prefix need words w) _ after _ (λ both. refl))

  -- ---- the IRI that `@id` gives

  confirmed-then : (need : Need) (iri : List ℕ) (draft : Draft) (after : Draft → Result Draft LdError) → (confirmed true need name iri draft >>= after) ≡ (need_prefix need name draft >>= λ both. refuse (not (option_eq text_eq (expanded_by name both).iri (Some iri))) InvalidIriMapping >>= λ _. after both)
  confirmed-then need iri draft after =
      chain (self_expanded need name draft) _ after (λ e. refuse (not (option_eq text_eq e.iri (Some iri))) InvalidIriMapping >>= λ _. after e.draft)
      (λ e. chain (refuse (not (option_eq text_eq e.iri (Some iri))) InvalidIriMapping) _ after _ (λ _. refl))
      ∙ chain (need_prefix need name draft) _ _ _ (λ both. refl)

  identified : (coercion : Option (List ℕ)) (iri : List ℕ) → says (λ need draft. confirmed (must_expand name) need name iri draft >>= λ after. mapped_term name (members_in value) coercion (mapped after iri (is_prefix_by_form name iri (is_simple value)))) (confirm_if (must_expand name) table name value coercion iri)
  identified coercion iri need done = by (must_expand name)
    where
      asked : (found : Option (List ℕ)) → (ask need found (drafted table done) >>= λ both. resumed (Confirming coercion iri) need name value both) ≡ comes need (drafted table done) (confirm_asked found table name value coercion iri)
      asked None = confirming coercion iri need done
      asked (Some words) = refl

      by : (b : Bool) → (confirmed b need name iri (drafted table done) >>= λ after. mapped_term name (members_in value) coercion (mapped after iri (is_prefix_by_form name iri (is_simple value)))) ≡ comes need (drafted table done) (confirm_if b table name value coercion iri)
      by false = finished coercion iri (is_prefix_by_form name iri (is_simple value)) need done
      by true =
          confirmed-then need iri (drafted table done) (λ after. mapped_term name (members_in value) coercion (mapped after iri (is_prefix_by_form name iri (is_simple value))))
          ∙ ap (λ r. r >>= λ both. resumed (Confirming coercion iri) need name value both) (prefix-asked need name done)
          ∙ asked (asked_prefix name table)

  id_found : (coercion found : Option (List ℕ)) → says (λ need draft. after_iri (Id coercion) need name value (record { draft = draft; iri = found })) (id_turn table name value coercion found)
  unfolding id_turn
  id_found coercion found need done =
      sym (chain (named_iri found) _ (λ t. turned t need name value (drafted table done)) _ (λ iri. sym (identified coercion iri need done)))

  -- ---- a text is expanded for the IRI

  iri_expanded : (wanted : Wanted) (found : Option (List ℕ)) → says (λ need draft. after_iri wanted need name value (record { draft = draft; iri = found })) (iri_expanded_turn wanted table name value found)
  iri_expanded (Reverse coercion) found = reversed coercion found
  iri_expanded (Id coercion) found = id_found coercion found

  iri_expanding : (words : List ℕ) (wanted : Wanted) → says (λ need draft. resumed (IriExpanding words wanted) need name value draft) (iri_expanding_turn table name value words wanted)
  unfolding iri_expanding_turn
  iri_expanding words wanted need done = iri_expanded wanted (expand table words true) need done

  iri_prefix : (words : List ℕ) (wanted : Wanted) → says (λ need draft. resumed (IriPrefix words wanted) need name value draft) (iri_prefix_turn table name value words wanted)
  unfolding iri_prefix_turn
  iri_prefix words wanted need done =
      ap (λ r. r >>= λ both. after_iri wanted need name value (expanded_by words both)) (prefix-asked need words done)
      ∙ by (asked_prefix words table)
    where
      by : (found : Option (List ℕ)) → (ask need found (drafted table done) >>= λ both. after_iri wanted need name value (expanded_by words both)) ≡ comes need (drafted table done) (iri_asked found table name value words wanted)
      by None = iri_expanding words wanted need done
      by (Some words) = refl

  iri_whole : (words : List ℕ) (wanted : Wanted) → says (λ need draft. expanded need words draft >>= after_iri wanted need name value) (iri_whole_turn table name value words wanted)
  unfolding iri_whole_turn
  iri_whole words wanted need done =
      expanded-then need words (drafted table done) (after_iri wanted need name value) ∙ by (is_keyword words || has_keyword_form words)
    where
      by : (b : Bool) → (need_if (not b) need words (drafted table done) >>= λ w. need_prefix need words w >>= λ both. after_iri wanted need name value (expanded_by words both)) ≡ comes need (drafted table done) (cond b (iri_prefix_turn table name value words wanted) (Ok (Asks words (IriPrefix words wanted))))
      by true = iri_prefix words wanted need done
      by false = refl

  -- ---- after the type mapping

  reverse_begun : (coercion : Option (List ℕ)) (reverse : JsonValue) → says (λ need draft. reverse_term need name (members_in value) reverse (record { draft = draft; coercion = coercion })) (reverse_begun_turn table name value coercion reverse)
  unfolding reverse_begun_turn
  reverse_begun coercion reverse need done =
      sym (chain (refuse (is_some (part (codes "@id") value)) InvalidReverseProperty) _ (λ t. turned t need name value (drafted table done)) _ (λ _. sym (by reverse)))
    where
      by : (reverse : JsonValue) → (reverse_mapping need reverse (drafted table done) >>= λ m. reverse_container_of (part (codes "@container") value) >>= λ container. Ok (defined (reverse_definition name coercion m.iri container) m.draft)) ≡ comes need (drafted table done) (reverse_words reverse table name value coercion)
      by (text words) = chain (expanded need words (drafted table done)) _ _ _ (λ e. refl) ∙ iri_whole words (Reverse coercion) need done
      by null = refl
      by (truth b) = refl
      by (whole n) = refl
      by fraction = refl
      by (array items) = refl
      by (object given) = refl

  plain : (coercion : Option (List ℕ)) → says (λ need draft. plain_term (naming_of name (part (codes "@id") value)) need name (members_in value) (is_simple value) (record { draft = draft; coercion = coercion })) (plain_turn table name value coercion)
  unfolding plain_turn
  plain coercion need done = by (naming_of name (part (codes "@id") value))
    where
      in_vocabulary : (mapping : Option (List ℕ)) → (vocab_mapping name (drafted table done) mapping >>= λ m. mapped_term name (members_in value) coercion m) ≡ comes need (drafted table done) (in_vocabulary_turn mapping name value coercion)
      in_vocabulary None = refl
      in_vocabulary (Some mapping) = finished coercion (mapping ++ name) false need done

      named : (b : Bool) → (name_mapping b need name (drafted table done) >>= λ m. mapped_term name (members_in value) coercion m) ≡ comes need (drafted table done) (by_name_turn b table name value coercion)
      named true = chain (need (before_colon name) (drafted table done)) _ _ _ (λ after. refl)
      named false = in_vocabulary table.vocab

      by : (naming : Naming) → plain_term naming need name (members_in value) (is_simple value) (record { draft = drafted table done; coercion = coercion }) ≡ comes need (drafted table done) (named_turn naming table name value coercion)
      by (by_id id) =
          chain (expanded need id (drafted table done)) _ _ (after_iri (Id coercion) need name value)
          (λ e. chain (named_iri e.iri) _ _ _ (λ iri. chain (confirmed (must_expand name) need name iri e.draft) _ _ _ (λ after. refl)))
          ∙ iri_whole id (Id coercion) need done
      by by_name = named (has_later_colon name)
      by undefined = refl
      by no_text = refl

  typed : (coercion : Option (List ℕ)) → says (λ need draft. typed_term (part (codes "@reverse") value) need name (members_in value) (is_simple value) (record { draft = draft; coercion = coercion })) (typed_turn table name value coercion)
  unfolding typed_turn
  typed coercion need done = by (part (codes "@reverse") value)
    where
      by : (reverse : Option JsonValue) → typed_term reverse need name (members_in value) (is_simple value) (record { draft = drafted table done; coercion = coercion }) ≡ comes need (drafted table done) (typed_by reverse table name value coercion)
      by None = plain coercion need done
      by (Some reverse) = reverse_begun coercion reverse need done

  -- ---- a text is expanded for the type mapping

  type_found : (found : Option (List ℕ)) → says (λ need draft. after_type need name value (record { draft = draft; iri = found })) (type_expanded_turn table name value found)
  unfolding type_expanded_turn
  type_found None need done = refl
  type_found (Some iri) need done = by (is_type_mapping iri)
    where
      by : (b : Bool) → (cond b (Ok (record { draft = drafted table done; coercion = Some iri })) (Err InvalidTypeMapping) >>= typed_term (part (codes "@reverse") value) need name (members_in value) (is_simple value)) ≡ comes need (drafted table done) (cond b (typed_turn table name value (Some iri)) (Err InvalidTypeMapping))
      by true = typed (Some iri) need done
      by false = refl

  type_expanding : (words : List ℕ) → says (λ need draft. resumed (TypeExpanding words) need name value draft) (type_expanding_turn table name value words)
  unfolding type_expanding_turn
  type_expanding words need done = type_found (expand table words true) need done

  type_prefix : (words : List ℕ) → says (λ need draft. resumed (TypePrefix words) need name value draft) (type_prefix_turn table name value words)
  unfolding type_prefix_turn
  type_prefix words need done =
      ap (λ r. r >>= λ both. after_type need name value (expanded_by words both)) (prefix-asked need words done)
      ∙ by (asked_prefix words table)
    where
      by : (found : Option (List ℕ)) → (ask need found (drafted table done) >>= λ both. after_type need name value (expanded_by words both)) ≡ comes need (drafted table done) (type_asked found table name value words)
      by None = type_expanding words need done
      by (Some words) = refl

  type_whole : (words : List ℕ) → says (λ need draft. expanded need words draft >>= after_type need name value) (type_whole_turn table name value words)
  unfolding type_whole_turn
  type_whole words need done =
      expanded-then need words (drafted table done) (after_type need name value) ∙ by (is_keyword words || has_keyword_form words)
    where
      by : (b : Bool) → (need_if (not b) need words (drafted table done) >>= λ w. need_prefix need words w >>= λ both. after_type need name value (expanded_by words both)) ≡ comes need (drafted table done) (cond b (type_prefix_turn table name value words) (Ok (Asks words (TypePrefix words))))
      by true = type_prefix words need done
      by false = refl

  -- ---- the whole definition

  members : says (λ need draft. sourced_term (entries (members_in value) (is_simple value)) need name draft) (members_turn table name value)
  unfolding members_turn
  members need done = by (part (codes "@type") value)
    where
      by : (o : Option JsonValue) → (type_mapping need o (drafted table done) >>= λ typed. typed_term (part (codes "@reverse") value) need name (members_in value) (is_simple value) typed) ≡ comes need (drafted table done) (members_by o table name value)
      by None = typed None need done
      by (Some (text words)) = chain (expanded need words (drafted table done)) _ _ _ (λ e. refl) ∙ type_whole words need done
      by (Some null) = refl
      by (Some (truth b)) = refl
      by (Some (whole n)) = refl
      by (Some fraction) = refl
      by (Some (array items)) = refl
      by (Some (object given)) = refl

-- the definition of a term from its beginning on
pub begun : (table : TermTable) (name : List ℕ) (value : JsonValue) → Tells table name value (λ need draft. ordinary_term need name value draft) (begun_turn table name value)
unfolding begun_turn ordinary_term
begun table name null need done = refl
begun table name (truth b) need done = refl
begun table name (whole n) need done = refl
begun table name fraction need done = refl
begun table name (array items) need done = refl
begun table name (text id) need done = members table name (text id) need done
begun table name (object given) need done = by (value_of (codes "@id") given)
  where
    keyed : (b : Bool) → (cond b (Ok (entries given false)) (Err InvalidTermDefinition) >>= λ source. sourced_term source need name (drafted table done)) ≡ ((cond b (Ok true) (Err InvalidTermDefinition) >>= λ stated. stated_turn stated table name (object given)) >>= λ t. turned t need name (object given) (drafted table done))
    keyed true = members table name (object given) need done
    keyed false = refl

    by : (o : Option JsonValue) → (source_of_map given o >>= λ source. sourced_term source need name (drafted table done)) ≡ ((map_states given o >>= λ stated. stated_turn stated table name (object given)) >>= λ t. turned t need name (object given) (drafted table done))
    by (Some null) = refl
    by None = keyed (all_keys is_definition_key given)
    by (Some (truth b)) = keyed (all_keys is_definition_key given)
    by (Some (whole n)) = keyed (all_keys is_definition_key given)
    by (Some fraction) = keyed (all_keys is_definition_key given)
    by (Some (text id)) = keyed (all_keys is_definition_key given)
    by (Some (array items)) = keyed (all_keys is_definition_key given)
    by (Some (object others)) = keyed (all_keys is_definition_key given)

-- the definition of a term from a stage on
pub goes_on : (table : TermTable) (name : List ℕ) (value : JsonValue) (stage : Stage) → Tells table name value (λ need draft. resumed stage need name value draft) (resumed_turn stage table name value)
goes_on table name value (TypePrefix words) = type_prefix table name value words
goes_on table name value (TypeExpanding words) = type_expanding table name value words
goes_on table name value (IriPrefix words wanted) = iri_prefix table name value words wanted
goes_on table name value (IriExpanding words wanted) = iri_expanding table name value words wanted
goes_on table name value (Confirming coercion iri) = confirming table name value coercion iri
goes_on table name value (ByName coercion) = by_prefix table name value coercion
