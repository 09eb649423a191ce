-- Which errors the parts of a frame's map give.
use Rattle.std.proofs.Common.{◌≡◌, ℕ, Bool, true, false, not, ◌&&◌, List, [], ◌∷◌, Option, Some, None, Result, Ok, Err, refl, sym, subst, codes}
use Rattle.std.specs.Bool.{⊤}
use Rattle.lf_rdf.specs.declared.term.Term.{Term}
use Rattle.lf_rdf.specs.Equality.{text_eq}
use Rattle.lf_model.specs.declared.table.TermTable.{TermTable}
use Rattle.lf_model.specs.declared.table.TermDef.{TermDef}
use Rattle.lf_model.specs.declared.scalar.Scalar.{Scalar}
use Rattle.lf_model.specs.declared.scalar.Scalar.TheVariants as scalar
use Rattle.lf_model.specs.declared.frame.Embed.{Embed}
use Rattle.lf_model.specs.declared.frame.IdTest.{IdTest}
use Rattle.lf_model.specs.declared.frame.TypeTest.{TypeTest}
use Rattle.lf_model.specs.declared.frame.PartTest.{PartTest}
use Rattle.lf_model.specs.declared.frame.DefaultValue.{DefaultValue}
use Rattle.lf_model.specs.declared.error.LdError.{LdError}
use Rattle.lf_model.specs.declared.error.LdError.TheVariants as ld
use Rattle.lf_model.specs.JsonData.{JsonValue, JsonItems, JsonMembers, null, truth, whole, fraction, text, array, object, no_items, item, no_members, member}
use Rattle.def_nested.specs.Nested.{Flags}
use Rattle.def_contexts.specs.Texts.{is_absolute}
use Rattle.def_contexts.specs.Expansion.{expand}
use Rattle.def_contexts.specs.Outcomes.{◌>>=◌, refuse}
use Rattle.def_contexts.specs.Members.{value_of, has_key, all_keys, only_value}
use Rattle.def_contexts.specs.NodeTests.{is_any, is_never, node_named, nodes_of, id_list, id_test_of, type_list, type_fallback, types_given, type_test_of}
use Rattle.def_contexts.specs.FrameFlags.{FlagKey, embed_key, explicit_key, require_all_key, omit_default_key, alone, embed_given, truth_given, flag_stated}
use Rattle.def_contexts.specs.GivenValues.{Coercion, to_id, to_vocab, to_datatype, uncoerced, coercion_of, Given, reference_or_refused, text_coerced, given}
use Rattle.def_contexts.specs.ValuePatterns.{scalar_of, scalars_of, part_list, part_of}
use Rattle.def_contexts.specs.Defaults.{default_scalar, referenced, default_reference, datatype_expanded, default_datatype, default_language, some_scalar, default_value_scalar, is_default_key, default_value, default_of, defaults_of_items, defaults_of}
use Rattle.def_contexts.specs.FrameCauses.{makes_reference, refers, is_truth, is_refused, is_no_embed, is_no_id, is_no_type}
use Rattle.def_contexts.proofs.Holding.{Holds, then-holds, refuse-holds, cond-holds}

module _ (Q : LdError → Type 0) where
  -- whatever the value is
  abbrev pub Refuses : {A : Type 0} → Result A LdError → Type 0
  Refuses {A} r = Holds Q (λ (_ : A). ⊤) r

  id_list-refuses : (o : Option (List Term)) → Q ld.InvalidIdValue → Refuses (id_list o)
  id_list-refuses (Some ids) q = tt
  id_list-refuses None q = q

  pub id_test-refuses : (table : TermTable) (value : JsonValue) → Q ld.InvalidIdValue → Refuses (id_test_of table value)
  id_test-refuses table value q =
      cond-holds Q (λ (_ : IdTest). ⊤) (is_any value) _ _ (λ _. tt)
      (λ _. cond-holds Q (λ (_ : IdTest). ⊤) (is_never value) _ _ (λ _. tt) (λ _. id_list-refuses (nodes_of table false value) q))

  type_list-refuses : (o : Option (List Term)) → Q ld.InvalidTypeValue → Refuses (type_list o)
  type_list-refuses (Some types) q = tt
  type_list-refuses None q = q

  type_fallback-refuses : (o : Option (List Term)) → Q ld.InvalidTypeValue → Refuses (type_fallback o)
  type_fallback-refuses (Some types) q = tt
  type_fallback-refuses None q = q

  types_given-refuses : (table : TermTable) (value : JsonValue) → Q ld.InvalidTypeValue → Refuses (types_given table value)
  types_given-refuses table (object (member key value no_members)) q =
      cond-holds Q (λ (_ : TypeTest). ⊤) (text_eq key (codes "@default")) _ _ (λ _. type_fallback-refuses (nodes_of table true value) q) (λ _. q)
  types_given-refuses table (text t) q = type_list-refuses (nodes_of table true (text t)) q
  types_given-refuses table (array items) q = type_list-refuses (nodes_of table true (array items)) q
  types_given-refuses table _ q = q

  pub type_test-refuses : (table : TermTable) (value : JsonValue) → Q ld.InvalidTypeValue → Refuses (type_test_of table value)
  type_test-refuses table value q =
      cond-holds Q (λ (_ : TypeTest). ⊤) (is_any value) _ _ (λ _. tt)
      (λ _. cond-holds Q (λ (_ : TypeTest). ⊤) (is_never value) _ _ (λ _. tt) (λ _. types_given-refuses table value q))

  pub embed_given-refuses : (value : JsonValue) → Q ld.InvalidEmbedValue → Refuses (embed_given value)
  embed_given-refuses (text name) q =
      cond-holds Q (λ (_ : Embed). ⊤) (text_eq name (codes "@once")) _ _ (λ _. tt)
      (λ _. cond-holds Q (λ (_ : Embed). ⊤) (text_eq name (codes "@always")) _ _ (λ _. tt)
      (λ _. cond-holds Q (λ (_ : Embed). ⊤) (text_eq name (codes "@never")) _ _ (λ _. tt) (λ _. q)))
  embed_given-refuses (truth true) q = tt
  embed_given-refuses (truth false) q = tt
  embed_given-refuses _ q = q

  pub truth_given-refuses : (value : JsonValue) → (not (is_truth value) ≡ true → Q ld.InvalidFrame) → Refuses (truth_given value)
  truth_given-refuses (truth b) q = tt
  truth_given-refuses _ q = q refl

  part_list-refuses : (o : Option (List Scalar)) → Q ld.InvalidValueObject → Refuses (part_list o)
  part_list-refuses (Some scalars) q = tt
  part_list-refuses None q = q

  pub part-refuses : (read : JsonValue → Option Scalar) (value : JsonValue) → Q ld.InvalidValueObject → Refuses (part_of read value)
  part-refuses read value q =
      cond-holds Q (λ (_ : PartTest). ⊤) (is_any value) _ _ (λ _. tt)
      (λ _. cond-holds Q (λ (_ : PartTest). ⊤) (is_never value) _ _ (λ _. tt) (λ _. part_list-refuses (scalars_of read value) q))

  reference-refuses : (o : Option Term) → Q ld.InvalidIdValue → Refuses (reference_or_refused o)
  reference-refuses (Some node) q = tt
  reference-refuses None q = q

  text_coerced-refuses : (c : Coercion) (table : TermTable) (term : Option TermDef) (t : List ℕ) → (makes_reference c ≡ true → Q ld.InvalidIdValue) → Refuses (text_coerced c table term t)
  text_coerced-refuses to_id table term t q = reference-refuses (node_named table false t) (q refl)
  text_coerced-refuses to_vocab table term t q = reference-refuses (node_named table true t) (q refl)
  text_coerced-refuses (to_datatype iri) table term t q = tt
  text_coerced-refuses uncoerced table term t q = tt

  pub given-refuses : (table : TermTable) (term : Option TermDef) (s : Scalar) → (refers term ≡ true → Q ld.InvalidIdValue) → Refuses (given table term s)
  unfolding given
  given-refuses table term (scalar.Text t) q = text_coerced-refuses (coercion_of term) table term t q
  given-refuses table term (scalar.Whole n) q = tt
  given-refuses table term (scalar.Bool b) q = tt

  default_scalar-refuses : (table : TermTable) (term : Option TermDef) (s : Scalar) → (refers term ≡ true → Q ld.InvalidIdValue) → Refuses (default_scalar table term s)
  default_scalar-refuses table term s q =
      then-holds Q (λ (_ : Given). ⊤) (λ (_ : DefaultValue). ⊤) (given table term s) _ (given-refuses table term s q) (λ g h. tt)

  referenced-refuses : (o : Option Term) → Q ld.InvalidFrame → Refuses (referenced o)
  referenced-refuses (Some node) q = tt
  referenced-refuses None q = q

  default_reference-refuses : (table : TermTable) (o : Option JsonValue) → Q ld.InvalidFrame → Refuses (default_reference table o)
  default_reference-refuses table (Some (text id)) q = referenced-refuses (node_named table false id) q
  default_reference-refuses table _ q = q

  datatype_expanded-refuses : (o : Option (List ℕ)) → Q ld.InvalidFrame → Refuses (datatype_expanded o)
  datatype_expanded-refuses (Some iri) q = cond-holds Q (λ (_ : Option (List ℕ)). ⊤) (is_absolute iri) _ _ (λ _. tt) (λ _. q)
  datatype_expanded-refuses None q = q

  default_datatype-refuses : (table : TermTable) (o : Option JsonValue) → Q ld.InvalidFrame → Refuses (default_datatype table o)
  default_datatype-refuses table None q = tt
  default_datatype-refuses table (Some (text name)) q = datatype_expanded-refuses (expand table name true) q
  default_datatype-refuses table (Some _) q = q

  default_language-refuses : (o : Option JsonValue) → Q ld.InvalidFrame → Refuses (default_language o)
  default_language-refuses None q = tt
  default_language-refuses (Some (text t)) q = tt
  default_language-refuses (Some _) q = q

  some_scalar-refuses : (o : Option Scalar) → Q ld.InvalidFrame → Refuses (some_scalar o)
  some_scalar-refuses (Some s) q = tt
  some_scalar-refuses None q = q

  default_value_scalar-refuses : (o : Option JsonValue) → Q ld.InvalidFrame → Refuses (default_value_scalar o)
  default_value_scalar-refuses (Some value) q = some_scalar-refuses (scalar_of value) q
  default_value_scalar-refuses None q = q

  default_value-refuses : (table : TermTable) (given : JsonMembers) → Q ld.InvalidFrame → Refuses (default_value table given)
  default_value-refuses table given q =
      then-holds Q (λ _. ⊤) (λ (_ : DefaultValue). ⊤) (refuse (not (all_keys is_default_key given)) ld.InvalidFrame) _
      (refuse-holds Q (not (all_keys is_default_key given)) ld.InvalidFrame (λ _. q))
      (λ _ _. then-holds Q (λ _. ⊤) (λ (_ : DefaultValue). ⊤) (refuse (has_key (codes "@type") given && has_key (codes "@language") given) ld.InvalidFrame) _
      (refuse-holds Q (has_key (codes "@type") given && has_key (codes "@language") given) ld.InvalidFrame (λ _. q))
      (λ _ _. then-holds Q (λ (_ : Scalar). ⊤) (λ (_ : DefaultValue). ⊤) (default_value_scalar (value_of (codes "@value") given)) _
      (default_value_scalar-refuses (value_of (codes "@value") given) q)
      (λ s _. then-holds Q (λ (_ : Option (List ℕ)). ⊤) (λ (_ : DefaultValue). ⊤) (default_datatype table (value_of (codes "@type") given)) _
      (default_datatype-refuses table (value_of (codes "@type") given) q)
      (λ d _. then-holds Q (λ (_ : Option (List ℕ)). ⊤) (λ (_ : DefaultValue). ⊤) (default_language (value_of (codes "@language") given)) _
      (default_language-refuses (value_of (codes "@language") given) q) (λ l _. tt)))))

  default-refuses : (table : TermTable) (term : Option TermDef) (value : JsonValue) → (refers term ≡ true → Q ld.InvalidIdValue) → Q ld.InvalidFrame → Refuses (default_of table term value)
  default-refuses table term null r q = tt
  default-refuses table term (text t) r q =
      cond-holds Q (λ (_ : DefaultValue). ⊤) (text_eq t (codes "@null")) _ _ (λ _. tt) (λ _. default_scalar-refuses table term (scalar.Text t) r)
  default-refuses table term (whole n) r q = default_scalar-refuses table term (scalar.Whole n) r
  default-refuses table term (truth b) r q = default_scalar-refuses table term (scalar.Bool b) r
  default-refuses table term (object given) r q =
      cond-holds Q (λ (_ : DefaultValue). ⊤) (has_key (codes "@id") given) _ _
      (λ _. default_reference-refuses table (only_value (codes "@id") given) q) (λ _. default_value-refuses table given q)
  default-refuses table term (array items) r q = q
  default-refuses table term fraction r q = q

  default_items-refuses : (table : TermTable) (term : Option TermDef) (items : JsonItems) → (refers term ≡ true → Q ld.InvalidIdValue) → Q ld.InvalidFrame → Refuses (defaults_of_items table term items)
  default_items-refuses table term no_items r q = tt
  default_items-refuses table term (item value rest) r q =
      then-holds Q (λ (_ : DefaultValue). ⊤) (λ (_ : List DefaultValue). ⊤) (default_of table term value) _ (default-refuses table term value r q)
      (λ first _. then-holds Q (λ (_ : List DefaultValue). ⊤) (λ (_ : List DefaultValue). ⊤) (defaults_of_items table term rest) _
      (default_items-refuses table term rest r q) (λ others _. tt))

  one_default-refuses : (table : TermTable) (term : Option TermDef) (value : JsonValue) → (refers term ≡ true → Q ld.InvalidIdValue) → Q ld.InvalidFrame → Refuses (default_of table term value >>= (λ only. Ok (only ∷ [])))
  one_default-refuses table term value r q =
      then-holds Q (λ (_ : DefaultValue). ⊤) (λ (_ : List DefaultValue). ⊤) (default_of table term value) (λ only. Ok (only ∷ []))
      (default-refuses table term value r q) (λ only _. tt)

  pub defaults-refuses : (table : TermTable) (term : Option TermDef) (value : JsonValue) → (refers term ≡ true → Q ld.InvalidIdValue) → Q ld.InvalidFrame → Refuses (defaults_of table term value)
  unfolding defaults_of
  defaults-refuses table term (array items) r q = default_items-refuses table term items r q
  defaults-refuses table term null r q = one_default-refuses table term null r q
  defaults-refuses table term (truth b) r q = one_default-refuses table term (truth b) r q
  defaults-refuses table term (whole n) r q = one_default-refuses table term (whole n) r q
  defaults-refuses table term fraction r q = one_default-refuses table term fraction r q
  defaults-refuses table term (text t) r q = one_default-refuses table term (text t) r q
  defaults-refuses table term (object given) r q = one_default-refuses table term (object given) r q

-- ---- errors with their values

module _ (Q : LdError → Type 0) where
  -- what has one error alone is refused with it
  one-error : {A : Type 0} (error : LdError) (r : Result A LdError) → Refuses (λ e. e ≡ error) r → (is_refused r ≡ true → Q error) → Refuses Q r
  one-error error (Ok value) same q = tt
  one-error error (Err e) same q = subst Q (sym same) (q refl)

  pub id_test-caused : (table : TermTable) (value : JsonValue) → (is_no_id table value ≡ true → Q ld.InvalidIdValue) → Refuses Q (id_test_of table value)
  id_test-caused table value q =
      one-error ld.InvalidIdValue (id_test_of table value) (id_test-refuses (λ e. e ≡ ld.InvalidIdValue) table value refl) q

  pub type_test-caused : (table : TermTable) (value : JsonValue) → (is_no_type table value ≡ true → Q ld.InvalidTypeValue) → Refuses Q (type_test_of table value)
  type_test-caused table value q =
      one-error ld.InvalidTypeValue (type_test_of table value) (type_test-refuses (λ e. e ≡ ld.InvalidTypeValue) table value refl) q

  -- the error of a flag
  abbrev pub FlagAllows : FlagKey → JsonValue → Type 0
  FlagAllows embed_key value = is_no_embed value ≡ true → Q ld.InvalidEmbedValue
  FlagAllows _ value = not (is_truth (alone value)) ≡ true → Q ld.InvalidFrame

  pub flag-refuses : (flag : FlagKey) (value : JsonValue) (flags : Flags) → FlagAllows flag value → Refuses Q (flag_stated flag value flags)
  flag-refuses embed_key value flags own =
      then-holds Q (λ (_ : Embed). ⊤) (λ (_ : Flags). ⊤) (embed_given (alone value)) _ (one-error ld.InvalidEmbedValue (embed_given (alone value)) (embed_given-refuses (λ e. e ≡ ld.InvalidEmbedValue) (alone value) refl) own) (λ e h. tt)
  flag-refuses explicit_key value flags own =
      then-holds Q (λ (_ : Bool). ⊤) (λ (_ : Flags). ⊤) (truth_given (alone value)) _ (truth_given-refuses Q (alone value) own) (λ e h. tt)
  flag-refuses require_all_key value flags own =
      then-holds Q (λ (_ : Bool). ⊤) (λ (_ : Flags). ⊤) (truth_given (alone value)) _ (truth_given-refuses Q (alone value) own) (λ e h. tt)
  flag-refuses omit_default_key value flags own =
      then-holds Q (λ (_ : Bool). ⊤) (λ (_ : Flags). ⊤) (truth_given (alone value)) _ (truth_given-refuses Q (alone value) own) (λ e h. tt)
