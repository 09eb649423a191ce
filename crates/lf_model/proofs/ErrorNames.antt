-- The error of a name, by which no two errors share one.
use Rattle.std.proofs.Common.{◌≡◌, ℕ, nat_eq, List, [], ◌∷◌, Option, Some, None, if◌then◌else◌, refl, sym, ap, ◌∙◌}
use Rattle.std.specs.Cmp.Lexicographic.{pointwise}
use Rattle.lf_model.specs.declared.error.LdError.{LdError}
use Rattle.lf_model.specs.declared.error.LdError.TheVariants.{CollidingKeywords, CyclicIriMapping, InvalidEmbedValue, InvalidIdValue, InvalidReverseValue, InvalidVersionValue, InvalidContainerMapping, InvalidDefaultLanguage, InvalidFrame, InvalidIriMapping, InvalidKeywordAlias, InvalidLanguageMapping, InvalidLocalContext, InvalidPrefixValue, InvalidReverseProperty, InvalidTermDefinition, InvalidTypeMapping, InvalidTypeValue, InvalidValueObject, InvalidVocabMapping, KeywordRedefinition, LoadingRemoteContextFailed, IriConfusedWithPrefix}
use Rattle.lf_model.specs.ErrorName.{NamesDiffer, name_of}

every_error : List LdError
every_error = CollidingKeywords ∷ CyclicIriMapping ∷ InvalidEmbedValue ∷ InvalidIdValue ∷ InvalidReverseValue ∷ InvalidVersionValue ∷ InvalidContainerMapping ∷ InvalidDefaultLanguage ∷ InvalidFrame ∷ InvalidIriMapping ∷ InvalidKeywordAlias ∷ InvalidLanguageMapping ∷ InvalidLocalContext ∷ InvalidPrefixValue ∷ InvalidReverseProperty ∷ InvalidTermDefinition ∷ InvalidTypeMapping ∷ InvalidTypeValue ∷ InvalidValueObject ∷ InvalidVocabMapping ∷ KeywordRedefinition ∷ LoadingRemoteContextFailed ∷ IriConfusedWithPrefix ∷ []

named_among : List ℕ → List LdError → Option LdError
named_among name [] = None
named_among name (first ∷ rest) = if pointwise nat_eq name (name_of first) then Some first else named_among name rest

named : (e : LdError) → named_among (name_of e) every_error ≡ Some e
unfolding named_among every_error
named CollidingKeywords = refl
named CyclicIriMapping = refl
named InvalidEmbedValue = refl
named InvalidIdValue = refl
named InvalidReverseValue = refl
named InvalidVersionValue = refl
named InvalidContainerMapping = refl
named InvalidDefaultLanguage = refl
named InvalidFrame = refl
named InvalidIriMapping = refl
named InvalidKeywordAlias = refl
named InvalidLanguageMapping = refl
named InvalidLocalContext = refl
named InvalidPrefixValue = refl
named InvalidReverseProperty = refl
named InvalidTermDefinition = refl
named InvalidTypeMapping = refl
named InvalidTypeValue = refl
named InvalidValueObject = refl
named InvalidVocabMapping = refl
named KeywordRedefinition = refl
named LoadingRemoteContextFailed = refl
named IriConfusedWithPrefix = refl

pub names_differ : NamesDiffer
names_differ a b same =
    let found : Some a ≡ Some b = sym (named a) ∙ ap (λ name. named_among name every_error) same ∙ named b in
    cc (found)
