-- The names of errors (JSON-LD 1.1 Processing Algorithms and API, section 9.6; JSON-LD 1.1 Framing, section 5.3).
use Rattle.std.specs.Prelude.{◌≡◌, List, ℕ, codes}
use Rattle.lf_model.specs.declared.error.LdError.{LdError}
use Rattle.lf_model.specs.declared.error.LdError.TheVariants.{CollidingKeywords, CyclicIriMapping, InvalidEmbedValue, InvalidIdValue, InvalidReverseValue, InvalidVersionValue, InvalidContainerMapping, InvalidDefaultLanguage, InvalidFrame, InvalidIriMapping, InvalidKeywordAlias, InvalidLanguageMapping, InvalidLocalContext, InvalidPrefixValue, InvalidReverseProperty, InvalidTermDefinition, InvalidTypeMapping, InvalidTypeValue, InvalidValueObject, InvalidVocabMapping, KeywordRedefinition, LoadingRemoteContextFailed, IriConfusedWithPrefix}

-- the name of an error
abbrev pub name_of : LdError → List ℕ
name_of CollidingKeywords = codes "colliding keywords"
name_of CyclicIriMapping = codes "cyclic IRI mapping"
name_of InvalidEmbedValue = codes "invalid @embed value"
name_of InvalidIdValue = codes "invalid @id value"
name_of InvalidReverseValue = codes "invalid @reverse value"
name_of InvalidVersionValue = codes "invalid @version value"
name_of InvalidContainerMapping = codes "invalid container mapping"
name_of InvalidDefaultLanguage = codes "invalid default language"
name_of InvalidFrame = codes "invalid frame"
name_of InvalidIriMapping = codes "invalid IRI mapping"
name_of InvalidKeywordAlias = codes "invalid keyword alias"
name_of InvalidLanguageMapping = codes "invalid language mapping"
name_of InvalidLocalContext = codes "invalid local context"
name_of InvalidPrefixValue = codes "invalid @prefix value"
name_of InvalidReverseProperty = codes "invalid reverse property"
name_of InvalidTermDefinition = codes "invalid term definition"
name_of InvalidTypeMapping = codes "invalid type mapping"
name_of InvalidTypeValue = codes "invalid type value"
name_of InvalidValueObject = codes "invalid value object"
name_of InvalidVocabMapping = codes "invalid vocab mapping"
name_of KeywordRedefinition = codes "keyword redefinition"
name_of LoadingRemoteContextFailed = codes "loading remote context failed"
name_of IriConfusedWithPrefix = codes "IRI confused with prefix"

-- no two errors share a name
abbrev pub NamesDiffer : Type 0
NamesDiffer = (a b : LdError) → name_of a ≡ name_of b → a ≡ b
