-- The flags of a frame (JSON-LD 1.1 Framing, section 4.1: the object embed, explicit inclusion,
-- require all and omit default flags).
use Rattle.std.specs.Prelude.{List, ℕ, Bool, true, false, if◌then◌else◌, Some, Result, Ok, Err, codes}
use Rattle.lf_rdf.specs.Equality.{text_eq}
use Rattle.lf_model.specs.declared.frame.Embed.{Embed}
use Rattle.lf_model.specs.declared.frame.Embed.TheVariants as embed
use Rattle.lf_model.specs.declared.error.LdError.{LdError}
use Rattle.lf_model.specs.declared.error.LdError.TheVariants.{InvalidEmbedValue, InvalidFrame}
use Rattle.lf_model.specs.JsonData.{JsonValue, truth, text, array, no_items, item}
use Rattle.def_nested.specs.Nested.{Flags}
use Rattle.def_contexts.specs.Outcomes.{◌>>=◌}

-- the flags
pub data FlagKey : Type 0 where
  embed_key : FlagKey
  explicit_key : FlagKey
  require_all_key : FlagKey
  omit_default_key : FlagKey

-- the value of a flag, which may stand alone in an array
abbrev pub alone : JsonValue → JsonValue
alone (array (item value no_items)) = value
alone value = value

abbrev pub embed_named : List ℕ → Result Embed LdError
embed_named name =
    if text_eq name (codes "@once") then Ok embed.Once
    else if text_eq name (codes "@always") then Ok embed.Always
    else if text_eq name (codes "@never") then Ok embed.Never
    else Err InvalidEmbedValue

-- `@embed`
abbrev pub embed_given : JsonValue → Result Embed LdError
embed_given (text name) = embed_named name
embed_given (truth true) = Ok embed.Once
embed_given (truth false) = Ok embed.Never
embed_given _ = Err InvalidEmbedValue

-- a flag that is true or false
abbrev pub truth_given : JsonValue → Result Bool LdError
truth_given (truth b) = Ok b
truth_given _ = Err InvalidFrame

-- the flags with one more that is stated
abbrev pub flag_stated : FlagKey → JsonValue → Flags → Result Flags LdError
flag_stated embed_key value flags = do
  e ← embed_given (alone value)
  Ok (record flags { embed = e })
flag_stated explicit_key value flags = do
  b ← truth_given (alone value)
  Ok (record flags { explicit = b })
flag_stated require_all_key value flags = do
  b ← truth_given (alone value)
  Ok (record flags { require_all = b })
flag_stated omit_default_key value flags = do
  b ← truth_given (alone value)
  Ok (record flags { omit_default = Some b })
