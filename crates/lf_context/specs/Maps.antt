-- The keys of a context's map that are no terms, before its terms.
use Rattle.std.specs.Prelude.{List, ℕ, Option, Result, ⊤, codes}
use Rattle.lf_model.specs.declared.table.TermTable.{TermTable}
use Rattle.lf_model.specs.declared.error.LdError.{LdError}
use Rattle.lf_model.specs.declared.error.LdError.TheVariants.{InvalidVersionValue, InvalidLocalContext}
use Rattle.lf_model.specs.JsonData.{JsonMembers}
use Rattle.def_contexts.specs.Outcomes.{◌>>=◌, refuse}
use Rattle.def_contexts.specs.Members.{value_of}
use Rattle.def_contexts.specs.Table.{is_bad_version, has_refused_key, vocab_of, default_language_of}
use Rattle.lf_context.specs.Walks.{defined_table}

-- `@version` first, and then the keys that are refused by name
abbrev pub checked : JsonMembers → Result ⊤ LdError
checked given = do
  _ ← refuse (is_bad_version (value_of (codes "@version") given)) InvalidVersionValue
  refuse (has_refused_key given) InvalidLocalContext

-- the terms, over the table with this vocabulary mapping and this default language
abbrev pub terms_step :
    JsonMembers → TermTable → Option (List ℕ) → Option (List ℕ) → Result TermTable LdError
terms_step given table vocab language =
    defined_table given (record table { vocab = vocab; language = language })

abbrev pub language_step : JsonMembers → TermTable → Option (List ℕ) → Result TermTable LdError
language_step given table vocab =
    default_language_of table (value_of (codes "@language") given) >>= λ language.
    terms_step given table vocab language

abbrev pub vocab_step : JsonMembers → TermTable → Result TermTable LdError
vocab_step given table =
    vocab_of table (value_of (codes "@vocab") given) >>= λ vocab. language_step given table vocab
