-- The table that a program holds while it reads a context.
use Rattle.std.specs.Map.{values_of}
use Rattle.lf_model.specs.declared.table.TermTable.{TermTable}
use Rattle.lf_context.specs.declared.draft.Drafted.{Drafted}

abbrev pub table_in : Drafted → TermTable
table_in draft =
    record {
      vocab = draft.vocab;
      language = draft.language;
      terms = values_of draft.terms.entries;
      type_set = draft.type_set;
    }
