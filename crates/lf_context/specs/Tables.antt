-- Term tables while a context is read.
use Rattle.std.specs.Prelude.{List, ℕ, Bool, false, Option, None}
use Rattle.std.specs.List.{list_all}
use Rattle.lf_model.specs.declared.table.TermTable.{TermTable}
use Rattle.lf_model.specs.declared.table.TermDef.{TermDef}
use Rattle.lf_rdf.specs.Equality.{text_eq}
use Rattle.def_contexts.specs.Drafts.{put_term, without_term}

-- a definition stands at the name that it defines
abbrev pub is_named : List ℕ × TermDef → Bool
is_named entry = text_eq entry.0 entry.1.name

abbrev pub are_named : List (List ℕ × TermDef) → Bool
are_named entries = list_all is_named entries

-- the parts of a table by which texts are expanded
abbrev pub expanding_table : Option (List ℕ) → List TermDef → TermTable
expanding_table mapping terms =
    record { vocab = mapping; language = None; terms = terms; type_set = false }

-- the table without a term
abbrev pub table_without : List ℕ → TermTable → TermTable
table_without name table = record table { terms = without_term name table.terms }

-- the table with a definition in its place
abbrev pub table_with : TermDef → TermTable → TermTable
table_with d table = record table { terms = put_term d table.terms }
