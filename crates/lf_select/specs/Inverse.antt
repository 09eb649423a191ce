-- What a context turned round holds, and what a compaction answers.
use Rattle.std.specs.Prelude.{◌≡◌, List, ℕ, Bool, Option, Some, None, Result, Ok, Err, if◌then◌else◌}
use Rattle.std.specs.Option.{option_or}
use Rattle.lf_model.specs.declared.table.TermTable.{TermTable}
use Rattle.def_selection.specs.declared.pick.Pick.{Pick}
use Rattle.def_selection.specs.Iris.{by_prefix, is_confused, no_value}
use Rattle.lf_select.specs.declared.error.SelectErr.{SelectErr}
use Rattle.lf_select.specs.declared.error.SelectErr.TheVariants as e
use Rattle.lf_select.specs.declared.prefixes.Prefixes.{Prefixes}
use Rattle.lf_select.specs.Names.{AreNamed, ArePrefixes, Names}
use Rattle.lf_select.specs.Prefixes.{AreGrouped}
use Rattle.lf_select.specs.Shelves.{IsFiled, Shelves}

pub record IsInverse (table : TermTable) (shelves : Shelves) (names prefix_names : Names)
    (prefixes : Prefixes) (lone : Pick) : Type 0 where
  pub filed : IsFiled table shelves
  pub named : AreNamed table names
  pub prefixes_named : ArePrefixes table prefix_names
  pub grouped : AreGrouped table prefixes.groups prefixes.lengths.items
  pub alone : lone ≡ no_value

-- a compacted IRI, or none, which is the error `IRI confused with prefix`; want of memory says
-- nothing
abbrev pub Compacts : Result (List ℕ) SelectErr → Option (List ℕ) → Type 0
Compacts (Ok text) compacted = compacted ≡ Some text
Compacts (Err e.Confused) compacted = compacted ≡ None
Compacts (Err e.Memory) compacted = Unit {0}

-- the compact IRI, else the IRI where it isn't confused
abbrev pub by_prefix_or_whole : TermTable → List ℕ → Bool → Option (List ℕ)
by_prefix_or_whole table iri has_value =
    option_or (by_prefix table iri has_value) (if is_confused table iri then None else Some iri)
