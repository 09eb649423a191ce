-- A law of the number that bounds how many terms are being defined at once.
use Rattle.std.specs.Prelude.{◌≡◌, ◌≤◌, List, [], ℕ, length}
use Rattle.lf_model.specs.declared.table.TermTable.{TermTable}
use Rattle.def_contexts.specs.Defining.{Entry, needed, define, define_each, define_terms}

-- more room than there are terms gives the same: a cycle is found before the room ends
abbrev pub RoomIsEnough : Type 0
RoomIsEnough =
    (terms : List Entry) (table : TermTable) (room : ℕ) → length terms ≤ room →
    define_each (needed terms (define terms room) []) terms (record { table = table; done = [] })
    ≡ define_terms terms table
