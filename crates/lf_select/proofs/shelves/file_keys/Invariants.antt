use Rattle.std.proofs.Common.{take}
use Rattle.lf_select.specs.Shelves.{IsFiledUnder}
use Rattle.lf_select.proofs.shelves.file_keys.Given as goal

abbrev pub invariant-loop-key : goal.invariant-loop-key
invariant-loop-key l = IsFiledUnder l.table l.shelves l.iri l.place (take l.key-index l.key-items)
