use Rattle.std.proofs.Common.{◌≡◌, map, drop, string_bytes}
use Rattle.lf_app.proofs.Leading.{Leads}
use Rattle.lf_app.proofs.data_files.commit_files.Given as goal

abbrev pub invariant-loop-file : goal.invariant-loop-file
invariant-loop-file g l =
    Leads (g.F.Shelf.files l.initial.shelf) (map string_bytes l.files) (map string_bytes (drop l.file-index l.files)) l.initial.state.history l.state.history
    × (g.F.Shelf.files l.shelf ≡ g.F.Shelf.files l.initial.shelf)
    × (g.F.Shelf.faults l.shelf ≡ g.F.Shelf.faults l.initial.shelf)
    × (g.F.Shelf.refusals l.shelf ≡ g.F.Shelf.refusals l.initial.shelf)
