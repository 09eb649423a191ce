-- The stored history: its entries as the operations that they are. A commit's patch is shared with
-- the versions.
use Rattle.std.specs.Prelude.{List, [], ◌∷◌, map}
use Rattle.std.specs.Arc.{arc_value}
use Rattle.lf_versions.specs.declared.commit.Commit as versions
use Rattle.def_histories.specs.declared.operation.Operation.{Operation}
use Rattle.def_histories.specs.declared.operation.Operation.TheVariants.{Commit, Register, Retire, Publish}
use Rattle.lf_core.specs.declared.entries.Entry.{Entry}
use Rattle.lf_core.specs.declared.entries.Entry.TheVariants as e

-- the operation of a commit
abbrev pub committing : versions.Commit → Operation
committing commit = Commit commit.seat commit.patch

abbrev pub operation_of : Entry → Operation
operation_of (e.Commit commit) = committing (arc_value commit)
operation_of (e.Register seat name text) = Register seat name text
operation_of (e.Retire seat name) = Retire seat name
operation_of (e.Publish name version) = Publish name version

abbrev pub operations : List Entry → List Operation
operations entries = map operation_of entries

-- the commits of a history
abbrev pub commits_in : List Operation → List versions.Commit
commits_in [] = []
commits_in (Commit seat patch ∷ rest) = record { seat = seat; patch = patch } ∷ commits_in rest
commits_in (Register seat name text ∷ rest) = commits_in rest
commits_in (Retire seat name ∷ rest) = commits_in rest
commits_in (Publish name version ∷ rest) = commits_in rest
