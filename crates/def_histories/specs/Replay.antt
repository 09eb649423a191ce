-- Replaying a history: the datasets of its versions (RDF 1.1 Concepts, section 4) and the
-- publications that it tells.
use Rattle.std.specs.Prelude.{List, [], ◌∷◌, ℕ}
use Rattle.lf_rdf.specs.declared.quad.Quad.{Quad}
use Rattle.lf_model.specs.declared.desk.Notice.{Notice}
use Rattle.def_datasets.specs.Dataset.{at_version}
use Rattle.def_histories.specs.declared.operation.Operation.{Operation}
use Rattle.def_histories.specs.declared.operation.Operation.TheVariants.{Commit, Register, Retire, Publish}
use Rattle.def_histories.specs.History.{patches, commits}

-- the dataset of a version: that after as many of the commits
abbrev pub dataset_at : List Operation → ℕ → List Quad
dataset_at history version = at_version (patches history) version

-- the dataset of the newest version, which follows all commits
abbrev pub newest_dataset : List Operation → List Quad
newest_dataset history = dataset_at history (commits history)

-- the publications in order, as frame and version
abbrev pub notices : List Operation → List Notice
notices [] = []
notices (Commit seat patch ∷ rest) = notices rest
notices (Register seat name text ∷ rest) = notices rest
notices (Retire seat name ∷ rest) = notices rest
notices (Publish name version ∷ rest) = record { frame = name; version = version } ∷ notices rest
