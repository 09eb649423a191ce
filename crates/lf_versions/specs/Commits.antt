-- A version is the commits that made it, in order; its dataset follows from them (RDF 1.1 Concepts,
-- section 4).
use Rattle.std.specs.Prelude.{◌≡◌, ◌<◌, List, [], ◌∷◌, ◌++◌, ℕ, nat_lt, length, map, not, if◌then◌else◌, Result, Ok, Err}
use Rattle.lf_rdf.specs.declared.quad.Quad.{Quad}
use Rattle.lf_rdf.specs.declared.quad.Signed.{Signed}
use Rattle.lf_rdf.specs.declared.quad.Patch.{Patch}
use Rattle.lf_model.specs.declared.desk.Counted.TheVariants as counted
use Rattle.def_datasets.specs.Dataset.{after, at_version}
use Rattle.def_histories.specs.Legal.{most_commits, most_quads}
use Rattle.lf_versions.specs.declared.commit.Commit.{Commit}
use Rattle.lf_versions.specs.declared.error.VersionErr.{VersionErr}
use Rattle.lf_versions.specs.declared.error.VersionErr.TheVariants as e

-- the lines of the patches, in order
abbrev pub lines_of : List Commit → List (List Signed)
lines_of commits = map (λ (commit : Commit). commit.patch.lines) commits

-- the dataset of the version that commits made
abbrev pub dataset : List Commit → List Quad
dataset commits = at_version (lines_of commits) (length commits)

-- the commits with one more
abbrev pub with_commit : List Commit → ℕ → Patch → List Commit
with_commit commits seat patch = commits ++ record { seat = seat; patch = patch } ∷ []

-- the version after a patch, or why there is none; the refusals stand in the order in which they
-- are tried
abbrev pub version_after : List Commit → Commit → Result (List Commit) VersionErr
version_after commits commit =
    if not (nat_lt (length commits) most_commits)
    then Err (e.HistoryFull counted.Commits (length commits) most_commits)
    else if nat_lt most_quads (length (after (dataset commits) commit.patch.lines))
    then Err (e.TooManyQuads (length (dataset commits))
    (length (after (dataset commits) commit.patch.lines)))
    else Ok (commits ++ commit ∷ [])

abbrev pub Fails : VersionErr → Result (List Commit) VersionErr → Type 0
Fails e.Memory answer = Unit {0}
Fails (e.HistoryFull of have limit) answer = answer ≡ Err (e.HistoryFull of have limit)
Fails (e.TooManyQuads have would) answer = answer ≡ Err (e.TooManyQuads have would)

-- a call answered so, unless no memory was found
abbrev pub Makes : Result (List Commit) VersionErr → Result (List Commit) VersionErr → Type 0
Makes answer (Ok version) = answer ≡ Ok version
Makes answer (Err error) = Fails error answer
