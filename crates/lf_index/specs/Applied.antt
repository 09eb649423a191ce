-- What comes of a patch.
use Rattle.std.specs.Prelude.{◌≡◌, ◌<◌, ◌≤◌, List, length, Option, Some, None, ⊤}
use Rattle.lf_rdf.specs.declared.quad.Quad.{Quad}
use Rattle.lf_rdf.specs.declared.quad.Signed.{Signed}
use Rattle.def_datasets.specs.Dataset.{after}
use Rattle.def_histories.specs.Legal.{most_quads}
use Rattle.lf_index.specs.declared.error.ApplyErr.{ApplyErr}
use Rattle.lf_index.specs.declared.error.ApplyErr.TheVariants.{TooManyQuads, Memory}

-- what was made last, or the old quads while nothing is
abbrev pub latest : Option (List Quad) → List Quad → List Quad
latest None old = old
latest (Some made) old = made

-- the dataset after the patch, which has no more quads than a version may have
pub record IsApplied (dataset : List Quad) (lines : List Signed) (made : List Quad) : Type 0 where
  pub is : made ≡ after dataset lines
  pub few : length made ≤ most_quads

-- how many quads there are and there would be, where these are more than a version may have
abbrev pub IsRefused : List Quad → List Signed → ApplyErr → Type 0
IsRefused dataset lines (TooManyQuads have would) =
    (most_quads < length (after dataset lines)) × (have ≡ length dataset)
    × (would ≡ length (after dataset lines))
IsRefused dataset lines Memory = ⊤
