-- What holds of versions, whatever the dataset and the patch (RDF 1.1 Concepts, section 4).
use Rattle.std.specs.Prelude.{◌≡◌, List, [], ◌∷◌, ◌++◌, ℕ, suc, ◌≤◌, length, Bool, ◌&&◌, ◌||◌, not, IsTrue}
use Rattle.std.specs.Bool.{beq}
use Rattle.lf_rdf.specs.declared.quad.Quad.{Quad}
use Rattle.lf_rdf.specs.declared.quad.Signed.{Signed}
use Rattle.lf_rdf.specs.Equality.{quad_eq}
use Rattle.def_datasets.specs.Sorted as sorted
use Rattle.def_datasets.specs.Dataset.{is_dataset, holds, additions, deletions, after, at_version}

-- whether a patch has a line
abbrev pub signed_eq : Signed → Signed → Bool
signed_eq s t = beq s.add t.add && quad_eq s.quad t.quad

abbrev pub has_line : List Signed → Signed → Bool
has_line = sorted.has signed_eq

-- two datasets with the same quads are one
abbrev pub QuadsDecide : Type 0
QuadsDecide =
    (one two : List Quad) → IsTrue (is_dataset one) → IsTrue (is_dataset two)
    → ((q : Quad) → holds one q ≡ holds two q) → one ≡ two

-- a patch leaves a dataset in order and without repeats
abbrev pub PatchKeepsOrder : Type 0
PatchKeepsOrder =
    (dataset : List Quad) (patch : List Signed) → IsTrue (is_dataset dataset) →
    IsTrue (is_dataset (after dataset patch))

-- a quad is there after a patch where the patch adds it, or where it was there and the patch
-- doesn't delete it
abbrev pub PatchDecidesQuads : Type 0
PatchDecidesQuads =
    (dataset : List Quad) (patch : List Signed) (q : Quad)
    →
    holds (after dataset patch) q
    ≡ (holds (additions patch) q || (holds dataset q && not (holds (deletions patch) q)))

-- two patches with the same lines, in whatever order and however often, make the same dataset
abbrev pub LinesInAnyOrder : Type 0
LinesInAnyOrder =
    (dataset : List Quad) (one two : List Signed) → IsTrue (is_dataset dataset)
    → ((s : Signed) → has_line one s ≡ has_line two s) → after dataset one ≡ after dataset two

-- a patch that adds only what is there, and all that it deletes of it, changes nothing
abbrev pub IdlePatchChangesNothing : Type 0
IdlePatchChangesNothing =
    (dataset : List Quad) (patch : List Signed) → IsTrue (is_dataset dataset)
    → ((q : Quad) → IsTrue (holds (additions patch) q) → IsTrue (holds dataset q))
    →
    ((q : Quad) → IsTrue (holds dataset q) → IsTrue (holds (deletions patch) q) →
    IsTrue (holds (additions patch) q))
    → after dataset patch ≡ dataset

-- each version is a dataset
abbrev pub VersionsAreDatasets : Type 0
VersionsAreDatasets =
    (patches : List (List Signed)) (version : ℕ) → IsTrue (is_dataset (at_version patches version))

-- the next version is that before, after the next patch
abbrev pub NextVersion : Type 0
NextVersion =
    (patches : List (List Signed)) (patch : List Signed)
    →
    at_version (patches ++ patch ∷ []) (suc (length patches))
    ≡ after (at_version patches (length patches)) patch

-- what follows a version doesn't change it
abbrev pub VersionsStay : Type 0
VersionsStay =
    (patches later : List (List Signed)) (version : ℕ) → version ≤ length patches
    → at_version (patches ++ later) version ≡ at_version patches version
