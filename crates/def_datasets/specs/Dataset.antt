-- Datasets and their versions (RDF 1.1 Concepts, section 4: a dataset is a set of triples in each
-- of its graphs).
use Rattle.std.specs.Prelude.{List, [], ◌∷◌, ℕ, Bool, if◌then◌else◌, take}
use Rattle.lf_rdf.specs.declared.quad.Quad.{Quad}
use Rattle.lf_rdf.specs.declared.quad.Signed.{Signed}
use Rattle.lf_rdf.specs.Equality.{quad_eq}
use Rattle.def_datasets.specs.Sorted as sorted
use Rattle.def_datasets.specs.Order.{quad_cmp}

-- a dataset is a list of quads without repeats, in order of their canonical lines
abbrev pub is_dataset : List Quad → Bool
is_dataset = sorted.ascends quad_cmp

-- whether a quad is in a dataset
abbrev pub holds : List Quad → Quad → Bool
holds = sorted.has quad_eq

-- the dataset with one more quad
abbrev pub with_quad : Quad → List Quad → List Quad
with_quad = sorted.put quad_cmp

-- the dataset of some quads
abbrev pub dataset_of : List Quad → List Quad
dataset_of = sorted.set_of quad_cmp

-- the quads that a patch adds
abbrev pub additions : List Signed → List Quad
additions [] = []
additions (signed ∷ rest) = if signed.add then signed.quad ∷ additions rest else additions rest

-- the quads that a patch deletes
abbrev pub deletions : List Signed → List Quad
deletions [] = []
deletions (signed ∷ rest) = if signed.add then deletions rest else signed.quad ∷ deletions rest

-- the dataset without the quads that a patch deletes, with the quads that it adds
abbrev pub after : List Quad → List Signed → List Quad
after dataset patch =
    sorted.put_all quad_cmp (sorted.without quad_eq dataset (deletions patch)) (additions patch)

-- the dataset after one patch and then each of the others
abbrev pub after_all : List Quad → List (List Signed) → List Quad
after_all dataset [] = dataset
after_all dataset (patch ∷ patches) = after_all (after dataset patch) patches

-- the dataset of a version: the empty one after that many of the patches
abbrev pub at_version : List (List Signed) → ℕ → List Quad
at_version patches version = after_all [] (take version patches)
