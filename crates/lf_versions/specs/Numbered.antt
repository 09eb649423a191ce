-- What a version keeps: its commits under their numbers, and the index of its dataset.
use Rattle.std.specs.Prelude.{◌≡◌, ◌≤◌, List, [], ◌∷◌, ℕ, suc, length, map}
use Rattle.std.specs.Arc.{arc_value}
use Rattle.std.specs.declared.alloc.Global.{Global}
use Rattle.std.specs.declared.sync.Arc.{Arc}
use Rattle.lf_rdf.specs.declared.quad.Quad.{Quad}
use Rattle.def_histories.specs.Legal.{most_commits, most_quads}
use Rattle.lf_versions.specs.declared.commit.Commit.{Commit}
use Rattle.lf_versions.specs.Commits.{dataset}

-- values under consecutive numbers
abbrev pub numbered : {A : Type 0} → ℕ → List A → List (ℕ × A)
numbered first [] = []
numbered first (x ∷ xs) = (first, x) ∷ numbered (suc first) xs

-- the commits behind numbered handles
abbrev pub values : {A : Type 0} → List (ℕ × A) → List A
values pairs = map (λ pair. pair.1) pairs

abbrev pub commits_of : List (ℕ × Arc Commit Global) → List Commit
commits_of pairs = map arc_value (values pairs)

-- the commits stand under the numbers from 0 on, and the index is that of their dataset
pub record IsVersion (pairs : List (ℕ × Arc Commit Global)) (index : List Quad) (number : ℕ) :
    Type 0 where
  pub numbers : pairs ≡ numbered 0 (values pairs)
  pub counted : number ≡ length (commits_of pairs)
  pub few : number ≤ most_commits
  pub is_dataset : index ≡ dataset (commits_of pairs)
  pub held : length index ≤ most_quads
