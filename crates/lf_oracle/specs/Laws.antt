-- What follows where something was learnt by asking.
use Rattle.std.specs.Prelude.{◌≡◌, List, All, IsTrue, IsFalse}
use Rattle.std.specs.List.{list_any}
use Rattle.lf_rdf.specs.declared.quad.Quad.{Quad}
use Rattle.lf_rdf.specs.declared.quad.Signed.{Signed}
use Rattle.lf_rdf.specs.declared.question.Question.{Question}
use Rattle.def_datasets.specs.Dataset.{is_dataset, after}
use Rattle.def_datasets.specs.Questions.{touches}
use Rattle.lf_oracle.specs.Asking.{IsLearntBy}

-- what was given is what the dataset itself gives
abbrev pub LearntIsExact : Type 0 → Type 0
LearntIsExact A =
    (asked : List Question) (dataset : List Quad) (gives : List Quad → A) (given : A)
    → IsLearntBy asked dataset gives given → given ≡ gives dataset

-- no line of a patch touches the question
abbrev pub IsUntouched : List Signed → Question → Type 0
IsUntouched patch question = IsFalse (list_any (λ line. touches line.quad question) patch)

-- a patch none of whose lines touches a question that was asked leaves what was given
abbrev pub LearntStays : Type 0 → Type 0
LearntStays A =
    (asked : List Question) (dataset : List Quad) (gives : List Quad → A) (given : A)
    → IsLearntBy asked dataset gives given → (patch : List Signed) → IsTrue (is_dataset dataset)
    → All (IsUntouched patch) asked → given ≡ gives (after dataset patch)
