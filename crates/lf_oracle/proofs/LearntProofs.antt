-- What was learnt holds of the dataset itself, and of the dataset after a patch that touches none of the questions.
use Rattle.std.proofs.Common.{refl, get_or}
use Rattle.def_datasets.specs.Dataset.{after}
use Rattle.def_datasets.proofs.QuestionProofs.{untouched_by_patch}
use Rattle.lf_oracle.specs.Laws.{LearntIsExact, LearntStays}

pub learnt_is_exact : {A : Type 0} → LearntIsExact A
learnt_is_exact asked dataset gives given learnt = learnt dataset (λ place d within. refl)

pub learnt_stays : {A : Type 0} → LearntStays A
learnt_stays asked dataset gives given learnt patch ordered untouched =
    learnt (after dataset patch)
    (λ place d within. untouched_by_patch dataset patch (get_or asked place d) ordered (untouched place d within))
