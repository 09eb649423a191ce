-- What several questions tell together: a fact that holds of every dataset that answers them alike.
use Rattle.std.specs.Prelude.{◌≡◌, ℕ, ◌+◌, List, length, Option, All}
use Rattle.lf_rdf.specs.declared.quad.Quad.{Quad}
use Rattle.lf_rdf.specs.declared.question.Question.{Question}
use Rattle.lf_oracle.specs.Asking.{told_with, SameAnswers}

-- Some questions were asked, each of them near, and a fact holds of every dataset that answers them
-- alike. The told questions grew by them, and the steps rose by as many. What is learnt is such a
-- fact: that the given value is the dataset's.
pub record Hears (Near : Question → Type 0) (dataset : List Quad)
    (before after : Option (List Question)) (first last : ℕ) (Fact : List Quad → Type 0) : Type 0
  where
    pub asked : List Question
    pub told : after ≡ told_with asked before
    pub counted : last ≡ first + length asked
    pub near : All Near asked
    pub holds : (other : List Quad) → SameAnswers dataset other asked → Fact other
