-- What is learnt by asking: the questions that were asked, and what every dataset gives that
-- answers them alike.
use Rattle.std.specs.Prelude.{◌≡◌, ℕ, ◌+◌, List, ◌++◌, length, Bool, true, false, Option, Some, None, All}
use Rattle.lf_rdf.specs.declared.quad.Quad.{Quad}
use Rattle.lf_rdf.specs.declared.question.GraphRef.{GraphRef}
use Rattle.lf_rdf.specs.declared.question.GraphRef.TheVariants as graph
use Rattle.lf_rdf.specs.declared.question.Question.{Question}
use Rattle.lf_rdf.specs.declared.question.Question.TheVariants as ask
use Rattle.lf_rdf.specs.declared.question.Answer.{Answer}
use Rattle.lf_rdf.specs.declared.question.Answer.TheVariants.{Flag, Quads, Terms}
use Rattle.def_datasets.specs.Questions.{answer}

-- the default graph or a named one
abbrev pub is_one_graph : GraphRef → Bool
is_one_graph graph.Default = true
is_one_graph (graph.Named name) = true
is_one_graph graph.Merged = false

-- a question is never of the merged graph
abbrev pub asks_one_graph : Question → Bool
asks_one_graph (ask.Out g subject) = is_one_graph g
asks_one_graph (ask.OutAny subject) = true
asks_one_graph (ask.Inward g predicate object) = is_one_graph g
asks_one_graph (ask.InwardAny predicate object) = true
asks_one_graph (ask.Uses object) = true
asks_one_graph (ask.Named name) = true
asks_one_graph (ask.Members g) = is_one_graph g

-- the told questions with more of them, where they are told
abbrev pub told_with : List Question → Option (List Question) → Option (List Question)
told_with more None = None
told_with more (Some before) = Some (before ++ more)

-- two datasets answer each of these questions alike
abbrev pub SameAnswers : List Quad → List Quad → List Question → Type 0
SameAnswers one two asked = All (λ question. answer two question ≡ answer one question) asked

-- what was given, every dataset gives that answers the questions alike, the dataset itself first of
-- all
abbrev pub IsLearntBy : {A : Type 0} → List Question → List Quad → (List Quad → A) → A → Type 0
IsLearntBy asked dataset gives given =
    (other : List Quad) → SameAnswers dataset other asked → given ≡ gives other

-- Some questions were asked, each of them near, and what was given is learnt by them. The told
-- questions grew by them, and the steps rose by as many.
pub record Learns {A : Type 0} (Near : Question → Type 0) (dataset : List Quad)
    (before after : Option (List Question)) (first last : ℕ) (gives : List Quad → A) (given : A) :
    Type 0 where
  pub asked : List Question
  pub told : after ≡ told_with asked before
  pub counted : last ≡ first + length asked
  pub near : All Near asked
  pub same : IsLearntBy asked dataset gives given

-- a question that is answered by yes or no
abbrev pub asks_flag : Question → Bool
asks_flag (ask.Out g subject) = false
asks_flag (ask.OutAny subject) = false
asks_flag (ask.Inward g predicate object) = false
asks_flag (ask.InwardAny predicate object) = false
asks_flag (ask.Uses object) = false
asks_flag (ask.Named name) = true
asks_flag (ask.Members g) = false

-- the flag of an answer that is one
abbrev pub flag_in : Answer → Bool
flag_in (Flag flag) = flag
flag_in (Quads quads) = false
flag_in (Terms terms) = false
