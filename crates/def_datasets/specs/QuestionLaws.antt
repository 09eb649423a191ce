-- What holds of terms, questions and their answers, whatever the dataset (RDF 1.1 Concepts, section
-- 4).
use Rattle.std.specs.Prelude.{◌≡◌, List, Bool, ◌&&◌, ◌||◌, IsTrue, IsFalse}
use Rattle.std.specs.List.{filter, list_any}
use Rattle.lf_rdf.specs.declared.term.Term.{Term}
use Rattle.lf_rdf.specs.declared.quad.Quad.{Quad}
use Rattle.lf_rdf.specs.declared.quad.Signed.{Signed}
use Rattle.lf_rdf.specs.declared.question.GraphRef.{GraphRef}
use Rattle.lf_rdf.specs.declared.question.Question.{Question}
use Rattle.lf_rdf.specs.Equality.{term_eq}
use Rattle.def_datasets.specs.Sorted as sorted
use Rattle.def_datasets.specs.Order.{id_cmp}
use Rattle.def_datasets.specs.Dataset.{is_dataset, holds, after}
use Rattle.def_datasets.specs.Terms.{is_node, label_terms, terms}
use Rattle.def_datasets.specs.Questions.{answer, touches, members, answers_of, reply}

-- each quad that touches the question is in both datasets or in neither
abbrev pub AlikeWhereTouched : List Quad → List Quad → Question → Type 0
AlikeWhereTouched one two question =
    (q : Quad) → IsTrue (touches q question) → holds one q ≡ holds two q

-- where no quad that is in exactly one of two datasets touches a question, both answer it alike
abbrev pub UntouchedAnswers : Type 0
UntouchedAnswers =
    (one two : List Quad) (question : Question) → IsTrue (is_dataset one) → IsTrue (is_dataset two)
    → AlikeWhereTouched one two question → answer one question ≡ answer two question

-- a patch none of whose lines touches a question leaves its answer
abbrev pub UntouchedByPatch : Type 0
UntouchedByPatch =
    (dataset : List Quad) (patch : List Signed) (question : Question) → IsTrue (is_dataset dataset)
    → IsFalse (list_any (λ line. touches line.quad question) patch)
    → answer (after dataset patch) question ≡ answer dataset question

-- only the quads that touch a question count for its answer
abbrev pub TouchingQuadsDecide : Type 0
TouchingQuadsDecide =
    (dataset : List Quad) (question : Question)
    → answer dataset question ≡ answer (filter (λ q. touches q question) dataset) question

-- the answers of a dataset, as functions, give its answer to each question
abbrev pub AnswersReply : Type 0
AnswersReply = (dataset : List Quad) (question : Question) →
    reply (answers_of dataset) question ≡ answer dataset question

-- the terms of a dataset stand each once, in order of their ids
abbrev pub TermsInOrder : Type 0
TermsInOrder = (dataset : List Quad) → IsTrue (sorted.ascends id_cmp (terms dataset))

-- the nodes of a graph stand each once, in order of their ids
abbrev pub MembersInOrder : Type 0
MembersInOrder =
    (dataset : List Quad) (g : GraphRef) → IsTrue (sorted.ascends id_cmp (members dataset g))

-- whether a term is the subject, the object or the graph label of a quad
abbrev pub stands_in : Term → Quad → Bool
stands_in t q =
    term_eq t q.subject || (term_eq t q.object || list_any (term_eq t) (label_terms q.graph))

-- the terms of a dataset are the IRIs and blank nodes that stand in one of its quads
abbrev pub TermsStandInQuads : Type 0
TermsStandInQuads =
    (dataset : List Quad) (t : Term)
    → sorted.has term_eq (terms dataset) t ≡ (is_node t && list_any (stands_in t) dataset)
