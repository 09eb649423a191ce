-- One question that is answered by quads, or by yes or no, as something learnt.
use Rattle.std.proofs.Common.{◌≡◌, refl, sym, ◌∙◌, ap, subst, ℕ, ◌+◌, List, [], ◌∷◌, Bool, Option, Result, Ok, Err, IfOk, OnOk}
use Rattle.std.proofs.lemmas.List.Elements.{All-cons, All-nil, All-head}
use Rattle.lf_base.specs.declared.memory.Memory.{Memory}
use Rattle.lf_rdf.specs.declared.quad.Quad.{Quad}
use Rattle.lf_rdf.specs.declared.term.Term.{Term}
use Rattle.lf_rdf.specs.declared.question.GraphRef.{GraphRef}
use Rattle.lf_rdf.specs.declared.question.Question.{Question}
use Rattle.lf_rdf.specs.declared.question.Question.TheVariants as ask
use Rattle.lf_rdf.specs.declared.question.Answer.TheVariants.{Flag, Quads}
use Rattle.def_datasets.specs.Near.{itself}
use Rattle.def_datasets.specs.Terms.{uses}
use Rattle.def_datasets.specs.Questions.{answer, named, out}
use Rattle.lf_oracle.specs.Asking.{Learns, told_with, flag_in}
use Rattle.lf_oracle.specs.Nearby.{IsNearOne, IsNamed}
use Rattle.lf_lists.specs.Learning.{NearTo, quads_in}

pub learn_quads : (Near : Question → Type 0) (dataset : List Quad) (before after : Option (List Question)) (first last : ℕ) (question : Question)
    (gives : List Quad → List Quad) → ((other : List Quad) → answer other question ≡ Quads (gives other)) → Near question
    → (r : Result (List Quad) Memory) → IfOk r (λ given. answer dataset question ≡ Quads given)
    → OnOk r (after ≡ told_with (question ∷ []) before) → last ≡ first + 1
    → IfOk r (λ found. Learns Near dataset before after first last gives found)
learn_quads Near dataset before after first last question gives says near (Ok found) answers told counts =
    record {
      asked = question ∷ [];
      told = told;
      counted = counts;
      near = All-cons Near question [] near (All-nil Near);
      same = λ other same. ap quads_in (sym answers ∙ (sym (All-head (λ q. answer other q ≡ answer dataset q) question [] same) ∙ says other));
    }
learn_quads Near dataset before after first last question gives says near (Err refused) answers told counts = tt

pub learn_out : (dataset : List Quad) (before after : Option (List Question)) (first last : ℕ) (graph graph_copy : GraphRef) (subject subject_copy : Term)
    → graph_copy ≡ graph → subject_copy ≡ subject
    → (r : Result (List Quad) Memory) → IfOk r (λ given. answer dataset (ask.Out graph_copy subject_copy) ≡ Quads given)
    → OnOk r (after ≡ told_with (ask.Out graph_copy subject_copy ∷ []) before) → last ≡ first + 1
    → IfOk r (λ found. Learns (NearTo dataset subject) dataset before after first last (λ other. out other graph subject) found)
learn_out dataset before after first last graph graph_copy subject subject_copy same_graph same_subject r answers told counts =
    subst
    (λ (g : GraphRef). IfOk r (λ found. Learns (NearTo dataset subject) dataset before after first last (λ other. out other g subject) found)) same_graph
    (subst
    (λ (s : Term). IfOk r (λ found. Learns (NearTo dataset s) dataset before after first last (λ other. out other graph_copy s) found)) same_subject
    (learn_quads (NearTo dataset subject_copy) dataset before after first last (ask.Out graph_copy subject_copy) (λ other. out other graph_copy subject_copy)
    (λ other. refl) itself r answers told counts))

pub learn_uses : (dataset : List Quad) (before after : Option (List Question)) (first last : ℕ) (object object_copy : Term) → object_copy ≡ object
    → (r : Result (List Quad) Memory) → IfOk r (λ given. answer dataset (ask.Uses object_copy) ≡ Quads given)
    → OnOk r (after ≡ told_with (ask.Uses object_copy ∷ []) before) → last ≡ first + 1
    → IfOk r (λ found. Learns (NearTo dataset object) dataset before after first last (λ other. uses other object) found)
learn_uses dataset before after first last object object_copy same r answers told counts =
    subst
    (λ (s : Term). IfOk r (λ found. Learns (NearTo dataset s) dataset before after first last (λ other. uses other s) found)) same
    (learn_quads (NearTo dataset object_copy) dataset before after first last (ask.Uses object_copy) (λ other. uses other object_copy)
    (λ other. refl) itself r answers told counts)

pub learn_named : (dataset : List Quad) (before after : Option (List Question)) (first last : ℕ) (name name_copy : Term) → name_copy ≡ name
    → (r : Result Bool Memory) → IfOk r (λ given. answer dataset (ask.Named name_copy) ≡ Flag given)
    → OnOk r (after ≡ told_with (ask.Named name_copy ∷ []) before) → last ≡ first + 1
    → IfOk r (λ found. Learns (NearTo dataset name) dataset before after first last (λ other. named other name) found)
learn_named dataset before after first last name name_copy is (Ok found) answers told counts =
    subst
    (λ (s : Term). Learns (NearTo dataset s) dataset before after first last (λ other. named other s) found) is
    (record {
      asked = ask.Named name_copy ∷ [];
      told = told;
      counted = counts;
      near = All-cons (NearTo dataset name_copy) (ask.Named name_copy) [] itself (All-nil (NearTo dataset name_copy));
      same = λ other same. ap flag_in (sym answers ∙ sym (All-head (λ q. answer other q ≡ answer dataset q) (ask.Named name_copy) [] same));
    })
learn_named dataset before after first last name name_copy is (Err refused) answers told counts = tt

-- a question near a name is near the term that is named
pub near_named : (dataset : List Quad) (name : Term) (question : Question) → IsNearOne dataset (IsNamed name) question → NearTo dataset name question
near_named dataset name question (x, (is, near)) = subst (λ (t : Term). NearTo dataset t question) is near
