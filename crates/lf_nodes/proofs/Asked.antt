-- One question for quads or for terms, as something learnt.
use Rattle.std.proofs.Common.{◌≡◌, refl, sym, ◌∙◌, ap, subst, ℕ, ◌+◌, List, [], ◌∷◌, true, Option, Result, Ok, Err, IfOk, OnOk, inl}
use Rattle.std.proofs.lemmas.List.Elements.{All-cons, All-nil, All-head}
use Rattle.lf_base.specs.declared.memory.Memory.{Memory}
use Rattle.lf_rdf.specs.declared.quad.Quad.{Quad}
use Rattle.lf_rdf.specs.declared.term.Term.{Term}
use Rattle.lf_rdf.specs.declared.question.GraphRef.{GraphRef}
use Rattle.lf_rdf.specs.declared.question.GraphRef.TheVariants as graph
use Rattle.lf_rdf.specs.declared.question.Question.{Question}
use Rattle.lf_rdf.specs.declared.question.Question.TheVariants as ask
use Rattle.lf_rdf.specs.declared.question.Answer.TheVariants.{Quads, Terms}
use Rattle.def_datasets.specs.Near.{itself}
use Rattle.def_datasets.specs.Questions.{answer, inward, members, out_any}
use Rattle.lf_oracle.specs.Asking.{Learns, asks_one_graph, told_with}
use Rattle.lf_oracle.specs.Nearby.{IsNearMembers}
use Rattle.lf_lists.specs.Learning.{NearTo, asks_quads}
use Rattle.lf_lists.proofs.Questions.{learn_quads}
use Rattle.lf_nodes.specs.Asked.{IsInward, inward_question, terms_in}

pub learn_any : (dataset : List Quad) (before after : Option (List Question)) (first last : ℕ) (subject subject_copy : Term) → subject_copy ≡ subject
    → (r : Result (List Quad) Memory) → IfOk r (λ given. answer dataset (ask.OutAny subject_copy) ≡ Quads given)
    → OnOk r (after ≡ told_with (ask.OutAny subject_copy ∷ []) before) → last ≡ first + 1
    → IfOk r (λ found. Learns (NearTo dataset subject) dataset before after first last (λ other. out_any other subject) found)
learn_any dataset before after first last subject subject_copy same r answers told counts =
    subst
    (λ (s : Term). IfOk r (λ found. Learns (NearTo dataset s) dataset before after first last (λ other. out_any other s) found)) same
    (learn_quads (NearTo dataset subject_copy) dataset before after first last (ask.OutAny subject_copy) (λ other. out_any other subject_copy)
    (λ other. refl) itself r answers told counts)

inward_said : (other : List Quad) (g : GraphRef) (predicate object : Term) → answer other (inward_question g predicate object) ≡ Quads (inward other g predicate object)
inward_said other graph.Default predicate object = refl
inward_said other (graph.Named name) predicate object = refl
inward_said other graph.Merged predicate object = refl

inward_near : (dataset : List Quad) (g : GraphRef) (predicate object : Term) → NearTo dataset object (inward_question g predicate object)
inward_near dataset graph.Default predicate object = itself
inward_near dataset (graph.Named name) predicate object = itself
inward_near dataset graph.Merged predicate object = itself

inward_quads : (g : GraphRef) (predicate object : Term) → asks_quads (inward_question g predicate object) ≡ true
inward_quads graph.Default predicate object = refl
inward_quads (graph.Named name) predicate object = refl
inward_quads graph.Merged predicate object = refl

inward_one : (g : GraphRef) (predicate object : Term) → asks_one_graph (inward_question g predicate object) ≡ true
inward_one graph.Default predicate object = refl
inward_one (graph.Named name) predicate object = refl
inward_one graph.Merged predicate object = refl

pub asks_inward : (question : Question) (g : GraphRef) (predicate object : Term) → IsInward question g predicate object → asks_quads question ≡ true
asks_inward question g predicate object is = ap asks_quads is ∙ inward_quads g predicate object

pub asks_inward_one : (question : Question) (g : GraphRef) (predicate object : Term) → IsInward question g predicate object → asks_one_graph question ≡ true
asks_inward_one question g predicate object is = ap asks_one_graph is ∙ inward_one g predicate object

pub learn_inward : (dataset : List Quad) (before after : Option (List Question)) (first last : ℕ) (question : Question) (g : GraphRef) (predicate object : Term)
    → IsInward question g predicate object → (r : Result (List Quad) Memory) → IfOk r (λ given. answer dataset question ≡ Quads given)
    → OnOk r (after ≡ told_with (question ∷ []) before) → last ≡ first + 1
    → IfOk r (λ found. Learns (NearTo dataset object) dataset before after first last (λ other. inward other g predicate object) found)
learn_inward dataset before after first last question g predicate object is r answers told counts =
    learn_quads (NearTo dataset object) dataset before after first last (inward_question g predicate object) (λ other. inward other g predicate object)
    (λ other. inward_said other g predicate object) (inward_near dataset g predicate object) r
    (subst (λ (q : Question). IfOk r (λ given. answer dataset q ≡ Quads given)) is answers)
    (subst (λ (q : Question). OnOk r (after ≡ told_with (q ∷ []) before)) is told) counts

members_near : (dataset : List Quad) (g : GraphRef) → IsNearMembers dataset g (ask.Members g)
members_near dataset graph.Default = tt
members_near dataset (graph.Named name) = (name, (inl refl, itself))
members_near dataset graph.Merged = tt

learn_terms : (dataset : List Quad) (before after : Option (List Question)) (first last : ℕ) (g : GraphRef) (r : Result (List Term) Memory)
    → IfOk r (λ given. answer dataset (ask.Members g) ≡ Terms given)
    → OnOk r (after ≡ told_with (ask.Members g ∷ []) before) → last ≡ first + 1
    → IfOk r (λ found. Learns (IsNearMembers dataset g) dataset before after first last (λ other. members other g) found)
learn_terms dataset before after first last g (Ok found) answers told counts =
    record {
      asked = ask.Members g ∷ [];
      told = told;
      counted = counts;
      near = All-cons (IsNearMembers dataset g) (ask.Members g) [] (members_near dataset g) (All-nil (IsNearMembers dataset g));
      same = λ other same. ap terms_in (sym answers ∙ sym (All-head (λ q. answer other q ≡ answer dataset q) (ask.Members g) [] same));
    }
learn_terms dataset before after first last g (Err refused) answers told counts = tt

pub learn_members : (dataset : List Quad) (before after : Option (List Question)) (first last : ℕ) (g graph_copy : GraphRef) → graph_copy ≡ g
    → (r : Result (List Term) Memory) → IfOk r (λ given. answer dataset (ask.Members graph_copy) ≡ Terms given)
    → OnOk r (after ≡ told_with (ask.Members graph_copy ∷ []) before) → last ≡ first + 1
    → IfOk r (λ found. Learns (IsNearMembers dataset g) dataset before after first last (λ other. members other g) found)
learn_members dataset before after first last g graph_copy same r answers told counts =
    subst
    (λ (h : GraphRef). IfOk r (λ found. Learns (IsNearMembers dataset h) dataset before after first last (λ other. members other h) found)) same
    (learn_terms dataset before after first last graph_copy r answers told counts)
