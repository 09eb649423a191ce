-- The answer to each question, by the equations that the calls give.
use Rattle.std.proofs.Common.{◌≡◌, sym, ◌∙◌, ap, subst, ℕ, List, ◌++◌, true, Option, None}
use Rattle.lf_rdf.specs.declared.term.Term.{Term}
use Rattle.lf_rdf.specs.declared.quad.Quad.{Quad}
use Rattle.lf_rdf.specs.declared.question.GraphRef.{GraphRef}
use Rattle.lf_rdf.specs.declared.question.GraphRef.TheVariants as graph
use Rattle.lf_rdf.specs.declared.question.Question.{Question}
use Rattle.lf_rdf.specs.declared.question.Question.TheVariants as ask
use Rattle.lf_rdf.specs.declared.question.Answer.TheVariants.{Quads, Terms}
use Rattle.lf_rdf.specs.Equality.{term_eq}
use Rattle.def_datasets.specs.Sorted.{has, set_of}
use Rattle.def_datasets.specs.Order.{id_cmp}
use Rattle.def_datasets.specs.Dataset.{holds, dataset_of}
use Rattle.def_datasets.specs.Terms.{lies_in}
use Rattle.def_datasets.specs.Questions.{answer, named}
use Rattle.def_datasets.proofs.OrderLaws.{quad_strict}
use Rattle.lf_oracle.specs.Asking.{asks_one_graph}
use Rattle.lf_ptree.specs.Pairs.{Ascends, keys, pairs_from}
use Rattle.lf_index.specs.Orders.{subject_order, object_order, graph_order}
use Rattle.lf_index.specs.Low.{least, lowest_subject, lowest_object, lowest_graph}
use Rattle.lf_index.specs.Reach.{label_in, reached, nodes_reached}
use Rattle.lf_index.specs.Indexed.{SetOf, quads_of, IsIndexed, names_for}
use Rattle.lf_order.proofs.SetLemmas.{set_alike, any_alike}
use Rattle.lf_index.proofs.IndexLemmas.{held}
use Rattle.lf_index.proofs.AnswerLemmas.{out_answered, out_any_answered, inward_answered, inward_any_answered, uses_answered, members_answered}

one_graph : (question asked : Question) → question ≡ asked → asks_one_graph question ≡ true → asks_one_graph asked ≡ true
one_graph question asked is one = subst (λ (w : Question). asks_one_graph w ≡ true) is one

-- the quads of the order by objects are the dataset
pub objects_same : (subjects objects graphs : SetOf Quad) (names : SetOf Term) (count : ℕ) (d : List Quad) → IsIndexed subjects objects graphs names count
    → d ≡ quads_of subjects → dataset_of (keys objects) ≡ d
objects_same subjects objects graphs names count d i same = set_alike quad_strict (keys objects) (keys subjects) i.objects_alike ∙ sym same

module _ (es : SetOf Quad) (d : List Quad) (same : dataset_of (keys es) ≡ d) (question : Question) (found : List Quad) (label : Option Term) where
  pub out_by : (g : GraphRef) (s : Term) → question ≡ ask.Out g s → label ≡ label_in g → asks_one_graph question ≡ true → Ascends subject_order es
      → found ≡ dataset_of (reached question (keys (pairs_from subject_order (lowest_subject s label) es))) → Quads found ≡ answer d question
  out_by g s is in_graph one asc e =
      ap Quads (
      e ∙ ((λ i. dataset_of (reached (is i) (keys (pairs_from subject_order (lowest_subject s (in_graph i)) es))))
      ∙ out_answered es d same asc g s (one_graph question (ask.Out g s) is one))
      )
      ∙ ap (answer d) (sym is)

  pub out_any_by : (s : Term) → question ≡ ask.OutAny s → label ≡ None → Ascends subject_order es
      → found ≡ dataset_of (reached question (keys (pairs_from subject_order (lowest_subject s label) es))) → Quads found ≡ answer d question
  out_any_by s is none asc e =
      ap Quads (
      e ∙ ((λ i. dataset_of (reached (is i) (keys (pairs_from subject_order (lowest_subject s (none i)) es)))) ∙ out_any_answered es d same asc s)
      )
      ∙ ap (answer d) (sym is)

  pub inward_by : (g : GraphRef) (p o : Term) → question ≡ ask.Inward g p o → label ≡ label_in g → asks_one_graph question ≡ true → Ascends object_order es
      → found ≡ dataset_of (reached question (keys (pairs_from object_order (lowest_object o p label) es))) → Quads found ≡ answer d question
  inward_by g p o is in_graph one asc e =
      ap Quads (
      e ∙ ((λ i. dataset_of (reached (is i) (keys (pairs_from object_order (lowest_object o p (in_graph i)) es))))
      ∙ inward_answered es d same asc g p o (one_graph question (ask.Inward g p o) is one))
      )
      ∙ ap (answer d) (sym is)

  pub inward_any_by : (p o : Term) → question ≡ ask.InwardAny p o → label ≡ None → Ascends object_order es
      → found ≡ dataset_of (reached question (keys (pairs_from object_order (lowest_object o p label) es))) → Quads found ≡ answer d question
  inward_any_by p o is none asc e =
      ap Quads (
      e ∙ ((λ i. dataset_of (reached (is i) (keys (pairs_from object_order (lowest_object o p (none i)) es)))) ∙ inward_any_answered es d same asc p o)
      )
      ∙ ap (answer d) (sym is)

  pub uses_by : (p o : Term) → question ≡ ask.Uses o → p ≡ least → label ≡ None → Ascends object_order es
      → found ≡ dataset_of (reached question (keys (pairs_from object_order (lowest_object o p label) es))) → Quads found ≡ answer d question
  uses_by p o is low none asc e =
      ap Quads (
      e ∙ ((λ i. dataset_of (reached (is i) (keys (pairs_from object_order (lowest_object o (low i) (none i)) es)))) ∙ uses_answered es d same asc o)
      )
      ∙ ap (answer d) (sym is)

-- the names of an index are those of the dataset
pub names_same : (subjects objects graphs : SetOf Quad) (names : SetOf Term) (count : ℕ) (d : List Quad) → IsIndexed subjects objects graphs names count
    → d ≡ quads_of subjects → (t : Term) → has term_eq (keys names) t ≡ named d t
names_same subjects objects graphs names count d i same t =
    i.names_told t
    ∙ (any_alike quad_strict (lies_in (graph.Named t)) (keys subjects) (quads_of subjects) (λ z. sym (held subjects z)) ∙ ap (λ (w : List Quad). named w t) (sym same))

pub members_by : (subjects objects graphs : SetOf Quad) (names : SetOf Term) (count : ℕ) (d : List Quad) → IsIndexed subjects objects graphs names count
    → d ≡ quads_of subjects → (question : Question) (found : List Term) (g : GraphRef) → question ≡ ask.Members g → asks_one_graph question ≡ true → Ascends graph_order graphs
    → found ≡ set_of id_cmp (nodes_reached question (keys (pairs_from graph_order (lowest_graph (label_in g)) graphs)) ++ names_for g (keys names))
    → Terms found ≡ answer d question
members_by subjects objects graphs names count d i same question found g is one asc e =
    ap Terms (
    e ∙ ((λ j. set_of id_cmp (nodes_reached (is j) (keys (pairs_from graph_order (lowest_graph (label_in g)) graphs)) ++ names_for g (keys names)))
    ∙ members_answered g graphs (keys names) d (one_graph question (ask.Members g) is one) asc
    (λ z. i.graphs_alike z ∙ (sym (held subjects z) ∙ ap (λ (w : List Quad). holds w z) (sym same)))
    (names_same subjects objects graphs names count d i same))
    )
    ∙ ap (answer d) (sym is)
