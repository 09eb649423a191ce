-- The answer to each question, from a scan of one order.
use Rattle.std.proofs.Common.{◌≡◌, refl, sym, ◌∙◌, ap, ℕ, List, [], ◌∷◌, ◌++◌, Bool, true, false, not, ◌&&◌, ◌||◌, cond, Option, Some, None, Ordering, Less, Equal, Greater, filter, flat_map, arith}
use Rattle.std.specs.List.{take_while, list_any}
use Rattle.std.specs.Ordering.{is_eq, is_lt, ordering_then, nat_cmp, bool_cmp, then_cmp}
use Rattle.std.proofs.lemmas.Bool.{true≢false, false≢true, le-ltb}
use Rattle.std.proofs.lemmas.Cmp.{then_total}
use Rattle.std.proofs.lemmas.List.Sums.{take_while-cons}
use Rattle.lf_rdf.specs.declared.term.Term.{Term}
use Rattle.lf_rdf.specs.declared.term.Term.TheVariants.{Iri, Blank, Literal}
use Rattle.lf_rdf.specs.declared.quad.Quad.{Quad}
use Rattle.lf_rdf.specs.declared.question.GraphRef.{GraphRef}
use Rattle.lf_rdf.specs.declared.question.GraphRef.TheVariants as graph
use Rattle.lf_rdf.specs.declared.question.Question.{Question}
use Rattle.lf_rdf.specs.declared.question.Question.TheVariants as ask
use Rattle.lf_rdf.specs.Equality.{term_eq, option_eq}
use Rattle.lf_rdf.specs.Vocabulary.{rdf_type}
use Rattle.def_datasets.specs.Sorted.{has, set_of}
use Rattle.def_datasets.specs.Order.{parts_cmp, term_parts, text_cmp, id_cmp}
use Rattle.def_datasets.specs.Dataset.{holds, dataset_of}
use Rattle.def_datasets.specs.Terms.{lies_in, label_terms, names, tells_type}
use Rattle.def_datasets.specs.Questions.{touches, out, out_any, inward, inward_any, named, members, names_in, nodes_in}
use Rattle.def_datasets.proofs.Bools.{and_swap, and_true}
use Rattle.def_datasets.proofs.OrderLaws.{quad_strict, id_strict}
use Rattle.def_datasets.proofs.QuestionProofs.{any_again}
use Rattle.lf_oracle.specs.Asking.{is_one_graph}
use Rattle.lf_ptree.specs.Pairs.{Ascends, keys, pairs_from}
use Rattle.lf_index.specs.Numbers.{mixed, number_of}
use Rattle.lf_index.specs.Orders.{term_order, label_order, subjects, predicates, objects, graphs, kinds, subject_order, object_order, graph_order}
use Rattle.lf_index.specs.TotalOrders.{term_equivalence, subjects_total, predicates_total, objects_total, graphs_total, kinds_total, subject_total, object_total, graph_total}
use Rattle.lf_index.specs.Low.{least, lowest_subject, lowest_object, lowest_graph}
use Rattle.lf_index.specs.Reach.{label_in, reaches, reached, nodes_reached}
use Rattle.lf_index.specs.Indexed.{SetOf, names_for}
use Rattle.lf_index.proofs.OrderLemmas.{then_assoc, term_strictly, kinds_tie}
use Rattle.lf_order.proofs.SetLemmas.{set_alike, set_filter, same_ties, any_alike, has-set_of, or_false}
use Rattle.lf_index.proofs.ScanLemmas.{IsScan, scanned}

-- ---- the least terms

not_less_rest : (b : Bool) → is_lt (cond b Equal Greater) ≡ false
not_less_rest true = refl
not_less_rest false = refl

not_less_zero : (n : ℕ) → is_lt (nat_cmp n 0) ≡ false
not_less_zero n = rw (le-ltb n 0 (omega arith)) (not_less_rest _)

pub not_less_then : (r s : Ordering) → is_lt r ≡ false → is_lt s ≡ false → is_lt (ordering_then r s) ≡ false
not_less_then Less s a b = absurd (true≢false a)
not_less_then Equal s a b = b
not_less_then Greater s a b = refl

text_least : (a : List ℕ) → is_lt (ordering_then (text_cmp a []) Equal) ≡ false
text_least [] = refl
text_least (b ∷ bs) = refl

parts_least : (t : Term) → is_lt (parts_cmp (term_parts t) (term_parts least)) ≡ false
parts_least (Iri a) = text_least a
parts_least (Blank a) = refl
parts_least (Literal a d None) = refl
parts_least (Literal a d (Some l)) = refl

pub least_term : (t : Term) → is_lt (term_order t least) ≡ false
unfolding mixed
least_term t =
    not_less_then (nat_cmp (number_of t) 0) (parts_cmp (term_parts t) (term_parts least)) (not_less_zero (number_of t)) (parts_least t)

pub least_label : (l : Option Term) → is_lt (label_order l None) ≡ false
least_label None = refl
least_label (Some t) = refl

-- ---- tests as ties

pub is_eq-then : (r s : Ordering) → is_eq (ordering_then r s) ≡ (is_eq r && is_eq s)
is_eq-then Less s = refl
is_eq-then Equal s = refl
is_eq-then Greater s = refl

pub term_ties : (s t : Term) → term_eq s t ≡ is_eq (term_order s t)
term_ties s t = same_ties term_strictly s t

default_ties : (l : Option Term) → option_eq term_eq None l ≡ is_eq (label_order l None)
default_ties None = refl
default_ties (Some t) = refl

name_ties : (name : Term) (l : Option Term) → option_eq term_eq (Some name) l ≡ is_eq (label_order l (Some name))
name_ties name None = refl
name_ties name (Some t) = term_ties name t ∙ term_equivalence.symm name t

pub graph_ties : (g : GraphRef) (q : Quad) → is_one_graph g ≡ true → lies_in g q ≡ is_eq (label_order q.graph (label_in g))
graph_ties graph.Default q one = default_ties q.graph
graph_ties (graph.Named name) q one = name_ties name q.graph
graph_ties graph.Merged q one = absurd (false≢true one)

-- ---- scans

out_scan : (g : GraphRef) (s : Term) → is_one_graph g ≡ true → IsScan subject_order (then_cmp subjects graphs) (then_cmp predicates objects) (lowest_subject s (label_in g)) (reaches (ask.Out g s))
out_scan g s one =
    let low : Quad = lowest_subject s (label_in g) in
    record {
      total = subject_total;
      heads = then_total subjects_total graphs_total;
      split = λ x y. then_assoc (ordering_then (subjects x y) (graphs x y)) (predicates x y) (objects x y);
      least = λ x. not_less_then (predicates x low) (objects x low) (least_term x.predicate) (least_term x.object);
      same = λ x. (λ i. graph_ties g x one i && term_ties x.subject s i)
          ∙ (and_swap (is_eq (graphs x low)) (is_eq (subjects x low)) ∙ sym (is_eq-then (subjects x low) (graphs x low)));
    }

out_any_scan : (s : Term) → IsScan subject_order subjects (then_cmp graphs (then_cmp predicates objects)) (lowest_subject s None) (reaches (ask.OutAny s))
out_any_scan s =
    let low : Quad = lowest_subject s None in
    record {
      total = subject_total;
      heads = subjects_total;
      split = λ x y. then_assoc (ordering_then (subjects x y) (graphs x y)) (predicates x y) (objects x y)
          ∙ then_assoc (subjects x y) (graphs x y) (ordering_then (predicates x y) (objects x y));
      least = λ x. not_less_then (graphs x low) (ordering_then (predicates x low) (objects x low)) (least_label x.graph)
          (not_less_then (predicates x low) (objects x low) (least_term x.predicate) (least_term x.object));
      same = λ x. term_ties x.subject s;
    }

-- objects, kinds and predicates tie where objects and predicates do
head_ties : (x y : Quad) → is_eq (ordering_then (ordering_then (objects x y) (kinds x y)) (predicates x y)) ≡ (is_eq (objects x y) && is_eq (predicates x y))
head_ties x y =
    is_eq-then (ordering_then (objects x y) (kinds x y)) (predicates x y)
    ∙ (ap (λ (w : Bool). w && is_eq (predicates x y)) (is_eq-then (objects x y) (kinds x y)) ∙ go (predicates x y) refl)
  where
    go : (r : Ordering) → predicates x y ≡ r → ((is_eq (objects x y) && is_eq (kinds x y)) && is_eq r) ≡ (is_eq (objects x y) && is_eq r)
    go Less e = and_swap (is_eq (objects x y) && is_eq (kinds x y)) false ∙ sym (and_swap (is_eq (objects x y)) false)
    go Equal e = ap (λ (w : Ordering). (is_eq (objects x y) && is_eq w) && true) (kinds_tie x y e) ∙ and_true (is_eq (objects x y) && true)
    go Greater e = and_swap (is_eq (objects x y) && is_eq (kinds x y)) false ∙ sym (and_swap (is_eq (objects x y)) false)

inward_scan : (g : GraphRef) (p o : Term) → is_one_graph g ≡ true → IsScan object_order (then_cmp (then_cmp (then_cmp objects kinds) predicates) graphs) subjects (lowest_object o p (label_in g)) (reaches (ask.Inward g p o))
inward_scan g p o one =
    let low : Quad = lowest_object o p (label_in g) in
    record {
      total = object_total;
      heads = then_total (then_total (then_total objects_total kinds_total) predicates_total) graphs_total;
      split = λ x y. refl;
      least = λ x. least_term x.subject;
      same = λ x. (λ i. graph_ties g x one i && (term_ties x.predicate p i && term_ties x.object o i))
          ∙ (and_swap (is_eq (graphs x low)) (is_eq (predicates x low) && is_eq (objects x low))
          ∙ (ap (λ (w : Bool). w && is_eq (graphs x low)) (and_swap (is_eq (predicates x low)) (is_eq (objects x low)) ∙ sym (head_ties x low))
          ∙ sym (is_eq-then (ordering_then (ordering_then (objects x low) (kinds x low)) (predicates x low)) (graphs x low))));
    }

inward_any_scan : (p o : Term) → IsScan object_order (then_cmp (then_cmp objects kinds) predicates) (then_cmp graphs subjects) (lowest_object o p None) (reaches (ask.InwardAny p o))
inward_any_scan p o =
    let low : Quad = lowest_object o p None in
    record {
      total = object_total;
      heads = then_total (then_total objects_total kinds_total) predicates_total;
      split = λ x y. then_assoc (ordering_then (ordering_then (objects x y) (kinds x y)) (predicates x y)) (graphs x y) (subjects x y);
      least = λ x. not_less_then (graphs x low) (subjects x low) (least_label x.graph) (least_term x.subject);
      same = λ x. (λ i. term_ties x.predicate p i && term_ties x.object o i)
          ∙ (and_swap (is_eq (predicates x low)) (is_eq (objects x low)) ∙ sym (head_ties x low));
    }

no_type : (o : Term) → tells_type (lowest_object o least None) ≡ false
unfolding rdf_type
no_type o = refl

use_ties : (x : Quad) (o : Term) → not (tells_type x) ≡ is_eq (kinds x (lowest_object o least None))
use_ties x o = go (tells_type x) ∙ ap (λ (b : Bool). is_eq (bool_cmp (tells_type x) b)) (sym (no_type o))
  where
    go : (b : Bool) → not b ≡ is_eq (bool_cmp b false)
    go true = refl
    go false = refl

uses_scan : (o : Term) → IsScan object_order (then_cmp objects kinds) (then_cmp predicates (then_cmp graphs subjects)) (lowest_object o least None) (reaches (ask.Uses o))
uses_scan o =
    let low : Quad = lowest_object o least None in
    record {
      total = object_total;
      heads = then_total objects_total kinds_total;
      split = λ x y. then_assoc (ordering_then (ordering_then (objects x y) (kinds x y)) (predicates x y)) (graphs x y) (subjects x y)
          ∙ then_assoc (ordering_then (objects x y) (kinds x y)) (predicates x y) (ordering_then (graphs x y) (subjects x y));
      least = λ x. not_less_then (predicates x low) (ordering_then (graphs x low) (subjects x low)) (least_term x.predicate)
          (not_less_then (graphs x low) (subjects x low) (least_label x.graph) (least_term x.subject));
      same = λ x. (λ i. term_ties x.object o i && use_ties x o i) ∙ sym (is_eq-then (objects x low) (kinds x low));
    }

graph_scan : (label : Option Term) (p : Quad → Bool) → ((q : Quad) → p q ≡ is_eq (label_order q.graph label))
    → IsScan graph_order graphs (then_cmp subjects (then_cmp predicates objects)) (lowest_graph label) p
graph_scan label p same =
    let low : Quad = lowest_graph label in
    record {
      total = graph_total;
      heads = graphs_total;
      split = λ x y. then_assoc (ordering_then (graphs x y) (subjects x y)) (predicates x y) (objects x y)
          ∙ then_assoc (graphs x y) (subjects x y) (ordering_then (predicates x y) (objects x y));
      least = λ x. not_less_then (subjects x low) (ordering_then (predicates x low) (objects x low)) (least_term x.subject)
          (not_less_then (predicates x low) (objects x low) (least_term x.predicate) (least_term x.object));
      same = same;
    }

-- ---- quads that answer

pub filter_both : {A : Type 0} (a p : A → Bool) (xs : List A) → filter a (filter p xs) ≡ filter (λ x. p x && a x) xs
filter_both a p [] = refl
filter_both a p (x ∷ xs) = go (p x) (filter_both a p xs)
  where
    go : (b : Bool) → filter a (filter p xs) ≡ filter (λ y. p y && a y) xs
        → filter a (cond b (x ∷ filter p xs) (filter p xs)) ≡ cond (b && a x) (x ∷ filter (λ y. p y && a y) xs) (filter (λ y. p y && a y) xs)
    go true ih = ap (λ l. cond (a x) (x ∷ l) l) ih
    go false ih = ih

touched : (question : Question) → ((q : Quad) → reaches question q ≡ touches q question) → (rest quads dataset : List Quad)
    → take_while (reaches question) rest ≡ filter (reaches question) quads → dataset_of quads ≡ dataset
    → dataset_of (reached question rest) ≡ filter (λ q. touches q question) dataset
touched question tests rest quads dataset scan same =
    ap dataset_of scan ∙ (set_filter quad_strict (reaches question) quads ∙ (λ i. filter (λ q. tests q i) (same i)))

module _ (es : SetOf Quad) (dataset : List Quad) (same : dataset_of (keys es) ≡ dataset) where
  pub out_answered : Ascends subject_order es → (g : GraphRef) (s : Term) → is_one_graph g ≡ true
      → dataset_of (reached (ask.Out g s) (keys (pairs_from subject_order (lowest_subject s (label_in g)) es))) ≡ out dataset g s
  out_answered asc g s one =
      touched (ask.Out g s) (λ q. refl) (keys (pairs_from subject_order (lowest_subject s (label_in g)) es)) (keys es) dataset (scanned (out_scan g s one) es asc) same

  pub out_any_answered : Ascends subject_order es → (s : Term)
      → dataset_of (reached (ask.OutAny s) (keys (pairs_from subject_order (lowest_subject s None) es))) ≡ out_any dataset s
  out_any_answered asc s =
      touched (ask.OutAny s) (λ q. refl) (keys (pairs_from subject_order (lowest_subject s None) es)) (keys es) dataset (scanned (out_any_scan s) es asc) same

  pub inward_answered : Ascends object_order es → (g : GraphRef) (p o : Term) → is_one_graph g ≡ true
      → dataset_of (reached (ask.Inward g p o) (keys (pairs_from object_order (lowest_object o p (label_in g)) es))) ≡ inward dataset g p o
  inward_answered asc g p o one =
      touched (ask.Inward g p o) (λ q. refl) (keys (pairs_from object_order (lowest_object o p (label_in g)) es)) (keys es) dataset (scanned (inward_scan g p o one) es asc) same

  pub inward_any_answered : Ascends object_order es → (p o : Term)
      → dataset_of (reached (ask.InwardAny p o) (keys (pairs_from object_order (lowest_object o p None) es))) ≡ inward_any dataset p o
  inward_any_answered asc p o =
      touched (ask.InwardAny p o) (λ q. refl) (keys (pairs_from object_order (lowest_object o p None) es)) (keys es) dataset (scanned (inward_any_scan p o) es asc) same

  pub uses_answered : Ascends object_order es → (o : Term)
      → dataset_of (reached (ask.Uses o) (keys (pairs_from object_order (lowest_object o least None) es))) ≡ filter (λ q. touches q (ask.Uses o)) dataset
  uses_answered asc o =
      touched (ask.Uses o) (λ q. refl) (keys (pairs_from object_order (lowest_object o least None) es)) (keys es) dataset (scanned (uses_scan o) es asc) same

-- ---- nodes of a graph

any_or : {A : Type 0} (p : A → Bool) (xs ys : List A) → list_any p (xs ++ ys) ≡ (list_any p xs || list_any p ys)
any_or p [] ys = refl
any_or p (x ∷ xs) ys = ap (λ (w : Bool). p x || w) (any_or p xs ys) ∙ regroup (p x) (list_any p xs) (list_any p ys)
  where
    regroup : (a b c : Bool) → (a || (b || c)) ≡ ((a || b) || c)
    regroup true b c = refl
    regroup false b c = refl

pub any-flat_map : {A B : Type 0} (p : B → Bool) (f : A → List B) (xs : List A) → list_any p (flat_map f xs) ≡ list_any (λ x. list_any p (f x)) xs
any-flat_map p f [] = refl
any-flat_map p f (x ∷ xs) = any_or p (f x) (flat_map f xs) ∙ ap (λ (w : Bool). list_any p (f x) || w) (any-flat_map p f xs)

any-filter : {A : Type 0} (t p : A → Bool) (xs : List A) → list_any t (filter p xs) ≡ list_any (λ x. p x && t x) xs
any-filter t p [] = refl
any-filter t p (x ∷ xs) = go (p x) (any-filter t p xs)
  where
    go : (b : Bool) → list_any t (filter p xs) ≡ list_any (λ y. p y && t y) xs
        → list_any t (cond b (x ∷ filter p xs) (filter p xs)) ≡ ((b && t x) || list_any (λ y. p y && t y) xs)
    go true ih = ap (λ (w : Bool). t x || w) ih
    go false ih = ih

pub label_named : (t : Term) (l : Option Term) → has term_eq (label_terms l) t ≡ option_eq term_eq (Some t) l
label_named t None = refl
label_named t (Some name) = or_false (term_eq t name)

-- a name is among the graph labels just where a quad has it
pub names_named : (quads : List Quad) (t : Term) → has term_eq (names quads) t ≡ named quads t
names_named quads t =
    has-set_of id_strict (flat_map (λ q. label_terms q.graph) quads) t
    ∙ (any-flat_map (term_eq t) (λ q. label_terms q.graph) quads ∙ (λ i. list_any (λ q. label_named t q.graph i) quads))

names_belong : (g : GraphRef) (quads : List Quad) (ns : List Term) → ((t : Term) → has term_eq ns t ≡ named quads t)
    → (t : Term) → has term_eq (names_for g ns) t ≡ has term_eq (names_in quads g) t
names_belong graph.Default quads ns told t = told t ∙ sym (names_named quads t)
names_belong (graph.Named name) quads ns told t = refl
names_belong graph.Merged quads ns told t = told t ∙ sym (names_named quads t)

nodes_belong : (g : GraphRef) (one two : List Quad) → ((q : Quad) → holds one q ≡ holds two q) → (t : Term)
    → has term_eq (flat_map nodes_in (filter (lies_in g) one)) t ≡ has term_eq (flat_map nodes_in (filter (lies_in g) two)) t
nodes_belong g one two alike t =
    let test : Quad → Bool = λ q. lies_in g q && list_any (term_eq t) (nodes_in q) in
    any-flat_map (term_eq t) nodes_in (filter (lies_in g) one)
    ∙ (any-filter (λ q. list_any (term_eq t) (nodes_in q)) (lies_in g) one
    ∙ (any_alike quad_strict test one two alike
    ∙ (sym (any-filter (λ q. list_any (term_eq t) (nodes_in q)) (lies_in g) two) ∙ sym (any-flat_map (term_eq t) nodes_in (filter (lies_in g) two)))))

-- the nodes of the quads of a graph and the names that belong to it are its members
pub members_answered : (g : GraphRef) (es : SetOf Quad) (ns : List Term) (dataset : List Quad) → is_one_graph g ≡ true → Ascends graph_order es
    → ((q : Quad) → holds (keys es) q ≡ holds dataset q) → ((t : Term) → has term_eq ns t ≡ named dataset t)
    → set_of id_cmp (nodes_reached (ask.Members g) (keys (pairs_from graph_order (lowest_graph (label_in g)) es)) ++ names_for g ns) ≡ members dataset g
members_answered g es ns dataset one asc alike told =
    ap (λ l. set_of id_cmp (flat_map nodes_in l ++ names_for g ns)) (scanned (graph_scan (label_in g) (lies_in g) (λ q. graph_ties g q one)) es asc)
    ∙ set_alike id_strict (flat_map nodes_in (filter (lies_in g) (keys es)) ++ names_for g ns) (flat_map nodes_in (filter (lies_in g) dataset) ++ names_in dataset g)
    (λ t. any_or (term_eq t) (flat_map nodes_in (filter (lies_in g) (keys es))) (names_for g ns)
    ∙ ((λ i. nodes_belong g (keys es) dataset alike t i || names_belong g dataset ns told t i)
    ∙ sym (any_or (term_eq t) (flat_map nodes_in (filter (lies_in g) dataset)) (names_in dataset g))))

-- ---- whether a graph is named

first_of : {A : Type 0} (p : A → Bool) (x : A) (xs : List A) (b : Bool) → p x ≡ b → list_any p (cond b (x ∷ take_while p xs) []) ≡ p x
first_of p x xs true e = ap (λ (w : Bool). w || list_any p (take_while p xs)) e ∙ sym e
first_of p x xs false e = sym e

name_scan : (name : Term) → IsScan graph_order graphs (then_cmp subjects (then_cmp predicates objects)) (lowest_graph (Some name)) (lies_in (graph.Named name))
name_scan name = graph_scan (Some name) (lies_in (graph.Named name)) (λ q. name_ties name q.graph)

named_scan : (es : SetOf Quad) (name : Term) → Ascends graph_order es
    → named (keys es) name ≡ list_any (lies_in (graph.Named name)) (take_while (lies_in (graph.Named name)) (keys (pairs_from graph_order (lowest_graph (Some name)) es)))
named_scan es name asc =
    any_again (lies_in (graph.Named name)) (keys es) ∙ ap (list_any (lies_in (graph.Named name))) (sym (scanned (name_scan name) es asc))

-- the first quad of the graph or behind it tells
pub first_named : (es : SetOf Quad) (name : Term) (x : Quad × Unit {0}) (rest : SetOf Quad) → Ascends graph_order es
    → pairs_from graph_order (lowest_graph (Some name)) es ≡ x ∷ rest → lies_in (graph.Named name) x.0 ≡ named (keys es) name
first_named es name x rest asc found =
    let p : Quad → Bool = lies_in (graph.Named name) in
    sym (named_scan es name asc
    ∙ (ap (λ (l : SetOf Quad). list_any p (take_while p (keys l))) found
    ∙ (ap (list_any p) (take_while-cons p x.0 (keys rest)) ∙ first_of p x.0 (keys rest) (p x.0) refl)))

pub none_named : (es : SetOf Quad) (name : Term) → Ascends graph_order es → pairs_from graph_order (lowest_graph (Some name)) es ≡ [] → false ≡ named (keys es) name
none_named es name asc found =
    sym (named_scan es name asc ∙ ap (λ (l : SetOf Quad). list_any (lies_in (graph.Named name)) (take_while (lies_in (graph.Named name)) (keys l))) found)
