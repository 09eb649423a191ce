-- Patches line by line, and the first quads at once.
use Rattle.std.proofs.Common.{◌≡◌, refl, sym, ◌∙◌, ap, ℕ, suc, ◌+◌, List, [], ◌∷◌, length, Bool, true, false, not, ◌&&◌, ◌||◌, cond, Ordering, Less, filter, flat_map, arith}
use Rattle.std.specs.List.{list_any, AllByRecursion}
use Rattle.std.specs.List.Sorted.{IsStrictlySortedBy}
use Rattle.std.specs.Ordering.{is_eq}
use Rattle.std.proofs.lemmas.Bool.{true≢false}
use Rattle.lf_rdf.specs.declared.term.Term.{Term}
use Rattle.lf_rdf.specs.declared.quad.Quad.{Quad}
use Rattle.lf_rdf.specs.declared.quad.Signed.{Signed}
use Rattle.lf_rdf.specs.declared.question.GraphRef.TheVariants as graph
use Rattle.lf_rdf.specs.Equality.{term_eq, quad_eq}
use Rattle.def_datasets.specs.Sorted.{has, without, put_all, set_of}
use Rattle.def_datasets.specs.Order.{quad_cmp, id_cmp}
use Rattle.def_datasets.specs.Dataset.{holds, dataset_of, additions, deletions, with_quad}
use Rattle.def_datasets.specs.Terms.{is_node, lies_in, label_terms, terms}
use Rattle.def_datasets.specs.Questions.{named}
use Rattle.def_datasets.proofs.SortedLaws.{IsStrict, has-put, has-filter}
use Rattle.def_datasets.proofs.OrderLaws.{quad_strict, id_strict, quad_decides}
use Rattle.lf_ptree.specs.Pairs.{keys}
use Rattle.lf_index.specs.Orders.{subject_order}
use Rattle.lf_index.specs.Indexed.{SetOf, quads_of, IsIndexed}
use Rattle.lf_index.proofs.OrderLemmas.{subject_strictly}
use Rattle.lf_order.proofs.Ties.{equal_from}
use Rattle.lf_order.proofs.SetLemmas.{has-set_of, set_alike, same_ties, any_alike}
use Rattle.lf_index.proofs.AnswerLemmas.{any-flat_map, label_named, filter_both}
use Rattle.lf_index.proofs.IndexLemmas.{put_new}

-- ---- lines

neither : (a b : Bool) → (not (a || false) && not b) ≡ not (a || b)
neither true b = refl
neither false b = refl

-- a quad and then others are taken out
pub without_more : (q : Quad) (gone quads : List Quad) → without quad_eq (without quad_eq quads (q ∷ [])) gone ≡ without quad_eq quads (q ∷ gone)
without_more q gone quads =
    filter_both (λ x. not (holds gone x)) (λ x. not (holds (q ∷ []) x)) quads
    ∙ (λ i. filter (λ x. neither (quad_eq x q) (holds gone x) i) quads)

-- one line of a patch, and then the others
pub deleted_step : (line : Signed) (rest : List Signed) (made next : List Quad) → next ≡ cond line.add made (without quad_eq made (line.quad ∷ []))
    → without quad_eq next (deletions rest) ≡ without quad_eq made (deletions (line ∷ rest))
deleted_step line rest made next e = ap (λ (w : List Quad). without quad_eq w (deletions rest)) e ∙ go line.add
  where
    go : (add : Bool) → without quad_eq (cond add made (without quad_eq made (line.quad ∷ []))) (deletions rest)
        ≡ without quad_eq made (cond add (deletions rest) (line.quad ∷ deletions rest))
    go true = refl
    go false = without_more line.quad (deletions rest) made

pub added_step : (line : Signed) (rest : List Signed) (made next : List Quad) → next ≡ cond line.add (with_quad line.quad made) made
    → put_all quad_cmp next (additions rest) ≡ put_all quad_cmp made (additions (line ∷ rest))
added_step line rest made next e = ap (λ (w : List Quad). put_all quad_cmp w (additions rest)) e ∙ go line.add
  where
    go : (add : Bool) → put_all quad_cmp (cond add (with_quad line.quad made) made) (additions rest)
        ≡ put_all quad_cmp made (cond add (line.quad ∷ additions rest) (additions rest))
    go true = refl
    go false = refl

-- ---- terms

-- the nodes of the quads in an order are the terms of the dataset
pub terms_told : (es : SetOf Quad) → set_of id_cmp (filter is_node (flat_map (λ q. q.subject ∷ q.object ∷ label_terms q.graph) (keys es))) ≡ terms (quads_of es)
terms_told es =
    let each : Quad → List Term = λ q. q.subject ∷ q.object ∷ label_terms q.graph in
    set_alike id_strict (filter is_node (flat_map each (keys es))) (filter is_node (flat_map each (quads_of es)))
    (λ t. has-filter id_strict is_node (flat_map each (keys es)) t
    ∙ (ap (λ (w : Bool). is_node t && w)
    (any-flat_map (term_eq t) each (keys es)
    ∙ (any_alike quad_strict (λ q. has term_eq (each q) t) (keys es) (quads_of es) (λ z. sym (has-set_of quad_strict (keys es) z))
    ∙ sym (any-flat_map (term_eq t) each (quads_of es))))
    ∙ sym (has-filter id_strict is_node (flat_map each (quads_of es)) t)))

-- ---- the first quads

module _ {A : Type 0} {same : A → A → Bool} {cmp : A → A → Ordering} (o : IsStrict same cmp) where
  -- what has the members of a list has those of another that has them too
  pub by_members_of : (ks sorted from adds : List A) → ks ≡ sorted
      → ((test : A → Bool) → ((x y : A) → is_eq (cmp x y) ≡ true → test x ≡ test y) → list_any test sorted ≡ list_any test from)
      → ((z : A) → has same from z ≡ has same adds z) → (z : A) → has same ks z ≡ has same adds z
  by_members_of ks sorted from adds one alike two z =
      ap (list_any (same z)) one ∙ (alike (same z) (λ x y tie. ap (same z) (o.tells x y (equal_from (cmp x y) tie))) ∙ two z)

  -- what has the members of a list that is another
  pub by_members : (ks sorted from adds : List A) → ks ≡ sorted
      → ((test : A → Bool) → ((x y : A) → is_eq (cmp x y) ≡ true → test x ≡ test y) → list_any test sorted ≡ list_any test from) → from ≡ adds
      → (z : A) → has same ks z ≡ has same adds z
  by_members ks sorted from adds one alike two = by_members_of ks sorted from adds one alike (λ z. ap (list_any (same z)) two)

or_none : (a b : Bool) → a ≡ false → b ≡ false → (a || b) ≡ false
or_none true b e f = absurd (true≢false e)
or_none false b e f = f

apart : (x y : Quad) → subject_order x y ≡ Less → quad_eq y x ≡ false
apart x y e = go (quad_eq y x) refl
  where
    go : (b : Bool) → quad_eq y x ≡ b → b ≡ false
    go true t =
        let is : quad_eq x y ≡ true = (quad_decides x y).1 (sym ((quad_decides y x).0 t)) in
        absurd (true≢false (sym is ∙ (same_ties subject_strictly x y ∙ ap is_eq e)))
    go false t = refl

Outside : List Quad → List Quad → Type 0
Outside d xs = AllByRecursion (λ x. holds d x ≡ false) xs

still_outside : (x : Quad) (d xs : List Quad) → AllByRecursion (λ y. subject_order x y ≡ Less) xs → Outside d xs → Outside (with_quad x d) xs
unfolding Outside
still_outside x d [] all out = tt
still_outside x d (y ∷ ys) all out =
    (has-put quad_strict x d y ∙ or_none (quad_eq y x) (holds d y) (apart x y all.0) out.0, still_outside x d ys all.1 out.1)

put_each : (xs d : List Quad) → IsStrictlySortedBy subject_order xs → Outside d xs → length (put_all quad_cmp d xs) ≡ length d + length xs
unfolding Outside IsStrictlySortedBy
put_each [] d sorted out = omega arith
put_each (x ∷ xs) d sorted out =
    let grown : length (with_quad x d) ≡ suc (length d) = put_new x d out.0 in
    let later : length (put_all quad_cmp (with_quad x d) xs) ≡ length (with_quad x d) + length xs =
    put_each xs (with_quad x d) sorted.1 (still_outside x d xs sorted.0 out.1) in
    omega (arith, grown, later)

outside_none : (xs : List Quad) → Outside [] xs
unfolding Outside
outside_none [] = tt
outside_none (x ∷ xs) = (refl, outside_none xs)

-- quads in strict order stand once each
pub each_once : (xs : List Quad) → IsStrictlySortedBy subject_order xs → length xs ≡ length (dataset_of xs)
each_once xs sorted = let all : length (dataset_of xs) ≡ 0 + length xs = put_each xs [] sorted (outside_none xs) in omega (arith, all)

labels_told : (quads : List Quad) (t : Term) → has term_eq (flat_map (λ q. label_terms q.graph) quads) t ≡ named quads t
labels_told quads t = any-flat_map (term_eq t) (λ q. label_terms q.graph) quads ∙ (λ i. list_any (λ q. label_named t q.graph i) quads)

-- four sorted sets of the same quads are an index
pub indexed_sorted : (adds : List Quad) (subjects objects graphs : SetOf Quad) (names : SetOf Term) (count : ℕ)
    → IsStrictlySortedBy subject_order (keys subjects)
    → ((z : Quad) → holds (keys subjects) z ≡ holds adds z) → ((z : Quad) → holds (keys objects) z ≡ holds adds z)
    → ((z : Quad) → holds (keys graphs) z ≡ holds adds z)
    → ((z : Term) → has term_eq (keys names) z ≡ has term_eq (flat_map (λ q. label_terms q.graph) adds) z)
    → count ≡ length (keys subjects) → IsIndexed subjects objects graphs names count
indexed_sorted adds subjects objects graphs names count sorted in_subjects in_objects in_graphs in_names counted =
    record {
      objects_alike = λ z. in_objects z ∙ sym (in_subjects z);
      graphs_alike = λ z. in_graphs z ∙ sym (in_subjects z);
      names_told = λ t. in_names t ∙ (labels_told adds t ∙ sym (any_alike quad_strict (lies_in (graph.Named t)) (keys subjects) adds in_subjects));
      counted = counted ∙ each_once (keys subjects) sorted;
    }
