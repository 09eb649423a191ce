-- Marks as a set of labels: what one more mark changes, and how many there can be.
use Rattle.std.proofs.Common.{◌≡◌, refl, sym, ◌∙◌, ap, subst, ℕ, ◌+◌, ◌≤◌, List, [], ◌∷◌, length, Bool, true, false, not, ◌||◌, if◌then◌else◌, ◌⊎◌, inl, inr, Ordering, Less, Equal, Greater, arith}
use Rattle.std.specs.List.{list_any}
use Rattle.std.specs.List.Sorted.{IsStrictlySortedBy}
use Rattle.std.specs.Ordering.{match_ordering, eq_by_cmp, is_eq}
use Rattle.std.specs.BTreeSet.{insert_key}
use Rattle.std.proofs.lemmas.Bool.{false≢true, or_cases, or_left, or_right}
use Rattle.std.proofs.lemmas.Cmp.{eq_by_cmp_equiv}
use Rattle.std.proofs.lemmas.Map.Keys.{IsDistinct-from_sorted}
use Rattle.std.proofs.lemmas.Map.Made.{length-le_from_is_member}
use Rattle.lf_rdf.specs.declared.term.Term.{Term}
use Rattle.lf_rdf.specs.declared.term.Term.TheVariants.{Iri, Blank, Literal}
use Rattle.lf_rdf.specs.Equality.{text_eq, term_eq}
use Rattle.def_datasets.specs.Sorted.{has, placed, put}
use Rattle.def_datasets.specs.Order.{text_cmp}
use Rattle.def_datasets.proofs.Bools.{same_truth}
use Rattle.def_datasets.proofs.SortedLaws.{has-put}
use Rattle.def_datasets.proofs.OrderLaws.{text_strict}
use Rattle.lf_lists.specs.Marks.{marked, AllMarked, HasMark, HasMarksOf}

-- ---- a key is put as a value is put into an ascending list

key_case : {A : Type 0} (r : Ordering) (x y : A) (ys one two : List A) → one ≡ two
    → match_ordering r (x ∷ y ∷ ys) (y ∷ ys) (y ∷ one) ≡ placed r x y ys two
key_case Less x y ys one two e = refl
key_case Equal x y ys one two e = refl
key_case Greater x y ys one two e = ap (λ w. y ∷ w) e

pub key_put : {A : Type 0} (cmp : A → A → Ordering) (x : A) (xs : List A) → insert_key cmp xs x ≡ put cmp x xs
key_put cmp x [] = refl
key_put cmp x (y ∷ ys) = key_case (cmp x y) x y ys (insert_key cmp ys x) (put cmp x ys) (key_put cmp x ys)

-- ---- the order ties only equal labels

tied : (r : Ordering) → is_eq r ≡ true → r ≡ Equal
tied Less e = absurd (false≢true e)
tied Equal e = refl
tied Greater e = absurd (false≢true e)

same_test : (x y : List ℕ) → eq_by_cmp text_cmp x y ≡ text_eq x y
same_test x y =
    same_truth (eq_by_cmp text_cmp x y) (text_eq x y)
    (λ e. (text_strict.decides x y).1 (text_strict.tells x y (tied (text_cmp x y) e)))
    (λ e. subst (λ (w : List ℕ). eq_by_cmp text_cmp x w ≡ true) ((text_strict.decides x y).0 e) ((eq_by_cmp_equiv text_strict.total).refl x))

pub same_search : (x : List ℕ) (labels : List (List ℕ)) → list_any (eq_by_cmp text_cmp x) labels ≡ list_any (text_eq x) labels
same_search x [] = refl
same_search x (y ∷ ys) = λ i. same_test x y i || same_search x ys i

-- ---- one more mark

blank_told : (a b : List ℕ) → text_eq a b ≡ true → Blank a ≡ Blank b
blank_told a b e = ap Blank ((text_strict.decides a b).0 e)

module _ (before : List (List ℕ)) (label : List ℕ) where
  told : (x : List ℕ) → list_any (text_eq x) (put text_cmp label before) ≡ (text_eq x label || list_any (text_eq x) before)
  told x = has-put text_strict label before x

  kept_mark : (x : Term) → marked before x ≡ true → marked (put text_cmp label before) x ≡ true
  kept_mark (Iri iri) e = e
  kept_mark (Blank l) e = told l ∙ or_right (text_eq l label) (list_any (text_eq l) before) e
  kept_mark (Literal a d g) e = e

  only_mark : (x : Term) → marked (put text_cmp label before) x ≡ true → (marked before x ≡ true) ⊎ (x ≡ Blank label)
  only_mark (Iri iri) e = inl e
  only_mark (Blank l) e = go (or_cases (text_eq l label) (list_any (text_eq l) before) (sym (told l) ∙ e))
    where
      go : ((text_eq l label ≡ true) ⊎ (list_any (text_eq l) before ≡ true)) → (list_any (text_eq l) before ≡ true) ⊎ (Blank l ≡ Blank label)
      go (inl h) = inr (blank_told l label h)
      go (inr h) = inl h
  only_mark (Literal a d g) e = inl e

  here_mark : marked (put text_cmp label before) (Blank label) ≡ true
  here_mark = told label ∙ or_left (text_eq label label) (list_any (text_eq label) before) ((text_strict.decides label label).1 refl)

-- ---- how many marks there are

labels_of : List Term → List (List ℕ)
labels_of [] = []
labels_of (Iri iri ∷ rest) = labels_of rest
labels_of (Blank label ∷ rest) = label ∷ labels_of rest
labels_of (Literal a d g ∷ rest) = labels_of rest

fewer_labels : (terms : List Term) → length (labels_of terms) ≤ length terms
unfolding labels_of
fewer_labels [] = omega arith
fewer_labels (Iri iri ∷ rest) = let h : length (labels_of rest) ≤ length rest = fewer_labels rest in omega arith
fewer_labels (Blank label ∷ rest) = let h : length (labels_of rest) ≤ length rest = fewer_labels rest in omega arith
fewer_labels (Literal a d g ∷ rest) = let h : length (labels_of rest) ≤ length rest = fewer_labels rest in omega arith

has_label : (label : List ℕ) (terms : List Term) → has term_eq terms (Blank label) ≡ list_any (text_eq label) (labels_of terms)
unfolding labels_of
has_label label [] = refl
has_label label (Iri iri ∷ rest) = has_label label rest
has_label label (Blank other ∷ rest) = ap (λ w. text_eq label other || w) (has_label label rest)
has_label label (Literal a d g ∷ rest) = has_label label rest

few_marks : (labels : List (List ℕ)) → IsStrictlySortedBy text_cmp labels → (terms : List Term) → AllMarked (has term_eq terms) labels
    → length labels ≤ length terms
few_marks labels ordered terms all =
    let low : length labels ≤ length (labels_of terms) =
    length-le_from_is_member (eq_by_cmp_equiv text_strict.total) labels (labels_of terms) (IsDistinct-from_sorted text_cmp labels ordered)
    (λ q e. same_search q (labels_of terms) ∙ (sym (has_label q terms) ∙ all (Blank q) (sym (same_search q labels) ∙ e))) in
    let most : length (labels_of terms) ≤ length terms = fewer_labels terms in
    omega arith

grown : (before after : List (List ℕ)) (label : List ℕ) (added : Bool) → added ≡ not (list_any (eq_by_cmp text_cmp label) before)
    → length after ≡ length before + (if added then 1 else 0) → list_any (text_eq label) before ≡ false → length after ≡ length before + 1
grown before after label added told long apart =
    let new : added ≡ true = told ∙ ap not (same_search label before ∙ apart) in
    long ∙ ap (λ (w : Bool). length before + (if w then 1 else 0)) new

pub has_mark : (before after : List (List ℕ)) (label : List ℕ) (added : Bool) → after ≡ insert_key text_cmp before label
    → added ≡ not (list_any (eq_by_cmp text_cmp label) before) → length after ≡ length before + (if added then 1 else 0)
    → IsStrictlySortedBy text_cmp after → HasMark before after (Blank label)
has_mark before after label added keys told long ordered =
    let is : put text_cmp label before ≡ after = sym (keys ∙ key_put text_cmp label before) in
    record {
      here = subst (λ (w : List (List ℕ)). marked w (Blank label) ≡ true) is (here_mark before label);
      kept = λ x e. subst (λ (w : List (List ℕ)). marked w x ≡ true) is (kept_mark before label x e);
      only = λ x e. only_mark before label x (subst (λ (w : List (List ℕ)). marked w x ≡ true) (sym is) e);
      longer = λ apart. grown before after label added told long apart;
      few = λ terms all. few_marks after ordered terms all;
    }

-- ---- the marks of two sets

pub union_marks : (one two after : List (List ℕ))
    → ((q : List ℕ) → list_any (eq_by_cmp text_cmp q) after ≡ (list_any (eq_by_cmp text_cmp q) one || list_any (eq_by_cmp text_cmp q) two))
    → HasMarksOf one two after
union_marks one two after all (Iri iri) m = inl m
union_marks one two after all (Blank label) m =
    or_cases (list_any (text_eq label) one) (list_any (text_eq label) two)
    (sym (λ i. same_search label one i || same_search label two i) ∙ (sym (all label) ∙ (same_search label after ∙ m)))
union_marks one two after all (Literal a d l) m = inl m
