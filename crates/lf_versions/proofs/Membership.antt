-- A quad is in a dataset exactly where the dataset is no longer with it.
use Rattle.std.proofs.Common.{◌≡◌, refl, sym, ◌∙◌, ap, subst, ℕ, zero, suc, nat_eq, ◌<◌, ◌≤◌, List, [], ◌∷◌, length, Bool, true, false, not, cond, ◌||◌, filter, arith}
use Rattle.std.proofs.Math.Dec.{eqb-suc-suc, eqb-suc-zero}
use Rattle.std.proofs.lemmas.Bool.{eq-eqb}
use Rattle.lf_rdf.specs.declared.quad.Quad.{Quad}
use Rattle.lf_rdf.specs.declared.quad.Signed.{Signed}
use Rattle.lf_rdf.specs.Equality.{quad_eq}
use Rattle.def_datasets.specs.Sorted.{has, without}
use Rattle.def_datasets.specs.Order.{quad_cmp}
use Rattle.def_datasets.specs.Dataset.{after, holds, is_dataset, with_quad}
use Rattle.def_datasets.proofs.OrderLaws.{quad_decides, quad_strict}
use Rattle.def_datasets.proofs.SortedLaws.{ascends-put, has-put}
use Rattle.def_datasets.proofs.VersionProofs.{quads_decide}
use Rattle.lf_index.proofs.IndexLemmas.{put_new}

abbrev adding : Quad → List Signed
adding q = record { add = true; quad = q } ∷ []

all-kept : (xs : List Quad) → without quad_eq xs [] ≡ xs
all-kept [] = refl
all-kept (x ∷ xs) = ap (λ rest. x ∷ rest) (all-kept xs)

pub after-adding : (dataset : List Quad) (q : Quad) → after dataset (adding q) ≡ with_quad q dataset
after-adding dataset q = ap (with_quad q) (all-kept dataset)

in_too : (a b : Bool) → (a ≡ true → b ≡ true) → (a || b) ≡ b
in_too true b f = sym (f refl)
in_too false b f = refl

-- a quad that is there changes nothing
pub put_old : (q : Quad) (dataset : List Quad) → is_dataset dataset ≡ true → holds dataset q ≡ true → with_quad q dataset ≡ dataset
put_old q dataset a e =
    quads_decide (with_quad q dataset) dataset (ascends-put quad_strict q dataset a) a
    λ other.
    has-put quad_strict q dataset other
    ∙ in_too (quad_eq other q) (holds dataset other) (λ same. subst (λ w. holds dataset w ≡ true) (sym ((quad_decides other q).0 same)) e)

same_number : (n : ℕ) → nat_eq n n ≡ true
same_number n = eq-eqb n n refl

one_more : (n : ℕ) → nat_eq (suc n) n ≡ false
one_more zero = eqb-suc-zero zero
one_more (suc n) = eqb-suc-suc (suc n) n ∙ one_more n

pub told_by_length : (q : Quad) (dataset made : List Quad) → is_dataset dataset ≡ true → made ≡ after dataset (adding q)
    → nat_eq (length made) (length dataset) ≡ holds dataset q
told_by_length q dataset made a e = go (holds dataset q) refl
  where
    grown : made ≡ with_quad q dataset
    grown = e ∙ after-adding dataset q

    go : (b : Bool) → holds dataset q ≡ b → nat_eq (length made) (length dataset) ≡ b
    go true there = ap (λ d. nat_eq (length d) (length dataset)) (grown ∙ put_old q dataset a there) ∙ same_number (length dataset)
    go false out = ap (λ d. nat_eq (length d) (length dataset)) grown ∙ (ap (λ n. nat_eq n (length dataset)) (put_new q dataset out) ∙ one_more (length dataset))

pub out_of_full : (q : Quad) (dataset : List Quad) (most : ℕ) → is_dataset dataset ≡ true → length dataset ≤ most → most < length (after dataset (adding q))
    → holds dataset q ≡ false
out_of_full q dataset most a few many = go (holds dataset q) refl
  where
    go : (b : Bool) → holds dataset q ≡ b → b ≡ false
    go true there =
        let same : length (after dataset (adding q)) ≡ length dataset = ap length (after-adding dataset q ∙ put_old q dataset a there) in
        absurd (omega (arith, few, many, same))
    go false out = refl
