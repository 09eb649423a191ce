-- The laws of versions.
use Rattle.std.proofs.Common.{◌≡◌, refl, sym, ◌∙◌, ap, suc, List, [], ◌∷◌, ◌++◌, length, take, Bool, true, false, not, cond, ◌&&◌, ◌||◌, IsTrue, arith, length-append, take_all}
use Rattle.std.proofs.lemmas.List.{take-append-le}
use Rattle.std.proofs.lemmas.Bool.{false≢true}
use Rattle.lf_rdf.specs.declared.quad.Quad.{Quad}
use Rattle.lf_rdf.specs.declared.quad.Signed.{Signed}
use Rattle.lf_rdf.specs.Equality.{quad_eq}
use Rattle.def_datasets.specs.Sorted.{has, without}
use Rattle.def_datasets.specs.Dataset.{is_dataset, holds, additions, deletions, after, after_all}
use Rattle.def_datasets.specs.VersionLaws.{signed_eq, has_line, QuadsDecide, PatchKeepsOrder, PatchDecidesQuads, LinesInAnyOrder, IdlePatchChangesNothing, VersionsAreDatasets, NextVersion, VersionsStay}
use Rattle.def_datasets.proofs.SortedLaws.{same_members, ascends-put_all, ascends-filter, has-put_all, has-without}
use Rattle.def_datasets.proofs.OrderLaws.{quad_strict}

pub quads_decide : QuadsDecide
quads_decide one two a b alike = same_members quad_strict one two a b alike

pub patch_keeps_order : PatchKeepsOrder
patch_keeps_order dataset patch a =
    ascends-put_all quad_strict (without quad_eq dataset (deletions patch)) (additions patch)
    (ascends-filter quad_strict (λ x. not (has quad_eq (deletions patch) x)) dataset a)

pub patch_decides_quads : PatchDecidesQuads
patch_decides_quads dataset patch q =
    has-put_all quad_strict (without quad_eq dataset (deletions patch)) (additions patch) q
    ∙ ap (λ (w : Bool). holds (additions patch) q || w) (has-without quad_strict dataset (deletions patch) q)

-- ---- the lines of a patch

added_line : Quad → Signed
added_line q = record { add = true; quad = q }

deleted_line : Quad → Signed
deleted_line q = record { add = false; quad = q }

adds_case : (s : Signed) (rest : List Signed) (q : Quad) (add : Bool) → s.add ≡ add
    → holds (additions rest) q ≡ has_line rest (added_line q)
    → holds (cond add (s.quad ∷ additions rest) (additions rest)) q ≡ (signed_eq (added_line q) s || has_line rest (added_line q))
unfolding added_line
adds_case s rest q true e ih = rw e (ap (λ (w : Bool). quad_eq q s.quad || w) ih)
adds_case s rest q false e ih = rw e ih

adds : (patch : List Signed) (q : Quad) → holds (additions patch) q ≡ has_line patch (added_line q)
adds [] q = refl
adds (s ∷ rest) q = adds_case s rest q s.add refl (adds rest q)

deletes_case : (s : Signed) (rest : List Signed) (q : Quad) (add : Bool) → s.add ≡ add
    → holds (deletions rest) q ≡ has_line rest (deleted_line q)
    → holds (cond add (deletions rest) (s.quad ∷ deletions rest)) q ≡ (signed_eq (deleted_line q) s || has_line rest (deleted_line q))
unfolding deleted_line
deletes_case s rest q true e ih = rw e ih
deletes_case s rest q false e ih = rw e (ap (λ (w : Bool). quad_eq q s.quad || w) ih)

deletes : (patch : List Signed) (q : Quad) → holds (deletions patch) q ≡ has_line patch (deleted_line q)
deletes [] q = refl
deletes (s ∷ rest) q = deletes_case s rest q s.add refl (deletes rest q)

pub lines_in_any_order : LinesInAnyOrder
lines_in_any_order dataset one two a alike =
    quads_decide (after dataset one) (after dataset two) (patch_keeps_order dataset one a) (patch_keeps_order dataset two a)
    λ q.
    let plus : holds (additions one) q ≡ holds (additions two) q = adds one q ∙ (alike (added_line q) ∙ sym (adds two q)) in
    let minus : holds (deletions one) q ≡ holds (deletions two) q = deletes one q ∙ (alike (deleted_line q) ∙ sym (deletes two q)) in
    patch_decides_quads dataset one q
    ∙ ((λ i. plus i || (holds dataset q && not (minus i))) ∙ sym (patch_decides_quads dataset two q))

idle : (adds dels here : Bool) → (adds ≡ true → here ≡ true) → (here ≡ true → dels ≡ true → adds ≡ true) → (adds || (here && not dels)) ≡ here
idle true dels here f g = sym (f refl)
idle false dels false f g = refl
idle false false true f g = refl
idle false true true f g = absurd (false≢true (g refl refl))

pub idle_patch_changes_nothing : IdlePatchChangesNothing
idle_patch_changes_nothing dataset patch a within stays =
    quads_decide (after dataset patch) dataset (patch_keeps_order dataset patch a) a
    λ q.
    patch_decides_quads dataset patch q
    ∙ idle (holds (additions patch) q) (holds (deletions patch) q) (holds dataset q) (within q) (stays q)

-- ---- versions

all_keep_order : (dataset : List Quad) (patches : List (List Signed)) → IsTrue (is_dataset dataset) → IsTrue (is_dataset (after_all dataset patches))
all_keep_order dataset [] a = a
all_keep_order dataset (patch ∷ patches) a = all_keep_order (after dataset patch) patches (patch_keeps_order dataset patch a)

pub versions_are_datasets : VersionsAreDatasets
versions_are_datasets patches version = all_keep_order [] (take version patches) refl

after_all-append : (dataset : List Quad) (one two : List (List Signed)) → after_all dataset (one ++ two) ≡ after_all (after_all dataset one) two
after_all-append dataset [] two = refl
after_all-append dataset (patch ∷ one) two = after_all-append (after dataset patch) one two

pub next_version : NextVersion
next_version patches patch =
    let all : take (suc (length patches)) (patches ++ patch ∷ []) ≡ patches ++ patch ∷ [] =
    take_all (suc (length patches)) (patches ++ patch ∷ []) (simp length-append (omega arith)) in
    let before : take (length patches) patches ≡ patches = take_all (length patches) patches (omega arith) in
    ap (after_all []) all
    ∙ (after_all-append [] patches (patch ∷ []) ∙ ap (λ (w : List (List Signed)). after (after_all [] w) patch) (sym before))

pub versions_stay : VersionsStay
versions_stay patches later version low = ap (after_all []) (take-append-le version patches later low)
