-- The quads that patches name are all that may change, and a list of changes has each once.
use Rattle.std.proofs.Common.{◌≡◌, refl, sym, ◌∙◌, ap, subst, ℕ, zero, suc, ◌+◌, ◌<◌, ◌≤◌, List, [], ◌∷◌, ◌++◌, length, map, drop, Bool, true, false, not, cond, if◌then◌else◌, ◌&&◌, ◌||◌, arith, take_all}
use Rattle.std.specs.List.{list_any}
use Rattle.std.proofs.Math.Seq.{drop-append_seam}
use Rattle.indexmap.specs.IndexSet.{insert_key}
use Rattle.std.specs.Arc.{arc_value}
use Rattle.std.specs.Ordering.{nat_cmp}
use Rattle.std.specs.declared.alloc.Global.{Global}
use Rattle.std.specs.declared.sync.Arc.{Arc}
use Rattle.std.proofs.lemmas.Bool.{and_from, and_parts, false≢true}
use Rattle.std.proofs.lemmas.Cmp.{nat_cmp_total, tied_itself}
use Rattle.std.proofs.lemmas.List.{drop-map, length-append, length-map, map-append}
use Rattle.lf_rdf.specs.declared.quad.Quad.{Quad}
use Rattle.lf_rdf.specs.declared.quad.Signed.{Signed}
use Rattle.lf_rdf.specs.Equality.{quad_eq}
use Rattle.lf_ptree.specs.Pairs.{pairs_from}
use Rattle.def_datasets.specs.Sorted.{has}
use Rattle.def_datasets.specs.Dataset.{additions, after, after_all, deletions, holds}
use Rattle.def_datasets.proofs.OrderLaws.{quad_decides}
use Rattle.def_datasets.proofs.VersionProofs.{patch_decides_quads}
use Rattle.def_histories.specs.Jobs.{IsPrefix}
use Rattle.lf_versions.specs.declared.change.Change.{Change}
use Rattle.lf_versions.specs.declared.commit.Commit.{Commit}
use Rattle.lf_versions.specs.Changes.{changes_behind, differs, is_once, named, named_in, one_of, put_once, quads_of, same_change}
use Rattle.lf_versions.specs.Commits.{dataset, lines_of}
use Rattle.lf_versions.specs.Numbered.{IsVersion, commits_of, numbered, values}
use Rattle.lf_versions.proofs.Numbering.{nat-less, values-numbered}

-- ---- what patches don't name stays

or_none : (a b : Bool) → (a || b) ≡ false → (a ≡ false) × (b ≡ false)
or_none true b e = absurd (false≢true (sym e))
or_none false b e = (refl, e)

unnamed_added : (lines : List Signed) (q : Quad) → has quad_eq (named_in lines) q ≡ false → holds (additions lines) q ≡ false
unnamed_added [] q e = refl
unnamed_added (line ∷ rest) q e =
    let parts = or_none (quad_eq q line.quad) (has quad_eq (named_in rest) q) e in
    go line.add parts.0 (unnamed_added rest q parts.1)
  where
    go : (add : Bool) → quad_eq q line.quad ≡ false → holds (additions rest) q ≡ false
        → holds (cond add (line.quad ∷ additions rest) (additions rest)) q ≡ false
    go true other out = rw other out
    go false other out = out

unnamed_deleted : (lines : List Signed) (q : Quad) → has quad_eq (named_in lines) q ≡ false → holds (deletions lines) q ≡ false
unnamed_deleted [] q e = refl
unnamed_deleted (line ∷ rest) q e =
    let parts = or_none (quad_eq q line.quad) (has quad_eq (named_in rest) q) e in
    go line.add parts.0 (unnamed_deleted rest q parts.1)
  where
    go : (add : Bool) → quad_eq q line.quad ≡ false → holds (deletions rest) q ≡ false
        → holds (cond add (deletions rest) (line.quad ∷ deletions rest)) q ≡ false
    go true other out = out
    go false other out = rw other out

or_false : (b : Bool) → (b || false) ≡ b
or_false true = refl
or_false false = refl

and_false : (b : Bool) → (b && false) ≡ false
and_false true = refl
and_false false = refl

and_true : (b : Bool) → (b && true) ≡ b
and_true true = refl
and_true false = refl

unnamed_stays : (dataset : List Quad) (lines : List Signed) (q : Quad) → has quad_eq (named_in lines) q ≡ false → holds (after dataset lines) q ≡ holds dataset q
unnamed_stays dataset lines q e =
    patch_decides_quads dataset lines q
    ∙ ((λ i. unnamed_added lines q e i || (holds dataset q && not (unnamed_deleted lines q e i))) ∙ and_true (holds dataset q))

any_append : (xs ys : List Quad) (q : Quad) → has quad_eq (xs ++ ys) q ≡ (has quad_eq xs q || has quad_eq ys q)
any_append [] ys q = refl
any_append (x ∷ xs) ys q = ap (λ b. quad_eq q x || b) (any_append xs ys q) ∙ sym (or_assoc (quad_eq q x) (has quad_eq xs q) (has quad_eq ys q))
  where
    or_assoc : (a b c : Bool) → ((a || b) || c) ≡ (a || (b || c))
    or_assoc true b c = refl
    or_assoc false b c = refl

pub all_unnamed_stay : (dataset : List Quad) (patches : List (List Signed)) (q : Quad) → has quad_eq (named patches) q ≡ false
    → holds (after_all dataset patches) q ≡ holds dataset q
all_unnamed_stay dataset [] q e = refl
all_unnamed_stay dataset (lines ∷ rest) q e =
    let parts = or_none (has quad_eq (named_in lines) q) (has quad_eq (named rest) q) (sym (any_append (named_in lines) (named rest) q) ∙ e) in
    all_unnamed_stay (after dataset lines) rest q parts.1 ∙ unnamed_stays dataset lines q parts.0

pub after_all-append : (dataset : List Quad) (one two : List (List Signed)) → after_all dataset (one ++ two) ≡ after_all (after_all dataset one) two
after_all-append dataset [] two = refl
after_all-append dataset (patch ∷ one) two = after_all-append (after dataset patch) one two

-- ---- changes

put_holds_at : (x : Quad) (found : List Quad) (q : Quad) (b : Bool) → has quad_eq found x ≡ b
    → has quad_eq (cond b found (found ++ x ∷ [])) q ≡ (has quad_eq found q || quad_eq q x)
put_holds_at x found q true e = go (quad_eq q x) refl
  where
    go : (c : Bool) → quad_eq q x ≡ c → has quad_eq found q ≡ (has quad_eq found q || c)
    go true same =
        let one : has quad_eq found q ≡ true = ap (has quad_eq found) ((quad_decides q x).0 same) ∙ e in
        rw one refl
    go false same = sym (or_false (has quad_eq found q))
put_holds_at x found q false e = any_append found (x ∷ []) q ∙ ap (λ b. has quad_eq found q || b) (or_false (quad_eq q x))

put_holds : (x : Quad) (found : List Quad) (q : Quad) → has quad_eq (put_once x found) q ≡ (has quad_eq found q || quad_eq q x)
put_holds x found q = put_holds_at x found q (has quad_eq found x) refl

-- a quad among the changes was found before, or it passes and is named
behind_step : (p : Quad → Bool) (found : List Quad) (x : Quad) (rest : List Quad) (q : Quad) (b : Bool) → p x ≡ b
    → has quad_eq (cond b (put_once x found) found) q ≡ (has quad_eq found q || (p q && quad_eq q x))
behind_step p found x rest q true e = put_holds x found q ∙ ap (λ b. has quad_eq found q || b) (go (quad_eq q x) refl)
  where
    go : (c : Bool) → quad_eq q x ≡ c → c ≡ (p q && c)
    go true same = sym (rw (ap p ((quad_decides q x).0 same) ∙ e) refl)
    go false same = sym (and_false (p q))
behind_step p found x rest q false e = go (quad_eq q x) refl
  where
    go : (c : Bool) → quad_eq q x ≡ c → has quad_eq found q ≡ (has quad_eq found q || (p q && c))
    go true same = sym (rw (ap p ((quad_decides q x).0 same) ∙ e) (or_false (has quad_eq found q)))
    go false same = sym (rw (and_false (p q)) (or_false (has quad_eq found q)))

regroup : (f p a b : Bool) → ((f || (p && a)) || (p && b)) ≡ (f || (p && (a || b)))
regroup true p a b = refl
regroup false true a b = refl
regroup false false a b = refl

pub behind_holds : (p : Quad → Bool) (found xs : List Quad) (q : Quad)
    → has quad_eq (changes_behind p found xs) q ≡ (has quad_eq found q || (p q && has quad_eq xs q))
behind_holds p found [] q = go (has quad_eq found q) (p q)
  where
    go : (f b : Bool) → f ≡ (f || (b && false))
    go true b = refl
    go false true = refl
    go false false = refl
behind_holds p found (x ∷ rest) q =
    behind_holds p (cond (p x) (put_once x found) found) rest q
    ∙ (ap (λ b. b || (p q && has quad_eq rest q)) (behind_step p found x rest q (p x) refl)
    ∙ regroup (has quad_eq found q) (p q) (quad_eq q x) (has quad_eq rest q))

-- each stands once

once_end : (found : List Quad) (x : Quad) → is_once found ≡ true → has quad_eq found x ≡ false → is_once (found ++ x ∷ []) ≡ true
once_end [] x once out = refl
once_end (y ∷ found) x once out =
    let parts = and_parts (not (has quad_eq found y)) (is_once found) once in
    let outs = or_none (quad_eq x y) (has quad_eq found x) out in
    and_from (not (has quad_eq (found ++ x ∷ []) y)) (is_once (found ++ x ∷ []))
    (ap not (any_append found (x ∷ []) y) ∙ go (has quad_eq found y) (quad_eq y x) refl parts.0 outs.0)
    (once_end found x parts.1 outs.1)
  where
    go : (a b : Bool) → quad_eq y x ≡ b → not a ≡ true → quad_eq x y ≡ false → not (a || (b || false)) ≡ true
    go true b same none other = absurd (false≢true none)
    go false true same none other =
        absurd (false≢true (sym other ∙ ((quad_decides x y).1 (sym ((quad_decides y x).0 same)))))
    go false false same none other = refl

put_once_at : (x : Quad) (found : List Quad) (b : Bool) → has quad_eq found x ≡ b → is_once found ≡ true → is_once (cond b found (found ++ x ∷ [])) ≡ true
put_once_at x found true e once = once
put_once_at x found false e once = once_end found x once e

choose_once : (x : Quad) (found : List Quad) (b : Bool) → is_once found ≡ true → is_once (cond b (put_once x found) found) ≡ true
choose_once x found true once = put_once_at x found (has quad_eq found x) refl once
choose_once x found false once = once

pub behind_once : (p : Quad → Bool) (found xs : List Quad) → is_once found ≡ true → is_once (changes_behind p found xs) ≡ true
behind_once p found [] once = once
behind_once p found (x ∷ rest) once = behind_once p (cond (p x) (put_once x found) found) rest (choose_once x found (p x) once)

pub behind_append : (p : Quad → Bool) (found xs ys : List Quad) → changes_behind p found (xs ++ ys) ≡ changes_behind p (changes_behind p found xs) ys
behind_append p found [] ys = refl
behind_append p found (x ∷ xs) ys = behind_append p (cond (p x) (put_once x found) found) xs ys

-- ---- what differs is named

same_out : (a : Bool) → one_of a a ≡ false
same_out true = refl
same_out false = refl

pub differing_named : (dataset : List Quad) (patches : List (List Signed)) (q : Quad)
    → (differs dataset (after_all dataset patches) q && has quad_eq (named patches) q) ≡ differs dataset (after_all dataset patches) q
differing_named dataset patches q = go (has quad_eq (named patches) q) refl
  where
    go : (b : Bool) → has quad_eq (named patches) q ≡ b
        → (differs dataset (after_all dataset patches) q && b) ≡ differs dataset (after_all dataset patches) q
    go true e = and_true (differs dataset (after_all dataset patches) q)
    go false e =
        let same : differs dataset (after_all dataset patches) q ≡ false =
        ap (one_of (holds dataset q)) (all_unnamed_stay dataset patches q e) ∙ same_out (holds dataset q) in
        rw same refl

-- ---- values from a number on

shifted : {A : Type 0} (first k : ℕ) (xs : List A) → k ≤ length xs → pairs_from nat_cmp (first + k) (numbered first xs) ≡ numbered (first + k) (drop k xs)
shifted first zero [] low = refl
shifted first zero (x ∷ xs) low =
    let same : first + 0 ≡ first = omega arith in
    rw same (rw (tied_itself nat_cmp_total first) refl)
shifted first (suc k) [] low = absurd (omega (arith, low))
shifted first (suc k) (x ∷ xs) low =
    let moved : first + suc k ≡ suc first + k = omega arith in
    rw (nat-less first (first + suc k) (omega arith))
    (ap (λ n. pairs_from nat_cmp n (numbered (suc first) xs)) moved ∙ (shifted (suc first) k xs (omega (arith, low)) ∙ ap (λ n. numbered n (drop k xs)) (sym moved)))

pub from-number : {A : Type 0} (k : ℕ) (xs : List A) → k ≤ length xs → pairs_from nat_cmp k (numbered 0 xs) ≡ numbered k (drop k xs)
from-number k xs low =
    let same : 0 + k ≡ k = omega arith in
    (λ i. pairs_from nat_cmp (sym same i) (numbered 0 xs)) ∙ (shifted 0 k xs low ∙ (λ i. numbered (same i) (drop k xs)))

-- ---- what a delta is

pub put-data : (keys : List Change) (q : Quad) → quads_of (insert_key same_change keys (record { quad = q })) ≡ put_once q (quads_of keys)
put-data keys q =
    go (list_any (same_change (record { quad = q })) keys)
    ∙ ap (λ b. cond b (quads_of keys) (quads_of keys ++ q ∷ [])) (any_mapped keys)
  where
    any_mapped : (ks : List Change) → list_any (same_change (record { quad = q })) ks ≡ has quad_eq (quads_of ks) q
    any_mapped [] = refl
    any_mapped (k ∷ ks) = ap (λ b. quad_eq q k.quad || b) (any_mapped ks)

    go : (b : Bool) → quads_of (if b then keys else keys ++ record { quad = q } ∷ []) ≡ cond b (quads_of keys) (quads_of keys ++ q ∷ [])
    go true = refl
    go false = map-append (λ (change : Change). change.quad) keys (record { quad = q } ∷ [])

all-of : (commits : List Commit) → dataset commits ≡ after_all [] (lines_of commits)
all-of commits =
    let sized : length (lines_of commits) ≡ length commits = length-map commits (λ (c : Commit). c.patch.lines) in
    ap (after_all []) (take_all (length commits) (lines_of commits) (omega (arith, sized)))

later-lines : (pairs : List (ℕ × Arc Commit Global)) (index : List Quad) (number from : ℕ) (first later : List (List Signed))
    → IsVersion pairs index number → lines_of (commits_of pairs) ≡ first ++ later → from ≡ length first
    → lines_of (commits_of (pairs_from nat_cmp from pairs)) ≡ later
later-lines pairs index number from first later held split is =
    let vs : List (Arc Commit Global) = values pairs in
    let sized : length (lines_of (commits_of pairs)) ≡ length vs = length-map (commits_of pairs) (λ (c : Commit). c.patch.lines) ∙ length-map vs arc_value in
    let long : length vs ≡ length first + length later = sym sized ∙ (ap length split ∙ length-append first later) in
    let begun : pairs_from nat_cmp from pairs ≡ numbered from (drop from vs) = ap (pairs_from nat_cmp from) held.numbers ∙ from-number from vs (omega (arith, long, is)) in
    let handles : values (pairs_from nat_cmp from pairs) ≡ drop from vs = ap values begun ∙ values-numbered from (drop from vs) in
    ap (λ hs. lines_of (map arc_value hs)) handles
    ∙ (ap lines_of (sym (drop-map arc_value from vs))
    ∙ (sym (drop-map (λ (c : Commit). c.patch.lines) from (commits_of pairs))
    ∙ ((λ i. drop (is i) (split i)) ∙ drop-append_seam first later)))

pub delta-is : (pairs : List (ℕ × Arc Commit Global)) (index one two found : List Quad) (number from : ℕ) (older commits : List Commit)
    → IsVersion pairs index number → commits_of pairs ≡ commits → IsPrefix (lines_of older) (lines_of commits) → from ≡ length older
    → one ≡ dataset older → two ≡ dataset commits
    → found ≡ changes_behind (differs one two) [] (named (lines_of (commits_of (pairs_from nat_cmp from pairs))))
    → ((q : Quad) → holds found q ≡ differs (dataset older) (dataset commits) q) × (is_once found ≡ true)
delta-is pairs index one two found number from older commits held view begun is first second made = (
  λ q.
      ap (λ d. holds d q) made
      ∙ (behind_holds (differs one two) [] (named (lines_of (commits_of (pairs_from nat_cmp from pairs)))) q
      ∙ ((λ i. differs (olds i) (news i) q && has quad_eq (named (lines i)) q)
      ∙ (differing_named (dataset older) begun.0 q ∙ ap (λ d. differs (dataset older) d q) (sym after_older)))),
  ap is_once made ∙ behind_once (differs one two) [] (named (lines_of (commits_of (pairs_from nat_cmp from pairs)))) refl,
)
  where
    after_older : dataset commits ≡ after_all (dataset older) begun.0
    after_older =
        all-of commits
        ∙ (ap (after_all []) begun.1
        ∙ (after_all-append [] (lines_of older) begun.0 ∙ ap (λ d. after_all d begun.0) (sym (all-of older))))

    olds : one ≡ dataset older
    olds = first

    news : two ≡ after_all (dataset older) begun.0
    news = second ∙ after_older

    lines : lines_of (commits_of (pairs_from nat_cmp from pairs)) ≡ begun.0
    lines =
        later-lines pairs index number from (lines_of older) begun.0 held (ap lines_of view ∙ begun.1)
        (is ∙ sym (length-map older (λ (c : Commit). c.patch.lines)))

-- one commit more of those since a number
pub commit_step : (p : Quad → Bool) (before made whole : List Quad) (lines : List Signed) (pairs rest : List (ℕ × Arc Commit Global)) (pair : ℕ × Arc Commit Global)
    → pairs ≡ pair ∷ rest → lines ≡ (arc_value pair.1).patch.lines → made ≡ changes_behind p before (named_in lines)
    → changes_behind p before (named (lines_of (commits_of pairs))) ≡ whole
    → changes_behind p made (named (lines_of (commits_of rest))) ≡ whole
commit_step p before made whole lines pairs rest pair split is put so_far =
    ap (λ found. changes_behind p found (named (lines_of (commits_of rest)))) (put ∙ ap (λ ls. changes_behind p before (named_in ls)) is)
    ∙ (sym (behind_append p before (named_in (arc_value pair.1).patch.lines) (named (lines_of (commits_of rest))))
    ∙ (ap (λ ps. changes_behind p before (named (lines_of (commits_of ps)))) (sym split) ∙ so_far))
