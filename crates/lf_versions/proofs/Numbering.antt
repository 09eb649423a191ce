-- What a version keeps, with one commit more.
use Rattle.std.proofs.Common.{◌≡◌, refl, sym, ◌∙◌, ap, subst, ℕ, suc, ◌+◌, ◌<◌, ◌≤◌, List, [], ◌∷◌, ◌++◌, length, map, arith}
use Rattle.std.proofs.lemmas.List.{length-map, map-append, length-append}
use Rattle.std.specs.Arc.{arc_value}
use Rattle.std.specs.Cmp.{nat_cmp_is}
use Rattle.std.specs.Ordering.{nat_cmp}
use Rattle.std.specs.declared.alloc.Global.{Global}
use Rattle.std.specs.declared.cmp.Ordering.TheVariants.{Less}
use Rattle.std.specs.declared.sync.Arc.{Arc}
use Rattle.lf_rdf.specs.declared.quad.Quad.{Quad}
use Rattle.lf_rdf.specs.declared.quad.Signed.{Signed}
use Rattle.lf_ptree.specs.Pairs.{put_pair}
use Rattle.def_datasets.specs.Dataset.{after, at_version}
use Rattle.def_datasets.proofs.VersionProofs.{next_version}
use Rattle.def_histories.specs.Legal.{most_commits, most_quads}
use Rattle.lf_index.specs.Applied.{IsApplied}
use Rattle.lf_versions.specs.declared.commit.Commit.{Commit}
use Rattle.lf_versions.specs.Commits.{dataset, lines_of}
use Rattle.lf_versions.specs.Numbered.{IsVersion, commits_of, numbered, values}

pub nat-less : (x y : ℕ) → x < y → nat_cmp x y ≡ Less
nat-less x y low = sym (nat_cmp_is x y Less low)

-- one more value, under the next number
put-last : {A : Type 0} (first : ℕ) (xs : List A) (value : A) → put_pair nat_cmp (first + length xs) value (numbered first xs) ≡ numbered first (xs ++ value ∷ [])
put-last first [] value =
    let same : first + 0 ≡ first = omega arith in
    ap (λ n. (n, value) ∷ []) same
put-last first (x ∷ xs) value =
    let moved : first + suc (length xs) ≡ suc first + length xs = omega arith in
    rw (nat-less first (first + suc (length xs)) (omega arith))
    (ap (λ rest. (first, x) ∷ rest) (ap (λ n. put_pair nat_cmp n value (numbered (suc first) xs)) moved ∙ put-last (suc first) xs value))

pub values-numbered : {A : Type 0} (first : ℕ) (xs : List A) → values (numbered first xs) ≡ xs
values-numbered first [] = refl
values-numbered first (x ∷ xs) = ap (λ rest. x ∷ rest) (values-numbered (suc first) xs)

-- the dataset after one more commit
pub dataset-more : (commits : List Commit) (commit : Commit) → dataset (commits ++ commit ∷ []) ≡ after (dataset commits) commit.patch.lines
dataset-more commits commit =
    let lines : lines_of (commits ++ commit ∷ []) ≡ lines_of commits ++ commit.patch.lines ∷ [] = map-append (λ (c : Commit). c.patch.lines) commits (commit ∷ []) in
    let sized : length commits ≡ length (lines_of commits) = sym (length-map commits (λ (c : Commit). c.patch.lines)) in
    let longer : length (commits ++ commit ∷ []) ≡ suc (length (lines_of commits)) = length-append commits (commit ∷ []) ∙ omega (arith, sized) in
    (λ i. at_version (lines i) (longer i))
    ∙ (next_version (lines_of commits) commit.patch.lines
    ∙ (λ i. after (at_version (lines_of commits) (sym sized i)) commit.patch.lines))

-- the commits with one more
pub commits-more : (pairs more : List (ℕ × Arc Commit Global)) (handle : Arc Commit Global) → values more ≡ values pairs ++ handle ∷ []
    → commits_of more ≡ commits_of pairs ++ arc_value handle ∷ []
commits-more pairs more handle e = ap (map arc_value) e ∙ map-append arc_value (values pairs) (handle ∷ [])

put-is : (pairs : List (ℕ × Arc Commit Global)) (index : List Quad) (number : ℕ) (handle : Arc Commit Global)
    → IsVersion pairs index number → put_pair nat_cmp number handle pairs ≡ numbered 0 (values pairs ++ handle ∷ [])
put-is pairs index number handle held =
    let zero_more : length (values pairs) ≡ 0 + length (values pairs) = omega arith in
    let counted : number ≡ 0 + length (values pairs) = held.counted ∙ (length-map (values pairs) arc_value ∙ zero_more) in
    (λ i. put_pair nat_cmp (counted i) handle (held.numbers i)) ∙ put-last 0 (values pairs) handle

pub put-values : (pairs more : List (ℕ × Arc Commit Global)) (index : List Quad) (number : ℕ) (handle : Arc Commit Global)
    → IsVersion pairs index number → more ≡ put_pair nat_cmp number handle pairs → values more ≡ values pairs ++ handle ∷ []
put-values pairs more index number handle held put =
    ap values (put ∙ put-is pairs index number handle held) ∙ values-numbered 0 (values pairs ++ handle ∷ [])

pub version-more : (pairs more : List (ℕ × Arc Commit Global)) (index made : List Quad) (number : ℕ) (handle : Arc Commit Global)
    → IsVersion pairs index number → number < most_commits → IsApplied index (arc_value handle).patch.lines made
    → more ≡ put_pair nat_cmp number handle pairs
    → IsVersion more made (number + 1)
version-more pairs more index made number handle held few applied put =
    let all = put-values pairs more index number handle held put in
    let commits = commits-more pairs more handle all in
    record {
      numbers = put ∙ (put-is pairs index number handle held ∙ ap (numbered 0) (sym all));
      counted =
          let longer : length (commits_of more) ≡ length (commits_of pairs) + 1 = ap length commits ∙ length-append (commits_of pairs) (arc_value handle ∷ []) in
          omega (arith, longer, held.counted);
      few = omega (arith, few);
      is_dataset =
          applied.is
          ∙ (ap (λ d. after d (arc_value handle).patch.lines) held.is_dataset
          ∙ (sym (dataset-more (commits_of pairs) (arc_value handle)) ∙ ap dataset (sym commits)));
      held = applied.few;
    }

pub few_number : (number : ℕ) → number < most_commits → number < 65536
unfolding most_commits
few_number number low = low
