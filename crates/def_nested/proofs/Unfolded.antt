-- What each number of a table stands for.
use Rattle.std.proofs.Common.{◌≡◌, ◌≢◌, ℕ, zero, suc, ◌+◌, ◌<◌, ◌≤◌, Bool, true, false, nat_lt, List, [], ◌∷◌, length, slice_get, Some, refl, sym, ◌∙◌, ap, arith, ne_eqb, eq-eqb, ltb-true}
use Rattle.std.proofs.lemmas.Option.{none-some, same_Some}
use Rattle.lf_model.specs.declared.frame.FrameNode.{FrameNode}
use Rattle.def_nested.specs.Nested.{match_none}
use Rattle.def_nested.specs.Unfolding.{Numbered, build, guarded, above, with_row, unfold_from}
use Rattle.def_nested.specs.Laws.{IsBuiltFromItsRow, IsMatchNonePastTheTable}

-- a map sees only what larger numbers stand for
pub same_above :
    (own : ℕ) (one two : Numbered) → ((number : ℕ) → own < number → one number ≡ two number) →
    above own one ≡ above own two
same_above own one two same = λ i. λ number. seen number (nat_lt own number) refl i
  where
    seen : (number : ℕ) (test : Bool) → nat_lt own number ≡ test → guarded test one number ≡ guarded test two number
    seen number true e = same number (ltb-true own number e)
    seen number false e = refl

-- a number that isn't the first one stands for what it stands for without the first map
pub unfold_later :
    (first number : ℕ) (row : FrameNode) (rest : List FrameNode) → number ≢ first →
    unfold_from first (row ∷ rest) number ≡ unfold_from (first + 1) rest number
unfolding unfold_from
unfold_later first number row rest other = rw (ne_eqb number first other) refl

unfold_first :
    (first : ℕ) (row : FrameNode) (rest : List FrameNode) →
    unfold_from first (row ∷ rest) first ≡ build (above first (unfold_from first (row ∷ rest))) row
unfolding unfold_from
unfold_first first row rest =
    ap (λ test. with_row test row first (unfold_from (first + 1) rest) first) (eq-eqb first first refl)
    ∙ ap (λ sub. build sub row)
    (same_above first _ _ (λ number later. sym (unfold_later first number row rest (λ e. omega arith))))

pub unfold_built :
    (first : ℕ) (rows : List FrameNode) (place number : ℕ) (row : FrameNode) → number ≡ first + place →
    slice_get rows place ≡ Some row → unfold_from first rows number ≡ build (above number (unfold_from first rows)) row
unfold_built first [] place number row at found = absurd (none-some row found)
unfold_built first (x ∷ rest) zero number row at found =
    let here : number ≡ first = omega arith in
    rw (here, sym (same_Some x row found)) (unfold_first first x rest)
unfold_built first (x ∷ rest) (suc place) number row at found =
    unfold_later first number x rest (λ e. omega arith)
    ∙ unfold_built (first + 1) rest place number row (omega arith) found
    ∙ ap (λ sub. build sub row)
    (same_above number _ _ (λ later above. sym (unfold_later first later x rest (λ e. omega arith))))

pub unfold_past :
    (first : ℕ) (rows : List FrameNode) (number : ℕ) → first + length rows ≤ number →
    unfold_from first rows number ≡ match_none
unfolding unfold_from
unfold_past first [] number past = refl
unfold_past first (x ∷ rest) number past =
    unfold_later first number x rest (λ e. omega arith) ∙ unfold_past (first + 1) rest number (omega arith)

pub nested_built : IsBuiltFromItsRow
nested_built rows number row found = unfold_built 0 rows number number row (omega arith) found

pub nested_past : IsMatchNonePastTheTable
nested_past rows number past = unfold_past 0 rows number (omega arith)
