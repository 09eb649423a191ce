-- Laws of bytes that are told or not.
use Rattle.std.proofs.Common.{◌≡◌, ◌≤◌, ℕ, ◌+◌, List, [], ◌++◌, length, take, drop, Option, Some, None, refl, sym, ap, ◌∙◌, arith, append_assoc, length-append}
use Rattle.std.proofs.Math.Seq.{take-add, take-append-add}
use Rattle.std.proofs.lemmas.List.{append-nil, take_all, take-append-le}
use Rattle.lf_io.specs.Bytes.{prepended, appended, AddsPart}

pub appended_nothing : (told : Option (List ℕ)) → appended told [] ≡ told
appended_nothing None = refl
appended_nothing (Some held) = ap Some (append-nil held)

pub appended_twice :
    (told : Option (List ℕ)) (first second : List ℕ)
    → appended (appended told first) second ≡ appended told (first ++ second)
appended_twice None first second = refl
appended_twice (Some held) first second = ap Some (append_assoc held first second)

-- the next piece of some bytes
pub appended_next :
    (told : Option (List ℕ)) (bytes : List ℕ) (n m : ℕ)
    → appended (appended told (take n bytes)) (take m (drop n bytes)) ≡ appended told (take (n + m) bytes)
appended_next told bytes n m =
    appended_twice told (take n bytes) (take m (drop n bytes))
    ∙ ap (λ piece. appended told piece) (sym (take-add n m bytes))

pub appended_whole :
    (told : Option (List ℕ)) (bytes : List ℕ) (n : ℕ)
    → length bytes ≤ n → appended told (take n bytes) ≡ appended told bytes
appended_whole told bytes n all = ap (λ piece. appended told piece) (take_all n bytes all)

pub prepended_nothing : (told : Option (List ℕ)) → prepended [] told ≡ told
prepended_nothing None = refl
prepended_nothing (Some rest) = refl

pub prepended_twice :
    (first second : List ℕ) (told : Option (List ℕ))
    → prepended first (prepended second told) ≡ prepended (first ++ second) told
prepended_twice first second None = refl
prepended_twice first second (Some rest) = ap Some (sym (append_assoc first second rest))

-- a part of the first text is a part of both
pub part_of_first :
    (old new : Option (List ℕ)) (first second : List ℕ) → AddsPart old new first → AddsPart old new (first ++ second)
part_of_first old new first second (n, short, added) = (
  n,
  omega (arith, length-append first second, short),
  added ∙ ap (λ piece. appended old piece) (sym (take-append-le n first second (omega (arith, short)))),
)

-- a part of the second text is a part of both, where the first was added
pub part_of_second :
    (old mid new : Option (List ℕ)) (first second : List ℕ)
    → mid ≡ appended old first → AddsPart mid new second → AddsPart old new (first ++ second)
part_of_second old mid new first second whole (n, short, added) = (
  length first + n,
  omega (arith, length-append first second, short),
  added ∙ ap (λ told. appended told (take n second)) whole ∙ appended_twice old first (take n second)
      ∙ ap (λ piece. appended old piece) (sym (take-append-add first second n)),
)
