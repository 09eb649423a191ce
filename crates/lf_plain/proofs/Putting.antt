-- Terms that are put one after the other.
use Rattle.std.proofs.Common.{◌≡◌, refl, List, [], ◌∷◌, ◌++◌, Ordering}
use Rattle.def_datasets.specs.Sorted.{put, put_all}

pub put_both : {A : Type 0} (cmp : A → A → Ordering) (xs ys zs : List A) → put_all cmp xs (ys ++ zs) ≡ put_all cmp (put_all cmp xs ys) zs
put_both cmp xs [] zs = refl
put_both cmp xs (y ∷ ys) zs = put_both cmp (put cmp y xs) ys zs
