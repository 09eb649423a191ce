-- Names behind `/frames/` are texts.
use Rattle.std.proofs.Common.{◌≡◌, ◌++◌, ℕ, List, IsUtf8, arith, true, drop, nat_eq, subst, sym, refl}
use Rattle.std.specs.List.{starts_with}
use Rattle.std.proofs.lemmas.Bool.Decides.{Decides-eqb}
use Rattle.std.proofs.lemmas.Slice.Eq.{starts_is}
use Rattle.std.proofs.lemmas.Str.{IsUtf8-drop, IsCharBoundary-after_ascii}
use Rattle.lf_http.specs.Judge.{frames_path}

-- what follows the path is a text
utf8_behind : (rest : List ℕ) → IsUtf8 (frames_path ++ rest) → IsUtf8 rest
utf8_behind rest text =
    IsUtf8-drop (frames_path ++ rest) 8 text
    (IsCharBoundary-after_ascii (frames_path ++ rest) 7 text (omega arith) (omega arith))

pub utf8_named : (target : List ℕ) → IsUtf8 target → starts_with nat_eq target (frames_path) ≡ true → IsUtf8 (drop 8 target)
utf8_named target text starts =
    let is : target ≡ frames_path ++ drop 8 target =
    (starts_is Decides-eqb target (frames_path) true (sym starts)).0 refl in
    utf8_behind (drop 8 target) (subst IsUtf8 is text)
