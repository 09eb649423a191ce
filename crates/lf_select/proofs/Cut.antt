-- How a text is cut behind a front.
use Rattle.std.proofs.Common.{◌≡◌, ℕ, ◌+◌, suc, ◌<◌, IsSome, Bool, true, false, not, ◌&&◌, ◌||◌, cond, List, [], ◌∷◌, Option, Some, None, refl, ap, sym, ◌∙◌, subst, arith, length, take, drop, Bor, lt-ltb}
use Rattle.std.specs.Prelude.{nat_eq, nat_lt, MatchOption}
use Rattle.std.specs.List.{starts_with, position_or_len, before_first, after_first}
use Rattle.std.specs.Option.{option_copied}
use Rattle.std.specs.Str.{IsCharBoundary}
use Rattle.std.specs.Str.Pattern.{FindsTextPrefix, StripsPrefix}
use Rattle.std.proofs.lemmas.Bool.{and_parts}
use Rattle.std.proofs.lemmas.Str.Pattern.{starts_text, split_once_first, IsSplitOnceResult}
use Rattle.def_contexts.specs.Texts.{after_colon, before_colon, ends_scheme, is_absolute, is_letter, is_scheme_byte}
use Rattle.def_selection.specs.Iris.{rest_after}

pub stripped : (s n : List ℕ) (r : Option (Bor (List ℕ))) → MatchOption r (FindsTextPrefix n s None) (λ x. StripsPrefix (FindsTextPrefix n) s x.now)
    → length n < length s → option_copied r ≡ rest_after s (Some n)
stripped s n None lacks shorter =
    let none : false ≡ starts_with nat_eq s n = starts_text false n s lacks in
    λ i. cond (none i && nat_lt (length n) (length s)) (Some (drop (length n) s)) None
stripped s n (Some x) (k, finds, cut, whole) shorter =
    let begins : true ≡ starts_with nat_eq s n = starts_text true n s (k, finds, subst (IsCharBoundary s) (sym finds.0) finds.2) in
    let below : nat_lt (length n) (length s) ≡ true = lt-ltb (length n) (length s) shorter in
    ap Some (cut ∙ ap (λ m. drop m s) finds.0)
    ∙ (λ i. cond (begins i && sym below i) (Some (drop (length n) s)) None)
