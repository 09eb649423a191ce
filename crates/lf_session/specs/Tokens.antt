-- The body of a fractional number as JSON tokens, for private clauses.
use Rattle.std.specs.Prelude.{List, [], ◌∷◌, ℕ, codes}
use Rattle.json.specs.Token.{Token, begin_object, end_object, key, string}

unfoldable pub fractional_tokens : List ℕ → List Token
fractional_tokens path =
    begin_object ∷ key (codes "error") ∷ string (codes "fractional number") ∷ key (codes "path")
    ∷ string path ∷ end_object ∷ []
