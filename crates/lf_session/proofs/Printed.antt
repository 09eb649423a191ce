-- The tokens of a fractional number print as its body.
use Rattle.std.proofs.Common.{◌≡◌, ℕ, List, [], ◌∷◌}
use Rattle.std.specs.Prelude.{codes}
use Rattle.json.specs.Token.{key, string}
use Rattle.json.specs.Print.{print}
use Rattle.def_printed.specs.JsonText.{json_string, json_member}
use Rattle.def_printed.proofs.Prints.{Prints, Joins, print-is, prints-string, prints-member, prints-object, joins-all}
use Rattle.lf_session.specs.Bodies.{fractional_body}
use Rattle.lf_session.specs.Tokens.{fractional_tokens}

joins-path : (path : List ℕ) → Joins (key (codes "path") ∷ string path ∷ []) (json_member (codes "path") (json_string path) ∷ [])
joins-path path =
    joins-all (λ (text : List ℕ). key (codes "path") ∷ string text ∷ []) (λ text. json_member (codes "path") (json_string text))
    (λ text. prints-member (codes "path") (string text ∷ []) (json_string text) (prints-string text)) (path ∷ [])

pub prints-fractional : (path : List ℕ) → Prints (fractional_tokens path) (fractional_body path)
unfolding fractional_tokens fractional_body
prints-fractional path =
    prints-object (key (codes "error") ∷ string (codes "fractional number") ∷ [])
    (json_member (codes "error") (json_string (codes "fractional number"))) (key (codes "path") ∷ string path ∷ [])
    (json_member (codes "path") (json_string path) ∷ [])
    (prints-member (codes "error") (string (codes "fractional number") ∷ []) (json_string (codes "fractional number"))
    (prints-string (codes "fractional number")))
    (joins-path path)

pub fractional-printed : (path : List ℕ) → print (fractional_tokens path) ≡ fractional_body path
fractional-printed path = print-is (fractional_tokens path) (fractional_body path) (prints-fractional path)
