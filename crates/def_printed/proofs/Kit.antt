-- The strings that `json` writes are those of `JsonText`.
use Rattle.std.proofs.Common.{◌≡◌, ℕ, List, [], ◌∷◌, ◌++◌, refl, ap, arith}
use Rattle.std.specs.List.{flat_map}
use Rattle.std.proofs.lemmas.Bool.Decides.{nat_tests}
use Rattle.json.specs.Print.{escape_byte, escape, quoted}
use Rattle.def_printed.specs.JsonText.{json_byte, json_string}

-- one byte is escaped alike
pub json_byte-escape_byte : (b : ℕ) → json_byte b ≡ escape_byte b
unfolding escape_byte
json_byte-escape_byte b = grind (arith, nat_tests)

pub escaped_alike : (text : List ℕ) → flat_map json_byte text ≡ escape text
escaped_alike [] = refl
escaped_alike (b ∷ text) = rw (json_byte-escape_byte b) (ap (λ rest. escape_byte b ++ rest) (escaped_alike text))

pub json_string-quoted : (text : List ℕ) → json_string text ≡ quoted text
json_string-quoted text = ap (λ l. 34 ∷ (l ++ 34 ∷ [])) (escaped_alike text)
