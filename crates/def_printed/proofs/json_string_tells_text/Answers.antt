use Rattle.std.proofs.Common.{◌≡◌, ℕ, List, [], ◌∷◌, ap, sym, ◌∙◌}
use Rattle.std.proofs.lemmas.List.{append-nil}
use Rattle.json.specs.Token.{string}
use Rattle.json.specs.Lex.{tokens}
use Rattle.json.specs.Print.{print, print_from, quoted, ArePrintable}
use Rattle.json.proofs.Printed.Tokens.{tokens-print}
use Rattle.def_printed.specs.JsonText.{json_string}
use Rattle.def_printed.proofs.Kit.{json_string-quoted}
use Rattle.def_printed.proofs.json_string_tells_text.Goals as goal

print-string : (text : List ℕ) → print (string text ∷ []) ≡ json_string text
unfolding print_from
print-string text = append-nil (quoted text) ∙ sym (json_string-quoted text)

printable : (text : List ℕ) → ArePrintable (string text ∷ [])
unfolding ArePrintable
printable text = (tt, tt)

-- a reader finds the string in what was printed
read-string : (text : List ℕ) → tokens (json_string text) ≡ string text ∷ []
read-string text =
    ap tokens (sym (print-string text)) ∙ tokens-print (string text ∷ []) (printable text)

pub returns : goal.returns
returns c = λ one two same.
    let e : string one ∷ [] ≡ string two ∷ [] = sym (read-string one) ∙ ap tokens same ∙ read-string two in
    cc
