-- How a program tells where a text is cut.
use Rattle.std.specs.Prelude.{◌≡◌, List, [], ◌∷◌, ℕ, Bool, false}
use Rattle.std.specs.List.{list_all}
use Rattle.def_contexts.specs.Texts.{is_letter}
use Rattle.def_contexts.specs.Expansion.{Split, unsplit, as_is, split}
use Rattle.lf_context.specs.declared.text.Split.TheVariants as code
use Rattle.lf_context.specs.declared.text.Split as declared

-- the program's answer is the definition's
abbrev pub Splits : declared.Split → Split → Type 0
Splits code.Unsplit cut = cut ≡ unsplit
Splits code.AsIs cut = cut ≡ as_is
Splits (code.Parts before after) cut = cut ≡ split before.now after.now

-- one or more letters, and nothing else
abbrev pub some_letters : List ℕ → Bool
some_letters [] = false
some_letters (b ∷ rest) = list_all is_letter (b ∷ rest)
