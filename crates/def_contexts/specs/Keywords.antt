-- Keywords (JSON-LD 1.1, section 1.7; JSON-LD 1.1 Framing, section 4.1).
use Rattle.std.specs.Prelude.{List, [], ◌∷◌, ℕ, nat_eq, Bool, false, ◌&&◌, codes}
use Rattle.std.specs.List.{list_any, list_all}
use Rattle.lf_base.specs.Ascii as ch
use Rattle.lf_rdf.specs.Equality.{text_eq}
use Rattle.def_contexts.specs.Texts.{is_letter}

unfoldable pub keywords : List (List ℕ)
keywords =
    codes "@base" ∷ codes "@container" ∷ codes "@context" ∷ codes "@default" ∷ codes "@direction"
    ∷ codes "@embed"
    ∷ codes "@explicit" ∷ codes "@graph" ∷ codes "@id" ∷ codes "@import" ∷ codes "@included"
    ∷ codes "@index"
    ∷ codes "@json" ∷ codes "@language" ∷ codes "@list" ∷ codes "@nest" ∷ codes "@none"
    ∷ codes "@null"
    ∷ codes "@omitDefault" ∷ codes "@prefix" ∷ codes "@preserve" ∷ codes "@propagate"
    ∷ codes "@protected"
    ∷ codes "@requireAll" ∷ codes "@reverse" ∷ codes "@set" ∷ codes "@type" ∷ codes "@value"
    ∷ codes "@version"
    ∷ codes "@vocab" ∷ []

-- whether a text is one of a list
abbrev pub one_of : List (List ℕ) → List ℕ → Bool
one_of texts text = list_any (text_eq text) texts

unfoldable pub is_keyword : List ℕ → Bool
unfolding keywords
is_keyword text = one_of keywords text

-- `@` and one or more ASCII letters, and nothing else: such a text has the form of a keyword
unfoldable pub has_keyword_form : List ℕ → Bool
has_keyword_form [] = false
has_keyword_form (b ∷ []) = false
has_keyword_form (b ∷ c ∷ rest) = nat_eq b ch.at_sign && list_all is_letter (c ∷ rest)
