-- Worked cases of printed JSON.
use Rattle.std.specs.Prelude.{◌≡◌, refl, [], ◌∷◌, codes}
use Rattle.def_printed.specs.JsonText.{json_string, json_member, json_array, json_object}

-- nothing to escape
pub plain_string :
    json_string (codes "http://e/a")
    ≡ 34 ∷ 104 ∷ 116 ∷ 116 ∷ 112 ∷ 58 ∷ 47 ∷ 47 ∷ 101 ∷ 47 ∷ 97 ∷ 34 ∷ []
plain_string = refl

-- the quote, the backslash and the five controls that have a letter
pub letters :
    json_string (34 ∷ 92 ∷ 8 ∷ 9 ∷ 10 ∷ 12 ∷ 13 ∷ [])
    ≡ 34 ∷ 92 ∷ 34 ∷ 92 ∷ 92 ∷ 92 ∷ 98 ∷ 92 ∷ 116 ∷ 92 ∷ 110 ∷ 92 ∷ 102 ∷ 92 ∷ 114 ∷ 34 ∷ []
letters = refl

-- other controls have digits in lower case; the slash, DEL and bytes of longer characters stand raw
pub digits_and_raw :
    json_string (0 ∷ 27 ∷ 47 ∷ 127 ∷ 195 ∷ 169 ∷ [])
    ≡ 34 ∷ 92 ∷ 117 ∷ 48 ∷ 48 ∷ 48 ∷ 48 ∷ 92 ∷ 117 ∷ 48 ∷ 48 ∷ 49 ∷ 98 ∷ 47 ∷ 127 ∷ 195 ∷ 169 ∷ 34
    ∷ []
digits_and_raw = refl

-- an object with an array and an empty object: `{"a":["b","c"],"d":{}}`
pub nested :
    json_object
    (json_member (codes "a") (json_array (json_string (codes "b") ∷ json_string (codes "c") ∷ []))
    ∷ json_member (codes "d") (json_object []) ∷ [])
    ≡ 123 ∷ 34 ∷ 97 ∷ 34 ∷ 58 ∷ 91 ∷ 34 ∷ 98 ∷ 34 ∷ 44 ∷ 34 ∷ 99 ∷ 34 ∷ 93 ∷ 44 ∷ 34 ∷ 100 ∷ 34 ∷ 58
    ∷ 123 ∷ 125 ∷ 125 ∷ []
nested = refl
