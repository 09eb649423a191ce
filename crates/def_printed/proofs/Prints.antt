-- What `json` prints for tokens, in the words of `JsonText`.
use Rattle.std.proofs.Common.{◌≡◌, ℕ, Bool, true, false, cond, List, [], ◌∷◌, ◌++◌, refl, ap, sym, ◌∙◌, map, append_assoc}
use Rattle.std.specs.List.{flat_map, join_with_byte}
use Rattle.std.proofs.lemmas.List.{append-nil}
use Rattle.json.specs.Token.{Token, begin_object, end_object, begin_array, end_array, key, string}
use Rattle.json.specs.Print.{print, print_from, quoted}
use Rattle.def_printed.specs.JsonText.{json_string, json_member, json_array, json_object}
use Rattle.def_printed.proofs.Kit.{json_string-quoted}

-- a comma, where a value stands before
abbrev pub comma_if : Bool → List ℕ
comma_if after = cond after (44 ∷ []) []

-- the tokens are one value or one member, and this is its text
abbrev pub Prints : List Token → List ℕ → Type 0
Prints tokens text =
    (after : Bool) (rest : List Token) → print_from after (tokens ++ rest) ≡ comma_if after ++ (text ++ print_from true rest)

pub print-is : (tokens : List Token) (text : List ℕ) → Prints tokens text → print tokens ≡ text
unfolding print_from
print-is tokens text h = ap print (sym (append-nil tokens)) ∙ h false [] ∙ append-nil text

pub prints-string : (text : List ℕ) → Prints (string text ∷ []) (json_string text)
unfolding print_from
prints-string text true rest = ap (λ s. 44 ∷ (s ++ print_from true rest)) (sym (json_string-quoted text))
prints-string text false rest = ap (λ s. s ++ print_from true rest) (sym (json_string-quoted text))

member-text : (name text after : List ℕ) → (quoted name ++ 58 ∷ []) ++ (text ++ after) ≡ json_member name text ++ after
member-text name text after =
    append_assoc (quoted name) (58 ∷ []) (text ++ after)
    ∙ sym (append_assoc (quoted name) (58 ∷ text) after)
    ∙ ap (λ s. (s ++ 58 ∷ text) ++ after) (sym (json_string-quoted name))

pub prints-member : (name : List ℕ) (tokens : List Token) (text : List ℕ) → Prints tokens text → Prints (key name ∷ tokens) (json_member name text)
unfolding print_from
prints-member name tokens text h true rest =
    ap (λ l. 44 ∷ ((quoted name ++ 58 ∷ []) ++ l)) (h false rest) ∙ ap (λ l. 44 ∷ l) (member-text name text (print_from true rest))
prints-member name tokens text h false rest =
    ap (λ l. (quoted name ++ 58 ∷ []) ++ l) (h false rest) ∙ member-text name text (print_from true rest)

-- ---- several values or members

-- each text after a comma
abbrev pub with_commas : List (List ℕ) → List ℕ
with_commas texts = flat_map (λ text. 44 ∷ text) texts

join-first : (text : List ℕ) (texts : List (List ℕ)) → join_with_byte 44 (text ∷ texts) ≡ text ++ with_commas texts
join-first text [] = sym (append-nil text)
join-first text (next ∷ texts) = ap (λ l. text ++ 44 ∷ l) (join-first next texts)

-- the tokens are several values or members, and these are their texts
abbrev pub Joins : List Token → List (List ℕ) → Type 0
Joins tokens texts = (rest : List Token) → print_from true (tokens ++ rest) ≡ with_commas texts ++ print_from true rest

pub joins-none : Joins [] []
joins-none rest = refl

pub joins-all : {X : Type 0} (tokens : X → List Token) (text : X → List ℕ) → ((x : X) → Prints (tokens x) (text x)) → (xs : List X) → Joins (flat_map tokens xs) (map text xs)
joins-all tokens text h [] rest = refl
joins-all tokens text h (x ∷ xs) rest =
    ap (print_from true) (append_assoc (tokens x) (flat_map tokens xs) rest)
    ∙ h x true (flat_map tokens xs ++ rest)
    ∙ ap (λ l. 44 ∷ (text x ++ l)) (joins-all tokens text h xs rest)
    ∙ ap (λ l. 44 ∷ l) (sym (append_assoc (text x) (with_commas (map text xs)) (print_from true rest)))

closed-array : (after : Bool) (rest : List Token) → print_from after (end_array ∷ rest) ≡ 93 ∷ print_from true rest
unfolding print_from
closed-array true rest = refl
closed-array false rest = refl

closed-object : (after : Bool) (rest : List Token) → print_from after (end_object ∷ rest) ≡ 125 ∷ print_from true rest
unfolding print_from
closed-object true rest = refl
closed-object false rest = refl

opened-array : (after : Bool) (rest : List Token) → print_from after (begin_array ∷ rest) ≡ comma_if after ++ (91 ∷ print_from false rest)
unfolding print_from
opened-array true rest = refl
opened-array false rest = refl

opened-object : (after : Bool) (rest : List Token) → print_from after (begin_object ∷ rest) ≡ comma_if after ++ (123 ∷ print_from false rest)
unfolding print_from
opened-object true rest = refl
opened-object false rest = refl

-- between brackets: the first and then the others, up to the closing token
inner : (close : Token) (end : ℕ) → ((after : Bool) (rest : List Token) → print_from after (close ∷ rest) ≡ end ∷ print_from true rest) →
    (first : List Token) (text : List ℕ) (tokens : List Token) (texts : List (List ℕ)) → Prints first text → Joins tokens texts → (rest : List Token) →
    print_from false ((first ++ (tokens ++ close ∷ [])) ++ rest) ≡ (join_with_byte 44 (text ∷ texts) ++ end ∷ []) ++ print_from true rest
inner close end closed first text tokens texts h j rest =
    ap (print_from false) (append_assoc first (tokens ++ close ∷ []) rest ∙ ap (λ l. first ++ l) (append_assoc tokens (close ∷ []) rest))
    ∙ h false (tokens ++ close ∷ rest)
    ∙ ap (λ l. text ++ l) (j (close ∷ rest) ∙ ap (λ l. with_commas texts ++ l) (closed true rest))
    ∙ sym (append_assoc text (with_commas texts) (end ∷ print_from true rest))
    ∙ ap (λ l. l ++ end ∷ print_from true rest) (sym (join-first text texts))
    ∙ sym (append_assoc (join_with_byte 44 (text ∷ texts)) (end ∷ []) (print_from true rest))

pub prints-array : (first : List Token) (text : List ℕ) (tokens : List Token) (texts : List (List ℕ)) → Prints first text → Joins tokens texts →
    Prints (begin_array ∷ (first ++ (tokens ++ end_array ∷ []))) (json_array (text ∷ texts))
prints-array first text tokens texts h j after rest =
    opened-array after ((first ++ (tokens ++ end_array ∷ [])) ++ rest)
    ∙ ap (λ l. comma_if after ++ 91 ∷ l) (inner end_array 93 closed-array first text tokens texts h j rest)

pub prints-object : (first : List Token) (text : List ℕ) (tokens : List Token) (texts : List (List ℕ)) → Prints first text → Joins tokens texts →
    Prints (begin_object ∷ (first ++ (tokens ++ end_object ∷ []))) (json_object (text ∷ texts))
prints-object first text tokens texts h j after rest =
    opened-object after ((first ++ (tokens ++ end_object ∷ [])) ++ rest)
    ∙ ap (λ l. comma_if after ++ 123 ∷ l) (inner end_object 125 closed-object first text tokens texts h j rest)

pub prints-no_item : Prints (begin_array ∷ end_array ∷ []) (json_array [])
prints-no_item after rest = opened-array after (end_array ∷ rest) ∙ ap (λ l. comma_if after ++ 91 ∷ l) (closed-array false rest)

pub prints-no_member : Prints (begin_object ∷ end_object ∷ []) (json_object [])
prints-no_member after rest = opened-object after (end_object ∷ rest) ∙ ap (λ l. comma_if after ++ 123 ∷ l) (closed-object false rest)
