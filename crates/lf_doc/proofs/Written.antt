-- Values written one after another between brackets.
use Rattle.std.proofs.Common.{◌≡◌, ℕ, zero, suc, ◌+◌, ◌<◌, ◌≤◌, Bool, true, false, List, [], ◌∷◌, ◌++◌, Option, length, drop, get_or, refl, sym, ap, ◌∙◌, append_assoc, append-nil, arith}
use Rattle.std.specs.List.{join_with_byte, flat_map}
use Rattle.def_printed.specs.JsonText.{json_member, json_string}
use Rattle.def_documents.specs.JsonPrint.{item_texts, json_text, member_texts}
use Rattle.lf_sorted.specs.declared.map.Entry.{Entry}
use Rattle.lf_model.specs.declared.json.Json.{Json}
use Rattle.lf_model.specs.JsonData.{items_of, member}
use Rattle.lf_model.specs.JsonBridge.{items_data, json_data, members_data}
use Rattle.lf_doc.specs.Sheets.{appended, comma_if}
use Rattle.lf_doc.proofs.Rests.{rest_next, rest_none}
use Rattle.lf_doc.proofs.Sheets.{appended_twice}

-- texts that are still to come, with commas between and, where one stands before, in front
abbrev pub more_texts : Bool → List (List ℕ) → List ℕ
more_texts false texts = join_with_byte 44 texts
more_texts true texts = flat_map (λ text. 44 ∷ text) texts

join-first : (text : List ℕ) (texts : List (List ℕ)) → join_with_byte 44 (text ∷ texts) ≡ text ++ flat_map (λ t. 44 ∷ t) texts
join-first text [] = sym (append-nil text)
join-first text (next ∷ texts) = ap (λ l. text ++ 44 ∷ l) (join-first next texts)

more-first : (after : Bool) (text : List ℕ) (texts : List (List ℕ)) → more_texts after (text ∷ texts) ≡ comma_if after ++ (text ++ more_texts true texts)
more-first true text texts = refl
more-first false text texts = join-first text texts

-- nothing is to come
pub more-none : (after : Bool) (tail : List ℕ) → more_texts after [] ++ tail ≡ tail
more-none true tail = refl
more-none false tail = refl

-- one text more
pub one-more : (one two three : Option (List ℕ)) (after : Bool) (text : List ℕ) (texts : List (List ℕ)) (tail : List ℕ)
    → two ≡ appended one (comma_if after) → three ≡ appended two text
    → appended three (more_texts true texts ++ tail) ≡ appended one (more_texts after (text ∷ texts) ++ tail)
one-more one two three after text texts tail comma written =
    ap (λ s. appended s (more_texts true texts ++ tail)) (written ∙ ap (λ s. appended s text) comma)
    ∙ appended_twice (appended one (comma_if after)) text (more_texts true texts ++ tail)
    ∙ appended_twice one (comma_if after) (text ++ (more_texts true texts ++ tail))
    ∙ ap (appended one)
    (ap (λ l. comma_if after ++ l) (sym (append_assoc text (more_texts true texts) tail))
    ∙ sym (append_assoc (comma_if after) (text ++ more_texts true texts) tail)
    ∙ ap (λ l. l ++ tail) (sym (more-first after text texts)))

-- a key and its value are a member
pub member-written : (one two three : Option (List ℕ)) (key value : List ℕ) → two ≡ appended one (json_string key ++ 58 ∷ []) → three ≡ appended two value
    → three ≡ appended one (json_member key value)
member-written one two three key value named written =
    written ∙ ap (λ s. appended s value) named ∙ appended_twice one (json_string key ++ 58 ∷ []) value
    ∙ ap (appended one) (append_assoc (json_string key) (58 ∷ []) value)

-- the brackets and all between them
pub closed : (zero_ one now end : Option (List ℕ)) (after : Bool) (opening close : ℕ) (texts rest : List (List ℕ)) → one ≡ appended zero_ (opening ∷ [])
    → appended now (more_texts after rest ++ close ∷ []) ≡ appended one (join_with_byte 44 texts ++ close ∷ []) → rest ≡ [] → end ≡ appended now (close ∷ [])
    → end ≡ appended zero_ (opening ∷ (join_with_byte 44 texts ++ close ∷ []))
closed zero_ one now end after opening close texts rest opened between none ended =
    ended
    ∙ ap (appended now) (sym (ap (λ r. more_texts after r ++ close ∷ []) none ∙ more-none after (close ∷ [])))
    ∙ between
    ∙ ap (λ s. appended s (join_with_byte 44 texts ++ close ∷ [])) opened
    ∙ appended_twice zero_ (opening ∷ []) (join_with_byte 44 texts ++ close ∷ [])

-- ---- items and members by their places

pub item-next : (xs : List Json) (i : ℕ) (x : Json) → i < length xs → x ≡ get_or xs i x
    → item_texts (items_data (drop i xs)) ≡ json_text (json_data x) ∷ item_texts (items_data (drop (i + 1) xs))
item-next xs i x within is = ap (λ l. item_texts (items_of l)) (rest_next json_data xs i x within is)

pub item-none : (xs : List Json) (i : ℕ) → length xs ≤ i → item_texts (items_data (drop i xs)) ≡ []
item-none xs i done = ap (λ l. item_texts (items_of l)) (rest_none json_data xs i done)

pub member-at : (es : List (Entry Json)) (i : ℕ) (e : Entry Json) → i < length es → e ≡ get_or es i e
    → members_data (drop i es) ≡ member e.key (json_data e.value) (members_data (drop (suc i) es))
member-at [] i e within is = absurd (omega arith)
member-at (f ∷ fs) zero e within is = ap (λ (z : Entry Json). member z.key (json_data z.value) (members_data fs)) (sym is)
member-at (f ∷ fs) (suc i) e within is = member-at fs i e (omega arith) is

pub member-next : (es : List (Entry Json)) (i : ℕ) (e : Entry Json) → i < length es → e ≡ get_or es i e
    → member_texts (members_data (drop i es)) ≡ json_member e.key (json_text (json_data e.value)) ∷ member_texts (members_data (drop (i + 1) es))
member-next es i e within is =
    let next : i + 1 ≡ suc i = omega arith in
    rw next (ap member_texts (member-at es i e within is))

pub member-none : (es : List (Entry Json)) (i : ℕ) → length es ≤ i → member_texts (members_data (drop i es)) ≡ []
member-none [] zero done = refl
member-none [] (suc i) done = refl
member-none (e ∷ es) zero done = absurd (omega arith)
member-none (e ∷ es) (suc i) done = member-none es i (omega arith)
