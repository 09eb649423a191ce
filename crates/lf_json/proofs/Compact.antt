-- The printed text beside that of `serde_json`.
use Rattle.std.proofs.Common.{◌≡◌, ℕ, pos, negsuc, decimal, Bool, true, false, ◌||◌, List, [], ◌∷◌, ◌++◌, refl, ap, sym, ◌∙◌, append_assoc, arith, true≢false}
use Rattle.std.specs.List.{flat_map, join_with_byte}
use Rattle.std.proofs.lemmas.List.{append-nil}
use Rattle.json.specs.Print.{quoted}
use Rattle.serde_json.specs.Data.{Num, unsigned, negative, float, Data, null, boolean, number, string, array, object, Items, no_items, item, Members, no_members, member}
use Rattle.serde_json.specs.Find.{is_float}
use Rattle.serde_json.specs.Written.{has_float, items_have_float, members_have_float, compact_text, items_text, members_text, number_text}
use Rattle.def_printed.specs.JsonText.{json_string, json_member}
use Rattle.def_printed.proofs.Kit.{json_string-quoted}
use Rattle.def_printed.proofs.Prints.{with_commas}
use Rattle.def_documents.specs.JsonPrint.{json_text, item_texts, member_texts}
use Rattle.lf_json.specs.Reading.{number_value, json_of, items_json, members_json}

pub first_false : (a b : Bool) → (a || b) ≡ false → a ≡ false
first_false true b e = absurd (true≢false e)
first_false false b e = refl

pub second_false : (a b : Bool) → (a || b) ≡ false → b ≡ false
second_false true b e = absurd (true≢false e)
second_false false b e = e

join-first : (text : List ℕ) (texts : List (List ℕ)) → join_with_byte 44 (text ∷ texts) ≡ text ++ with_commas texts
join-first text [] = sym (append-nil text)
join-first text (next ∷ texts) = ap (λ l. text ++ 44 ∷ l) (join-first next texts)

-- each text behind a comma, and the end
abbrev rest_text : ℕ → List (List ℕ) → List ℕ
rest_text end texts = flat_map (λ text. 44 ∷ text) texts ++ end ∷ []

joined : (end : ℕ) (text : List ℕ) (texts : List (List ℕ)) → join_with_byte 44 (text ∷ texts) ++ end ∷ [] ≡ text ++ rest_text end texts
joined end text texts = ap (λ l. l ++ end ∷ []) (join-first text texts) ∙ append_assoc text (with_commas texts) (end ∷ [])

whole-signed : (n : Num) → is_float n ≡ false → json_text (number_value n) ≡ number_text n
whole-signed (unsigned n) e = refl
whole-signed (negative (pos n)) e = refl
whole-signed (negative (negsuc n)) e = ap (λ k. 45 ∷ decimal k) (omega arith)
whole-signed (float x) e = absurd (true≢false e)

member_text : (k : List ℕ) (d : Data) (rest : List ℕ) → json_text (json_of d) ≡ compact_text d → json_member k (json_text (json_of d)) ++ rest ≡ quoted k ++ 58 ∷ (compact_text d ++ rest)
member_text k d rest same = append_assoc (json_string k) (58 ∷ json_text (json_of d)) rest ∙ ap (λ l. l ++ 58 ∷ (json_text (json_of d) ++ rest)) (json_string-quoted k) ∙ ap (λ l. quoted k ++ 58 ∷ (l ++ rest)) same

mutual
  pub text_is_compact : (d : Data) → has_float d ≡ false → json_text (json_of d) ≡ compact_text d
  text_is_compact null e = refl
  text_is_compact (boolean true) e = refl
  text_is_compact (boolean false) e = refl
  text_is_compact (number n) e = whole-signed n e
  text_is_compact (string s) e = json_string-quoted s
  text_is_compact (array no_items) e = refl
  text_is_compact (array (item d ds)) e =
      ap (λ l. 91 ∷ l) (joined 93 (json_text (json_of d)) (item_texts (items_json ds))
      ∙ ap (λ l. l ++ rest_text 93 (item_texts (items_json ds))) (text_is_compact d (first_false _ _ e))
      ∙ ap (λ l. compact_text d ++ l) (later_items ds (second_false (has_float d) _ e)))
  text_is_compact (object no_members) e = refl
  text_is_compact (object (member k d ms)) e =
      ap (λ l. 123 ∷ l) (joined 125 (json_member k (json_text (json_of d))) (member_texts (members_json ms))
      ∙ ap (λ l. json_member k (json_text (json_of d)) ++ l) (later_members ms (second_false (has_float d) _ e))
      ∙ member_text k d (members_text true ms) (text_is_compact d (first_false _ _ e)))

  later_items : (ds : Items) → items_have_float ds ≡ false → rest_text 93 (item_texts (items_json ds)) ≡ items_text true ds
  later_items no_items e = refl
  later_items (item d ds) e =
      ap (λ l. 44 ∷ l) (append_assoc (json_text (json_of d)) (flat_map (λ t. 44 ∷ t) (item_texts (items_json ds))) (93 ∷ [])
      ∙ ap (λ l. l ++ rest_text 93 (item_texts (items_json ds))) (text_is_compact d (first_false _ _ e))
      ∙ ap (λ l. compact_text d ++ l) (later_items ds (second_false (has_float d) _ e)))

  later_members : (ms : Members) → members_have_float ms ≡ false → rest_text 125 (member_texts (members_json ms)) ≡ members_text true ms
  later_members no_members e = refl
  later_members (member k d ms) e =
      ap (λ l. 44 ∷ l) (append_assoc (json_member k (json_text (json_of d))) (flat_map (λ t. 44 ∷ t) (member_texts (members_json ms))) (125 ∷ [])
      ∙ ap (λ l. json_member k (json_text (json_of d)) ++ l) (later_members ms (second_false (has_float d) _ e))
      ∙ member_text k d (members_text true ms) (text_is_compact d (first_false _ _ e)))
