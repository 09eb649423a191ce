-- What the tokens of a value print.
use Rattle.std.proofs.Common.{◌≡◌, ℕ, true, false, List, [], ◌∷◌, ◌++◌, codes, refl, sym, ap, subst, ◌∙◌, append_assoc, true≢false}
use Rattle.json.specs.Token as t
use Rattle.json.specs.Token.{Token}
use Rattle.json.specs.Print.{print, print_from}
use Rattle.def_printed.specs.JsonText.{json_member, json_array, json_object}
use Rattle.def_printed.proofs.Prints.{Prints, Joins, with_commas, print-is, prints-string, prints-member, prints-array, prints-object, prints-no_item, prints-no_member, joins-none}
use Rattle.lf_model.specs.JsonData.{JsonValue, null, truth, whole, fraction, text, array, object, JsonItems, no_items, item, JsonMembers, no_members, member}
use Rattle.def_documents.specs.JsonPrint.{json_text, item_texts, member_texts, whole_text}
use Rattle.lf_json.specs.Tokens.{value_tokens, item_tokens, member_tokens, has_fraction, items_have_fraction, members_have_fraction}
use Rattle.lf_json.proofs.Compact.{first_false, second_false}

prints-null : Prints (t.null ∷ []) (codes "null")
unfolding print_from
prints-null true rest = refl
prints-null false rest = refl

prints-true : Prints (t.boolean true ∷ []) (codes "true")
unfolding print_from
prints-true true rest = refl
prints-true false rest = refl

prints-false : Prints (t.boolean false ∷ []) (codes "false")
unfolding print_from
prints-false true rest = refl
prints-false false rest = refl

prints-number : (s : List ℕ) → Prints (t.number s ∷ []) s
unfolding print_from
prints-number s true rest = refl
prints-number s false rest = refl

-- the tokens of items and of members without the closing bracket
abbrev items_front : JsonItems → List Token
items_front no_items = []
items_front (item value rest) = value_tokens value ++ items_front rest

abbrev members_front : JsonMembers → List Token
members_front no_members = []
members_front (member key value rest) = (t.key key ∷ value_tokens value) ++ members_front rest

item_tokens-front : (items : JsonItems) → items_front items ++ t.end_array ∷ [] ≡ item_tokens items
item_tokens-front no_items = refl
item_tokens-front (item value rest) = append_assoc (value_tokens value) (items_front rest) (t.end_array ∷ []) ∙ ap (λ l. value_tokens value ++ l) (item_tokens-front rest)

member_tokens-front : (members : JsonMembers) → members_front members ++ t.end_object ∷ [] ≡ member_tokens members
member_tokens-front no_members = refl
member_tokens-front (member key value rest) = append_assoc (t.key key ∷ value_tokens value) (members_front rest) (t.end_object ∷ []) ∙ ap (λ l. (t.key key ∷ value_tokens value) ++ l) (member_tokens-front rest)

joins-more : (tokens more : List Token) (first : List ℕ) (texts : List (List ℕ)) → Prints tokens first → Joins more texts → Joins (tokens ++ more) (first ∷ texts)
joins-more tokens more first texts h later rest =
    ap (print_from true) (append_assoc tokens more rest)
    ∙ h true (more ++ rest)
    ∙ ap (λ l. 44 ∷ (first ++ l)) (later rest)
    ∙ ap (λ l. 44 ∷ l) (sym (append_assoc first (with_commas texts) (print_from true rest)))

mutual
  pub prints-value : (value : JsonValue) → has_fraction value ≡ false → Prints (value_tokens value) (json_text value)
  prints-value null w = prints-null
  prints-value (truth true) w = prints-true
  prints-value (truth false) w = prints-false
  prints-value (whole n) w = prints-number (whole_text n)
  prints-value fraction w = absurd (true≢false w)
  prints-value (text s) w = prints-string s
  prints-value (array no_items) w = prints-no_item
  prints-value (array (item first rest)) w =
      subst (λ l. Prints (t.begin_array ∷ (value_tokens first ++ l)) (json_array (json_text first ∷ item_texts rest))) (item_tokens-front rest)
      (prints-array (value_tokens first) (json_text first) (items_front rest) (item_texts rest) (prints-value first (first_false _ _ w)) (joins-items rest (second_false (has_fraction first) _ w)))
  prints-value (object no_members) w = prints-no_member
  prints-value (object (member key first rest)) w =
      subst (λ l. Prints (t.begin_object ∷ ((t.key key ∷ value_tokens first) ++ l)) (json_object (json_member key (json_text first) ∷ member_texts rest))) (member_tokens-front rest)
      (prints-object (t.key key ∷ value_tokens first) (json_member key (json_text first)) (members_front rest) (member_texts rest) (prints-member key (value_tokens first) (json_text first) (prints-value first (first_false _ _ w))) (joins-members rest (second_false (has_fraction first) _ w)))

  joins-items : (items : JsonItems) → items_have_fraction items ≡ false → Joins (items_front items) (item_texts items)
  joins-items no_items w = joins-none
  joins-items (item first rest) w = joins-more (value_tokens first) (items_front rest) (json_text first) (item_texts rest) (prints-value first (first_false _ _ w)) (joins-items rest (second_false (has_fraction first) _ w))

  joins-members : (members : JsonMembers) → members_have_fraction members ≡ false → Joins (members_front members) (member_texts members)
  joins-members no_members w = joins-none
  joins-members (member key first rest) w =
      joins-more (t.key key ∷ value_tokens first) (members_front rest) (json_member key (json_text first)) (member_texts rest)
      (prints-member key (value_tokens first) (json_text first) (prints-value first (first_false _ _ w))) (joins-members rest (second_false (has_fraction first) _ w))

pub printed_value : (value : JsonValue) → has_fraction value ≡ false → print (value_tokens value) ≡ json_text value
printed_value value w = print-is (value_tokens value) (json_text value) (prints-value value w)
