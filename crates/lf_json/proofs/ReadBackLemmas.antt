-- What is printed for a value reads back as the value.
use Rattle.std.proofs.Common.{◌≡◌, ◌≤◌, ℕ, suc, max, ℤ, pos, negsuc, Bool, false, ◌||◌, List, [], ◌∷◌, Option, Some, None, Result, Ok, Err, option_map, option_and_then, Less, Greater, IfOk, IsUtf8, String, Global, string_bytes, refl, sym, ap, subst, ◌∙◌, arith, append-nil, true≢false}
use Rattle.std.specs.Prelude.{⊤}
use Rattle.std.specs.List.{AllByRecursion}
use Rattle.std.specs.List.Sorted.{IsStrictlySortedBy}
use Rattle.std.specs.Ordering.{ordering_reverse}
use Rattle.std.proofs.lemmas.Cmp.{nat_list_cmp_total}
use Rattle.std.proofs.lemmas.Str.{IsUtf8-string_bytes}
use Rattle.json.specs.Print.{print}
use Rattle.json.specs.Json as json
use Rattle.json.specs.Tree as tree
use Rattle.json.specs.Tree.{json_tokens}
use Rattle.json.proofs.Printed.Tokens.{tokens-print}
use Rattle.json.proofs.Printed.Trees.{value-json_tokens, ArePrintable-json_tokens}
use Rattle.serde_json.specs.Data.{Num, unsigned, negative, Data, null, boolean, number, string, array, object, Items, no_items, item, Members, no_members, member, put}
use Rattle.serde_json.specs.Read.{read, max_depth, of_json, of_items, of_members}
use Rattle.serde_json.specs.Written.{outline, items_outline, members_outline, has_float, items_have_float, members_have_float}
use Rattle.serde_json.proofs.Numbers.{number_of-decimal, number_of-negative}
use Rattle.serde_json.proofs.Texts.{print-outline}
use Rattle.lf_sorted.specs.Entries.{text_cmp}
use Rattle.lf_model.specs.JsonData as j
use Rattle.lf_model.specs.declared.json.Json.{Json}
use Rattle.def_documents.specs.JsonPrint.{json_text}
use Rattle.lf_json.specs.declared.read.JsonErr.{JsonErr}
use Rattle.lf_json.specs.declared.read.JsonErr.TheVariants.{NotJson, Fractional, Memory}
use Rattle.lf_json.specs.Reading.{json_of, items_json, members_json, fraction_in, fraction_in_items, fraction_in_members, found_or, pointer_place, pointer_key, may_be_fraction}
use Rattle.lf_json.specs.Tokens.{has_fraction, items_have_fraction, members_have_fraction}
use Rattle.lf_json.specs.Answers.{Reads}
use Rattle.lf_json.specs.ReadBack.{IsWord, HasWords, ItemsHaveWords, MembersHaveWords, nesting, items_nesting, members_nesting, member_keys, InKeyOrder, ItemsInKeyOrder, MembersInKeyOrder, IsReadable, ReadsAs, GivesBack, EachReadingGivesBack}
use Rattle.lf_json.proofs.Compact.{first_false, second_false, text_is_compact}
use Rattle.lf_json.proofs.Decimals.{IsNumber-whole}

-- ---- the value as `serde_json` sees it; a fraction, which isn't printed, is null here

abbrev number_seen : ℤ → Num
number_seen (pos n) = unsigned n
number_seen (negsuc n) = negative (negsuc n)

abbrev mutual
  seen : j.JsonValue → Data
  seen j.null = null
  seen (j.truth b) = boolean b
  seen (j.whole n) = number (number_seen n)
  seen j.fraction = null
  seen (j.text s) = string s
  seen (j.array items) = array (items_seen items)
  seen (j.object members) = object (members_seen members)

  items_seen : j.JsonItems → Items
  items_seen j.no_items = no_items
  items_seen (j.item value rest) = item (seen value) (items_seen rest)

  members_seen : j.JsonMembers → Members
  members_seen j.no_members = no_members
  members_seen (j.member key value rest) = member key (seen value) (members_seen rest)

whole_again : (z : ℤ) → json_of (number (number_seen z)) ≡ j.whole z
whole_again (pos n) = refl
whole_again (negsuc n) = refl

mutual
  json_of-seen : (value : j.JsonValue) → has_fraction value ≡ false → json_of (seen value) ≡ value
  json_of-seen j.null w = refl
  json_of-seen (j.truth b) w = refl
  json_of-seen (j.whole n) w = whole_again n
  json_of-seen j.fraction w = absurd (true≢false w)
  json_of-seen (j.text s) w = refl
  json_of-seen (j.array items) w = ap j.array (items_json-seen items w)
  json_of-seen (j.object members) w = ap j.object (members_json-seen members w)

  items_json-seen : (items : j.JsonItems) → items_have_fraction items ≡ false → items_json (items_seen items) ≡ items
  items_json-seen j.no_items w = refl
  items_json-seen (j.item value rest) w = λ i. j.item (json_of-seen value (first_false _ _ w) i) (items_json-seen rest (second_false (has_fraction value) _ w) i)

  members_json-seen : (members : j.JsonMembers) → members_have_fraction members ≡ false → members_json (members_seen members) ≡ members
  members_json-seen j.no_members w = refl
  members_json-seen (j.member key value rest) w = λ i. j.member key (json_of-seen value (first_false _ _ w) i) (members_json-seen rest (second_false (has_fraction value) _ w) i)

no_float : (z : ℤ) → has_float (number (number_seen z)) ≡ false
no_float (pos n) = refl
no_float (negsuc n) = refl

both_false : (a b : Bool) → a ≡ false → b ≡ false → (a || b) ≡ false
both_false a b p q = rw (p, q) refl

mutual
  has_float-seen : (value : j.JsonValue) → has_float (seen value) ≡ false
  has_float-seen j.null = refl
  has_float-seen (j.truth b) = refl
  has_float-seen (j.whole n) = no_float n
  has_float-seen j.fraction = refl
  has_float-seen (j.text s) = refl
  has_float-seen (j.array items) = items_have_float-seen items
  has_float-seen (j.object members) = members_have_float-seen members

  items_have_float-seen : (items : j.JsonItems) → items_have_float (items_seen items) ≡ false
  items_have_float-seen j.no_items = refl
  items_have_float-seen (j.item value rest) = both_false (has_float (seen value)) _ (has_float-seen value) (items_have_float-seen rest)

  members_have_float-seen : (members : j.JsonMembers) → members_have_float (members_seen members) ≡ false
  members_have_float-seen j.no_members = refl
  members_have_float-seen (j.member key value rest) = both_false (has_float (seen value)) _ (has_float-seen value) (members_have_float-seen rest)

no_fraction : (allowed : Bool) (z : ℤ) → fraction_in allowed (number (number_seen z)) ≡ None
no_fraction allowed (pos n) = refl
no_fraction allowed (negsuc n) = refl

neither : (part : List ℕ) (here later : Option (List ℕ)) → here ≡ None → later ≡ None → found_or part here later ≡ None
neither part here later p q = rw p q

mutual
  fraction_in-seen : (allowed : Bool) (value : j.JsonValue) → fraction_in allowed (seen value) ≡ None
  fraction_in-seen allowed j.null = refl
  fraction_in-seen allowed (j.truth b) = refl
  fraction_in-seen allowed (j.whole n) = no_fraction allowed n
  fraction_in-seen allowed j.fraction = refl
  fraction_in-seen allowed (j.text s) = refl
  fraction_in-seen allowed (j.array items) = fraction_in_items-seen 0 items
  fraction_in-seen allowed (j.object members) = fraction_in_members-seen members

  fraction_in_items-seen : (place : ℕ) (items : j.JsonItems) → fraction_in_items place (items_seen items) ≡ None
  fraction_in_items-seen place j.no_items = refl
  fraction_in_items-seen place (j.item value rest) = neither (pointer_place place) _ _ (fraction_in-seen false value) (fraction_in_items-seen (suc place) rest)

  fraction_in_members-seen : (members : j.JsonMembers) → fraction_in_members (members_seen members) ≡ None
  fraction_in_members-seen j.no_members = refl
  fraction_in_members-seen (j.member key value rest) = neither (pointer_key key) _ _ (fraction_in-seen (may_be_fraction key) value) (fraction_in_members-seen rest)

-- ---- the depth

mutual
  depth-seen : (value : j.JsonValue) → tree.depth (outline (seen value)) ≡ nesting value
  depth-seen j.null = refl
  depth-seen (j.truth b) = refl
  depth-seen (j.whole n) = refl
  depth-seen j.fraction = refl
  depth-seen (j.text s) = refl
  depth-seen (j.array items) = ap suc (items_depth-seen items)
  depth-seen (j.object members) = ap suc (members_depth-seen members)

  items_depth-seen : (items : j.JsonItems) → tree.items_depth (items_outline (items_seen items)) ≡ items_nesting items
  items_depth-seen j.no_items = refl
  items_depth-seen (j.item value rest) = λ i. max (depth-seen value i) (items_depth-seen rest i)

  members_depth-seen : (members : j.JsonMembers) → tree.members_depth (members_outline (members_seen members)) ≡ members_nesting members
  members_depth-seen j.no_members = refl
  members_depth-seen (j.member key value rest) = λ i. max (depth-seen value i) (members_depth-seen rest i)

-- ---- the numbers

mutual
  HasNumbers-seen : (value : j.JsonValue) → HasWords value → tree.HasNumbers (outline (seen value))
  HasNumbers-seen j.null h = tt
  HasNumbers-seen (j.truth b) h = tt
  HasNumbers-seen (j.whole (pos n)) h = IsNumber-whole (pos n) (omega arith)
  HasNumbers-seen (j.whole (negsuc n)) h = IsNumber-whole (negsuc n) (omega arith)
  HasNumbers-seen j.fraction h = tt
  HasNumbers-seen (j.text s) h = tt
  HasNumbers-seen (j.array items) h = ItemsHaveNumbers-seen items h
  HasNumbers-seen (j.object members) h = MembersHaveNumbers-seen members h

  ItemsHaveNumbers-seen : (items : j.JsonItems) → ItemsHaveWords items → tree.ItemsHaveNumbers (items_outline (items_seen items))
  ItemsHaveNumbers-seen j.no_items h = tt
  ItemsHaveNumbers-seen (j.item value rest) h = (HasNumbers-seen value h.0, ItemsHaveNumbers-seen rest h.1)

  MembersHaveNumbers-seen : (members : j.JsonMembers) → MembersHaveWords members → tree.MembersHaveNumbers (members_outline (members_seen members))
  MembersHaveNumbers-seen j.no_members h = tt
  MembersHaveNumbers-seen (j.member key value rest) h = (HasNumbers-seen value h.0, MembersHaveNumbers-seen rest h.1)

-- ---- members that go in one after another

abbrev joined : Members → Members → Members
joined no_members more = more
joined (member k d ms) more = member k d (joined ms more)

-- each key is below this one
abbrev AllBelow : List ℕ → Members → Type 0
AllBelow key no_members = ⊤
AllBelow key (member k d ms) = (text_cmp k key ≡ Less) × AllBelow key ms

-- each key is below all of these
abbrev EachBelow : Members → List (List ℕ) → Type 0
EachBelow no_members keys = ⊤
EachBelow (member k d ms) keys = AllByRecursion (λ y. text_cmp k y ≡ Less) keys × EachBelow ms keys

put-last : (key : List ℕ) (value : Data) (found : Members) → AllBelow key found → put key value found ≡ joined found (member key value no_members)
put-last key value no_members h = refl
put-last key value (member k d ms) h =
    let above : text_cmp key k ≡ Greater = nat_list_cmp_total.antisymm key k ∙ ap ordering_reverse h.0 in
    rw above (ap (member k d) (put-last key value ms h.1))

first_below : (key : List ℕ) (keys : List (List ℕ)) (found : Members) → EachBelow found (key ∷ keys) → AllBelow key found
first_below key keys no_members h = tt
first_below key keys (member k d ms) h = (h.0.0, first_below key keys ms h.1)

one_more : (key : List ℕ) (value : Data) (keys : List (List ℕ)) (found : Members) → EachBelow found (key ∷ keys) → AllByRecursion (λ y. text_cmp key y ≡ Less) keys
    → EachBelow (joined found (member key value no_members)) keys
one_more key value keys no_members h above = (above, tt)
one_more key value keys (member k d ms) h above = (h.0.1, one_more key value keys ms h.1 above)

joined-assoc : (found : Members) (key : List ℕ) (value : Data) (more : Members) → joined (joined found (member key value no_members)) more ≡ joined found (member key value more)
joined-assoc no_members key value more = refl
joined-assoc (member k d ms) key value more = ap (member k d) (joined-assoc ms key value more)

joined-none : (found : Members) → found ≡ joined found no_members
joined-none no_members = refl
joined-none (member k d ms) = ap (member k d) (joined-none ms)

-- ---- what the grammar reads of the outline

number_again : (z : ℤ) → IsWord z → of_json (outline (number (number_seen z))) ≡ Some (number (number_seen z))
number_again (pos n) h = ap (option_map number) (number_of-decimal n h)
number_again (negsuc n) h = ap (option_map number) (number_of-negative n h)

mutual
  unfolding IsStrictlySortedBy

  of_json-seen : (value : j.JsonValue) → HasWords value → InKeyOrder value → of_json (outline (seen value)) ≡ Some (seen value)
  of_json-seen j.null h o = refl
  of_json-seen (j.truth b) h o = refl
  of_json-seen (j.whole n) h o = number_again n h
  of_json-seen j.fraction h o = refl
  of_json-seen (j.text s) h o = refl
  of_json-seen (j.array items) h o = ap (option_map array) (of_items-seen items h o)
  of_json-seen (j.object members) h o = ap (option_map object) (of_members-seen members no_members h o.0 o.1 tt)

  of_items-seen : (items : j.JsonItems) → ItemsHaveWords items → ItemsInKeyOrder items → of_items (items_outline (items_seen items)) ≡ Some (items_seen items)
  of_items-seen j.no_items h o = refl
  of_items-seen (j.item value rest) h o =
      ap (option_and_then (λ d. option_map (item d) (of_items (items_outline (items_seen rest))))) (of_json-seen value h.0 o.0)
      ∙ ap (option_map (item (seen value))) (of_items-seen rest h.1 o.1)

  of_members-seen : (members : j.JsonMembers) (found : Members) → MembersHaveWords members → IsStrictlySortedBy text_cmp (member_keys members) → MembersInKeyOrder members → EachBelow found (member_keys members)
      → of_members (members_outline (members_seen members)) found ≡ Some (joined found (members_seen members))
  of_members-seen j.no_members found h sorted o below = ap Some (joined-none found)
  of_members-seen (j.member key value rest) found h sorted o below =
      ap (option_and_then (λ d. of_members (members_outline (members_seen rest)) (put key d found))) (of_json-seen value h.0 o.0)
      ∙ ap (of_members (members_outline (members_seen rest))) (put-last key (seen value) found (first_below key (member_keys rest) found below))
      ∙ of_members-seen rest (joined found (member key (seen value) no_members)) h.1 sorted.1 o.1 (one_more key (seen value) (member_keys rest) found below sorted.0)
      ∙ ap Some (joined-assoc found key (seen value) (members_seen rest))

-- ---- the text

text-seen : (value : j.JsonValue) → has_fraction value ≡ false → json_text value ≡ print (json_tokens (outline (seen value)))
text-seen value w = ap json_text (sym (json_of-seen value w)) ∙ text_is_compact (seen value) (has_float-seen value) ∙ sym (print-outline (seen value))

read-printed : (d : Data) → tree.HasNumbers (outline d) → tree.depth (outline d) ≤ 127 → read (print (json_tokens (outline d))) ≡ of_json (outline d)
read-printed d numbers shallow =
    let ts = json_tokens (outline d) in
    ap (λ read. option_and_then of_json (option_and_then (λ p. json.if_last p.0 p.1) read))
    (ap (json.value max_depth) (tokens-print ts (ArePrintable-json_tokens (outline d) numbers) ∙ sym (append-nil ts))
    ∙ value-json_tokens (outline d) max_depth [] shallow)

pub reads_as : (value : j.JsonValue) → has_fraction value ≡ false → InKeyOrder value → IsReadable value → IsUtf8 (json_text value) → ReadsAs (json_text value) value
reads_as value w order readable utf8 =
    let shallow : tree.depth (outline (seen value)) ≤ 127 = rw (depth-seen value) readable.1 in
    let printed : read (json_text value) ≡ Some (seen value) =
    ap read (text-seen value w) ∙ read-printed (seen value) (HasNumbers-seen value readable.0) shallow ∙ of_json-seen value readable.0 order in
    (seen value, (utf8, printed), fraction_in-seen false value, json_of-seen value w)

-- ---- whoever reads it

abbrev pick : {A : Type 0} → A → Option A → A
pick d None = d
pick d (Some a) = a

one_value : (bytes : List ℕ) (d e : Data) → read bytes ≡ Some d → read bytes ≡ Some e → d ≡ e
one_value bytes d e p q = ap (pick d) (sym p ∙ q)

gives_back : (bytes : List ℕ) (value : j.JsonValue) → ReadsAs bytes value → (result : Result Json JsonErr) → Reads bytes result → GivesBack value result
gives_back bytes value h (Ok json) r = r.3 ∙ ap json_of (one_value bytes r.0 h.0 r.1.1 h.1.1) ∙ h.3
gives_back bytes value h (Err NotJson) r = let none : read bytes ≡ None = r h.1.0 in absurd (cc)
gives_back bytes value h (Err (Fractional path)) r =
    let same : fraction_in false h.0 ≡ fraction_in false r.0 = ap (fraction_in false) (one_value bytes h.0 r.0 h.1.1 r.1.1) in absurd (cc)
gives_back bytes value h (Err Memory) r = tt

pub each_reading_gives_back : EachReadingGivesBack
each_reading_gives_back = gives_back

-- ---- the answers of the writer

pub string_is_utf8 : {E : Type 0} (result : Result (List ℕ) E) (s : String Global) → IfOk result (λ t. t ≡ string_bytes s) → IfOk result (λ t. IsUtf8 t)
string_is_utf8 (Ok t) s is = subst IsUtf8 (sym is) (IsUtf8-string_bytes s)
string_is_utf8 (Err e) s is = tt

pub printed_reads_back : {E : Type 0} (result : Result (List ℕ) E) (value : j.JsonValue) → has_fraction value ≡ false → InKeyOrder value → IfOk result (λ t. t ≡ json_text value) → IfOk result (λ t. IsUtf8 t)
    → IsReadable value → IfOk result (λ t. ReadsAs t value)
printed_reads_back (Ok t) value w order is utf8 readable = subst (λ bytes. ReadsAs bytes value) (sym is) (reads_as value w order readable (subst IsUtf8 is utf8))
printed_reads_back (Err e) value w order is utf8 readable = tt
