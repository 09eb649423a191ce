-- Tokens that are written one value after another.
use Rattle.std.proofs.Common.{◌≡◌, false, ℕ, zero, suc, ◌+◌, ◌<◌, List, [], ◌∷◌, ◌++◌, length, drop, get_or, sym, ap, ◌∙◌, append_assoc, arith}
use Rattle.json.specs.Written.{Written}
use Rattle.json.specs.Token as t
use Rattle.json.specs.Token.{Token}
use Rattle.lf_sorted.specs.declared.map.Entry.{Entry}
use Rattle.lf_model.specs.declared.json.Json.{Json}
use Rattle.lf_model.specs.JsonBridge.{json_data, items_data, members_data}
use Rattle.lf_json.specs.Tokens.{Appends, value_tokens, item_tokens, member_tokens, has_fraction, items_have_fraction, members_have_fraction}
use Rattle.lf_json.proofs.Compact.{first_false, second_false}

-- what is written and what is still to come make the whole
pub record Going (first now : Written) (left whole : List Token) : Type 0 where
  pub before : now.before ≡ first.before
  pub tokens : now.tokens ++ left ≡ first.tokens ++ whole

pub going_on : (first old new : Written) (left here later whole : List Token) → Going first old left whole → Appends old new here → left ≡ here ++ later → Going first new later whole
going_on first old new left here later whole h step parts =
    record {
      before = step.before ∙ h.before;
      tokens = ap (λ l. l ++ later) step.tokens ∙ append_assoc old.tokens here later ∙ ap (λ l. old.tokens ++ l) (sym parts) ∙ h.tokens;
    }

item_at : (xs : List Json) (i : ℕ) (x : Json) → i < length xs → x ≡ get_or xs i x → item_tokens (items_data (drop i xs)) ≡ value_tokens (json_data x) ++ item_tokens (items_data (drop (suc i) xs))
item_at [] i x within is = absurd (omega arith)
item_at (y ∷ ys) zero x within is = ap (λ z. value_tokens (json_data z) ++ item_tokens (items_data ys)) (sym is)
item_at (y ∷ ys) (suc i) x within is = item_at ys i x (omega arith) is

pub item_next : (xs : List Json) (i : ℕ) (x : Json) → i < length xs → x ≡ get_or xs i x → item_tokens (items_data (drop i xs)) ≡ value_tokens (json_data x) ++ item_tokens (items_data (drop (i + 1) xs))
item_next xs i x within is = let next : i + 1 ≡ suc i = omega arith in rw next (item_at xs i x within is)

pub item_whole : (xs : List Json) (i : ℕ) (x : Json) → i < length xs → x ≡ get_or xs i x → items_have_fraction (items_data xs) ≡ false → has_fraction (json_data x) ≡ false
item_whole [] i x within is all = absurd (omega arith)
item_whole (y ∷ ys) zero x within is all = ap (λ z. has_fraction (json_data z)) is ∙ first_false _ _ all
item_whole (y ∷ ys) (suc i) x within is all = item_whole ys i x (omega arith) is (second_false (has_fraction (json_data y)) _ all)

member_at : (es : List (Entry Json)) (i : ℕ) (e : Entry Json) → i < length es → e ≡ get_or es i e → member_tokens (members_data (drop i es)) ≡ (t.key e.key ∷ value_tokens (json_data e.value)) ++ member_tokens (members_data (drop (suc i) es))
member_at [] i e within is = absurd (omega arith)
member_at (f ∷ fs) zero e within is = ap (λ (z : Entry Json). (t.key z.key ∷ value_tokens (json_data z.value)) ++ member_tokens (members_data fs)) (sym is)
member_at (f ∷ fs) (suc i) e within is = member_at fs i e (omega arith) is

pub member_next : (es : List (Entry Json)) (i : ℕ) (e : Entry Json) → i < length es → e ≡ get_or es i e → member_tokens (members_data (drop i es)) ≡ (t.key e.key ∷ value_tokens (json_data e.value)) ++ member_tokens (members_data (drop (i + 1) es))
member_next es i e within is = let next : i + 1 ≡ suc i = omega arith in rw next (member_at es i e within is)

pub member_whole : (es : List (Entry Json)) (i : ℕ) (e : Entry Json) → i < length es → e ≡ get_or es i e → members_have_fraction (members_data es) ≡ false → has_fraction (json_data e.value) ≡ false
member_whole [] i e within is all = absurd (omega arith)
member_whole (f ∷ fs) zero e within is all = ap (λ (z : Entry Json). has_fraction (json_data z.value)) is ∙ first_false _ _ all
member_whole (f ∷ fs) (suc i) e within is all = member_whole fs i e (omega arith) is (second_false (has_fraction (json_data f.value)) _ all)

pub two_steps : (one two three : Written) (first second : List Token) → Appends one two first → Appends two three second → Appends one three (first ++ second)
two_steps one two three first second a b =
    record { before = b.before ∙ a.before; tokens = b.tokens ∙ ap (λ l. l ++ second) a.tokens ∙ append_assoc one.tokens first second }

-- the bracket, all values and the closing bracket
pub closed : (start first now end : Written) (opening close : Token) (whole : List Token) → Appends start first (opening ∷ []) → Going first now (close ∷ []) whole → Appends now end (close ∷ []) → Appends start end (opening ∷ whole)
closed start first now end opening close whole a h b =
    record {
      before = b.before ∙ h.before ∙ a.before;
      tokens = b.tokens ∙ h.tokens ∙ ap (λ l. l ++ whole) a.tokens ∙ append_assoc start.tokens (opening ∷ []) whole;
    }
