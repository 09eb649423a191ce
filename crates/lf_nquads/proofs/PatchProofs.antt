-- Reading line after line.
use Rattle.std.proofs.Common.{◌≡◌, ℕ, suc, ◌+◌, ◌<◌, ◌≤◌, Bool, true, false, cond, List, [], ◌∷◌, ◌++◌, length, take, drop, Option, Some, None, Result, Ok, Err, refl, sym, ap, subst, ◌∙◌, append_assoc, arith, inl, inr}
use Rattle.std.specs.Prelude.{nat_eq, ◌⊎◌, IfOk, IsErrOf, IsUtf8}
use Rattle.std.specs.List.{prefix_len, AllByRecursion}
use Rattle.std.specs.Result.{result_ok}
use Rattle.std.specs.Str.{chars}
use Rattle.std.proofs.lemmas.Bool.{eqb-true, not-true, or_parts}
use Rattle.std.proofs.lemmas.List.{length-append, length-drop}
use Rattle.std.proofs.lemmas.Str.{encodes-chars, scalars-chars}
use Rattle.lf_rdf.specs.declared.quad.Signed.{Signed}
use Rattle.lf_rdf.specs.declared.quad.Patch.{Patch}
use Rattle.def_patch_texts.specs.declared.kind.LineKind.{LineKind}
use Rattle.def_patch_texts.specs.declared.kind.LineKind.TheVariants.{Syntax, RelativeIri, BadEscape, NotUtf8, LineTooLong}
use Rattle.def_patch_texts.specs.PatchText.{absolute_iris, is_line_end, lines_from, lines_of, line_limit, IsEncoded, IsLine, with_stated, AreLines, IsPatchText}
use Rattle.def_patch_texts.specs.BadLine.{HasFault, IsKind, IsGood, IsBadLine}
use Rattle.def_patch_texts.specs.Reading.{line_at}
use Rattle.def_patch_texts.proofs.Faults.{not_good}
use Rattle.def_patch_texts.proofs.Lines.{one_list}
use Rattle.def_patch_texts.proofs.BadLines.{never_both, one_bad_line}
use Rattle.lf_nquads.specs.Outcomes.{line_of}
use Rattle.lf_nquads.specs.declared.error.LineErr.{LineErr}
use Rattle.lf_nquads.specs.declared.error.LineErr.TheVariants as err
use Rattle.lf_nquads.specs.declared.error.Fault.{Fault}
use Rattle.lf_nquads.specs.declared.error.Fault.TheVariants as fault
use Rattle.lf_nquads.specs.Gives.{Gives}
use Rattle.lf_nquads.specs.Patches.{IsBadOf, Judges, Takes, is_inside, without_lf, behind_end, IfBad}
use Rattle.lf_nquads.proofs.AsRead.{line_same}
use Rattle.lf_nquads.proofs.LineWalk.{line_gives, line_kind}

-- ---- lines

lines_behind : Option (List ℕ) → List (List ℕ)
lines_behind None = []
lines_behind (Some text) = lines_of text

behind_cr : (text : List ℕ) → lines_from true text ≡ lines_of (without_lf text)
behind_cr [] = refl
behind_cr (c ∷ text) = go (nat_eq c 10) refl
  where
    go : (b : Bool) → nat_eq c 10 ≡ b → lines_from true (c ∷ text) ≡ lines_of (cond b text (c ∷ text))
    go true e =
        let same : c ≡ 10 = eqb-true c 10 e in
        ap (λ (d : ℕ). lines_from true (d ∷ text)) same
    go false e = rw e refl

line_step : (c : ℕ) (text : List ℕ) (r : List (List ℕ)) → is_inside c ≡ true → lines_of text ≡ take (prefix_len is_inside text) text ∷ r
    → lines_of (c ∷ text) ≡ take (prefix_len is_inside (c ∷ text)) (c ∷ text) ∷ r
line_step c text r h e =
    let no_end = or_parts (nat_eq c 13) (nat_eq c 10) (not-true (is_line_end c) h) in
    let n : 1 + prefix_len is_inside text ≡ suc (prefix_len is_inside text) = omega arith in
    rw (no_end.0, no_end.1, n, e) refl

first_line : (text : List ℕ) → lines_of text ≡ take (prefix_len is_inside text) text ∷ lines_behind (behind_end (drop (prefix_len is_inside text) text))
unfolding lines_behind
first_line [] = refl
first_line (c ∷ text) = go (nat_eq c 13) (nat_eq c 10) refl refl (first_line text)
  where
    go : (a b : Bool) → nat_eq c 13 ≡ a → nat_eq c 10 ≡ b → lines_of text ≡ take (prefix_len is_inside text) text ∷ lines_behind (behind_end (drop (prefix_len is_inside text) text))
        → lines_of (c ∷ text) ≡ take (prefix_len is_inside (c ∷ text)) (c ∷ text) ∷ lines_behind (behind_end (drop (prefix_len is_inside (c ∷ text)) (c ∷ text)))
    go true b ea eb rest = rw (ea, ea) (ap (λ (ls : List (List ℕ)). [] ∷ ls) (behind_cr text))
    go false true ea eb rest = rw (ea, eb, ea) refl
    go false false ea eb rest =
        let n : 1 + prefix_len is_inside text ≡ suc (prefix_len is_inside text) = omega arith in
        rw (ea, eb, n, rest) refl

behind_shorter : (end after : List ℕ) → behind_end end ≡ Some after → length after < length end
behind_shorter [] after e = absurd cc
behind_shorter (c ∷ rest) after e = go (nat_eq c 13) e
  where
    without_shorter : (rest : List ℕ) → length (without_lf rest) ≤ length rest
    without_shorter [] = omega arith
    without_shorter (d ∷ rest) = pick (nat_eq d 10)
      where
        pick : (b : Bool) → length (cond b rest (d ∷ rest)) ≤ suc (length rest)
        pick true = omega arith
        pick false = omega arith

    some_is : (x y : List ℕ) → ◌≡◌ {A = Option (List ℕ)} (Some x) (Some y) → x ≡ y
    some_is x y e = cc

    go : (b : Bool) → ◌≡◌ {A = Option (List ℕ)} (Some (cond b (without_lf rest) rest)) (Some after) → length after < suc (length rest)
    go true e = let same : without_lf rest ≡ after = some_is (without_lf rest) after e in rw (← same) (let le = without_shorter rest in omega (arith, le))
    go false e = let same : rest ≡ after = some_is rest after e in rw (← same) (omega arith)

-- ---- one line

pub too_long : (bytes : List ℕ) → line_limit < length bytes → IsBadOf bytes LineTooLong
too_long bytes long = (long, λ g. let short : length bytes ≤ line_limit = g.1.0 in omega arith)

pub no_utf8 : (bytes : List ℕ) → length bytes ≤ line_limit → (IsUtf8 bytes → ⊥) → IsBadOf bytes NotUtf8
no_utf8 bytes short never = ((short, never), λ g. never (g.1.1, (g.1.2.scalars, g.1.2.encoded)))

text_encoded : (bytes : List ℕ) → IsUtf8 bytes → IsEncoded bytes (chars bytes)
text_encoded bytes u = record { scalars = scalars-chars bytes u; encoded = encodes-chars bytes u }

pub line_states : (bytes : List ℕ) (stated : Option Signed) → length bytes ≤ line_limit → IsUtf8 bytes → line_of absolute_iris (chars bytes) ≡ Ok stated → IsLine bytes stated
line_states bytes stated short u e = (short, chars bytes, text_encoded bytes u, line_gives absolute_iris (chars bytes) stated e)

of_kind : (bytes : List ℕ) (kind : LineKind) → length bytes ≤ line_limit → HasFault bytes kind → IsKind bytes kind
of_kind bytes Syntax short fault_ = (short, fault_)
of_kind bytes RelativeIri short fault_ = (short, fault_)
of_kind bytes BadEscape short fault_ = (short, fault_)
of_kind bytes NotUtf8 short fault_ = absurd fault_.2.2
of_kind bytes LineTooLong short fault_ = absurd fault_.2.2

pub line_is_bad : (bytes : List ℕ) (kind : LineKind) → length bytes ≤ line_limit → IsUtf8 bytes → line_of absolute_iris (chars bytes) ≡ Err kind → IsBadOf bytes kind
line_is_bad bytes kind short u e =
    let encoded = text_encoded bytes u in
    let refused : line_at absolute_iris (chars bytes) ≡ None = sym (line_same absolute_iris (chars bytes)) ∙ ap result_ok e in
    (of_kind bytes kind short (chars bytes, encoded, line_kind (chars bytes) kind e), not_good bytes (chars bytes) encoded refused)

pub judges_text : (bytes text : List ℕ) (r : Result (Option Signed) Fault) → length bytes ≤ line_limit → text ≡ bytes → IsUtf8 bytes → Gives (λ (s : Option Signed). s) r (line_of absolute_iris (chars text)) → Judges bytes r
judges_text bytes text (Ok stated) short same u h = line_states bytes stated short u (sym (ap (λ (t : List ℕ). line_of absolute_iris (chars t)) same) ∙ h)
judges_text bytes text (Err fault.Memory) short same u h = tt
judges_text bytes text (Err (fault.Bad kind)) short same u h = line_is_bad bytes kind short u (sym (ap (λ (t : List ℕ). line_of absolute_iris (chars t)) same) ∙ h)

-- ---- line after line

-- the lines before this text, with what they state
pub record UnderWay (bytes : List ℕ) (lines : List Signed) (number : ℕ) (text : List ℕ) : Type 0 where
  pub before : List (List ℕ)
  pub cut : lines_of bytes ≡ before ++ lines_of text
  pub counted : number ≡ length before
  pub are : AreLines before lines
  pub fits : number + length text ≤ length bytes

pub begins : (bytes : List ℕ) → UnderWay bytes [] 0 bytes
begins bytes = record { before = []; cut = refl; counted = refl; are = refl; fits = omega arith }

stated-append : (stated : Option Signed) (a b : List Signed) → with_stated stated (a ++ b) ≡ with_stated stated a ++ b
stated-append None a b = refl
stated-append (Some s) a b = refl

lines-append : (before after : List (List ℕ)) (a b : List Signed) → AreLines before a → AreLines after b → AreLines (before ++ after) (a ++ b)
lines-append [] after a b ha hb = subst (λ (x : List Signed). AreLines after (x ++ b)) (sym ha) hb
lines-append (line ∷ before) after a b ha hb =
    (ha.0, ha.1 ++ b, ha.2, lines-append before after ha.1 b ha.3 hb, ap (λ (x : List Signed). x ++ b) ha.4 ∙ sym (stated-append ha.0 ha.1 b))

one_more : (before : List (List ℕ)) (lines : List Signed) (line : List ℕ) (stated : Option Signed) → AreLines before lines → IsLine line stated → AreLines (before ++ line ∷ []) (lines ++ with_stated stated [])
one_more before lines line stated ha h = lines-append before (line ∷ []) lines (with_stated stated []) ha (stated, [], h, refl, refl)

all_good : (before : List (List ℕ)) (lines : List Signed) → AreLines before lines → AllByRecursion IsGood before
all_good [] lines h = tt
all_good (line ∷ before) lines h = ((h.0, h.2), all_good before h.1 h.3)

cut_here : (text line end : List ℕ) (n : ℕ) → n ≡ prefix_len is_inside text → line ≡ take n text → end ≡ drop n text → lines_of text ≡ line ∷ lines_behind (behind_end end)
cut_here text line end n hn hl he =
    first_line text
    ∙ ap (λ (k : ℕ). take k text ∷ lines_behind (behind_end (drop k text))) (sym hn)
    ∙ ap (λ (t : List ℕ). t ∷ lines_behind (behind_end (drop n text))) (sym hl)
    ∙ ap (λ (t : List ℕ). line ∷ lines_behind (behind_end t)) (sym he)

-- a line that is good, and a text behind it
pub goes_on : (bytes : List ℕ) (lines more : List Signed) (number : ℕ) (text line end after : List ℕ) (n : ℕ) (stated : Option Signed) → UnderWay bytes lines number text
    → n ≡ prefix_len is_inside text → line ≡ take n text → end ≡ drop n text → IsLine line stated → more ≡ lines ++ with_stated stated [] → behind_end end ≡ Some after
    → UnderWay bytes more (number + 1) after
unfolding lines_behind
goes_on bytes lines more number text line end after n stated u hn hl he h added rest =
    let here : lines_of text ≡ line ∷ lines_of after = cut_here text line end n hn hl he ∙ ap (λ (o : Option (List ℕ)). line ∷ lines_behind o) rest in
    record {
      before = u.before ++ line ∷ [];
      cut = u.cut ∙ ap (λ (ls : List (List ℕ)). u.before ++ ls) here ∙ sym (append_assoc u.before (line ∷ []) (lines_of after));
      counted = omega (arith, u.counted, length-append u.before (line ∷ []));
      are = subst (λ (x : List Signed). AreLines (u.before ++ line ∷ []) x) (sym added) (one_more u.before lines line stated u.are h);
      fits =
          let less : length after < length end = behind_shorter end after rest in
          let size : length end ≤ length text = rw he (omega (arith, length-drop n text)) in
          let room : number + length text ≤ length bytes = u.fits in omega (arith, less, size, room);
    }

pub after_shorter : (text end after : List ℕ) (n : ℕ) → end ≡ drop n text → behind_end end ≡ Some after → length after < length text
after_shorter text end after n he rest =
    let less : length after < length end = behind_shorter end after rest in
    let size : length end ≤ length text = rw he (omega (arith, length-drop n text)) in omega (arith, less, size)

-- a line that is good, and nothing behind it
pub is_whole : (bytes : List ℕ) (lines more : List Signed) (number : ℕ) (text line end : List ℕ) (n : ℕ) (stated : Option Signed) → UnderWay bytes lines number text
    → n ≡ prefix_len is_inside text → line ≡ take n text → end ≡ drop n text → IsLine line stated → more ≡ lines ++ with_stated stated [] → behind_end end ≡ None
    → IsPatchText bytes more
unfolding lines_behind
is_whole bytes lines more number text line end n stated u hn hl he h added rest =
    let here : lines_of text ≡ line ∷ [] = cut_here text line end n hn hl he ∙ ap (λ (o : Option (List ℕ)). line ∷ lines_behind o) rest in
    subst (λ (ls : List (List ℕ)). AreLines ls more) (sym (u.cut ∙ ap (λ (ls : List (List ℕ)). u.before ++ ls) here))
    (subst (λ (x : List Signed). AreLines (u.before ++ line ∷ []) x) (sym added) (one_more u.before lines line stated u.are h))

-- a line that is bad
pub is_first_bad : (bytes : List ℕ) (lines : List Signed) (number m : ℕ) (text line end : List ℕ) (n : ℕ) (kind : LineKind) → UnderWay bytes lines number text
    → n ≡ prefix_len is_inside text → line ≡ take n text → end ≡ drop n text → m ≡ number + 1 → IsBadOf line kind → IsBadLine bytes m kind
is_first_bad bytes lines number m text line end n kind u hn hl he counted bad = (
  line,
  record {
    before = u.before;
    after = lines_behind (behind_end end);
    cut = u.cut ∙ ap (λ (ls : List (List ℕ)). u.before ++ ls) (cut_here text line end n hn hl he);
    counted = counted ∙ ap (λ (k : ℕ). k + 1) u.counted;
    good_before = all_good u.before lines u.are;
    is_bad = bad.1;
  },
  bad.0,
)

-- ---- both ways

-- what is answered is so
abbrev pub Sound : List ℕ → Result Patch LineErr → Type 0
Sound bytes result = IfOk result (λ patch. IsPatchText bytes patch.lines) × IfOk result (λ patch. patch.bytes ≡ length bytes) × IfBad result (λ line kind. IsBadLine bytes line kind)

pub finds_all : (bytes : List ℕ) (result : Result Patch LineErr) → Sound bytes result → (lines : List Signed) → IsPatchText bytes lines
    → IsErrOf result err.Memory ⊎ (result ≡ Ok (record { lines = lines; bytes = length bytes }))
finds_all bytes (Ok patch) s lines h =
    let same : patch.lines ≡ lines = one_list bytes patch.lines lines s.0 h in
    inr (ap (λ (p : Patch). Ok p) (record_is patch lines (length bytes) same s.1))
  where
    record_is : (patch : Patch) (lines : List Signed) (n : ℕ) → patch.lines ≡ lines → patch.bytes ≡ n → patch ≡ record { lines = lines; bytes = n }
    record_is patch lines n a b = rw (← a, ← b) refl
finds_all bytes (Err err.Memory) s lines h = inl refl
finds_all bytes (Err (err.Bad n kind)) s lines h = absurd (never_both bytes lines n kind h s.2)

pub names_all : (bytes : List ℕ) (result : Result Patch LineErr) → Sound bytes result → (line : ℕ) (kind : LineKind) → IsBadLine bytes line kind
    → IsErrOf result err.Memory ⊎ (result ≡ Err (err.Bad line kind))
names_all bytes (Ok patch) s line kind h = absurd (never_both bytes patch.lines line kind s.0 h)
names_all bytes (Err err.Memory) s line kind h = inl refl
names_all bytes (Err (err.Bad n other)) s line kind h =
    let same = one_bad_line bytes n line other kind s.2 h in inr (rw (same.0, same.1) refl)

-- what is answered where a line was refused
pub bad_answer : (bytes : List ℕ) (lines after : List Signed) (number : ℕ) (text line end : List ℕ) (n : ℕ) (e : LineErr) → UnderWay bytes lines number text
    → n ≡ prefix_len is_inside text → line ≡ take n text → end ≡ drop n text → Takes line (number + 1) lines (Err e) after → Sound bytes (Err e)
bad_answer bytes lines after number text line end n err.Memory u hn hl he h = (tt, tt, tt)
bad_answer bytes lines after number text line end n (err.Bad m kind) u hn hl he h =
    (tt, tt, is_first_bad bytes lines number m text line end n kind u hn hl he h.0 h.1)
