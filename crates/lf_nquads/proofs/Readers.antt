-- What the readers of terminals give.
use Rattle.std.proofs.Common.{◌≡◌, ℕ, ◌+◌, ◌*◌, ◌<◌, ◌≤◌, Bool, true, false, cond, List, [], ◌∷◌, length, take, drop, map, Option, Some, None, Result, Ok, Err, refl, sym, ap, subst, ◌∙◌, arith, inl, inr}
use Rattle.std.specs.Prelude.{nat_eq, ◌||◌, slice_get, encode_utf8_all}
use Rattle.std.specs.List.{prefix_len}
use Rattle.std.specs.Str.{chars, IsUtf8}
use Rattle.std.specs.Char.{IsScalar, to_ascii_lowercase}
use Rattle.std.specs.List.{list_all}
use Rattle.std.proofs.lemmas.Bool.{false≢true, and_parts, cases_lt}
use Rattle.std.proofs.lemmas.Bool.Decides.{nat_tests}
use Rattle.std.proofs.lemmas.List.{nil_from_length}
use Rattle.std.proofs.lemmas.Str.{chars_from_encodes, length-le-encodes}
use Rattle.def_patch_texts.specs.declared.kind.LineKind.{LineKind}
use Rattle.def_patch_texts.specs.declared.kind.LineKind.TheVariants.{Syntax, RelativeIri, BadEscape}
use Rattle.def_patch_texts.specs.Characters.{is_absolute, is_iri_char, is_string_char, is_digit, is_pn_chars_u, is_label_char, is_label, is_tag, lower, short_escape}
use Rattle.def_patch_texts.specs.PatchText.{absolute_iris}
use Rattle.def_patch_texts.specs.Reading as plain
use Rattle.def_patch_texts.proofs.Takes.{front_takes}
use Rattle.def_patch_texts.proofs.Canonical as canonical
use Rattle.def_patch_texts.proofs.Written.{ascii_cons}
use Rattle.def_patch_texts.specs.Reading.{starts, after_char, front_at, tag_at, numbered_at, unicode_at, string_escape_at}
use Rattle.lf_nquads.specs.declared.error.Fault.{Fault}
use Rattle.lf_nquads.specs.declared.error.Fault.TheVariants.{Bad, Memory}
use Rattle.lf_nquads.specs.Outcomes.{expected, all_parts_of, iri_part_of, string_part_of, iri_of}
use Rattle.lf_nquads.specs.Gives.{Fails, Gives, GivesDigit, as_escape, encoded, string_behind}
use Rattle.lf_nquads.specs.Scanning.{first_is, TakesIf, first_in_label, is_tag_char}
use Rattle.lf_nquads.proofs.Places.{TakesNext}
use Rattle.lf_nquads.proofs.Hex.{ReadsDigits, reads_more, digit_below, digit_lacks, names_character, names_none}
use Rattle.lf_nquads.proofs.Parts.{Part, SoFar, stops_so_far, raw_front, iri_shrinks, string_shrinks, iri_raw, string_raw}
use Rattle.lf_nquads.proofs.LabelProofs.{LabelSoFar, label_begins, label_dot, label_more, label_found, no_label, none_found}
use Rattle.lf_nquads.proofs.TagProofs.{TagSoFar, tag_more, tag_dash, tag_found, no_tag}

-- one and the same reading is given
pub gives_as : {X Y : Type 0} (view : X → Y) (r : Result X Fault) (a b : Result Y LineKind) → b ≡ a → Gives view r a → Gives view r b
gives_as view r a b e h = subst (λ o. Gives view r o) (sym e) h

-- ---- hexadecimal digits

pub digit_fails : (e : Fault) (text : List ℕ) (i value count : ℕ) (rest after : List ℕ) → ReadsDigits text i value rest → i < count → GivesDigit rest (Err e) after
    → Fails e (as_escape (numbered_at count text))
digit_fails (Bad kind) text i value count rest after r lt h =
    ap as_escape (digit_lacks text i value count rest r lt h.1) ∙ ap (λ (k : LineKind). Err k) (sym h.0)
digit_fails Memory text i value count rest after r lt h = absurd h

pub digit_taken : (text : List ℕ) (i value digit : ℕ) (rest after : List ℕ) → ReadsDigits text i value rest → GivesDigit rest (Ok digit) after → ReadsDigits text (i + 1) (value * 16 + digit) after
digit_taken text i value digit rest after r h = reads_more text i value rest after h.0 digit r h.1 h.2 h.3

pub digit_is_below : (digit : ℕ) (rest after : List ℕ) → GivesDigit rest (Ok digit) after → digit < 16
digit_is_below digit rest after h = subst (λ (d : ℕ). d < 16) (sym h.3) (digit_below h.0 h.2)

pub names_ok : (text : List ℕ) (count value c i : ℕ) (rest : List ℕ) → ReadsDigits text i value rest → i ≡ count → IsScalar value → value ≡ c → as_escape (numbered_at count text) ≡ Ok (c, rest)
names_ok text count value c i rest r all scalar same =
    let whole : ReadsDigits text count value rest = subst (λ (n : ℕ). ReadsDigits text n value rest) all r in
    ap as_escape (names_character text value count rest whole scalar) ∙ ap (λ (d : ℕ). Ok (d, rest)) same

pub names_bad : (text : List ℕ) (count value i : ℕ) (rest : List ℕ) → ReadsDigits text i value rest → i ≡ count → (IsScalar value → ⊥) → as_escape (numbered_at count text) ≡ Err BadEscape
names_bad text count value i rest r all never =
    let whole : ReadsDigits text count value rest = subst (λ (n : ℕ). ReadsDigits text n value rest) all r in
    ap as_escape (names_none text value count rest whole never)

-- ---- escapes in strings

first_taken : (taken : Option ℕ) (before after : List ℕ) (c : ℕ) → Some c ≡ slice_get before 0 → TakesNext taken before after → before ≡ c ∷ after
first_taken None before after c e h = absurd (none_first before c h.0 e)
  where
    none_first : (before : List ℕ) (c : ℕ) → before ≡ [] → Some c ≡ slice_get before 0 → ⊥
    none_first before c e h = let none : Some c ≡ slice_get [] 0 = h ∙ ap (λ (t : List ℕ). slice_get t 0) e in absurd cc
first_taken (Some d) before after c e h =
    let same : Some c ≡ Some d = e ∙ ap (λ (t : List ℕ). slice_get t 0) h in
    let one : d ≡ c = cc in h ∙ ap (λ (x : ℕ). x ∷ after) one

pub short_found : (taken : Option ℕ) (before after : List ℕ) (letter c : ℕ) → Some letter ≡ slice_get before 0 → TakesNext taken before after → Some c ≡ short_escape letter
    → as_escape (string_behind before) ≡ Ok (c, after)
unfolding string_escape_at
short_found taken before after letter c e h short =
    rw (first_taken taken before after letter e h, ← short) refl

-- each escape is allowed
pub all_allowed : (o : Option (ℕ × List ℕ)) → plain.◌>>=◌ o (λ named. cond true (Some named) None) ≡ o
all_allowed (Some x) = refl
all_allowed None = refl

pub no_short : (text : List ℕ) (letter : ℕ) → Some letter ≡ slice_get text 0 → None ≡ short_escape letter → string_behind text ≡ unicode_at text
unfolding string_escape_at
no_short [] letter e h = absurd cc
no_short (c ∷ text) letter e h =
    let one : c ≡ letter = same_some letter c e in
    rw (one, ← h) (all_allowed (unicode_at (letter ∷ text)))
  where
    same_some : (a b : ℕ) → Some a ≡ Some b → b ≡ a
    same_some a b e = cc

pub nothing_behind : (text : List ℕ) → None ≡ slice_get text 0 → string_behind text ≡ unicode_at text
unfolding string_escape_at unicode_at
nothing_behind [] e = refl
nothing_behind (c ∷ text) e = absurd (some_first c e)
  where
    some_first : (c : ℕ) → ◌≡◌ {A = Option ℕ} None (Some c) → ⊥
    some_first c e = absurd cc

-- ---- labels

first_label : (text : List ℕ) (x : ℕ × List ℕ) → expected (first_in_label text) ≡ Ok x → (text ≡ x.0 ∷ x.1) × ((is_pn_chars_u x.0 || is_digit x.0) ≡ true)
first_label [] x e = absurd cc
first_label (c ∷ rest) x e = go (is_pn_chars_u c || is_digit c) refl e
  where
    go : (b : Bool) → (is_pn_chars_u c || is_digit c) ≡ b → expected (cond b (Some (c, rest)) None) ≡ Ok x → (c ∷ rest ≡ x.0 ∷ x.1) × ((is_pn_chars_u x.0 || is_digit x.0) ≡ true)
    go true b e =
        let same : (c, rest) ≡ x = ok_is (c, rest) x e in
        (ap (λ (y : ℕ × List ℕ). y.0 ∷ y.1) same, subst (λ (y : ℕ × List ℕ). (is_pn_chars_u y.0 || is_digit y.0) ≡ true) same b)
      where
        ok_is : (x y : ℕ × List ℕ) → ◌≡◌ {A = Result (ℕ × List ℕ) LineKind} (Ok x) (Ok y) → x ≡ y
        ok_is x y e = cc
    go false b e = absurd cc

pub label_starts : (start before rest : List ℕ) (c : ℕ) → start ≡ before → expected (first_in_label before) ≡ Ok (c, rest) → LabelSoFar start rest rest
label_starts start before rest c same e =
    let f = first_label before (c, rest) e in label_begins start rest c (same ∙ f.0) f.1

err_is : (k l : LineKind) → ◌≡◌ {A = Result (ℕ × List ℕ) LineKind} (Err k) (Err l) → k ≡ l
err_is k l e = cc

pub label_refused : (e : Fault) (text : List ℕ) → Fails e (expected (first_in_label text)) → Fails e (encoded (expected (front_at is_label text)))
label_refused Memory text h = tt
label_refused (Bad kind) text h = refused text h
  where
    no_first : (text : List ℕ) → first_is (λ c. is_pn_chars_u c || is_digit c) text ≡ false → encoded (expected (front_at is_label text)) ≡ Err Syntax
    no_first text h = ap (λ (o : Option (List ℕ × List ℕ)). encoded (expected o)) (none_found is_label text (no_label text h))

    refused : (text : List ℕ) → expected (first_in_label text) ≡ Err kind → encoded (expected (front_at is_label text)) ≡ Err kind
    refused [] h = no_first [] refl ∙ ap (λ (k : LineKind). Err k) (err_is Syntax kind h)
    refused (c ∷ rest) h = go (is_pn_chars_u c || is_digit c) refl h
      where
        go : (b : Bool) → (is_pn_chars_u c || is_digit c) ≡ b → expected {A = ℕ × List ℕ} (cond b (Some (c, rest)) None) ≡ Err kind → encoded (expected (front_at is_label (c ∷ rest))) ≡ Err kind
        go true b h = absurd cc
        go false b h = no_first (c ∷ rest) b ∙ ap (λ (k : LineKind). Err k) (err_is Syntax kind h)

pub label_goes : (start end rest after : List ℕ) (c : ℕ) → LabelSoFar start end rest → TakesIf is_label_char rest (Some c) after → nat_eq c 46 ≡ false → LabelSoFar start after after
label_goes start end rest after c l h other = label_more start end rest after c l h.0 h.1 other

pub label_waits : (start end rest after : List ℕ) (c : ℕ) → LabelSoFar start end rest → TakesIf is_label_char rest (Some c) after → nat_eq c 46 ≡ true → LabelSoFar start end after
label_waits start end rest after c l h dot = label_dot start end rest after c l h.0 dot

pub none_taken : (test : ℕ → Bool) (before : List ℕ) (taken : Option ℕ) (after : List ℕ) → TakesIf test before taken after → ((c : ℕ) → taken ≡ Some c → ⊥) → first_is test before ≡ false
none_taken test before None after h never = h.1
none_taken test before (Some c) after h never = absurd (never c refl)

pub label_ends : (start before end rest text : List ℕ) (l : LabelSoFar start end rest) → start ≡ before → first_is is_label_char rest ≡ false → text ≡ encode_utf8_all l.label
    → encoded (expected (front_at is_label before)) ≡ Ok (text, end)
label_ends start before end rest text l same stop spelled =
    ap (λ (t : List ℕ). encoded (expected (front_at is_label t))) (sym same)
    ∙ ap (λ (o : Option (List ℕ × List ℕ)). encoded (expected o)) (label_found start end rest l stop)
    ∙ ap (λ (t : List ℕ). Ok (t, end)) (sym spelled)

-- ---- IRIs

ok_encoded : (r : Result (List ℕ × List ℕ) LineKind) (text rest : List ℕ) → encoded r ≡ Ok (text, rest) → (cs : List ℕ) × (r ≡ Ok (cs, rest)) × (encode_utf8_all cs ≡ text)
ok_encoded (Ok x) text rest e =
    let same = ok_parts (encode_utf8_all x.0, x.1) (text, rest) e in
    (x.0, ap (λ (t : List ℕ). Ok (x.0, t)) (ap (λ (y : List ℕ × List ℕ). y.1) same), ap (λ (y : List ℕ × List ℕ). y.0) same)
  where
    ok_parts : (x y : List ℕ × List ℕ) → ◌≡◌ {A = Result (List ℕ × List ℕ) LineKind} (Ok x) (Ok y) → x ≡ y
    ok_parts x y e = cc
ok_encoded (Err kind) text rest e = absurd cc

-- an IRI whose characters were read, and `>`
pub iri_ends : (before inside text closed rest : List ℕ) (b : Bool) → expected (after_char 60 before) ≡ Ok inside → encoded (all_parts_of 62 (iri_part_of absolute_iris) inside) ≡ Ok (text, closed)
    → expected (after_char 62 closed) ≡ Ok rest → IsUtf8 text → b ≡ is_absolute (chars text) → iri_of absolute_iris before ≡ cond b (Ok (text, rest)) (Err RelativeIri)
unfolding iri_of
iri_ends before inside text closed rest b opened parts ends u absolute =
    let p = ok_encoded (all_parts_of 62 (iri_part_of absolute_iris) inside) text closed parts in
    let cs : p.0 ≡ chars text = chars_from_encodes p.0 text u p.2 in
    rw (opened, p.1, ends, p.2, cs, ← absolute) refl

-- ---- tags

high_no_tag : (c : ℕ) → 128 ≤ c → canonical.is_tag_char c ≡ false
high_no_tag c h = grind (arith, nat_tests)

tag_char_low : (c : ℕ) → canonical.is_tag_char c ≡ true → c < 128
tag_char_low c h = elim (cases_lt c 128) [ inl low ↦ low | inr high ↦ absurd (false≢true (sym (high_no_tag c high) ∙ h)) ]

ascii_all : (cs : List ℕ) → list_all canonical.is_tag_char cs ≡ true → encode_utf8_all cs ≡ cs
ascii_all [] h = refl
ascii_all (c ∷ cs) h =
    let parts = and_parts (canonical.is_tag_char c) (list_all canonical.is_tag_char cs) h in
    ascii_cons c cs (tag_char_low c parts.0) ∙ ap (λ (t : List ℕ). c ∷ t) (ascii_all cs parts.1)

tag_ascii : (tag : List ℕ) → is_tag tag ≡ true → encode_utf8_all tag ≡ tag
tag_ascii tag h = ascii_all tag (canonical.tag_chars tag h)

pub tag_goes : (start end rest after : List ℕ) (needed digits d : Bool) (c : ℕ) → TagSoFar start end rest needed digits → TakesIf (is_tag_char needed digits) rest (Some c) after → nat_eq c 45 ≡ false
    → d ≡ (digits || nat_eq c 45) → TagSoFar start after after (nat_eq c 45) d
tag_goes start end rest after needed digits d c t h other e =
    subst (λ (b : Bool). TagSoFar start after after (nat_eq c 45) b) (sym e) (tag_more start end rest after needed digits c t h.0 h.1 other)

pub tag_waits : (start end rest after : List ℕ) (needed digits d : Bool) (c : ℕ) → TagSoFar start end rest needed digits → TakesIf (is_tag_char needed digits) rest (Some c) after → nat_eq c 45 ≡ true
    → d ≡ (digits || nat_eq c 45) → TagSoFar start end after (nat_eq c 45) d
tag_waits start end rest after needed digits d c t h dash e =
    subst (λ (b : Bool). TagSoFar start end after (nat_eq c 45) b) (sym e) (tag_dash start end rest after needed digits c t h.0 h.1 dash)

pub tag_ends : (start before end rest text : List ℕ) (needed digits : Bool) (t : TagSoFar start end rest needed digits) → start ≡ before → first_is (is_tag_char needed digits) rest ≡ false
    → text ≡ encode_utf8_all t.tag → (length text ≡ 0 → ⊥) → encoded (expected (front_at is_tag before)) ≡ Ok (text, end)
tag_ends start before end rest text needed digits t same stop spelled some =
    ap (λ (x : List ℕ). encoded (expected (front_at is_tag x))) (sym same)
    ∙ ap (λ (o : Option (List ℕ × List ℕ)). encoded (expected o)) (tag_found start end rest needed digits t stop (λ none. some (ap length (spelled ∙ ap encode_utf8_all (nil_from_length t.tag none)))))
    ∙ ap (λ (x : List ℕ). Ok (x, end)) (sym spelled)

pub tag_lacks : (start before end rest text : List ℕ) (needed digits : Bool) (t : TagSoFar start end rest needed digits) → start ≡ before → first_is (is_tag_char needed digits) rest ≡ false
    → text ≡ encode_utf8_all t.tag → length text ≡ 0 → encoded (expected (front_at is_tag before)) ≡ Err Syntax
tag_lacks start before end rest text needed digits t same stop spelled none =
    let le : length t.tag ≤ length text = rw spelled (length-le-encodes t.tag) in
    ap (λ (x : List ℕ). encoded (expected (front_at is_tag x))) (sym same)
    ∙ ap (λ (o : Option (List ℕ × List ℕ)). encoded (expected o)) (no_tag start end rest needed digits t stop (omega arith))

ok_pair : (x y : List ℕ × List ℕ) → ◌≡◌ {A = Result (List ℕ × List ℕ) LineKind} (Ok x) (Ok y) → x ≡ y
ok_pair x y e = cc

ok_front : (o : Option (List ℕ × List ℕ)) (text rest : List ℕ) → encoded (expected o) ≡ Ok (text, rest) → (cs : List ℕ) × (o ≡ Some (cs, rest)) × (encode_utf8_all cs ≡ text)
ok_front (Some x) text rest e =
    let same = ok_pair (encode_utf8_all x.0, x.1) (text, rest) e in
    (x.0, ap (λ (t : List ℕ). Some (x.0, t)) (ap (λ (y : List ℕ × List ℕ). y.1) same), ap (λ (y : List ℕ × List ℕ). y.0) same)
ok_front None text rest e = absurd cc

is_opened : (o : Option (List ℕ)) (t : List ℕ) → expected o ≡ Ok t → o ≡ Some t
is_opened (Some u) t e = let same : u ≡ t = cc in ap (λ (x : List ℕ). Some x) same
is_opened None t e = absurd cc

tag_is : (before inside cs rest : List ℕ) → after_char 64 before ≡ Some inside → front_at is_tag inside ≡ Some (cs, rest) → expected (tag_at before) ≡ Ok (lower cs, rest)
unfolding tag_at
tag_is before inside cs rest opened front = rw (opened, front) refl

pub tag_lowers : (inside text rest : List ℕ) (value : List ℕ) → encoded (expected (front_at is_tag inside)) ≡ Ok (text, rest) → value ≡ map to_ascii_lowercase text
    → (before : List ℕ) → expected (after_char 64 before) ≡ Ok inside → expected (tag_at before) ≡ Ok (value, rest)
tag_lowers inside text rest value front lowered before opened =
    let p = ok_front (front_at is_tag inside) text rest front in
    let spelled : encode_utf8_all p.0 ≡ p.0 = tag_ascii p.0 (front_takes is_tag inside (p.0, rest) p.1).fits in
    let same : lower p.0 ≡ value = sym (lowered ∙ ap (map to_ascii_lowercase) (sym p.2 ∙ spelled)) in
    tag_is before inside p.0 rest (is_opened (after_char 64 before) inside opened) p.1 ∙ ap (λ (t : List ℕ). Ok (t, rest)) same

-- ---- parts

pub part_fails : (e : Fault) (close : ℕ) (part : Part) (before read text : List ℕ) → SoFar close part before read text → starts close text ≡ false → Fails e (part text)
    → Fails e (encoded (all_parts_of close part before))
part_fails Memory close part before read text so_far other h = tt
part_fails (Bad kind) close part before read text so_far other h = stops_so_far close part before read text kind so_far other h

-- all characters at once
pub iri_in_one : (start before text ahead : List ℕ) → start ≡ before → text ≡ encode_utf8_all (take (prefix_len is_iri_char start) start) → ahead ≡ drop (prefix_len is_iri_char start) start → starts 62 ahead ≡ true
    → encoded (all_parts_of 62 (iri_part_of absolute_iris) before) ≡ Ok (text, ahead)
iri_in_one start before text ahead same spelled behind closed =
    ap (λ (t : List ℕ). encoded (all_parts_of 62 (iri_part_of absolute_iris) t)) (sym same)
    ∙ raw_front 62 (iri_part_of absolute_iris) is_iri_char (iri_shrinks absolute_iris) (iri_raw absolute_iris) start (ap (starts 62) (sym behind) ∙ closed)
    ∙ ap (λ (t : List ℕ). Ok (t, drop (prefix_len is_iri_char start) start)) (sym spelled)
    ∙ ap (λ (t : List ℕ). Ok (text, t)) (sym behind)

pub string_in_one : (start before text ahead : List ℕ) → start ≡ before → text ≡ encode_utf8_all (take (prefix_len is_string_char start) start) → ahead ≡ drop (prefix_len is_string_char start) start → starts 34 ahead ≡ true
    → encoded (all_parts_of 34 (string_part_of absolute_iris) before) ≡ Ok (text, ahead)
string_in_one start before text ahead same spelled behind closed =
    ap (λ (t : List ℕ). encoded (all_parts_of 34 (string_part_of absolute_iris) t)) (sym same)
    ∙ raw_front 34 (string_part_of absolute_iris) is_string_char (string_shrinks absolute_iris) (string_raw absolute_iris) start (ap (starts 34) (sym behind) ∙ closed)
    ∙ ap (λ (t : List ℕ). Ok (t, drop (prefix_len is_string_char start) start)) (sym spelled)
    ∙ ap (λ (t : List ℕ). Ok (text, t)) (sym behind)

pub iri_is_absolute : (before inside iri closed rest text : List ℕ) (b : Bool) → expected (after_char 60 before) ≡ Ok inside → encoded (all_parts_of 62 (iri_part_of absolute_iris) inside) ≡ Ok (iri, closed)
    → expected (after_char 62 closed) ≡ Ok rest → IsUtf8 text → text ≡ iri → b ≡ is_absolute (chars text) → b ≡ true → iri_of absolute_iris before ≡ Ok (iri, rest)
iri_is_absolute before inside iri closed rest text b opened parts ends u same test yes_ =
    iri_ends before inside iri closed rest b opened parts ends (subst IsUtf8 same u) (test ∙ ap (λ (t : List ℕ). is_absolute (chars t)) same)
    ∙ ap (λ (x : Bool). cond x (Ok (iri, rest)) (Err RelativeIri)) yes_

pub iri_is_relative : (before inside iri closed rest text : List ℕ) (b : Bool) → expected (after_char 60 before) ≡ Ok inside → encoded (all_parts_of 62 (iri_part_of absolute_iris) inside) ≡ Ok (iri, closed)
    → expected (after_char 62 closed) ≡ Ok rest → IsUtf8 text → text ≡ iri → b ≡ is_absolute (chars text) → b ≡ false → iri_of absolute_iris before ≡ Err RelativeIri
iri_is_relative before inside iri closed rest text b opened parts ends u same test no_ =
    iri_ends before inside iri closed rest b opened parts ends (subst IsUtf8 same u) (test ∙ ap (λ (t : List ℕ). is_absolute (chars t)) same)
    ∙ ap (λ (x : Bool). cond x (Ok (iri, rest)) (Err RelativeIri)) no_
