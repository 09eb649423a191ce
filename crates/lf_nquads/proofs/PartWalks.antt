-- How far IRIs and strings go.
use Rattle.std.proofs.Common.{◌≡◌, ℕ, zero, suc, ◌<◌, ◌≤◌, Bool, true, false, cond, List, [], ◌∷◌, ◌++◌, length, Option, Some, None, Result, Ok, Err, refl, sym, ap, ◌∙◌, append_assoc, arith, inr}
use Rattle.std.specs.Prelude.{nat_eq, ◌&&◌}
use Rattle.std.proofs.lemmas.Bool.{eqb-true, eq-eqb, lt-ltb, le-ltb, or_right}
use Rattle.std.proofs.lemmas.List.{append-nil}
use Rattle.def_patch_texts.specs.declared.kind.LineKind.{LineKind}
use Rattle.def_patch_texts.specs.declared.kind.LineKind.TheVariants.{Syntax, RelativeIri, BadEscape}
use Rattle.def_patch_texts.specs.Terminals.{Allowed}
use Rattle.def_patch_texts.specs.Characters.{is_absolute, is_iri_char, is_string_char, short_escape}
use Rattle.def_patch_texts.specs.PatchText.{absolute_iris}
use Rattle.def_patch_texts.specs.BadLine.{any_iris, absolute_before, whole_before}
use Rattle.def_patch_texts.specs.Reading as plain
use Rattle.def_patch_texts.specs.Reading.{starts, after_char, unicode_at, iri_part_at, escape_at, string_escape_at, string_part_at}
use Rattle.lf_nquads.specs.Outcomes.{part_of, with_char, all_parts_of, iri_part_of, string_part_of}
use Rattle.lf_nquads.proofs.Parts.{Part, Shrinks, parts_done, parts_stop, parts_step, iri_shrinks, string_shrinks, raw_iri_part, raw_string_part}
use Rattle.lf_nquads.proofs.Walks.{Lang, Mode, lax_mode, absolute_mode, whole_mode, allowed_in, Found, any_step, shift, shift_relative, Finish, at_end, stop, Good, next}
use Rattle.lf_nquads.proofs.EscapeWalks.{over_number, by_short, behind, Opened, walk_behind, can_four, can_eight, unicode_behind, unicode_nothing}

abbrev pub over_parts : Result (List ℕ × List ℕ) LineKind → (List ℕ → List ℕ → Option LineKind) → Option LineKind
over_parts (Err kind) k = Some kind
over_parts (Ok x) k = k x.0 x.1

abbrev pub over_part : Result (ℕ × List ℕ) LineKind → (ℕ × List ℕ → Option LineKind) → Option LineKind
over_part (Err kind) k = Some kind
over_part (Ok x) k = k x

-- parts before a closing character, behind those that were read, and then what follows
abbrev pub parts : ℕ → (Allowed → Part) → (List ℕ → Lang) → List ℕ → Lang
parts close part closing before A text = over_parts (all_parts_of close (part A) text) (λ cs r. next (after_char close r) (closing (before ++ cs) A))

-- what the parts of an IRI and those of a string have in common
pub record Reads (close : ℕ) (part : Allowed → Part) (short : ℕ → Option ℕ) (p raw : ℕ → Bool) : Type 0 where
  pub shrinks : (A : Allowed) → Shrinks (part A)
  pub at_nothing : (A : Allowed) → part A [] ≡ Err Syntax
  pub at_raw : (A : Allowed) (c : ℕ) (t : List ℕ) → raw c ≡ true → part A (c ∷ t) ≡ Ok (c, t)
  pub at_other : (A : Allowed) (c : ℕ) (t : List ℕ) → nat_eq c 92 ≡ false → raw c ≡ false → part A (c ∷ t) ≡ Err Syntax
  pub at_escape : (N : ℕ → Lang) (A : Allowed) (t : List ℕ) → over_part (part A (92 ∷ t)) (λ x. N x.0 A x.1) ≡ behind short p N A t
  pub no_escape : nat_eq 92 close ≡ false
  pub opened : Opened short p

-- how the closing goes on
pub record Closing (closing : List ℕ → Lang) : Type 0 where
  pub finish : List ℕ
  pub done : (cs : List ℕ) (m : Mode) (k : ℕ) → length finish < k → closing cs (allowed_in m k) finish ≡ None

after_closed : (close c : ℕ) (t : List ℕ) → nat_eq c close ≡ true → after_char close (c ∷ t) ≡ Some t
unfolding after_char
after_closed close c t e = rw e refl

parts_closed : (close : ℕ) (part : Allowed → Part) (closing : List ℕ → Lang) (before : List ℕ) (c : ℕ) → nat_eq c close ≡ true → (A : Allowed) (t : List ℕ) → parts close part closing before A (c ∷ t) ≡ closing before A t
parts_closed close part closing before c e A t =
    ap (λ (r : Result (List ℕ × List ℕ) LineKind). over_parts r (λ cs r. next (after_char close r) (closing (before ++ cs) A))) (parts_done close (part A) (c ∷ t) e)
    ∙ ap (λ (o : Option (List ℕ)). next o (closing (before ++ []) A)) (after_closed close c t e)
    ∙ ap (λ (cs : List ℕ). closing cs A t) (append-nil before)

parts_stopped : (close : ℕ) (part : Allowed → Part) (closing : List ℕ → Lang) (before : List ℕ) (A : Allowed) (text : List ℕ) (kind : LineKind) → starts close text ≡ false → part A text ≡ Err kind
    → parts close part closing before A text ≡ Some kind
parts_stopped close part closing before A text kind h e =
    ap (λ (r : Result (List ℕ × List ℕ) LineKind). over_parts r (λ cs r. next (after_char close r) (closing (before ++ cs) A))) (parts_stop close (part A) text kind h e)

over_char : (c : ℕ) (r : Result (List ℕ × List ℕ) LineKind) (f g : List ℕ → List ℕ → Option LineKind) → ((cs rest : List ℕ) → f (c ∷ cs) rest ≡ g cs rest)
    → over_parts (with_char c r) f ≡ over_parts r g
over_char c (Ok x) f g e = e x.0 x.1
over_char c (Err kind) f g e = refl

parts_go : (close : ℕ) (part : Allowed → Part) (closing : List ℕ → Lang) (before : List ℕ) (A : Allowed) → Shrinks (part A) → (text : List ℕ) (c : ℕ) (rest : List ℕ) → starts close text ≡ false → part A text ≡ Ok (c, rest)
    → parts close part closing before A text ≡ parts close part closing (before ++ c ∷ []) A rest
parts_go close part closing before A shrinks text c rest h e =
    ap (λ (r : Result (List ℕ × List ℕ) LineKind). over_parts r (λ cs r. next (after_char close r) (closing (before ++ cs) A))) (parts_step close (part A) shrinks text c rest h e)
    ∙ over_char c (all_parts_of close (part A) rest) (λ cs r. next (after_char close r) (closing (before ++ cs) A)) (λ cs r. next (after_char close r) (closing ((before ++ c ∷ []) ++ cs) A))
    (λ cs r. ap (λ (xs : List ℕ). next (after_char close r) (closing xs A)) (sym (append_assoc before (c ∷ []) cs)))

-- behind a backslash
parts_escape : (close : ℕ) (part : Allowed → Part) (short : ℕ → Option ℕ) (p raw : ℕ → Bool) → Reads close part short p raw → (closing : List ℕ → Lang) (before : List ℕ) (c : ℕ) → nat_eq c 92 ≡ true
    → (A : Allowed) (t : List ℕ) → parts close part closing before A (c ∷ t) ≡ behind short p (λ d. parts close part closing (before ++ d ∷ [])) A t
parts_escape close part short p raw r closing before c slash A t =
    let same : c ≡ 92 = eqb-true c 92 slash in
    ap (λ (d : ℕ). parts close part closing before A (d ∷ t)) same
    ∙ go (part A (92 ∷ t)) refl
    ∙ r.at_escape (λ d. parts close part closing (before ++ d ∷ [])) A t
  where
    go : (o : Result (ℕ × List ℕ) LineKind) → part A (92 ∷ t) ≡ o
        → parts close part closing before A (92 ∷ t) ≡ over_part (part A (92 ∷ t)) (λ x. parts close part closing (before ++ x.0 ∷ []) A x.1)
    go (Ok x) e =
        parts_go close part closing before A (r.shrinks A) (92 ∷ t) x.0 x.1 r.no_escape e
        ∙ sym (ap (λ (o : Result (ℕ × List ℕ) LineKind). over_part o (λ x. parts close part closing (before ++ x.0 ∷ []) A x.1)) e)
    go (Err kind) e =
        parts_stopped close part closing before A (92 ∷ t) kind r.no_escape e
        ∙ sym (ap (λ (o : Result (ℕ × List ℕ) LineKind). over_part o (λ x. parts close part closing (before ++ x.0 ∷ []) A x.1)) e)

finish_parts : (close : ℕ) (part : Allowed → Part) (closing : List ℕ → Lang) → Closing closing → (before : List ℕ) → Finish (parts close part closing before)
finish_parts close part closing f before = record {
  finish = close ∷ f.finish;
  done = λ m k le. parts_closed close part closing before close (eq-eqb close close refl) (allowed_in m k) f.finish ∙ f.done before m k (omega arith);
}

parts_end : (close : ℕ) (part : Allowed → Part) (short : ℕ → Option ℕ) (p raw : ℕ → Bool) → Reads close part short p raw → (closing : List ℕ → Lang) (before : List ℕ) (A : Allowed)
    → parts close part closing before A [] ≡ Some Syntax
parts_end close part short p raw r closing before A = parts_stopped close part closing before A [] Syntax refl (r.at_nothing A)

-- the walk at the closing character
abbrev WalksClosed : ℕ → (Allowed → Part) → (List ℕ → Lang) → Type 0
WalksClosed close part closing = (before : List ℕ) (c : ℕ) (t : List ℕ) → nat_eq c close ≡ true → Found (parts close part closing before) (c ∷ t)

walk_parts : (close : ℕ) (part : Allowed → Part) (short : ℕ → Option ℕ) (p raw : ℕ → Bool) → Reads close part short p raw → (closing : List ℕ → Lang) → Closing closing → WalksClosed close part closing
    → (room : ℕ) (before text : List ℕ) → length text < room → Found (parts close part closing before) text
walk_parts close part short p raw r closing f w zero before text lt = absurd (omega arith)
walk_parts close part short p raw r closing f w (suc room) before [] lt =
    at_end (parts close part closing before) (finish_parts close part closing f before) (inr (parts_end close part short p raw r closing before absolute_iris))
walk_parts close part short p raw r closing f w (suc room) before (c ∷ t) lt =
    go (nat_eq c close) (nat_eq c 92) (raw c) refl refl refl
    (λ d u less. walk_parts close part short p raw r closing f w room (before ++ d ∷ []) u (omega arith))
  where
    go : (a b d : Bool) → nat_eq c close ≡ a → nat_eq c 92 ≡ b → raw c ≡ d → ((d : ℕ) (u : List ℕ) → length u ≤ length t → Found (parts close part closing (before ++ d ∷ [])) u)
        → Found (parts close part closing before) (c ∷ t)
    go true b d ea eb ed more = w before c t ea
    go false true d ea eb ed more =
        shift (parts close part closing before) (behind short p (λ d. parts close part closing (before ++ d ∷ []))) c
        (any_step (parts close part closing before) (behind short p (λ d. parts close part closing (before ++ d ∷ []))) c (parts_escape close part short p raw r closing before c eb)) t
        (walk_behind short p (λ d. parts close part closing (before ++ d ∷ [])) (λ d. finish_parts close part closing f (before ++ d ∷ [])) r.opened t
        (λ d u less. more d u (omega arith)))
    go false false true ea eb ed more =
        shift (parts close part closing before) (parts close part closing (before ++ c ∷ [])) c
        (any_step (parts close part closing before) (parts close part closing (before ++ c ∷ [])) c
        (λ A t. parts_go close part closing before A (r.shrinks A) (c ∷ t) c t ea (r.at_raw A c t ed))) t
        (more c t (omega arith))
    go false false false ea eb ed more =
        stop (parts close part closing before) (finish_parts close part closing f before) c t
        (λ A t. parts_stopped close part closing before A (c ∷ t) Syntax ea (r.at_other A c t eb ed))

good_parts : (close : ℕ) (part : Allowed → Part) (short : ℕ → Option ℕ) (p raw : ℕ → Bool) → Reads close part short p raw → (closing : List ℕ → Lang) → Closing closing → WalksClosed close part closing
    → Good (parts close part closing []) (Some close)
unfolding finish_parts
good_parts close part short p raw r closing f w = record {
  begins = refl;
  ending = finish_parts close part closing f [];
  ends = inr (parts_end close part short p raw r closing [] absolute_iris);
  walk = λ text. walk_parts close part short p raw r closing f w (suc (length text)) [] text (omega arith);
}

-- ---- IRIs

abbrev pub iri_closing : Lang → List ℕ → Lang
iri_closing K cs A rest = cond (A.iri cs rest) (K A rest) (Some RelativeIri)

abbrev no_short : ℕ → Option ℕ
no_short c = None

choose_part : (b : Bool) (named : ℕ × List ℕ) (t : List ℕ) (k : ℕ × List ℕ → Option LineKind)
    → over_part (part_of (92 ∷ t) (cond b (Some named) None)) k ≡ cond b (k named) (Some BadEscape)
choose_part true named t k = refl
choose_part false named t k = refl

part_over : (o : Option (ℕ × List ℕ)) (q : ℕ × List ℕ → Bool) (t : List ℕ) (k : ℕ × List ℕ → Option LineKind)
    → over_part (part_of (92 ∷ t) (plain.◌>>=◌ o (λ named. cond (q named) (Some named) None))) k ≡ over_number o (λ named. cond (q named) (k named) (Some BadEscape))
part_over None q t k = refl
part_over (Some named) q t k = choose_part (q named) named t k

iri_escape : (N : ℕ → Lang) (A : Allowed) (t : List ℕ) → over_part (iri_part_of A (92 ∷ t)) (λ x. N x.0 A x.1) ≡ behind no_short is_iri_char N A t
unfolding iri_part_at
iri_escape N A [] =
    part_over (unicode_at []) (λ named. is_iri_char named.0 && A.escape (92 ∷ []) named.1) [] (λ x. N x.0 A x.1) ∙ unicode_nothing is_iri_char N A
iri_escape N A (letter ∷ t) =
    part_over (unicode_at (letter ∷ t)) (λ named. is_iri_char named.0 && A.escape (92 ∷ letter ∷ t) named.1) (letter ∷ t) (λ x. N x.0 A x.1) ∙ unicode_behind is_iri_char N A letter t

iri_nothing : (A : Allowed) → iri_part_of A [] ≡ Err Syntax
unfolding iri_part_at
iri_nothing A = refl

iri_other : (A : Allowed) (c : ℕ) (t : List ℕ) → nat_eq c 92 ≡ false → is_iri_char c ≡ false → iri_part_of A (c ∷ t) ≡ Err Syntax
unfolding iri_part_at
iri_other A c t other raw = rw (raw, other, other) refl

iri_reads : Reads 62 iri_part_of no_short is_iri_char is_iri_char
iri_reads = record {
  shrinks = iri_shrinks;
  at_nothing = iri_nothing;
  at_raw = λ A c t h. raw_iri_part A c t h;
  at_other = iri_other;
  at_escape = iri_escape;
  no_escape = refl;
  opened = record { four = can_four is_iri_char refl; eight = can_eight is_iri_char refl; no_short = refl };
}

iri_done : (K : Lang) (first : Option ℕ) (g : Good K first) (cs : List ℕ) (m : Mode) (k : ℕ) → length g.ending.finish < k → iri_closing K cs (allowed_in m k) g.ending.finish ≡ None
iri_done K first g cs lax_mode k lt = g.ending.done lax_mode k (omega arith)
iri_done K first g cs whole_mode k lt = g.ending.done whole_mode k (omega arith)
iri_done K first g cs absolute_mode k lt =
    rw (lt-ltb (length g.ending.finish) k lt, or_right (is_absolute cs) true refl) (g.ending.done absolute_mode k (omega arith))

iri_closes : (K : Lang) (first : Option ℕ) → Good K first → WalksClosed 62 iri_part_of (iri_closing K)
iri_closes K first g before c t e = go (is_absolute before) refl
  where
    L : Lang
    L = parts 62 iri_part_of (iri_closing K) before

    goes : is_absolute before ≡ true → (m : Mode) (k : ℕ) (t : List ℕ) → L (allowed_in m k) (c ∷ t) ≡ K (allowed_in m k) t
    goes h lax_mode k t = parts_closed 62 iri_part_of (iri_closing K) before c e any_iris t
    goes h whole_mode k t = parts_closed 62 iri_part_of (iri_closing K) before c e (whole_before k) t
    goes h absolute_mode k t = parts_closed 62 iri_part_of (iri_closing K) before c e (absolute_before k) t ∙ rw h refl

    refuses : is_absolute before ≡ false → (k : ℕ) (t : List ℕ) → k ≤ length t → L (absolute_before k) (c ∷ t) ≡ Some RelativeIri
    refuses h k t le =
        parts_closed 62 iri_part_of (iri_closing K) before c e (absolute_before k) t ∙ rw (h, le-ltb (length t) k le) refl

    go : (b : Bool) → is_absolute before ≡ b → Found L (c ∷ t)
    go true h =
        shift L K c (record { goes = λ m k t le. goes h m k t; strict = λ t. parts_closed 62 iri_part_of (iri_closing K) before c e absolute_iris t ∙ rw h refl }) t (g.walk t)
    go false h =
        shift_relative L K c
        (record {
          goes = λ t. parts_closed 62 iri_part_of (iri_closing K) before c e any_iris t;
          refuses = refuses h;
          strict = λ t. parts_closed 62 iri_part_of (iri_closing K) before c e absolute_iris t ∙ rw h refl;
        }) t (g.walk t)

abbrev pub iri_parts : Lang → Lang
iri_parts K = parts 62 iri_part_of (iri_closing K) []

pub good_iri_parts : (K : Lang) (first : Option ℕ) → Good K first → Good (iri_parts K) (Some 62)
good_iri_parts K first g =
    good_parts 62 iri_part_of no_short is_iri_char is_iri_char iri_reads (iri_closing K)
    (record { finish = g.ending.finish; done = λ cs m k lt. iri_done K first g cs m k lt }) (iri_closes K first g)

-- ---- strings

abbrev pub string_closing : Lang → List ℕ → Lang
string_closing K cs = K

abbrev any_char : ℕ → Bool
any_char c = true

string_short : (N : ℕ → Lang) (A : Allowed) (letter : ℕ) (t : List ℕ) (s : Option ℕ)
    → over_part (part_of (92 ∷ letter ∷ t) (escape_at A (92 ∷ letter ∷ t) (letter ∷ t) t s)) (λ x. N x.0 A x.1) ≡ by_short s any_char N letter A t
string_short N A letter t (Some d) = choose_part (A.escape (92 ∷ letter ∷ t) t) (d, t) (letter ∷ t) (λ x. N x.0 A x.1)
string_short N A letter t None =
    part_over (unicode_at (letter ∷ t)) (λ named. A.escape (92 ∷ letter ∷ t) named.1) (letter ∷ t) (λ x. N x.0 A x.1) ∙ unicode_behind any_char N A letter t

string_escape : (N : ℕ → Lang) (A : Allowed) (t : List ℕ) → over_part (string_part_of A (92 ∷ t)) (λ x. N x.0 A x.1) ≡ behind short_escape any_char N A t
unfolding string_part_at string_escape_at
string_escape N A [] = refl
string_escape N A (letter ∷ t) = string_short N A letter t (short_escape letter)

string_nothing : (A : Allowed) → string_part_of A [] ≡ Err Syntax
unfolding string_part_at
string_nothing A = refl

string_other : (A : Allowed) (c : ℕ) (t : List ℕ) → nat_eq c 92 ≡ false → is_string_char c ≡ false → string_part_of A (c ∷ t) ≡ Err Syntax
unfolding string_part_at
string_other A c t other raw = rw (raw, other, other) refl

string_reads : Reads 34 string_part_of short_escape any_char is_string_char
string_reads = record {
  shrinks = string_shrinks;
  at_nothing = string_nothing;
  at_raw = λ A c t h. raw_string_part A c t h;
  at_other = string_other;
  at_escape = string_escape;
  no_escape = refl;
  opened = record { four = can_four any_char refl; eight = can_eight any_char refl; no_short = refl };
}

string_closes : (K : Lang) (first : Option ℕ) → Good K first → WalksClosed 34 string_part_of (string_closing K)
string_closes K first g before c t e =
    shift (parts 34 string_part_of (string_closing K) before) K c
    (any_step (parts 34 string_part_of (string_closing K) before) K c (parts_closed 34 string_part_of (string_closing K) before c e)) t (g.walk t)

abbrev pub string_parts : Lang → Lang
string_parts K = parts 34 string_part_of (string_closing K) []

pub good_string_parts : (K : Lang) (first : Option ℕ) → Good K first → Good (string_parts K) (Some 34)
good_string_parts K first g =
    good_parts 34 string_part_of short_escape any_char is_string_char string_reads (string_closing K)
    (record { finish = g.ending.finish; done = λ cs m k lt. g.ending.done m k (omega arith) }) (string_closes K first g)
