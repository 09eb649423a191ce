-- Patch texts with the same lines make the same version.
use Rattle.std.proofs.Common.{◌≡◌, refl, sym, ◌∙◌, ap, subst, ℕ, List, [], ◌∷◌, Bool, true, false, ◌||◌, Option, Some, None, is_some, arith, inl}
use Rattle.std.specs.Prelude.{◌≢◌}
use Rattle.std.specs.Bool.{beq}
use Rattle.std.proofs.lemmas.Bool.{false≢true, and_from, and_parts, or_left, or_right}
use Rattle.std.specs.Cmp.Lexicographic.{bytes_decides}
use Rattle.lf_rdf.specs.declared.quad.Signed.{Signed}
use Rattle.lf_rdf.specs.Equality.{text_eq, quad_eq}
use Rattle.def_patch_texts.specs.PatchText.{lines_of, IsLine, AreLines, with_stated}
use Rattle.def_patch_texts.proofs.Lines.{line_states_one}
use Rattle.def_datasets.specs.Sorted.{has}
use Rattle.def_datasets.specs.VersionLaws.{signed_eq, has_line}
use Rattle.def_datasets.proofs.OrderLaws.{quad_decides}
use Rattle.def_histories.specs.HistoryLaws.{PatchTextsInAnyOrder}
use Rattle.def_histories.proofs.LiveProofs.{patch_lines_in_any_order, text_is}

-- ---- one line

same_sign : (a b : Bool) → beq a b ≡ true → a ≡ b
same_sign true true e = refl
same_sign true false e = sym e
same_sign false true e = e
same_sign false false e = refl

sign_itself : (a : Bool) → beq a a ≡ true
sign_itself true = refl
sign_itself false = refl

signed_told : (s t : Signed) → signed_eq s t ≡ true → s ≡ t
signed_told s t e =
    let parts = and_parts (beq s.add t.add) (quad_eq s.quad t.quad) e in
    let sign = same_sign s.add t.add parts.0 in
    let quad = (quad_decides s.quad t.quad).0 parts.1 in
    (λ i. record { add = sign i; quad = quad i })

signed_itself : (s : Signed) → signed_eq s s ≡ true
signed_itself s = and_from (beq s.add s.add) (quad_eq s.quad s.quad) (sign_itself s.add) ((quad_decides s.quad s.quad).1 refl)

-- an empty line is skipped
blank : IsLine [] None
blank = (omega arith, [], record { scalars = refl; encoded = refl }, inl ([], refl, refl))

not_blank : (line : List ℕ) (s : Signed) → IsLine line (Some s) → line ≢ []
not_blank line s is empty =
    false≢true (ap is_some (line_states_one [] None (Some s) blank (subst (λ (l : List ℕ). IsLine l (Some s)) empty is)))

-- ---- what lines state

-- a signed quad that is stated is so by one of the lines
StatedBy : List (List ℕ) → Signed → Type 0
StatedBy lines s = (line : List ℕ) × (has text_eq lines line ≡ true) × IsLine line (Some s)

more_lines : (first : List ℕ) (lines : List (List ℕ)) (s : Signed) → StatedBy lines s → StatedBy (first ∷ lines) s
unfolding StatedBy
more_lines first lines s found = (found.0, or_right (text_eq found.0 first) (has text_eq lines found.0) found.1, found.2)

stated_first : (first : List ℕ) (lines : List (List ℕ)) (t : Signed) (others : List Signed) (s : Signed) (b : Bool) → signed_eq s t ≡ b
    → IsLine first (Some t) → (has_line others s ≡ true → StatedBy lines s) → (b || has_line others s) ≡ true
    → StatedBy (first ∷ lines) s
unfolding StatedBy
stated_first first lines t others s true same is later e =
    (first, or_left (text_eq first first) (has text_eq lines first) (text_is first), subst (λ (u : Signed). IsLine first (Some u)) (sym (signed_told s t same)) is)
stated_first first lines t others s false same is later e = more_lines first lines s (later e)

stated_one : (first : List ℕ) (lines : List (List ℕ)) (others : List Signed) (s : Signed) (stated : Option Signed) → IsLine first stated
    → (has_line others s ≡ true → StatedBy lines s) → has_line (with_stated stated others) s ≡ true → StatedBy (first ∷ lines) s
stated_one first lines others s None is later e = more_lines first lines s (later e)
stated_one first lines others s (Some t) is later e = stated_first first lines t others s (signed_eq s t) refl is later e

stated_by : (lines : List (List ℕ)) (signed : List Signed) (s : Signed) → AreLines lines signed → has_line signed s ≡ true
    → StatedBy lines s
stated_by [] signed s are e = absurd (false≢true (ap (λ (w : List Signed). has_line w s) (sym are) ∙ e))
stated_by (first ∷ lines) signed s are e =
    stated_one first lines are.1 s are.0 are.2 (stated_by lines are.1 s are.3) (ap (λ (w : List Signed). has_line w s) (sym are.4) ∙ e)

-- and what one of the lines states is stated
with_more : (stated : Option Signed) (others : List Signed) (s : Signed) → has_line others s ≡ true
    → has_line (with_stated stated others) s ≡ true
with_more None others s e = e
with_more (Some t) others s e = or_right (signed_eq s t) (has_line others s) e

with_first : (stated : Option Signed) (others : List Signed) (s : Signed) → stated ≡ Some s
    → has_line (with_stated stated others) s ≡ true
with_first stated others s e =
    ap (λ (o : Option Signed). has_line (with_stated o others) s) e ∙ or_left (signed_eq s s) (has_line others s) (signed_itself s)

there_one : (first line : List ℕ) (lines : List (List ℕ)) (stated : Option Signed) (others : List Signed) (s : Signed) (b : Bool)
    → text_eq line first ≡ b → IsLine first stated → IsLine line (Some s)
    → (has text_eq lines line ≡ true → has_line others s ≡ true) → (b || has text_eq lines line) ≡ true
    → has_line (with_stated stated others) s ≡ true
there_one first line lines stated others s true same states is later there =
    with_first stated others s
    (line_states_one first stated (Some s) states (subst (λ (l : List ℕ). IsLine l (Some s)) ((bytes_decides line first).0 same) is))
there_one first line lines stated others s false apart states is later there = with_more stated others s (later there)

by_stated : (lines : List (List ℕ)) (signed : List Signed) (s : Signed) (line : List ℕ) → AreLines lines signed
    → IsLine line (Some s) → has text_eq lines line ≡ true → has_line signed s ≡ true
by_stated [] signed s line are is there = absurd (false≢true there)
by_stated (first ∷ lines) signed s line are is there =
    ap (λ (w : List Signed). has_line w s) are.4
    ∙ there_one first line lines are.0 are.1 s (text_eq line first) refl are.2 is (by_stated lines are.1 s line are.3 is) there

-- ---- two texts

within : (lines more : List (List ℕ)) (one two : List Signed) (s : Signed) → AreLines lines one → AreLines more two
    → ((line : List ℕ) → line ≢ [] → has text_eq lines line ≡ has text_eq more line)
    → has_line one s ≡ true → has_line two s ≡ true
unfolding StatedBy
within lines more one two s first second alike e =
    let found = stated_by lines one s first e in
    by_stated more two s found.0 second found.2 (sym (alike found.0 (not_blank found.0 s found.2)) ∙ found.1)

both : (a b : Bool) → (a ≡ true → b ≡ true) → (b ≡ true → a ≡ true) → a ≡ b
both true b f g = sym (f refl)
both false true f g = g refl
both false false f g = refl

pub patch_texts_in_any_order : PatchTextsInAnyOrder
patch_texts_in_any_order history seat seat2 one two text text2 first second alike =
    patch_lines_in_any_order history seat seat2 one two
    (λ s. both (has_line one.lines s) (has_line two.lines s)
    (within (lines_of text) (lines_of text2) one.lines two.lines s first second alike)
    (within (lines_of text2) (lines_of text) two.lines one.lines s second first (λ line is. sym (alike line is))))
