-- What the grammar relates to a whole line is what reading it gives, so that a line and a text state one thing.
use Rattle.std.proofs.Common.{◌≡◌, ℕ, Bool, true, false, List, [], ◌∷◌, Option, Some, None, refl, sym, ap, subst, ◌∙◌, inl, inr}
use Rattle.std.specs.List.{prefix_len}
use Rattle.lf_rdf.specs.declared.term.Term.{Term}
use Rattle.lf_rdf.specs.declared.term.Term.TheVariants.{Iri, Blank, Literal}
use Rattle.lf_rdf.specs.declared.quad.Quad.{Quad}
use Rattle.lf_rdf.specs.declared.quad.Signed.{Signed}
use Rattle.def_patch_texts.specs.Characters.{is_blank}
use Rattle.def_patch_texts.specs.Terminals.{Allowed}
use Rattle.def_patch_texts.specs.Statements.{IsTyped, IsSuffix, IsObject, IsGraph, IsRest, IsStatement, IsSign, IsLineOf}
use Rattle.def_patch_texts.specs.PatchText.{absolute_iris, IsLine, AreLines, IsPatchText, lines_of}
use Rattle.def_patch_texts.specs.Reading.{starts, after_char, skip, typed_at, suffix_at, object_at, named_at, graph_at, is_comment, quad_of, statement_at, sign_at, signed_at, line_at}
use Rattle.def_patch_texts.proofs.BadLines.{same_characters}
use Rattle.def_patch_texts.proofs.Fronts.{skip_again, starts_behind}
use Rattle.def_patch_texts.proofs.Again.{iri_again, tag_again, string_again, node_again, node_begins}

-- ---- objects

typed_again : (allowed : Allowed) (text datatype rest : List ℕ) → IsTyped allowed text datatype rest → typed_at allowed (skip text) ≡ Some (datatype, rest)
unfolding typed_at after_char
typed_again allowed text datatype rest h =
    let first = skip_again text (94 ∷ 94 ∷ h.carets) h.before refl in
    let second = skip_again h.carets h.iri h.between (ap (prefix_len is_blank) h.names.opened) in
    rw (first, second) (iri_again allowed h.iri datatype rest h.names)

-- neither `^` nor `@` stands first behind spaces
pub record NoSuffix (text : List ℕ) : Type 0 where
  pub no_caret : starts 94 (skip text) ≡ false
  pub no_at : starts 64 (skip text) ≡ false

suffix_again : (allowed : Allowed) (value text datatype : List ℕ) (language : Option (List ℕ)) (rest : List ℕ) → IsSuffix allowed text datatype language rest → NoSuffix rest
    → suffix_at allowed value text ≡ Some (Literal value datatype language, rest)
unfolding suffix_at
suffix_again allowed value text datatype None rest h after =
    elim h [
      | inl plain ↦ rw (plain.1, after.no_caret, after.no_at, plain.0) refl
      | inr typed ↦
          let first : starts 94 (skip text) ≡ true = ap (starts 94) (skip_again text (94 ∷ 94 ∷ typed.carets) typed.before refl) in
          rw (first, typed_again allowed text datatype rest typed) refl
    ]
suffix_again allowed value text datatype (Some language) rest h after =
    let spaces = skip_again text h.1.tag h.1.before (ap (prefix_len is_blank) h.1.names.spelled) in
    let no_caret : starts 94 h.1.tag ≡ false = ap (starts 94) h.1.names.spelled in
    let first : starts 64 h.1.tag ≡ true = ap (starts 64) h.1.names.spelled in
    rw (spaces, no_caret, first, tag_again h.1.tag language rest h.1.names, h.0) refl

object_space : (allowed : Allowed) (text : List ℕ) (object : Term) (rest : List ℕ) → IsObject allowed text object rest → prefix_len is_blank text ≡ 0
object_space allowed text (Iri iri) rest h = (node_begins allowed text (Iri iri) rest h).no_space
object_space allowed text (Blank label) rest h = (node_begins allowed text (Blank label) rest h).no_space
object_space allowed text (Literal value datatype language) rest h = ap (prefix_len is_blank) h.1.opened

object_again : (allowed : Allowed) (text : List ℕ) (object : Term) (rest : List ℕ) → IsObject allowed text object rest → NoSuffix rest → object_at allowed text ≡ Some (object, rest)
unfolding object_at
object_again allowed text (Iri iri) rest h after =
    rw (node_begins allowed text (Iri iri) rest h).no_quote (node_again allowed text (Iri iri) rest h)
object_again allowed text (Blank label) rest h after =
    rw (node_begins allowed text (Blank label) rest h).no_quote (node_again allowed text (Blank label) rest h)
object_again allowed text (Literal value datatype language) rest h after =
    let first : starts 34 text ≡ true = ap (starts 34) h.1.opened in
    rw (first, string_again allowed text value h.0 h.1) (suffix_again allowed value h.0 datatype language rest h.2 after)

-- ---- graph labels

graph_again : (allowed : Allowed) (text : List ℕ) (graph : Option Term) (rest : List ℕ) → IsGraph allowed text graph rest → graph_at allowed text ≡ Some (graph, rest)
unfolding graph_at named_at after_char
graph_again allowed text None rest h = rw (skip_again text (46 ∷ rest) h refl) refl
graph_again allowed text (Some name) rest h =
    let begins = node_begins allowed h.0 name h.1 h.3 in
    rw (skip_again text h.0 h.2 begins.no_space, begins.no_dot, node_again allowed h.0 name h.1 h.3, skip_again h.1 (46 ∷ rest) h.4 refl) refl

no_suffix : (allowed : Allowed) (text : List ℕ) (graph : Option Term) (rest : List ℕ) → IsGraph allowed text graph rest → NoSuffix text
no_suffix allowed text None rest h =
    let e = skip_again text (46 ∷ rest) h refl in record { no_caret = ap (starts 94) e; no_at = ap (starts 64) e }
no_suffix allowed text (Some name) rest h =
    let begins = node_begins allowed h.0 name h.1 h.3 in
    let e = skip_again text h.0 h.2 begins.no_space in
    record { no_caret = ap (starts 94) e ∙ begins.no_caret; no_at = ap (starts 64) e ∙ begins.no_at }

-- ---- statements

rest_again : (text : List ℕ) → IsRest text → is_comment (skip text) ≡ true
rest_again text h =
    elim h [ inl nothing ↦ ap is_comment (skip_again text [] nothing refl) | inr comment ↦ ap is_comment (skip_again text (35 ∷ comment.0) comment.1 refl) ]

same_quad : (quad : Quad) (iri : List ℕ) → quad.predicate ≡ Iri iri → quad_of quad.subject iri quad.object quad.graph ≡ quad
same_quad quad iri e = rw (← e) refl

statement_again : (allowed : Allowed) (text : List ℕ) (quad : Quad) → IsStatement allowed text quad → statement_at allowed text ≡ Some quad
unfolding statement_at
statement_again allowed text quad h =
    let subject = skip_again text h.subject h.before_subject (node_begins allowed h.subject quad.subject h.after_subject h.has_subject).no_space in
    let predicate = skip_again h.after_subject h.predicate h.before_predicate (ap (prefix_len is_blank) h.has_predicate.opened) in
    let object = skip_again h.after_predicate h.object h.before_object (object_space allowed h.object quad.object h.after_object h.has_object) in
    rw (subject, node_again allowed h.subject quad.subject h.after_subject h.has_subject, predicate, iri_again allowed h.predicate h.iri h.after_predicate h.has_predicate, object, object_again allowed h.object quad.object h.after_object h.has_object (no_suffix allowed h.after_object quad.graph h.rest h.has_graph), graph_again allowed h.after_object quad.graph h.rest h.has_graph, rest_again h.rest h.ends)
    (ap (λ (q : Quad). Some q) (same_quad quad h.iri h.predicate_is))

-- ---- lines

sign_again : (allowed : Allowed) (text statement : List ℕ) (add : Bool) (quad : Quad) → IsSign text add statement → IsStatement allowed statement quad → sign_at text ≡ Some (add, statement)
unfolding sign_at after_char
sign_again allowed text statement true quad h s =
    elim h [
      | inl same ↦
          let begins = node_begins allowed s.subject quad.subject s.after_subject s.has_subject in
          let no_plus = starts_behind 43 statement s.subject refl s.before_subject begins.no_plus in
          let no_minus = starts_behind 45 statement s.subject refl s.before_subject begins.no_minus in
          rw (same, no_plus, no_minus) refl
      | inr plus ↦ rw plus refl
    ]
sign_again allowed text statement false quad h s = rw h refl

unspaced : (text : List ℕ) → prefix_len is_blank text ≡ 0 → skip text ≡ text
unspaced text stop = skip_again text text ([], refl, refl) stop

stated_not_skipped : (allowed : Allowed) (text statement : List ℕ) (add : Bool) (quad : Quad) → IsSign text add statement → IsStatement allowed statement quad → is_comment (skip text) ≡ false
stated_not_skipped allowed text statement true quad h s =
    elim h [
      | inl same ↦
          let begins = node_begins allowed s.subject quad.subject s.after_subject s.has_subject in
          ap (λ (t : List ℕ). is_comment (skip t)) same ∙ ap is_comment (skip_again statement s.subject s.before_subject begins.no_space) ∙ begins.no_comment
      | inr plus ↦ ap (λ (t : List ℕ). is_comment (skip t)) plus ∙ ap is_comment (unspaced (43 ∷ 32 ∷ statement) refl)
    ]
stated_not_skipped allowed text statement false quad h s =
    ap (λ (t : List ℕ). is_comment (skip t)) h ∙ ap is_comment (unspaced (45 ∷ 32 ∷ statement) refl)

pub line_again : (allowed : Allowed) (text : List ℕ) (stated : Option Signed) → IsLineOf allowed text stated → line_at allowed text ≡ Some stated
unfolding line_at signed_at
line_again allowed text None h = rw (rest_again text h) refl
line_again allowed text (Some signed) h =
    rw (stated_not_skipped allowed text h.0 signed.add signed.quad h.1 h.2, sign_again allowed text h.0 signed.add signed.quad h.1 h.2, statement_again allowed h.0 signed.quad h.2) refl

-- ---- whole texts

abbrev found : Option Signed → Option (Option Signed)
found stated = Some stated

found_is : (x y : Option Signed) → found x ≡ found y → x ≡ y
found_is x y e = cc

pub one_line : (allowed : Allowed) (text : List ℕ) (one two : Option Signed) → IsLineOf allowed text one → IsLineOf allowed text two → one ≡ two
one_line allowed text one two a b = found_is one two (sym (line_again allowed text one a) ∙ line_again allowed text two b)

pub line_states_one : (bytes : List ℕ) (one two : Option Signed) → IsLine bytes one → IsLine bytes two → one ≡ two
line_states_one bytes one two a b =
    let same : b.1 ≡ a.1 = same_characters bytes b.1 a.1 b.2 a.2 in
    one_line absolute_iris a.1 one two a.3 (subst (λ (cs : List ℕ). IsLineOf absolute_iris cs two) same b.3)

lines_state_one : (lines : List (List ℕ)) (one two : List Signed) → AreLines lines one → AreLines lines two → one ≡ two
lines_state_one [] one two a b = a ∙ sym b
lines_state_one (line ∷ lines) one two a b =
    let head : a.0 ≡ b.0 = line_states_one line a.0 b.0 a.2 b.2 in
    let tail : a.1 ≡ b.1 = lines_state_one lines a.1 b.1 a.3 b.3 in
    rw (a.4, b.4, head, tail) refl

pub one_list : (text : List ℕ) (one two : List Signed) → IsPatchText text one → IsPatchText text two → one ≡ two
one_list text one two a b = lines_state_one (lines_of text) one two a b
