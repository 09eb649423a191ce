-- What reading a line gives is what the grammar relates to it, and so reading decides the grammar.
use Rattle.std.proofs.Common.{◌≡◌, ℕ, Bool, true, false, cond, List, [], ◌∷◌, Option, Some, None, refl, sym, ap, subst, ◌∙◌, inl, inr}
use Rattle.std.specs.Prelude.{◌↔◌}
use Rattle.std.proofs.lemmas.Bool.{eqb-true}
use Rattle.std.proofs.lemmas.Option.{cond_some}
use Rattle.lf_rdf.specs.declared.term.Term.{Term}
use Rattle.lf_rdf.specs.declared.term.Term.TheVariants.{Iri, Blank, Literal}
use Rattle.lf_rdf.specs.declared.quad.Quad.{Quad}
use Rattle.lf_rdf.specs.declared.quad.Signed.{Signed}
use Rattle.lf_rdf.specs.Vocabulary.{xsd_string, rdf_lang_string}
use Rattle.def_patch_texts.specs.Terminals.{Allowed, IsSpace}
use Rattle.def_patch_texts.specs.Statements.{IsNode, IsTyped, IsSuffix, IsObject, IsGraph, IsRest, IsStatement, IsSign, IsLineOf}
use Rattle.def_patch_texts.specs.Reading.{◌>>=◌, starts, after_char, skip, iri_at, blank_at, tag_at, string_at, node_at, typed_at, suffix_at, object_at, named_at, graph_at, is_comment, quad_of, statement_at, sign_at, signed_at, line_at}
use Rattle.def_patch_texts.proofs.Lines.{line_again}
use Rattle.def_patch_texts.proofs.Takes.{bind_some, found_is, chosen, after_char_takes, skip_takes, iri_takes, blank_takes, tag_takes, string_takes}

-- spaces, and then this text
space_to : (text rest : List ℕ) → skip text ≡ rest → IsSpace text rest
space_to text rest e = subst (λ (t : List ℕ). IsSpace text t) e (skip_takes text)

-- ---- nodes and objects

node_takes : (allowed : Allowed) (text : List ℕ) (x : Term × List ℕ) → node_at allowed text ≡ Some x → IsNode allowed text x.0 x.1
unfolding node_at
node_takes allowed text x e =
    elim (chosen (starts 60 text) (iri_at allowed text >>= λ iri. Some (Iri iri.0, iri.1)) (blank_at text >>= λ label. Some (Blank label.0, label.1)) x e) [
      | inl named ↦
          let a = bind_some (iri_at allowed text) (λ iri. Some (Iri iri.0, iri.1)) x named.1 in
          subst (λ (y : Term × List ℕ). IsNode allowed text y.0 y.1) (found_is (Iri a.0.0, a.0.1) x a.2) (iri_takes allowed text a.0 a.1)
      | inr labelled ↦
          let a = bind_some (blank_at text) (λ label. Some (Blank label.0, label.1)) x labelled.1 in
          subst (λ (y : Term × List ℕ). IsNode allowed text y.0 y.1) (found_is (Blank a.0.0, a.0.1) x a.2) (blank_takes text a.0 a.1)
    ]

typed_takes : (allowed : Allowed) (text : List ℕ) (x : List ℕ × List ℕ) → typed_at allowed (skip text) ≡ Some x → IsTyped allowed text x.0 x.1
unfolding typed_at
typed_takes allowed text x e =
    let a = bind_some (after_char 94 (skip text)) (λ caret. after_char 94 caret >>= λ iri. iri_at allowed (skip iri)) x e in
    let b = bind_some (after_char 94 a.0) (λ iri. iri_at allowed (skip iri)) x a.2 in
    let carets : skip text ≡ 94 ∷ 94 ∷ b.0 = after_char_takes 94 (skip text) a.0 a.1 ∙ ap (λ (t : List ℕ). 94 ∷ t) (after_char_takes 94 a.0 b.0 b.1) in
    record { carets = b.0; iri = skip b.0; before = space_to text (94 ∷ 94 ∷ b.0) carets; between = skip_takes b.0; names = iri_takes allowed (skip b.0) x b.2 }

-- a literal with this string
abbrev IsLiteral : Allowed → List ℕ → List ℕ → Term × List ℕ → Type 0
IsLiteral allowed value text x =
    (datatype : List ℕ) × (language : Option (List ℕ)) × (x.0 ≡ Literal value datatype language) × IsSuffix allowed text datatype language x.1

suffix_takes : (allowed : Allowed) (value text : List ℕ) (x : Term × List ℕ) → suffix_at allowed value text ≡ Some x → IsLiteral allowed value text x
unfolding suffix_at
suffix_takes allowed value text x e =
    elim (chosen (starts 94 (skip text)) (typed_at allowed (skip text) >>= λ datatype. Some (Literal value datatype.0 None, datatype.1)) (cond (starts 64 (skip text)) (tag_at (skip text) >>= λ tag. Some (Literal value rdf_lang_string (Some tag.0), tag.1)) (Some (Literal value xsd_string None, text))) x e) [
      | inl typed ↦
          let a = bind_some (typed_at allowed (skip text)) (λ datatype. Some (Literal value datatype.0 None, datatype.1)) x typed.1 in
          subst (λ (y : Term × List ℕ). IsLiteral allowed value text y) (found_is (Literal value a.0.0 None, a.0.1) x a.2)
          (a.0.0, None, refl, inr (typed_takes allowed text a.0 a.1))
      | inr other ↦
          elim (chosen (starts 64 (skip text)) (tag_at (skip text) >>= λ tag. Some (Literal value rdf_lang_string (Some tag.0), tag.1)) (Some (Literal value xsd_string None, text)) x other.1) [
            | inl tagged ↦
                let a = bind_some (tag_at (skip text)) (λ tag. Some (Literal value rdf_lang_string (Some tag.0), tag.1)) x tagged.1 in
                subst (λ (y : Term × List ℕ). IsLiteral allowed value text y) (found_is (Literal value rdf_lang_string (Some a.0.0), a.0.1) x a.2)
                (rdf_lang_string, Some a.0.0, refl, (refl, record { tag = skip text; before = skip_takes text; names = tag_takes (skip text) a.0 a.1 }))
            | inr plain ↦
                subst (λ (y : Term × List ℕ). IsLiteral allowed value text y) (found_is (Literal value xsd_string None, text) x plain.1)
                (xsd_string, None, refl, inl (refl, refl))
          ]
    ]

node_object : (allowed : Allowed) (text : List ℕ) (term : Term) (rest : List ℕ) → IsNode allowed text term rest → IsObject allowed text term rest
node_object allowed text (Iri iri) rest h = h
node_object allowed text (Blank label) rest h = h
node_object allowed text (Literal value datatype language) rest h = absurd h

object_takes : (allowed : Allowed) (text : List ℕ) (x : Term × List ℕ) → object_at allowed text ≡ Some x → IsObject allowed text x.0 x.1
unfolding object_at
object_takes allowed text x e =
    elim (chosen (starts 34 text) (string_at allowed text >>= λ value. suffix_at allowed value.0 value.1) (node_at allowed text) x e) [
      | inl literal ↦
          let a = bind_some (string_at allowed text) (λ value. suffix_at allowed value.0 value.1) x literal.1 in
          let s = suffix_takes allowed a.0.0 a.0.1 x a.2 in
          subst (λ (t : Term). IsObject allowed text t x.1) (sym s.2) (a.0.1, string_takes allowed text a.0 a.1, s.3)
      | inr node ↦ node_object allowed text x.0 x.1 (node_takes allowed text x node.1)
    ]

-- ---- graph labels

named_takes : (allowed : Allowed) (text : List ℕ) (x : Option Term × List ℕ) → named_at allowed (skip text) ≡ Some x → IsGraph allowed text x.0 x.1
unfolding named_at
named_takes allowed text x e =
    let a = bind_some (node_at allowed (skip text)) (λ name. after_char 46 (skip name.1) >>= λ rest. Some (Some name.0, rest)) x e in
    let b = bind_some (after_char 46 (skip a.0.1)) (λ rest. Some (Some a.0.0, rest)) x a.2 in
    subst (λ (y : Option Term × List ℕ). IsGraph allowed text y.0 y.1) (found_is (Some a.0.0, b.0) x b.2)
    (skip text, a.0.1, skip_takes text, node_takes allowed (skip text) a.0 a.1, space_to a.0.1 (46 ∷ b.0) (after_char_takes 46 (skip a.0.1) b.0 b.1))

graph_takes : (allowed : Allowed) (text : List ℕ) (x : Option Term × List ℕ) → graph_at allowed text ≡ Some x → IsGraph allowed text x.0 x.1
unfolding graph_at
graph_takes allowed text x e =
    elim (chosen (starts 46 (skip text)) (after_char 46 (skip text) >>= λ rest. Some (None, rest)) (named_at allowed (skip text)) x e) [
      | inl plain ↦
          let a = bind_some (after_char 46 (skip text)) (λ rest. Some (None, rest)) x plain.1 in
          subst (λ (y : Option Term × List ℕ). IsGraph allowed text y.0 y.1) (found_is (None, a.0) x a.2)
          (space_to text (46 ∷ a.0) (after_char_takes 46 (skip text) a.0 a.1))
      | inr named ↦ named_takes allowed text x named.1
    ]

-- ---- statements and lines

comment_takes : (text rest : List ℕ) → skip text ≡ rest → is_comment rest ≡ true → IsRest text
comment_takes text [] e h = inl (space_to text [] e)
comment_takes text (c ∷ rest) e h =
    let same : c ≡ 35 = eqb-true c 35 h in inr (rest, space_to text (35 ∷ rest) (e ∙ ap (λ (l : ℕ). l ∷ rest) same))

statement_takes : (allowed : Allowed) (text : List ℕ) (quad : Quad) → statement_at allowed text ≡ Some quad → IsStatement allowed text quad
unfolding statement_at
statement_takes allowed text quad e =
    let s = bind_some (node_at allowed (skip text)) (λ subject. iri_at allowed (skip subject.1) >>= λ predicate. object_at allowed (skip predicate.1) >>= λ object. graph_at allowed object.1 >>= λ graph. cond (is_comment (skip graph.1)) (Some (quad_of subject.0 predicate.0 object.0 graph.0)) None) quad e in
    let p = bind_some (iri_at allowed (skip s.0.1)) (λ predicate. object_at allowed (skip predicate.1) >>= λ object. graph_at allowed object.1 >>= λ graph. cond (is_comment (skip graph.1)) (Some (quad_of s.0.0 predicate.0 object.0 graph.0)) None) quad s.2 in
    let o = bind_some (object_at allowed (skip p.0.1)) (λ object. graph_at allowed object.1 >>= λ graph. cond (is_comment (skip graph.1)) (Some (quad_of s.0.0 p.0.0 object.0 graph.0)) None) quad p.2 in
    let g = bind_some (graph_at allowed o.0.1) (λ graph. cond (is_comment (skip graph.1)) (Some (quad_of s.0.0 p.0.0 o.0.0 graph.0)) None) quad o.2 in
    let end = cond_some (is_comment (skip g.0.1)) (quad_of s.0.0 p.0.0 o.0.0 g.0.0) quad g.2 in
    subst (λ (q : Quad). IsStatement allowed text q) end.1
    (record {
      subject = skip text;
      after_subject = s.0.1;
      predicate = skip s.0.1;
      after_predicate = p.0.1;
      object = skip p.0.1;
      after_object = o.0.1;
      rest = g.0.1;
      iri = p.0.0;
      before_subject = skip_takes text;
      has_subject = node_takes allowed (skip text) s.0 s.1;
      before_predicate = skip_takes s.0.1;
      has_predicate = iri_takes allowed (skip s.0.1) p.0 p.1;
      predicate_is = refl;
      before_object = skip_takes p.0.1;
      has_object = object_takes allowed (skip p.0.1) o.0 o.1;
      has_graph = graph_takes allowed o.0.1 g.0 g.1;
      ends = comment_takes g.0.1 (skip g.0.1) refl end.0;
    })

sign_takes : (text : List ℕ) (x : Bool × List ℕ) → sign_at text ≡ Some x → IsSign text x.0 x.1
unfolding sign_at
sign_takes text x e =
    elim (chosen (starts 43 text) (after_char 43 text >>= λ space. after_char 32 space >>= λ rest. Some (true, rest)) (cond (starts 45 text) (after_char 45 text >>= λ space. after_char 32 space >>= λ rest. Some (false, rest)) (Some (true, text))) x e) [
      | inl plus ↦
          let a = bind_some (after_char 43 text) (λ space. after_char 32 space >>= λ rest. Some (true, rest)) x plus.1 in
          let b = bind_some (after_char 32 a.0) (λ rest. Some (true, rest)) x a.2 in
          subst (λ (y : Bool × List ℕ). IsSign text y.0 y.1) (found_is (true, b.0) x b.2)
          (inr (after_char_takes 43 text a.0 a.1 ∙ ap (λ (t : List ℕ). 43 ∷ t) (after_char_takes 32 a.0 b.0 b.1)))
      | inr other ↦
          elim (chosen (starts 45 text) (after_char 45 text >>= λ space. after_char 32 space >>= λ rest. Some (false, rest)) (Some (true, text)) x other.1) [
            | inl minus ↦
                let a = bind_some (after_char 45 text) (λ space. after_char 32 space >>= λ rest. Some (false, rest)) x minus.1 in
                let b = bind_some (after_char 32 a.0) (λ rest. Some (false, rest)) x a.2 in
                subst (λ (y : Bool × List ℕ). IsSign text y.0 y.1) (found_is (false, b.0) x b.2)
                (after_char_takes 45 text a.0 a.1 ∙ ap (λ (t : List ℕ). 45 ∷ t) (after_char_takes 32 a.0 b.0 b.1))
            | inr none ↦ subst (λ (y : Bool × List ℕ). IsSign text y.0 y.1) (found_is (true, text) x none.1) (inl refl)
          ]
    ]

signed_takes : (allowed : Allowed) (text : List ℕ) (stated : Option Signed) → signed_at allowed text ≡ Some stated → IsLineOf allowed text stated
unfolding signed_at
signed_takes allowed text stated e =
    let a = bind_some (sign_at text) (λ sign. statement_at allowed sign.1 >>= λ quad. Some (Some (record { add = sign.0; quad = quad }))) stated e in
    let b = bind_some (statement_at allowed a.0.1) (λ quad. Some (Some (record { add = a.0.0; quad = quad }))) stated a.2 in
    subst (λ (s : Option Signed). IsLineOf allowed text s) (found_is (Some (record { add = a.0.0; quad = b.0 })) stated b.2)
    (a.0.1, sign_takes text a.0 a.1, statement_takes allowed a.0.1 b.0 b.1)

pub line_takes : (allowed : Allowed) (text : List ℕ) (stated : Option Signed) → line_at allowed text ≡ Some stated → IsLineOf allowed text stated
unfolding line_at
line_takes allowed text stated e =
    elim (chosen (is_comment (skip text)) (Some None) (signed_at allowed text) stated e) [
      | inl skipped ↦
          subst (λ (s : Option Signed). IsLineOf allowed text s) (found_is None stated skipped.1) (comment_takes text (skip text) refl skipped.0)
      | inr signed ↦ signed_takes allowed text stated signed.1
    ]

pub line_read : (allowed : Allowed) (text : List ℕ) (stated : Option Signed) → (line_at allowed text ≡ Some stated) ↔ IsLineOf allowed text stated
line_read allowed text stated = (line_takes allowed text stated, line_again allowed text stated)
