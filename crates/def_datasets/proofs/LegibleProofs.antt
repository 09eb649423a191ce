-- Legible terms and quads are told apart by their texts.
use Rattle.std.proofs.Common.{◌≡◌, refl, sym, ◌∙◌, ap, ℕ, List, [], ◌∷◌, ◌++◌, append_assoc, Bool, true, false, not, ◌&&◌, if◌then◌else◌, nat_eq, Option, Some, None, Ordering, Less, Equal, Greater, arith}
use Rattle.std.specs.Ordering.{ordering_then}
use Rattle.std.specs.Cmp.Lexicographic.{bytes_decides}
use Rattle.std.proofs.lemmas.Bool.{true≢false, false≢true, and_parts, eqb-true, eqb-false, not-true}
use Rattle.std.proofs.lemmas.Cmp.{tied_itself}
use Rattle.lf_rdf.specs.declared.term.Term.{Term}
use Rattle.lf_rdf.specs.declared.term.Term.TheVariants.{Iri, Blank, Literal}
use Rattle.lf_rdf.specs.declared.quad.Quad.{Quad}
use Rattle.lf_rdf.specs.Vocabulary.{xsd_string, rdf_lang_string}
use Rattle.lf_rdf.specs.Equality.{text_eq}
use Rattle.lf_rdf.specs.Canonical.{id_of, escaped_byte, escaped, bracketed, quoted, suffix_of, term_text, label_text, line}
use Rattle.def_datasets.specs.Order.{text_cmp, parts_cmp, term_parts, parts_order, id_cmp, term_cmp, quad_cmp}
use Rattle.def_datasets.specs.Legible.{lacks, legible_term, legible_label, legible, TextsTellTerms, LinesTellQuads, TextsOrderTerms, LinesOrderQuads, begins_otherwise, IdsTellNodes, IdsOrderNodes}
use Rattle.def_datasets.proofs.OrderLaws.{texts_tell, id_strict, term_strict, quad_strict}

-- ---- a text up to a byte that it lacks

byte_unlike : (b byte : ℕ) → not (nat_eq b byte) ≡ true → b ≡ byte → ⊥
byte_unlike b byte n e =
    let same : nat_eq b b ≡ true = itself b in
    true≢false (sym same ∙ (ap (nat_eq b) e ∙ not-true (nat_eq b byte) n))
  where
    itself : (x : ℕ) → nat_eq x x ≡ true
    itself x = grind arith

first_same : (a b : ℕ) (x y : List ℕ) → a ∷ x ≡ b ∷ y → a ≡ b
first_same a b x y e = cc

rest_same : (a b : ℕ) (x y : List ℕ) → a ∷ x ≡ b ∷ y → x ≡ y
rest_same a b x y e = cc

until : (byte : ℕ) (a b x y : List ℕ) → lacks byte a ≡ true → lacks byte b ≡ true → a ++ byte ∷ x ≡ b ++ byte ∷ y → (a ≡ b) × (x ≡ y)
until byte [] [] x y p q e = (refl, rest_same byte byte x y e)
until byte [] (d ∷ b) x y p q e =
    let parts : (not (nat_eq d byte) ≡ true) × (lacks byte b ≡ true) = and_parts (not (nat_eq d byte)) (lacks byte b) q in
    absurd (byte_unlike d byte parts.0 (sym (first_same byte d x (b ++ byte ∷ y) e)))
until byte (c ∷ a) [] x y p q e =
    let parts : (not (nat_eq c byte) ≡ true) × (lacks byte a ≡ true) = and_parts (not (nat_eq c byte)) (lacks byte a) p in
    absurd (byte_unlike c byte parts.0 (first_same c byte (a ++ byte ∷ x) y e))
until byte (c ∷ a) (d ∷ b) x y p q e =
    let pa : (not (nat_eq c byte) ≡ true) × (lacks byte a ≡ true) = and_parts (not (nat_eq c byte)) (lacks byte a) p in
    let pb : (not (nat_eq d byte) ≡ true) × (lacks byte b ≡ true) = and_parts (not (nat_eq d byte)) (lacks byte b) q in
    let first : c ≡ d = first_same c d (a ++ byte ∷ x) (b ++ byte ∷ y) e in
    let ih : (a ≡ b) × (x ≡ y) = until byte a b x y pa.1 pb.1 (rest_same c d (a ++ byte ∷ x) (b ++ byte ∷ y) e) in
    (λ i. first i ∷ ih.0 i, ih.1)

-- ---- strings

code_of : ℕ → ℕ
code_of m = if nat_eq m 110 then 10 else if nat_eq m 114 then 13 else m

head_or : List ℕ → ℕ
head_or [] = 0
head_or (b ∷ rest) = b

tail_of : List ℕ → List ℕ
tail_of [] = []
tail_of (b ∷ rest) = rest

-- the character that an escaped text begins with, what follows it, and whether the text begins with a quote
first_char : List ℕ → ℕ
first_char [] = 0
first_char (b ∷ rest) = if nat_eq b 92 then code_of (head_or rest) else b

past_char : List ℕ → List ℕ
past_char [] = []
past_char (b ∷ rest) = if nat_eq b 92 then tail_of rest else rest

quote_first : List ℕ → Bool
quote_first [] = false
quote_first (b ∷ rest) = nat_eq b 34

record Char (c : ℕ) (text u : List ℕ) : Type 0 where
  char : first_char text ≡ c
  past : past_char text ≡ u
  open_still : quote_first text ≡ false

char_case : (c : ℕ) (u : List ℕ) (q s l r : Bool) → nat_eq c 34 ≡ q → nat_eq c 92 ≡ s → nat_eq c 10 ≡ l → nat_eq c 13 ≡ r
    → Char c
    ((if q then 92 ∷ 34 ∷ [] else if s then 92 ∷ 92 ∷ [] else if l then 92 ∷ 110 ∷ [] else if r then 92 ∷ 114 ∷ [] else c ∷ []) ++ u) u
unfolding code_of head_or tail_of first_char past_char quote_first
char_case c u true s l r eq es el er = record { char = sym (eqb-true c 34 eq); past = refl; open_still = refl }
char_case c u false true l r eq es el er = record { char = sym (eqb-true c 92 es); past = refl; open_still = refl }
char_case c u false false true r eq es el er = record { char = sym (eqb-true c 10 el); past = refl; open_still = refl }
char_case c u false false false true eq es el er = record { char = sym (eqb-true c 13 er); past = refl; open_still = refl }
char_case c u false false false false eq es el er =
    record {
      char = ap (λ (b : Bool). if b then code_of (head_or u) else c) es;
      past = ap (λ (b : Bool). if b then tail_of u else u) es;
      open_still = eq;
    }

char_of : (c : ℕ) (u : List ℕ) → Char c (escaped_byte c ++ u) u
char_of c u = char_case c u (nat_eq c 34) (nat_eq c 92) (nat_eq c 10) (nat_eq c 13) refl refl refl refl

strings : (a b x y : List ℕ) → escaped a ++ 34 ∷ x ≡ escaped b ++ 34 ∷ y → (a ≡ b) × (x ≡ y)
unfolding quote_first
strings [] [] x y e = (refl, rest_same 34 34 x y e)
strings [] (d ∷ b) x y e =
    let k : Char d (escaped_byte d ++ (escaped b ++ 34 ∷ y)) (escaped b ++ 34 ∷ y) = char_of d (escaped b ++ 34 ∷ y) in
    let text : 34 ∷ x ≡ escaped_byte d ++ (escaped b ++ 34 ∷ y) = e ∙ append_assoc (escaped_byte d) (escaped b) (34 ∷ y) in
    absurd (true≢false (ap quote_first text ∙ k.open_still))
strings (c ∷ a) [] x y e =
    let k : Char c (escaped_byte c ++ (escaped a ++ 34 ∷ x)) (escaped a ++ 34 ∷ x) = char_of c (escaped a ++ 34 ∷ x) in
    let text : escaped_byte c ++ (escaped a ++ 34 ∷ x) ≡ 34 ∷ y = sym (append_assoc (escaped_byte c) (escaped a) (34 ∷ x)) ∙ e in
    absurd (false≢true (sym k.open_still ∙ ap quote_first text))
strings (c ∷ a) (d ∷ b) x y e =
    let kc : Char c (escaped_byte c ++ (escaped a ++ 34 ∷ x)) (escaped a ++ 34 ∷ x) = char_of c (escaped a ++ 34 ∷ x) in
    let kd : Char d (escaped_byte d ++ (escaped b ++ 34 ∷ y)) (escaped b ++ 34 ∷ y) = char_of d (escaped b ++ 34 ∷ y) in
    let text : escaped_byte c ++ (escaped a ++ 34 ∷ x) ≡ escaped_byte d ++ (escaped b ++ 34 ∷ y) =
    sym (append_assoc (escaped_byte c) (escaped a) (34 ∷ x)) ∙ (e ∙ append_assoc (escaped_byte d) (escaped b) (34 ∷ y)) in
    let first : c ≡ d = sym kc.char ∙ (ap first_char text ∙ kd.char) in
    let ih : (a ≡ b) × (x ≡ y) = strings a b x y (sym kc.past ∙ (ap past_char text ∙ kd.past)) in
    (λ i. first i ∷ ih.0 i, ih.1)

-- ---- suffixes of literals, with a space behind

abbrev Told : List ℕ → Option (List ℕ) → List ℕ → List ℕ → Option (List ℕ) → List ℕ → Type 0
Told d k x f l y = (d ≡ f) × (k ≡ l) × (x ≡ y)

legible_suffix : List ℕ → Option (List ℕ) → Bool
legible_suffix datatype None = lacks 62 datatype
legible_suffix datatype (Some language) = text_eq datatype rdf_lang_string && lacks 32 language

bracket_text : (d x : List ℕ) → (94 ∷ 94 ∷ bracketed d) ++ 32 ∷ x ≡ 94 ∷ 94 ∷ 60 ∷ (d ++ 62 ∷ 32 ∷ x)
bracket_text d x = λ i. 94 ∷ 94 ∷ 60 ∷ append_assoc d (62 ∷ []) (32 ∷ x) i

datatypes : (d f x y : List ℕ) (p q : Bool) → text_eq d xsd_string ≡ p → text_eq f xsd_string ≡ q → lacks 62 d ≡ true → lacks 62 f ≡ true
    → (if p then [] else 94 ∷ 94 ∷ bracketed d) ++ 32 ∷ x ≡ (if q then [] else 94 ∷ 94 ∷ bracketed f) ++ 32 ∷ y → (d ≡ f) × (x ≡ y)
datatypes d f x y true true p q ld lf e =
    ((bytes_decides d xsd_string).0 p ∙ sym ((bytes_decides f xsd_string).0 q), rest_same 32 32 x y e)
datatypes d f x y true false p q ld lf e = absurd (eqb-false 32 94 refl (first_same 32 94 x (94 ∷ (bracketed f ++ 32 ∷ y)) e))
datatypes d f x y false true p q ld lf e = absurd (eqb-false 94 32 refl (first_same 94 32 (94 ∷ (bracketed d ++ 32 ∷ x)) y e))
datatypes d f x y false false p q ld lf e =
    let text : 94 ∷ 94 ∷ 60 ∷ (d ++ 62 ∷ 32 ∷ x) ≡ 94 ∷ 94 ∷ 60 ∷ (f ++ 62 ∷ 32 ∷ y) = sym (bracket_text d x) ∙ (e ∙ bracket_text f y) in
    let inner : d ++ 62 ∷ 32 ∷ x ≡ f ++ 62 ∷ 32 ∷ y = three (d ++ 62 ∷ 32 ∷ x) (f ++ 62 ∷ 32 ∷ y) text in
    let both : (d ≡ f) × (32 ∷ x ≡ 32 ∷ y) = until 62 d f (32 ∷ x) (32 ∷ y) ld lf inner in
    (both.0, rest_same 32 32 x y both.1)
  where
    three : (u v : List ℕ) → 94 ∷ 94 ∷ 60 ∷ u ≡ 94 ∷ 94 ∷ 60 ∷ v → u ≡ v
    three u v h = rest_same 60 60 u v (rest_same 94 94 (60 ∷ u) (60 ∷ v) (rest_same 94 94 (94 ∷ 60 ∷ u) (94 ∷ 60 ∷ v) h))

no_tag : (d x : List ℕ) (l y : List ℕ) (p : Bool) → (if p then [] else 94 ∷ 94 ∷ bracketed d) ++ 32 ∷ x ≡ (64 ∷ l) ++ 32 ∷ y → ⊥
no_tag d x l y true e = eqb-false 32 64 refl (first_same 32 64 x (l ++ 32 ∷ y) e)
no_tag d x l y false e = eqb-false 94 64 refl (first_same 94 64 (94 ∷ (bracketed d ++ 32 ∷ x)) (l ++ 32 ∷ y) e)

suffixes : (d : List ℕ) (k : Option (List ℕ)) (x f : List ℕ) (l : Option (List ℕ)) (y : List ℕ) → legible_suffix d k ≡ true → legible_suffix f l ≡ true
    → suffix_of d k ++ 32 ∷ x ≡ suffix_of f l ++ 32 ∷ y → Told d k x f l y
unfolding legible_suffix
suffixes d None x f None y p q e =
    let both : (d ≡ f) × (x ≡ y) = datatypes d f x y (text_eq d xsd_string) (text_eq f xsd_string) refl refl p q e in
    (both.0, refl, both.1)
suffixes d None x f (Some l) y p q e = absurd (no_tag d x l y (text_eq d xsd_string) e)
suffixes d (Some k) x f None y p q e = absurd (no_tag f y k x (text_eq f xsd_string) (sym e))
suffixes d (Some k) x f (Some l) y p q e =
    let pk : (text_eq d rdf_lang_string ≡ true) × (lacks 32 k ≡ true) = and_parts (text_eq d rdf_lang_string) (lacks 32 k) p in
    let pl : (text_eq f rdf_lang_string ≡ true) × (lacks 32 l ≡ true) = and_parts (text_eq f rdf_lang_string) (lacks 32 l) q in
    let both : (k ≡ l) × (x ≡ y) = until 32 k l x y pk.1 pl.1 (rest_same 64 64 (k ++ 32 ∷ x) (l ++ 32 ∷ y) e) in
    ((bytes_decides d rdf_lang_string).0 pk.0 ∙ sym ((bytes_decides f rdf_lang_string).0 pl.0), ap Some both.0, both.1)

-- ---- terms, with a space behind

iri_text : (a x : List ℕ) → bracketed a ++ 32 ∷ x ≡ 60 ∷ (a ++ 62 ∷ 32 ∷ x)
iri_text a x = λ i. 60 ∷ append_assoc a (62 ∷ []) (32 ∷ x) i

literal_text : (a d : List ℕ) (l : Option (List ℕ)) (x : List ℕ)
    → (quoted a ++ suffix_of d l) ++ 32 ∷ x ≡ 34 ∷ (escaped a ++ 34 ∷ (suffix_of d l ++ 32 ∷ x))
literal_text a d l x =
    append_assoc (quoted a) (suffix_of d l) (32 ∷ x)
    ∙ (λ i. 34 ∷ append_assoc (escaped a) (34 ∷ []) (suffix_of d l ++ 32 ∷ x) i)

literal_legible : (a d : List ℕ) (l : Option (List ℕ)) → legible_term (Literal a d l) ≡ legible_suffix d l
unfolding legible_suffix
literal_legible a d None = refl
literal_legible a d (Some l) = refl

terms : (s t : Term) (x y : List ℕ) → legible_term s ≡ true → legible_term t ≡ true → term_text s ++ 32 ∷ x ≡ term_text t ++ 32 ∷ y → (s ≡ t) × (x ≡ y)
terms (Iri a) (Iri b) x y p q e =
    let text : 60 ∷ (a ++ 62 ∷ 32 ∷ x) ≡ 60 ∷ (b ++ 62 ∷ 32 ∷ y) = sym (iri_text a x) ∙ (e ∙ iri_text b y) in
    let both : (a ≡ b) × (32 ∷ x ≡ 32 ∷ y) =
    until 62 a b (32 ∷ x) (32 ∷ y) p q (rest_same 60 60 (a ++ 62 ∷ 32 ∷ x) (b ++ 62 ∷ 32 ∷ y) text) in
    (ap Iri both.0, rest_same 32 32 x y both.1)
terms (Iri a) (Blank b) x y p q e =
    absurd (eqb-false 60 95 refl (first_same 60 95 (a ++ 62 ∷ 32 ∷ x) (58 ∷ (b ++ 32 ∷ y)) (sym (iri_text a x) ∙ e)))
terms (Iri a) (Literal b f m) x y p q e =
    absurd (eqb-false 60 34 refl (first_same 60 34 (a ++ 62 ∷ 32 ∷ x) (escaped b ++ 34 ∷ (suffix_of f m ++ 32 ∷ y)) (sym (iri_text a x) ∙ (e ∙ literal_text b f m y))))
terms (Blank a) (Iri b) x y p q e =
    absurd (eqb-false 60 95 refl (sym (first_same 95 60 (58 ∷ (a ++ 32 ∷ x)) (b ++ 62 ∷ 32 ∷ y) (e ∙ iri_text b y))))
terms (Blank a) (Blank b) x y p q e =
    let both : (a ≡ b) × (x ≡ y) =
    until 32 a b x y p q
    (rest_same 58 58 (a ++ 32 ∷ x) (b ++ 32 ∷ y) (rest_same 95 95 (58 ∷ (a ++ 32 ∷ x)) (58 ∷ (b ++ 32 ∷ y)) e)) in
    (ap Blank both.0, both.1)
terms (Blank a) (Literal b f m) x y p q e =
    absurd (eqb-false 95 34 refl (first_same 95 34 (58 ∷ (a ++ 32 ∷ x)) (escaped b ++ 34 ∷ (suffix_of f m ++ 32 ∷ y)) (e ∙ literal_text b f m y)))
terms (Literal a d l) (Iri b) x y p q e =
    absurd (eqb-false 60 34 refl (sym (first_same 34 60 (escaped a ++ 34 ∷ (suffix_of d l ++ 32 ∷ x)) (b ++ 62 ∷ 32 ∷ y) (sym (literal_text a d l x) ∙ (e ∙ iri_text b y)))))
terms (Literal a d l) (Blank b) x y p q e =
    absurd (eqb-false 95 34 refl (sym (first_same 34 95 (escaped a ++ 34 ∷ (suffix_of d l ++ 32 ∷ x)) (58 ∷ (b ++ 32 ∷ y)) (sym (literal_text a d l x) ∙ e))))
terms (Literal a d l) (Literal b f m) x y p q e =
    let text : 34 ∷ (escaped a ++ 34 ∷ (suffix_of d l ++ 32 ∷ x)) ≡ 34 ∷ (escaped b ++ 34 ∷ (suffix_of f m ++ 32 ∷ y)) =
    sym (literal_text a d l x) ∙ (e ∙ literal_text b f m y) in
    let outer : (a ≡ b) × (suffix_of d l ++ 32 ∷ x ≡ suffix_of f m ++ 32 ∷ y) =
    strings a b (suffix_of d l ++ 32 ∷ x) (suffix_of f m ++ 32 ∷ y)
    (rest_same 34 34 (escaped a ++ 34 ∷ (suffix_of d l ++ 32 ∷ x)) (escaped b ++ 34 ∷ (suffix_of f m ++ 32 ∷ y)) text) in
    let inner : (d ≡ f) × (l ≡ m) × (x ≡ y) =
    suffixes d l x f m y (sym (literal_legible a d l) ∙ p) (sym (literal_legible b f m) ∙ q) outer.1 in
    (λ i. Literal (outer.0 i) (inner.0 i) (inner.1 i), inner.2)

pub texts_tell_terms : TextsTellTerms
texts_tell_terms s t p q e = (terms s t [] [] p q (ap (λ (w : List ℕ). w ++ 32 ∷ []) e)).0

-- ---- lines

-- what follows the object and a space
behind : Option Term → List ℕ
behind None = 46 ∷ []
behind (Some name) = term_text name ++ 32 ∷ 46 ∷ []

end_text : (label : Option Term) → label_text label ++ 32 ∷ 46 ∷ [] ≡ 32 ∷ behind label
unfolding behind
end_text None = refl
end_text (Some name) = refl

line_text : (q : Quad)
    → line q ≡ term_text q.subject ++ 32 ∷ (term_text q.predicate ++ 32 ∷ (term_text q.object ++ 32 ∷ behind q.graph))
line_text q =
    let s : List ℕ = term_text q.subject in
    let p : List ℕ = term_text q.predicate in
    let o : List ℕ = term_text q.object in
    let l : List ℕ = label_text q.graph in
    let d : List ℕ = 32 ∷ 46 ∷ [] in
    append_assoc (s ++ 32 ∷ p ++ 32 ∷ o) l d
    ∙ (append_assoc (s ++ 32 ∷ p) (32 ∷ o) (l ++ d)
    ∙ (append_assoc s (32 ∷ p) (32 ∷ (o ++ (l ++ d))) ∙ (λ i. s ++ 32 ∷ (p ++ 32 ∷ (o ++ end_text q.graph i)))))

no_label : (t : Term) → 46 ∷ [] ≡ term_text t ++ 32 ∷ 46 ∷ [] → ⊥
no_label (Iri a) e = eqb-false 46 60 refl (first_same 46 60 [] (a ++ 62 ∷ 32 ∷ 46 ∷ []) (e ∙ iri_text a (46 ∷ [])))
no_label (Blank a) e = eqb-false 46 95 refl (first_same 46 95 [] (58 ∷ (a ++ 32 ∷ 46 ∷ [])) e)
no_label (Literal a d l) e = eqb-false 46 34 refl (first_same 46 34 [] (escaped a ++ 34 ∷ (suffix_of d l ++ 32 ∷ 46 ∷ [])) (e ∙ literal_text a d l (46 ∷ [])))

labels : (g h : Option Term) → legible_label g ≡ true → legible_label h ≡ true → behind g ≡ behind h → g ≡ h
unfolding behind
labels None None p q e = refl
labels None (Some t) p q e = absurd (no_label t e)
labels (Some s) None p q e = absurd (no_label s (sym e))
labels (Some s) (Some t) p q e = ap Some (terms s t (46 ∷ []) (46 ∷ []) p q e).0

record Parts (q : Quad) : Type 0 where
  subject : legible_term q.subject ≡ true
  predicate : legible_term q.predicate ≡ true
  object : legible_term q.object ≡ true
  label : legible_label q.graph ≡ true

parts : (q : Quad) → legible q ≡ true → Parts q
parts q e =
    let a : (legible_term q.subject ≡ true) × ((legible_term q.predicate && (legible_term q.object && legible_label q.graph)) ≡ true) =
    and_parts (legible_term q.subject) (legible_term q.predicate && (legible_term q.object && legible_label q.graph)) e in
    let b : (legible_term q.predicate ≡ true) × ((legible_term q.object && legible_label q.graph) ≡ true) =
    and_parts (legible_term q.predicate) (legible_term q.object && legible_label q.graph) a.1 in
    let c : (legible_term q.object ≡ true) × (legible_label q.graph ≡ true) = and_parts (legible_term q.object) (legible_label q.graph) b.1 in
    record { subject = a.0; predicate = b.0; object = c.0; label = c.1 }

pub lines_tell_quads : LinesTellQuads
lines_tell_quads q r p k e =
    let a : Parts q = parts q p in
    let b : Parts r = parts r k in
    let text : term_text q.subject ++ 32 ∷ (term_text q.predicate ++ 32 ∷ (term_text q.object ++ 32 ∷ behind q.graph))
    ≡ term_text r.subject ++ 32 ∷ (term_text r.predicate ++ 32 ∷ (term_text r.object ++ 32 ∷ behind r.graph)) =
    sym (line_text q) ∙ (e ∙ line_text r) in
    let s = terms q.subject r.subject (term_text q.predicate ++ 32 ∷ (term_text q.object ++ 32 ∷ behind q.graph)) (term_text r.predicate ++ 32 ∷ (term_text r.object ++ 32 ∷ behind r.graph)) a.subject b.subject text in
    let t = terms q.predicate r.predicate (term_text q.object ++ 32 ∷ behind q.graph) (term_text r.object ++ 32 ∷ behind r.graph) a.predicate b.predicate s.1 in
    let o = terms q.object r.object (behind q.graph) (behind r.graph) a.object b.object t.1 in
    let g : q.graph ≡ r.graph = labels q.graph r.graph a.label b.label o.1 in
    λ i. record { subject = s.0 i; predicate = t.0 i; object = o.0 i; graph = g i }

-- ---- orders

-- a first order that ties only at one value decides alone
decides_alone : {A : Type 0} (cmp : A → A → Ordering) → ((x : A) → cmp x x ≡ Equal) → (x y : A) (first second : Ordering)
    → cmp x y ≡ ordering_then first second → (first ≡ Equal → x ≡ y) → cmp x y ≡ first
decides_alone cmp itself x y Less second e f = e
decides_alone cmp itself x y Equal second e f = ap (cmp x) (sym (f refl)) ∙ itself x
decides_alone cmp itself x y Greater second e f = e

pub texts_order_terms : TextsOrderTerms
texts_order_terms s t p q =
    decides_alone term_cmp (tied_itself term_strict.total) s t (text_cmp (term_text s) (term_text t)) (parts_cmp (term_parts s) (term_parts t)) refl
    (λ e. texts_tell_terms s t p q (texts_tell (term_text s) (term_text t) e))

pub lines_order_quads : LinesOrderQuads
lines_order_quads q r p k =
    decides_alone quad_cmp (tied_itself quad_strict.total) q r (text_cmp (line q) (line r)) (parts_order q r) refl
    (λ e. lines_tell_quads q r p k (texts_tell (line q) (line r) e))

-- ---- ids

blank_id : (b label : List ℕ) → begins_otherwise b ≡ true → b ≡ 95 ∷ 58 ∷ label → ⊥
blank_id [] label p e = cc
blank_id (b ∷ rest) label p e = byte_unlike b 95 p (first_same b 95 rest (58 ∷ label) e)

pub ids_tell_nodes : IdsTellNodes
ids_tell_nodes (Iri a) (Iri b) p q e = ap Iri e
ids_tell_nodes (Iri a) (Blank b) p q e = absurd (blank_id a b p e)
ids_tell_nodes (Iri a) (Literal b d l) p q e = absurd (false≢true q)
ids_tell_nodes (Blank a) (Iri b) p q e = absurd (blank_id b a q (sym e))
ids_tell_nodes (Blank a) (Blank b) p q e = ap Blank (rest_same 58 58 a b (rest_same 95 95 (58 ∷ a) (58 ∷ b) e))
ids_tell_nodes (Blank a) (Literal b d l) p q e = absurd (false≢true q)
ids_tell_nodes (Literal a d l) t p q e = absurd (false≢true p)

pub ids_order_nodes : IdsOrderNodes
ids_order_nodes s t p q =
    decides_alone id_cmp (tied_itself id_strict.total) s t (text_cmp (id_of s) (id_of t)) (parts_cmp (term_parts s) (term_parts t)) refl
    (λ e. ids_tell_nodes s t p q (texts_tell (id_of s) (id_of t) e))
