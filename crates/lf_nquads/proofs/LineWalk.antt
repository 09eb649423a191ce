-- How far a whole line goes, and so what is wrong with a line that isn't in the grammar.
use Rattle.std.proofs.Common.{◌≡◌, ℕ, Bool, true, false, cond, List, [], ◌∷◌, ◌++◌, length, take, Option, Some, None, Result, Ok, Err, refl, sym, ap, subst, ◌∙◌, inl, inr}
use Rattle.std.specs.Prelude.{nat_eq, encode_utf8_all}
use Rattle.std.specs.Result.{result_ok}
use Rattle.std.proofs.lemmas.Bool.{eqb-true, false≢true}
use Rattle.std.proofs.lemmas.Option.{none-some}
use Rattle.lf_rdf.specs.declared.term.Term.TheVariants.{Iri, Blank, Literal}
use Rattle.lf_rdf.specs.declared.quad.Quad.{Quad}
use Rattle.lf_rdf.specs.declared.quad.Signed.{Signed}
use Rattle.lf_rdf.specs.Vocabulary.{rdf_lang_string}
use Rattle.def_patch_texts.specs.declared.kind.LineKind.{LineKind}
use Rattle.def_patch_texts.specs.declared.kind.LineKind.TheVariants.{Syntax, RelativeIri, BadEscape, NotUtf8, LineTooLong}
use Rattle.def_patch_texts.specs.Terminals.{Allowed}
use Rattle.def_patch_texts.specs.Characters.{is_blank, is_label, is_tag, lower}
use Rattle.def_patch_texts.specs.Statements.{IsLineOf}
use Rattle.def_patch_texts.specs.PatchText.{absolute_iris}
use Rattle.def_patch_texts.specs.BadLine.{Begins, IsLongestFront, IsFault}
use Rattle.def_patch_texts.specs.Reading as plain
use Rattle.def_patch_texts.specs.Reading.{starts, after_char, skip, front_at, blank_at, tag_at, is_comment, quad_of, sign_at, line_at}
use Rattle.def_patch_texts.proofs.Lines.{line_again}
use Rattle.def_patch_texts.proofs.TakesLine.{line_takes}
use Rattle.lf_nquads.specs.Outcomes.{◌>>=◌, expected, all_parts_of, iri_part_of, string_part_of, iri_of, string_of, literal_of, node_of, typed_of, suffix_of, object_of, named_of, graph_of, statement_of, signed_of, line_of}
use Rattle.lf_nquads.proofs.AsRead.{line_same}
use Rattle.lf_nquads.proofs.Places.{skip_none}
use Rattle.lf_nquads.proofs.Walks.{Lang, Mode, lax_mode, absolute_mode, whole_mode, allowed_in, Opens, FaultOf, Found, any_step, shift, Finish, at_end, same_on, Good, anything, good_anything, next, char, good_char, skipped, skip_blank, good_skip, branch, good_branch, commented, good_commented}
use Rattle.lf_nquads.proofs.FrontWalks.{rest, good_rest, After, over, label, good_label, tag, good_tag}
use Rattle.lf_nquads.proofs.PartWalks.{over_parts, iri_closing, iri_parts, good_iri_parts, string_closing, string_parts, good_string_parts}

-- ---- the languages of a line, from its end on

abbrev dot : Lang
dot = char 46 rest

abbrev iri : Lang → Lang
iri K = char 60 (iri_parts K)

abbrev blank : Lang → Lang
blank K = char 95 (char 58 (label K))

abbrev node : Lang → Lang
node K = branch 60 (iri K) (blank K)

abbrev named : Lang
named = node (skipped dot)

abbrev graph : Lang
graph = skipped (branch 46 dot named)

abbrev typed : Lang → Lang
typed K = char 94 (char 94 (skipped (iri K)))

abbrev suffix : Lang
suffix = skipped (branch 94 (typed graph) (branch 64 (char 64 (tag graph)) (branch 46 dot named)))

abbrev literal : Lang
literal = char 34 (string_parts suffix)

abbrev object : Lang
object = branch 34 literal (node graph)

abbrev predicate : Lang
predicate = skipped (iri (skipped object))

abbrev subject : Lang
subject = node predicate

abbrev statement : Lang
statement = skipped subject

abbrev signed : Lang
signed = branch 43 (char 43 (char 32 statement)) (branch 45 (char 45 (char 32 statement)) statement)

abbrev line : Lang
line A text = cond (is_comment (skip text)) None (signed A text)

-- ---- each has its longest fronts

good_dot : Good dot (Some 46)
good_dot = good_char 46 rest None good_rest

good_spaced_dot : Good (skipped dot) (Some 46)
good_spaced_dot = good_skip dot (Some 46) good_dot refl

good_iri : (K : Lang) (first : Option ℕ) → Good K first → Good (iri K) (Some 60)
good_iri K first g = good_char 60 (iri_parts K) (Some 62) (good_iri_parts K first g)

good_blank : (K : Lang) → After K → Good (blank K) (Some 95)
good_blank K a = good_char 95 (char 58 (label K)) (Some 58) (good_char 58 (label K) (Some 97) (good_label K a))

good_node : (K : Lang) → After K → Good (node K) (Some 95)
good_node K a = good_branch 60 (iri K) (blank K) (Some 60) (Some 95) (good_iri K a.first a.good) (good_blank K a) refl

skips_space : (L : Lang) (A : Allowed) (t : List ℕ) → skipped L A (32 ∷ t) ≡ skipped L A t
skips_space L A t = ap (L A) (skip_blank 32 t refl)

at_first : (L : Lang) (c : ℕ) → is_blank c ≡ false → (o : List ℕ → Option LineKind) (A : Allowed) → ((t : List ℕ) → L A (c ∷ t) ≡ o t) → (t : List ℕ) → skipped L A (c ∷ t) ≡ o t
at_first L c other o A h t = ap (L A) (skip_none (c ∷ t) other) ∙ h t

dead_char : (c d : ℕ) (K : Lang) → nat_eq d c ≡ false → (A : Allowed) (t : List ℕ) → char c K A (d ∷ t) ≡ Some Syntax
unfolding after_char
dead_char c d K e A t = rw e refl

live_char : (c : ℕ) (K : Lang) (A : Allowed) (t : List ℕ) → nat_eq c c ≡ true → char c K A (c ∷ t) ≡ K A t
unfolding after_char
live_char c K A t e = rw e refl

nothing_there : (c : ℕ) (K : Lang) (A : Allowed) → char c K A [] ≡ Some Syntax
unfolding after_char
nothing_there c K A = refl

skip_nil : (L : Lang) (A : Allowed) (o : Option LineKind) → L A [] ≡ o → skipped L A [] ≡ o
skip_nil L A o h = ap (L A) (skip_none [] refl) ∙ h

after_name : After (skipped dot)
after_name = record {
  first = Some 46;
  good = good_spaced_dot;
  spaced = skips_space dot;
  stops = skip_nil dot absolute_iris (Some Syntax) (nothing_there 46 rest absolute_iris);
  on_dash = λ A t. at_first dot 45 refl (λ t. Some Syntax) A (λ t. dead_char 46 45 rest refl A t) t;
  on_dot = inr (λ A t. at_first dot 46 refl (rest A) A (λ t. live_char 46 rest A t refl) t);
}

good_named : Good named (Some 95)
good_named = good_node (skipped dot) after_name

-- no node begins with this character
dead_node : (K : Lang) (d : ℕ) → nat_eq d 60 ≡ false → nat_eq d 95 ≡ false → (A : Allowed) (t : List ℕ) → node K A (d ∷ t) ≡ Some Syntax
dead_node K d no_iri no_blank A t = rw no_iri (dead_char 95 d (char 58 (label K)) no_blank A t)

nil_node : (K : Lang) (A : Allowed) → node K A [] ≡ Some Syntax
nil_node K A = nothing_there 95 (char 58 (label K)) A

good_graph_inside : Good (branch 46 dot named) (Some 95)
good_graph_inside = good_branch 46 dot named (Some 46) (Some 95) good_dot good_named refl

good_graph : Good graph (Some 95)
good_graph = good_skip (branch 46 dot named) (Some 95) good_graph_inside refl

after_object : After graph
after_object = record {
  first = Some 95;
  good = good_graph;
  spaced = skips_space (branch 46 dot named);
  stops = skip_nil (branch 46 dot named) absolute_iris (Some Syntax) (nil_node (skipped dot) absolute_iris);
  on_dash = λ A t. at_first (branch 46 dot named) 45 refl (λ t. Some Syntax) A (λ t. dead_node (skipped dot) 45 refl refl A t) t;
  on_dot = inr (λ A t. at_first (branch 46 dot named) 46 refl (rest A) A (λ t. live_char 46 rest A t refl) t);
}

good_typed : Good (typed graph) (Some 94)
good_typed =
    good_char 94 (char 94 (skipped (iri graph))) (Some 94)
    (good_char 94 (skipped (iri graph)) (Some 60) (good_skip (iri graph) (Some 60) (good_iri graph (Some 95) good_graph) refl))

tagged : Good (char 64 (tag graph)) (Some 64)
tagged = good_char 64 (tag graph) (Some 97) (good_tag graph after_object)

good_suffix : Good suffix (Some 95)
good_suffix =
    good_skip (branch 94 (typed graph) (branch 64 (char 64 (tag graph)) (branch 46 dot named))) (Some 95)
    (good_branch 94 (typed graph) (branch 64 (char 64 (tag graph)) (branch 46 dot named)) (Some 94) (Some 95) good_typed
    (good_branch 64 (char 64 (tag graph)) (branch 46 dot named) (Some 64) (Some 95) tagged good_graph_inside refl) refl) refl

good_literal : Good literal (Some 34)
good_literal = good_char 34 (string_parts suffix) (Some 34) (good_string_parts suffix (Some 95) good_suffix)

good_object : Good object (Some 95)
good_object = good_branch 34 literal (node graph) (Some 34) (Some 95) good_literal (good_node graph after_object) refl

good_spaced_object : Good (skipped object) (Some 95)
good_spaced_object = good_skip object (Some 95) good_object refl

good_predicate : Good predicate (Some 60)
good_predicate = good_skip (iri (skipped object)) (Some 60) (good_iri (skipped object) (Some 95) good_spaced_object) refl

after_subject : After predicate
after_subject = record {
  first = Some 60;
  good = good_predicate;
  spaced = skips_space (iri (skipped object));
  stops = skip_nil (iri (skipped object)) absolute_iris (Some Syntax) (nothing_there 60 (iri_parts (skipped object)) absolute_iris);
  on_dash = λ A t. at_first (iri (skipped object)) 45 refl (λ t. Some Syntax) A (λ t. dead_char 60 45 (iri_parts (skipped object)) refl A t) t;
  on_dot = inl (λ A t. at_first (iri (skipped object)) 46 refl (λ t. Some Syntax) A (λ t. dead_char 60 46 (iri_parts (skipped object)) refl A t) t);
}

good_subject : Good subject (Some 95)
good_subject = good_node predicate after_subject

good_statement : Good statement (Some 95)
good_statement = good_skip subject (Some 95) good_subject refl

good_sign : (c : ℕ) → Good (char c (char 32 statement)) (Some c)
good_sign c = good_char c (char 32 statement) (Some 32) (good_char 32 statement (Some 95) good_statement)

good_signed : Good signed (Some 95)
good_signed =
    good_branch 43 (char 43 (char 32 statement)) (branch 45 (char 45 (char 32 statement)) statement) (Some 43) (Some 95) (good_sign 43)
    (good_branch 45 (char 45 (char 32 statement)) statement (Some 45) (Some 95) (good_sign 45) good_statement refl) refl

-- behind a space no sign stands
good_behind_space : Good (skipped (commented subject)) None
good_behind_space = good_skip (commented subject) None (good_commented subject (Some 95) good_subject) refl

unsigned : (c : ℕ) (A : Allowed) (t : List ℕ) → nat_eq c 43 ≡ false → nat_eq c 45 ≡ false → signed A (c ∷ t) ≡ statement A (c ∷ t)
unsigned c A t plus minus = rw (plus, minus) refl

not_blank : (c d : ℕ) → is_blank c ≡ true → is_blank d ≡ false → nat_eq c d ≡ false
not_blank c d hc hd = go (nat_eq c d) refl
  where
    go : (b : Bool) → nat_eq c d ≡ b → b ≡ false
    go true e = let same : c ≡ d = eqb-true c d e in absurd (false≢true (sym hd ∙ subst (λ (x : ℕ). is_blank x ≡ true) same hc))
    go false e = refl

line_spaced : (c : ℕ) → is_blank c ≡ true → (A : Allowed) (t : List ℕ) → line A (c ∷ t) ≡ skipped (commented subject) A t
line_spaced c h A t =
    ap (λ (o : Option LineKind). cond (is_comment (skip (c ∷ t))) None o) (unsigned c A t (not_blank c 43 h refl) (not_blank c 45 h refl))
    ∙ ap (λ (s : List ℕ). cond (is_comment s) None (subject A s)) (skip_blank c t h)

finish_line : Finish line
finish_line = record { finish = []; done = λ m k le. ap (λ (s : List ℕ). cond (is_comment s) None (signed (allowed_in m k) [])) (skip_none [] refl) }

line_plain : (c : ℕ) → is_blank c ≡ false → nat_eq c 35 ≡ false → (A : Allowed) (t : List ℕ) → line A (c ∷ t) ≡ signed A (c ∷ t)
line_plain c h other A t =
    let no_comment : is_comment (skip (c ∷ t)) ≡ false = ap is_comment (skip_none (c ∷ t) h) ∙ other in
    ap (λ (b : Bool). cond b None (signed A (c ∷ t))) no_comment

line_comment : (c : ℕ) → is_blank c ≡ false → nat_eq c 35 ≡ true → (A : Allowed) (t : List ℕ) → line A (c ∷ t) ≡ None
line_comment c h other A t =
    let comment : is_comment (skip (c ∷ t)) ≡ true = ap is_comment (skip_none (c ∷ t) h) ∙ other in
    ap (λ (b : Bool). cond b None (signed A (c ∷ t))) comment

walk_line : (c : ℕ) (t : List ℕ) (b d : Bool) → is_blank c ≡ b → nat_eq c 35 ≡ d → Found line (c ∷ t)
walk_line c t true d eb ed =
    shift line (skipped (commented subject)) c (any_step line (skipped (commented subject)) c (line_spaced c eb)) t (good_behind_space.walk t)
walk_line c t false true eb ed = shift line anything c (any_step line anything c (line_comment c eb ed)) t (good_anything.walk t)
walk_line c t false false eb ed = same_on signed line good_signed.ending finish_line c t (line_plain c eb ed) (good_signed.walk (c ∷ t))

walks_line : (text : List ℕ) → Found line text
walks_line [] = at_end line finish_line (inl (ap (λ (b : Bool). cond b None (signed absolute_iris [])) (ap is_comment (skip_none [] refl))))
walks_line (c ∷ t) = walk_line c t (is_blank c) (nat_eq c 35) refl refl

-- ---- what is left is what reading gives

abbrev fault : {X : Type 0} → Result X LineKind → Option LineKind
fault (Ok x) = None
fault (Err kind) = Some kind

-- what a step of reading gives, and then what follows
abbrev ends : {X : Type 0} → Result (X × List ℕ) LineKind → (List ℕ → Option LineKind) → Option LineKind
ends (Ok x) k = k x.1
ends (Err kind) k = Some kind

fault_then : {X Y : Type 0} (r : Result (X × List ℕ) LineKind) (f : X × List ℕ → Result Y LineKind) (k : List ℕ → Option LineKind) → ((x : X × List ℕ) → fault (f x) ≡ k x.1) → fault (r >>= f) ≡ ends r k
fault_then (Ok x) f k h = h x
fault_then (Err kind) f k h = refl

ends_then : {X Y : Type 0} (r : Result (X × List ℕ) LineKind) (f : X × List ℕ → Result (Y × List ℕ) LineKind) (j k : List ℕ → Option LineKind)
    → ((x : X × List ℕ) → ends (f x) k ≡ j x.1) → ends (r >>= f) k ≡ ends r j
ends_then (Ok x) f j k h = h x
ends_then (Err kind) f j k h = refl

fault_char : {Y : Type 0} (o : Option (List ℕ)) (f : List ℕ → Result Y LineKind) (k : List ℕ → Option LineKind) → ((t : List ℕ) → fault (f t) ≡ k t) → fault (expected o >>= f) ≡ next o k
fault_char (Some t) f k h = h t
fault_char None f k h = refl

ends_char : {Y : Type 0} (o : Option (List ℕ)) (f : List ℕ → Result (Y × List ℕ) LineKind) (j k : List ℕ → Option LineKind) → ((t : List ℕ) → ends (f t) k ≡ j t) → ends (expected o >>= f) k ≡ next o j
ends_char (Some t) f j k h = h t
ends_char None f j k h = refl

ends_parts : {Y : Type 0} (r : Result (List ℕ × List ℕ) LineKind) (f : List ℕ × List ℕ → Result (Y × List ℕ) LineKind) (k : List ℕ → Option LineKind) (j : List ℕ → List ℕ → Option LineKind)
    → ((x : List ℕ × List ℕ) → ends (f x) k ≡ j x.0 x.1) → ends (r >>= f) k ≡ over_parts r j
ends_parts (Ok x) f k j h = h x
ends_parts (Err kind) f k j h = refl

ends_cond : {Y : Type 0} (b : Bool) (r s : Result (Y × List ℕ) LineKind) (k : List ℕ → Option LineKind) (x y : Option LineKind) → ends r k ≡ x → ends s k ≡ y → ends (cond b r s) k ≡ cond b x y
ends_cond true r s k x y ex ey = ex
ends_cond false r s k x y ex ey = ey

iri_is : (K : Lang) (A : Allowed) (text : List ℕ) → ends (iri_of A text) (K A) ≡ iri K A text
unfolding iri_of
iri_is K A text =
    ends_char (after_char 60 text) _ (iri_parts K A) (K A) (λ inside.
    ends_parts (all_parts_of 62 (iri_part_of A) inside) _ (K A) (λ cs r. next (after_char 62 r) (iri_closing K cs A)) (λ x.
    ends_char (after_char 62 x.1) _ (iri_closing K x.0 A) (K A) (λ rest_.
    ends_cond (A.iri x.0 rest_) (Ok (encode_utf8_all x.0, rest_)) (Err RelativeIri) (K A) (K A rest_) (Some RelativeIri) refl refl)))

string_is : (K : Lang) (A : Allowed) (text : List ℕ) → ends (string_of A text) (K A) ≡ char 34 (string_parts K) A text
unfolding string_of
string_is K A text =
    ends_char (after_char 34 text) _ (string_parts K A) (K A) (λ inside.
    ends_parts (all_parts_of 34 (string_part_of A) inside) _ (K A) (λ cs r. next (after_char 34 r) (string_closing K cs A)) (λ x.
    ends_char (after_char 34 x.1) _ (K A) (K A) (λ rest_. refl)))

front_ends : (o : Option (List ℕ × List ℕ)) (g : List ℕ → List ℕ) (k : List ℕ → Option LineKind)
    → ends (expected (plain.◌>>=◌ o (λ front. Some (g front.0, front.1)))) k ≡ over o k
front_ends (Some x) g k = refl
front_ends None g k = refl

char_ends : {X : Type 0} (o : Option (List ℕ)) (f : List ℕ → Option (X × List ℕ)) (j k : List ℕ → Option LineKind) → ((t : List ℕ) → ends (expected (f t)) k ≡ j t) → ends (expected (plain.◌>>=◌ o f)) k ≡ next o j
char_ends (Some t) f j k h = h t
char_ends None f j k h = refl

blank_is : (K : Lang) (A : Allowed) (text : List ℕ) → ends (expected (blank_at text)) (K A) ≡ blank K A text
unfolding blank_at
blank_is K A text =
    char_ends (after_char 95 text) _ (char 58 (label K) A) (K A) (λ colon.
    char_ends (after_char 58 colon) _ (label K A) (K A) (λ t. front_ends (front_at is_label t) encode_utf8_all (K A)))

tag_is : (K : Lang) (A : Allowed) (text : List ℕ) → ends (expected (tag_at text)) (K A) ≡ char 64 (tag K) A text
unfolding tag_at
tag_is K A text = char_ends (after_char 64 text) _ (tag K A) (K A) (λ t. front_ends (front_at is_tag t) lower (K A))

node_is : (K : Lang) (A : Allowed) (text : List ℕ) → ends (node_of A text) (K A) ≡ node K A text
unfolding node_of
node_is K A text =
    ends_cond (starts 60 text) (iri_of A text >>= λ found. Ok (Iri found.0, found.1)) (expected (blank_at text) >>= λ found. Ok (Blank found.0, found.1)) (K A) (iri K A text) (blank K A text)
    (ends_then (iri_of A text) (λ found. Ok (Iri found.0, found.1)) (K A) (K A) (λ x. refl) ∙ iri_is K A text)
    (ends_then (expected (blank_at text)) (λ found. Ok (Blank found.0, found.1)) (K A) (K A) (λ x. refl) ∙ blank_is K A text)

typed_is : (K : Lang) (A : Allowed) (text : List ℕ) → ends (typed_of A text) (K A) ≡ typed K A text
unfolding typed_of
typed_is K A text =
    ends_char (after_char 94 text) _ (char 94 (skipped (iri K)) A) (K A) (λ caret.
    ends_char (after_char 94 caret) _ (skipped (iri K) A) (K A) (λ t. iri_is K A (skip t)))

suffix_is : (A : Allowed) (value text : List ℕ) → ends (suffix_of A value text) (graph A) ≡ suffix A text
unfolding suffix_of
suffix_is A value text =
    ends_cond (starts 94 (skip text)) _ _ (graph A) (typed graph A (skip text)) (branch 64 (char 64 (tag graph)) (branch 46 dot named) A (skip text))
    (ends_then (typed_of A (skip text)) (λ datatype. Ok (Literal value datatype.0 None, datatype.1)) (graph A) (graph A) (λ x. refl) ∙ typed_is graph A (skip text))
    (ends_cond (starts 64 (skip text)) _ _ (graph A) (char 64 (tag graph) A (skip text)) (branch 46 dot named A (skip text))
    (ends_then (expected (tag_at (skip text))) (λ found. Ok (Literal value rdf_lang_string (Some found.0), found.1)) (graph A) (graph A) (λ x. refl) ∙ tag_is graph A (skip text))
    refl)

object_is : (A : Allowed) (text : List ℕ) → ends (object_of A text) (graph A) ≡ object A text
unfolding object_of
object_is A text =
    ends_cond (starts 34 text) (literal_of A text) (node_of A text) (graph A) (literal A text) (node graph A text)
    (ends_then (string_of A text) (λ value. suffix_of A value.0 value.1) (suffix A) (graph A) (λ x. suffix_is A x.0 x.1) ∙ string_is suffix A text)
    (node_is graph A text)

named_is : (A : Allowed) (text : List ℕ) → ends (named_of A text) (rest A) ≡ named A text
unfolding named_of
named_is A text =
    ends_then (node_of A text) (λ name. expected (after_char 46 (skip name.1)) >>= λ rest_. Ok (Some name.0, rest_)) (skipped dot A) (rest A)
    (λ x. ends_char (after_char 46 (skip x.1)) (λ rest_. Ok (Some x.0, rest_)) (rest A) (rest A) (λ t. refl))
    ∙ node_is (skipped dot) A text

graph_is : (A : Allowed) (text : List ℕ) → ends (graph_of A text) (rest A) ≡ graph A text
unfolding graph_of
graph_is A text =
    ends_cond (starts 46 (skip text)) (expected (after_char 46 (skip text)) >>= λ rest_. Ok (None, rest_)) (named_of A (skip text)) (rest A) (dot A (skip text)) (named A (skip text))
    (ends_char (after_char 46 (skip text)) (λ rest_. Ok (None, rest_)) (rest A) (rest A) (λ t. refl))
    (named_is A (skip text))

fault_cond : {Y : Type 0} (b : Bool) (y : Y) → fault (cond b (Ok y) (Err Syntax)) ≡ cond b None (Some Syntax)
fault_cond true y = refl
fault_cond false y = refl

statement_is : (A : Allowed) (text : List ℕ) → fault (statement_of A text) ≡ statement A text
unfolding statement_of
statement_is A text =
    fault_then (node_of A (skip text)) _ (predicate A) (λ s.
    fault_then (iri_of A (skip s.1)) _ (skipped object A) (λ p.
    fault_then (object_of A (skip p.1)) _ (graph A) (λ o.
    fault_then (graph_of A o.1) _ (rest A) (λ g. fault_cond (is_comment (skip g.1)) (quad_of s.0 p.0 o.0 g.0))
    ∙ graph_is A o.1)
    ∙ object_is A (skip p.1))
    ∙ iri_is (skipped object) A (skip s.1))
    ∙ node_is predicate A (skip text)

sign_then : {Y : Type 0} (b : Bool) (x y : Option (Bool × List ℕ)) (f : Bool × List ℕ → Result Y LineKind) (u v : Option LineKind)
    → fault (expected x >>= f) ≡ u → fault (expected y >>= f) ≡ v → fault (expected (cond b x y) >>= f) ≡ cond b u v
sign_then true x y f u v eu ev = eu
sign_then false x y f u v eu ev = ev

sign_char : {Y : Type 0} (o : Option (List ℕ)) (g : List ℕ → Option (Bool × List ℕ)) (f : Bool × List ℕ → Result Y LineKind) (k : List ℕ → Option LineKind) → ((t : List ℕ) → fault (expected (g t) >>= f) ≡ k t)
    → fault (expected (plain.◌>>=◌ o g) >>= f) ≡ next o k
sign_char (Some t) g f k h = h t
sign_char None g f k h = refl

signed_tail : (A : Allowed) (add : Bool) (t : List ℕ) → fault {X = Option Signed} (statement_of A t >>= λ quad. Ok (Some (record { add = add; quad = quad }))) ≡ statement A t
signed_tail A add t = go (statement_of A t) ∙ statement_is A t
  where
    go : (r : Result Quad LineKind) → fault {X = Option Signed} (r >>= λ quad. Ok (Some (record { add = add; quad = quad }))) ≡ fault r
    go (Ok q) = refl
    go (Err kind) = refl

signed_is : (A : Allowed) (text : List ℕ) → fault (signed_of A text) ≡ signed A text
unfolding signed_of sign_at
signed_is A text =
    sign_then (starts 43 text) _ _ _ (char 43 (char 32 statement) A text) (branch 45 (char 45 (char 32 statement)) statement A text)
    (sign_char (after_char 43 text) _ _ (char 32 statement A) (λ space. sign_char (after_char 32 space) _ _ (statement A) (λ t. signed_tail A true t)))
    (sign_then (starts 45 text) _ _ _ (char 45 (char 32 statement) A text) (statement A text)
    (sign_char (after_char 45 text) _ _ (char 32 statement A) (λ space. sign_char (after_char 32 space) _ _ (statement A) (λ t. signed_tail A false t)))
    (signed_tail A true text))

line_is : (A : Allowed) (text : List ℕ) → fault (line_of A text) ≡ line A text
unfolding line_of
line_is A text = go (is_comment (skip text)) (signed_is A text)
  where
    go : (b : Bool) → fault (signed_of A text) ≡ signed A text → fault (cond b (Ok None) (signed_of A text)) ≡ cond b None (signed A text)
    go true e = refl
    go false e = e

-- ---- what is wrong with a line

is_read : {X : Type 0} (r : Result X LineKind) (x : X) → result_ok r ≡ Some x → r ≡ Ok x
is_read (Ok y) x e = let same : y ≡ x = cc in ap (λ z. Ok z) same
is_read (Err kind) x e = absurd cc

pub line_gives : (A : Allowed) (text : List ℕ) (stated : Option Signed) → line_of A text ≡ Ok stated → IsLineOf A text stated
line_gives A text stated e = line_takes A text stated (sym (line_same A text) ∙ ap result_ok e)

pub line_given : (A : Allowed) (text : List ℕ) (stated : Option Signed) → IsLineOf A text stated → line_of A text ≡ Ok stated
line_given A text stated h = is_read (line_of A text) stated (line_same A text ∙ line_again A text stated h)

some_line : (A : Allowed) (text : List ℕ) → line A text ≡ None → (stated : Option Signed) × IsLineOf A text stated
some_line A text e = go (line_of A text) refl (line_is A text ∙ e)
  where
    go : (r : Result (Option Signed) LineKind) → line_of A text ≡ r → fault (line_of A text) ≡ None → (stated : Option Signed) × IsLineOf A text stated
    go (Ok stated) is h = (stated, line_gives A text stated is)
    go (Err kind) is h = absurd (none-some kind (sym h ∙ ap fault is))

abbrev Family : Mode → ℕ → Allowed
Family m more = allowed_in m more

opens_begins : (m : Mode) (front : List ℕ) → Opens line m front → Begins (Family m) front
opens_begins m front o = let s = some_line (allowed_in m (length o.0)) (front ++ o.0) o.1 in (o.0, s.0, s.1)

begins_opens : (m : Mode) (front : List ℕ) → Begins (Family m) front → Opens line m front
begins_opens m front b =
    (b.0, sym (line_is (allowed_in m (length b.0)) (front ++ b.0)) ∙ ap fault (line_given (allowed_in m (length b.0)) (front ++ b.0) b.1 b.2))

is_fault : (front : List ℕ) (kind : LineKind) → FaultOf line front (Some kind) → IsFault front kind
is_fault front Syntax h = (λ never. never (opens_begins absolute_mode front h.0), λ never. never (opens_begins whole_mode front h.1))
is_fault front RelativeIri h = λ b. h (begins_opens absolute_mode front b)
is_fault front BadEscape h = (λ never. never (opens_begins absolute_mode front h.0), λ b. h.1 (begins_opens whole_mode front b))
is_fault front NotUtf8 h = h
is_fault front LineTooLong h = h

-- where reading a line stops it names what is wrong behind the longest front that begins a line
pub line_kind : (characters : List ℕ) (kind : LineKind) → line_of absolute_iris characters ≡ Err kind → (len : ℕ) × IsLongestFront characters len × IsFault (take len characters) kind
line_kind characters kind e =
    let f = walks_line characters in
    let is : line absolute_iris characters ≡ Some kind = sym (line_is absolute_iris characters) ∙ ap fault e in (
      f.len,
      record {
        within = f.within;
        begins = opens_begins lax_mode (take f.len characters) f.opens;
        longest = λ longer le b. f.longest longer le (begins_opens lax_mode (take longer characters) b);
      },
      is_fault (take f.len characters) kind (subst (λ (o : Option LineKind). FaultOf line (take f.len characters) o) is f.fault),
    )
