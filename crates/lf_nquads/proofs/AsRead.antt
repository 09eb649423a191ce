-- Reading with kinds gives what reading without them gives.
use Rattle.std.proofs.Common.{◌≡◌, ℕ, zero, suc, Bool, true, false, cond, List, ◌∷◌, length, Option, Some, None, Result, Ok, Err, refl, ap, ◌∙◌}
use Rattle.std.specs.Result.{result_ok}
use Rattle.def_patch_texts.specs.declared.kind.LineKind.{LineKind}
use Rattle.def_patch_texts.specs.Terminals.{Allowed}
use Rattle.def_patch_texts.specs.Reading as plain
use Rattle.def_patch_texts.specs.Reading.{starts, after_char, skip, iri_part_at, iri_parts_at, iri_at, blank_at, tag_at, string_part_at, string_parts_at, string_at, node_at, typed_at, suffix_at, object_at, named_at, graph_at, is_comment, quad_of, statement_at, sign_at, signed_at, line_at}
use Rattle.lf_nquads.specs.Outcomes.{◌>>=◌, expected, part_of, with_char, parts_of, all_parts_of, iri_part_of, string_part_of, iri_of, string_of, node_of, typed_of, suffix_of, object_of, named_of, graph_of, statement_of, signed_of, line_of}

-- a result gives what an option gives
abbrev pub Same : {A : Type 0} → Result A LineKind → Option A → Type 0
Same r o = result_ok r ≡ o

pub then_same : {A B : Type 0} (r : Result A LineKind) (o : Option A) (f : A → Result B LineKind) (g : A → Option B) → Same r o → ((x : A) → Same (f x) (g x)) → Same (r >>= f) (plain.◌>>=◌ o g)
then_same (Ok x) (Some y) f g e h = let same : x ≡ y = cc in ap (λ z. result_ok (f z)) same ∙ h y
then_same (Ok x) None f g e h = absurd cc
then_same (Err k) None f g e h = refl
then_same (Err k) (Some y) f g e h = absurd cc

pub cond_same : {A : Type 0} (b : Bool) (r s : Result A LineKind) (o p : Option A) → Same r o → Same s p → Same (cond b r s) (cond b o p)
cond_same true r s o p x y = x
cond_same false r s o p x y = y

pub expected_same : {A : Type 0} (o : Option A) → Same (expected o) o
expected_same None = refl
expected_same (Some x) = refl

part_same : {A : Type 0} (text : List ℕ) (o : Option A) → Same (part_of text o) o
part_same text None = refl
part_same text (Some x) = refl

char_same : (c : ℕ) (r : Result (List ℕ × List ℕ) LineKind) (o : Option (List ℕ × List ℕ)) → Same r o
    → Same (with_char c r) (plain.◌>>=◌ o (λ others. Some (c ∷ others.0, others.1)))
char_same c (Ok x) (Some y) e = let same : x ≡ y = cc in ap (λ (z : List ℕ × List ℕ). Some (c ∷ z.0, z.1)) same
char_same c (Ok x) None e = absurd cc
char_same c (Err k) None e = refl
char_same c (Err k) (Some y) e = absurd cc

iri_parts_same : (room : ℕ) (allowed : Allowed) (text : List ℕ) → Same (parts_of 62 (iri_part_of allowed) room text) (iri_parts_at room allowed text)
unfolding parts_of iri_parts_at
iri_parts_same zero allowed text = refl
iri_parts_same (suc room) allowed text =
    cond_same (starts 62 text) _ _ _ _ refl
    (then_same (part_of text (iri_part_at allowed text)) (iri_part_at allowed text) _ _ (part_same text (iri_part_at allowed text))
    (λ part. char_same part.0 (parts_of 62 (iri_part_of allowed) room part.1) (iri_parts_at room allowed part.1) (iri_parts_same room allowed part.1)))

pub iri_same : (allowed : Allowed) (text : List ℕ) → Same (iri_of allowed text) (iri_at allowed text)
unfolding iri_of iri_at
iri_same allowed text =
    then_same (expected (after_char 60 text)) (after_char 60 text) _ _ (expected_same (after_char 60 text))
    (λ inside. then_same (all_parts_of 62 (iri_part_of allowed) inside) (iri_parts_at (suc (length inside)) allowed inside) _ _ (iri_parts_same (suc (length inside)) allowed inside)
    (λ parts. then_same (expected (after_char 62 parts.1)) (after_char 62 parts.1) _ _ (expected_same (after_char 62 parts.1))
    (λ rest. cond_same (allowed.iri parts.0 rest) _ _ _ _ refl refl)))

string_parts_same : (room : ℕ) (allowed : Allowed) (text : List ℕ) → Same (parts_of 34 (string_part_of allowed) room text) (string_parts_at room allowed text)
unfolding parts_of string_parts_at
string_parts_same zero allowed text = refl
string_parts_same (suc room) allowed text =
    cond_same (starts 34 text) _ _ _ _ refl
    (then_same (part_of text (string_part_at allowed text)) (string_part_at allowed text) _ _ (part_same text (string_part_at allowed text))
    (λ part. char_same part.0 (parts_of 34 (string_part_of allowed) room part.1) (string_parts_at room allowed part.1) (string_parts_same room allowed part.1)))

string_same : (allowed : Allowed) (text : List ℕ) → Same (string_of allowed text) (string_at allowed text)
unfolding string_of string_at
string_same allowed text =
    then_same (expected (after_char 34 text)) (after_char 34 text) _ _ (expected_same (after_char 34 text))
    (λ inside. then_same (all_parts_of 34 (string_part_of allowed) inside) (string_parts_at (suc (length inside)) allowed inside) _ _ (string_parts_same (suc (length inside)) allowed inside)
    (λ parts. then_same (expected (after_char 34 parts.1)) (after_char 34 parts.1) _ _ (expected_same (after_char 34 parts.1)) (λ rest. refl)))

node_same : (allowed : Allowed) (text : List ℕ) → Same (node_of allowed text) (node_at allowed text)
unfolding node_of node_at
node_same allowed text =
    cond_same (starts 60 text) _ _ _ _
    (then_same (iri_of allowed text) (iri_at allowed text) _ _ (iri_same allowed text) (λ iri. refl))
    (then_same (expected (blank_at text)) (blank_at text) _ _ (expected_same (blank_at text)) (λ label. refl))

typed_same : (allowed : Allowed) (text : List ℕ) → Same (typed_of allowed text) (typed_at allowed text)
unfolding typed_of typed_at
typed_same allowed text =
    then_same (expected (after_char 94 text)) (after_char 94 text) _ _ (expected_same (after_char 94 text))
    (λ caret. then_same (expected (after_char 94 caret)) (after_char 94 caret) _ _ (expected_same (after_char 94 caret))
    (λ iri. iri_same allowed (skip iri)))

suffix_same : (allowed : Allowed) (value text : List ℕ) → Same (suffix_of allowed value text) (suffix_at allowed value text)
unfolding suffix_of suffix_at
suffix_same allowed value text =
    cond_same (starts 94 (skip text)) _ _ _ _
    (then_same (typed_of allowed (skip text)) (typed_at allowed (skip text)) _ _ (typed_same allowed (skip text)) (λ datatype. refl))
    (cond_same (starts 64 (skip text)) _ _ _ _
    (then_same (expected (tag_at (skip text))) (tag_at (skip text)) _ _ (expected_same (tag_at (skip text))) (λ tag. refl))
    refl)

object_same : (allowed : Allowed) (text : List ℕ) → Same (object_of allowed text) (object_at allowed text)
unfolding object_of object_at
object_same allowed text =
    cond_same (starts 34 text) _ _ _ _
    (then_same (string_of allowed text) (string_at allowed text) _ _ (string_same allowed text) (λ value. suffix_same allowed value.0 value.1))
    (node_same allowed text)

named_same : (allowed : Allowed) (text : List ℕ) → Same (named_of allowed text) (named_at allowed text)
unfolding named_of named_at
named_same allowed text =
    then_same (node_of allowed text) (node_at allowed text) _ _ (node_same allowed text)
    (λ name. then_same (expected (after_char 46 (skip name.1))) (after_char 46 (skip name.1)) _ _ (expected_same (after_char 46 (skip name.1))) (λ rest. refl))

graph_same : (allowed : Allowed) (text : List ℕ) → Same (graph_of allowed text) (graph_at allowed text)
unfolding graph_of graph_at
graph_same allowed text =
    cond_same (starts 46 (skip text)) _ _ _ _
    (then_same (expected (after_char 46 (skip text))) (after_char 46 (skip text)) _ _ (expected_same (after_char 46 (skip text))) (λ rest. refl))
    (named_same allowed (skip text))

statement_same : (allowed : Allowed) (text : List ℕ) → Same (statement_of allowed text) (statement_at allowed text)
unfolding statement_of statement_at
statement_same allowed text =
    then_same (node_of allowed (skip text)) (node_at allowed (skip text)) _ _ (node_same allowed (skip text))
    (λ subject. then_same (iri_of allowed (skip subject.1)) (iri_at allowed (skip subject.1)) _ _ (iri_same allowed (skip subject.1))
    (λ predicate. then_same (object_of allowed (skip predicate.1)) (object_at allowed (skip predicate.1)) _ _ (object_same allowed (skip predicate.1))
    (λ object. then_same (graph_of allowed object.1) (graph_at allowed object.1) _ _ (graph_same allowed object.1)
    (λ graph. cond_same (is_comment (skip graph.1)) _ _ _ _ refl refl))))

signed_same : (allowed : Allowed) (text : List ℕ) → Same (signed_of allowed text) (signed_at allowed text)
unfolding signed_of signed_at
signed_same allowed text =
    then_same (expected (sign_at text)) (sign_at text) _ _ (expected_same (sign_at text))
    (λ sign. then_same (statement_of allowed sign.1) (statement_at allowed sign.1) _ _ (statement_same allowed sign.1) (λ quad. refl))

pub line_same : (allowed : Allowed) (text : List ℕ) → Same (line_of allowed text) (line_at allowed text)
unfolding line_of line_at
line_same allowed text = cond_same (is_comment (skip text)) _ _ _ _ refl (signed_same allowed text)
