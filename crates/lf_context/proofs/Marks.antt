-- What the marks of a map's terms say, and how many terms have none.
use Rattle.std.proofs.Common.{◌≡◌, ℕ, zero, suc, ◌<◌, ◌≤◌, Bool, true, false, ◌||◌, List, [], ◌∷◌, length, Option, Some, None, is_some, Ok, Err, cond, refl, sym, ap, ◌∙◌, true≢false, arith}
use Rattle.std.specs.Ordering.{is_eq}
use Rattle.std.specs.Cmp.Lexicographic.{bytes_decides}
use Rattle.std.specs.Map.{keys_of}
use Rattle.std.proofs.lemmas.Map.Text.{is_eq-slice_cmp}
use Rattle.lf_model.specs.declared.table.TermTable.{TermTable}
use Rattle.lf_model.specs.declared.error.LdError.TheVariants.{CyclicIriMapping}
use Rattle.lf_model.specs.JsonData.{JsonValue, JsonMembers, no_members, member}
use Rattle.lf_rdf.specs.Equality.{text_eq}
use Rattle.def_contexts.specs.Keywords.{one_of}
use Rattle.def_contexts.specs.Members.{value_of}
use Rattle.def_contexts.specs.Drafts.{Draft}
use Rattle.def_contexts.specs.Defining.{Entry, entry_value, Standing, ready, begun, waiting, standing_of, made_ready, needed, define, name_kind, term_defined}
use Rattle.def_contexts.specs.Table.{is_context_key, terms_of}
use Rattle.def_contexts.proofs.Room.{free, free-length, free-less, needed-agree, define-agree}
use Rattle.lf_context.specs.Marks.{name_cmp, mark_at, mark_of, AreMarked, Puts, standing_by, standing_in, unmarked, left}
use Rattle.lf_context.specs.Stages.{drafted}
use Rattle.lf_context.specs.Walks.{need_in}

-- ---- the terms of a map are its members but for the keys of contexts

pub entry-found : (key : List ℕ) (given : JsonMembers) → is_context_key key ≡ false → entry_value key (terms_of given) ≡ value_of key given
entry-found key no_members h = refl
entry-found key (member own value rest) h = by (is_context_key own) refl (text_eq key own) refl (entry-found key rest h)
  where
    by : (c : Bool) → is_context_key own ≡ c → (same : Bool) → text_eq key own ≡ same → entry_value key (terms_of rest) ≡ value_of key rest → entry_value key (cond c (terms_of rest) (record { name = own; value = value } ∷ terms_of rest)) ≡ cond same (Some value) (value_of key rest)
    by true c true same later = absurd (true≢false (sym c ∙ ap is_context_key (sym ((bytes_decides key own).0 same)) ∙ h))
    by true c false same later = later
    by false c true same later = ap (λ b. cond b (Some value) (entry_value key (terms_of rest))) same
    by false c false same later = ap (λ b. cond b (Some value) (entry_value key (terms_of rest))) same ∙ later

pub no-entry : (key : List ℕ) (given : JsonMembers) → is_context_key key ≡ true → entry_value key (terms_of given) ≡ None
no-entry key no_members h = refl
no-entry key (member own value rest) h = by (is_context_key own) refl (text_eq key own) refl (no-entry key rest h)
  where
    by : (c : Bool) → is_context_key own ≡ c → (same : Bool) → text_eq key own ≡ same → entry_value key (terms_of rest) ≡ None → entry_value key (cond c (terms_of rest) (record { name = own; value = value } ∷ terms_of rest)) ≡ None
    by true c same e later = later
    by false c true same later = absurd (true≢false (sym h ∙ ap is_context_key ((bytes_decides key own).0 same) ∙ c))
    by false c false same later = ap (λ b. cond b (Some value) (entry_value key (terms_of rest))) same ∙ later

-- ---- a term that waits is defined with the room that all terms have

unfolds : (terms : List Entry) (beings : List (List ℕ)) (name : List ℕ) (value : JsonValue) (draft : Draft) → entry_value name terms ≡ Some value → one_of beings name ≡ false → define terms (length terms) beings name value draft ≡ term_defined (name_kind name) (needed terms (define terms (length terms)) (name ∷ beings)) name value draft
unfolding define
unfolds terms beings name value draft found new = by (length terms) refl
  where
    fewer : free (name ∷ beings) terms < free beings terms
    fewer = free-less name beings terms value found new

    most : free beings terms ≤ length terms
    most = free-length beings terms

    by : (n : ℕ) → length terms ≡ n → define terms n beings name value draft ≡ term_defined (name_kind name) (needed terms (define terms (length terms)) (name ∷ beings)) name value draft
    by zero all = absurd (none fewer most)
      where
        none : free (name ∷ beings) terms < free beings terms → free beings terms ≤ length terms → ⊥
        none f m = omega (arith, all)
    by (suc room) all =
        ap (λ need. term_defined (name_kind name) need name value draft)
        (needed-agree terms (define terms room) (define terms (length terms)) (name ∷ beings)
        (define-agree terms room (length terms) (name ∷ beings) (omega (arith, all, fewer, most)) (omega (arith, fewer, most))))

-- ---- what the marks say

-- how a term stands by its mark is how it stands in the definition
stands-so : (done being : Bool) (value : Option JsonValue) → standing_by (mark_of done being) value ≡ standing_of done being value
stands-so true being None = refl
stands-so true being (Some value) = refl
stands-so false true None = refl
stands-so false true (Some value) = refl
stands-so false false None = refl
stands-so false false (Some value) = refl

abbrev is_ready : Standing → Bool
is_ready ready = true
is_ready begun = false
is_ready (waiting value) = false

abbrev is_begun : Standing → Bool
is_begun ready = false
is_begun begun = true
is_begun (waiting value) = false

abbrev value-in : JsonValue → Standing → JsonValue
value-in other ready = other
value-in other begun = other
value-in other (waiting value) = value

-- a term that waits has a value and no mark
pub waits : (mark : Option Bool) (found : Option JsonValue) (value : JsonValue) → standing_by mark found ≡ waiting value → (mark ≡ None) × (found ≡ Some value)
waits mark None value e = absurd (true≢false (ap is_ready e))
waits (Some true) (Some own) value e = absurd (true≢false (ap is_ready e))
waits (Some false) (Some own) value e = absurd (true≢false (ap is_begun e))
waits None (Some own) value e = (refl, ap (λ s. Some (value-in own s)) e)

unmarked-new : (done being : Bool) → mark_of done being ≡ None → (done ≡ false) × (being ≡ false)
unmarked-new true being e = absurd (true≢false (ap is_some e))
unmarked-new false true e = absurd (true≢false (ap is_some e))
unmarked-new false false e = (refl, refl)

-- a name that has no mark is neither done nor being defined
pub bare : (name : List ℕ) (marks : List (List ℕ × Bool)) (done beings : List (List ℕ)) → AreMarked marks done beings → mark_at name marks ≡ None → (one_of done name ≡ false) × (one_of beings name ≡ false)
bare name marks done beings marked none = unmarked-new (one_of done name) (one_of beings name) (sym (marked name) ∙ none)

need-is : (given : JsonMembers) (marks : List (List ℕ × Bool)) (done beings : List (List ℕ)) (name : List ℕ) (table : TermTable) (s : Standing) → AreMarked marks done beings → standing_in given marks name ≡ s → need_in given beings name (drafted table done) ≡ made_ready s (define (terms_of given) (length (terms_of given))) beings name (drafted table done)
need-is given marks done beings name table s marked e =
    ap (λ t. made_ready t (define (terms_of given) (length (terms_of given))) beings name (drafted table done))
    (sym (stands-so (one_of done name) (one_of beings name) (entry_value name (terms_of given))) ∙ ap (λ m. standing_by m (entry_value name (terms_of given))) (sym (marked name)) ∙ e)

pub need-ready : (given : JsonMembers) (marks : List (List ℕ × Bool)) (done beings : List (List ℕ)) (name : List ℕ) (table : TermTable) → AreMarked marks done beings → standing_in given marks name ≡ ready → need_in given beings name (drafted table done) ≡ Ok (drafted table done)
need-ready given marks done beings name table marked e = need-is given marks done beings name table ready marked e

pub need-cycle : (given : JsonMembers) (marks : List (List ℕ × Bool)) (done beings : List (List ℕ)) (name : List ℕ) (table : TermTable) → AreMarked marks done beings → standing_in given marks name ≡ begun → need_in given beings name (drafted table done) ≡ Err CyclicIriMapping
need-cycle given marks done beings name table marked e = need-is given marks done beings name table begun marked e

pub need-begins : (given : JsonMembers) (marks : List (List ℕ × Bool)) (done beings : List (List ℕ)) (name : List ℕ) (table : TermTable) (value : JsonValue) → AreMarked marks done beings → mark_at name marks ≡ None → entry_value name (terms_of given) ≡ Some value → need_in given beings name (drafted table done) ≡ term_defined (name_kind name) (need_in given (name ∷ beings)) name value (drafted table done)
need-begins given marks done beings name table value marked none found =
    need-is given marks done beings name table (waiting value) marked (ap (λ m. standing_by m (entry_value name (terms_of given))) none ∙ ap (standing_by None) found)
    ∙ unfolds (terms_of given) beings name value (drafted table done) found (bare name marks done beings marked none).1

-- ---- the marks after one more

turned_about : (a b : List ℕ) → text_eq a b ≡ text_eq b a
turned_about a b = by (text_eq a b) refl (text_eq b a) refl
  where
    by : (p : Bool) → text_eq a b ≡ p → (q : Bool) → text_eq b a ≡ q → p ≡ q
    by true e true f = refl
    by false e false f = refl
    by true e false f = sym ((bytes_decides b a).1 (sym ((bytes_decides a b).0 e))) ∙ f
    by false e true f = sym e ∙ (bytes_decides a b).1 (sym ((bytes_decides b a).0 f))

-- a term begins to be defined
pub mark-begun : (name : List ℕ) (marks after : List (List ℕ × Bool)) (done beings : List (List ℕ)) → AreMarked marks done beings → mark_at name marks ≡ None → Puts name false marks after → AreMarked after done (name ∷ beings)
mark-begun name marks after done beings marked none put x =
    put x
    ∙ ap (λ b. cond b (Some false) (mark_at x marks)) (is_eq-slice_cmp name x ∙ turned_about name x)
    ∙ by (text_eq x name) refl
  where
    by : (same : Bool) → text_eq x name ≡ same → cond same (Some false) (mark_at x marks) ≡ mark_of (one_of done x) (same || one_of beings x)
    by true same = ap (λ d. mark_of d true) (sym (ap (one_of done) ((bytes_decides x name).0 same) ∙ (bare name marks done beings marked none).0))
    by false same = marked x

-- a term that is being defined is done
pub mark-done : (name : List ℕ) (marks after : List (List ℕ × Bool)) (done beings : List (List ℕ)) → AreMarked marks done (name ∷ beings) → Puts name true marks after → AreMarked after (name ∷ done) beings
mark-done name marks after done beings marked put x =
    put x
    ∙ ap (λ b. cond b (Some true) (mark_at x marks)) (is_eq-slice_cmp name x ∙ turned_about name x)
    ∙ by (text_eq x name) refl
  where
    by : (same : Bool) → text_eq x name ≡ same → cond same (Some true) (mark_at x marks) ≡ mark_of (same || one_of done x) (one_of beings x)
    by true same = refl
    by false same = marked x ∙ ap (λ b. mark_of (one_of done x) (b || one_of beings x)) same

-- ---- how many terms are still to be marked

unmarked-more : (name : List ℕ) (beings : List (List ℕ)) (terms : List Entry) → unmarked (name ∷ beings) terms ≤ unmarked beings terms
unmarked-more name beings [] = omega arith
unmarked-more name beings (e ∷ rest) = by (text_eq e.name name) (one_of beings e.name) (unmarked-more name beings rest)
  where
    by : (same b : Bool) → unmarked (name ∷ beings) rest ≤ unmarked beings rest → cond (same || b) (unmarked (name ∷ beings) rest) (suc (unmarked (name ∷ beings) rest)) ≤ cond b (unmarked beings rest) (suc (unmarked beings rest))
    by true true h = h
    by true false h = omega arith
    by false true h = h
    by false false h = omega arith

unmarked-same : (one other : List (List ℕ)) (terms : List Entry) → ((x : List ℕ) → one_of one x ≡ one_of other x) → unmarked one terms ≡ unmarked other terms
unmarked-same one other [] same = refl
unmarked-same one other (e ∷ rest) same = rw (same e.name, unmarked-same one other rest same) refl

unmarked-free : (marked : List (List ℕ)) (terms : List Entry) → unmarked marked terms ≡ free marked terms
unmarked-free marked [] = refl
unmarked-free marked (e ∷ rest) = ap (λ n. cond (one_of marked e.name) n (suc n)) (unmarked-free marked rest)

one_of-keys : (x : List ℕ) (marks : List (List ℕ × Bool)) → one_of (keys_of marks) x ≡ is_some (mark_at x marks)
one_of-keys x [] = refl
one_of-keys x (m ∷ marks) = by (text_eq x m.0) (is_eq-slice_cmp x m.0) (one_of-keys x marks)
  where
    by : (b : Bool) → is_eq (name_cmp x m.0) ≡ b → one_of (keys_of marks) x ≡ is_some (mark_at x marks) → (b || one_of (keys_of marks) x) ≡ is_some (cond (is_eq (name_cmp x m.0)) (Some m.1) (mark_at x marks))
    by true e later = sym (ap (λ c. is_some (cond c (Some m.1) (mark_at x marks))) e)
    by false e later = later ∙ sym (ap (λ c. is_some (cond c (Some m.1) (mark_at x marks))) e)

keys-after : (name : List ℕ) (b : Bool) (marks after : List (List ℕ × Bool)) → Puts name b marks after → (x : List ℕ) → one_of (keys_of after) x ≡ one_of (name ∷ keys_of marks) x
keys-after name b marks after put x =
    one_of-keys x after ∙ ap is_some (put x)
    ∙ ap (λ c. is_some (cond c (Some b) (mark_at x marks))) (is_eq-slice_cmp name x ∙ turned_about name x)
    ∙ by (text_eq x name)
    ∙ ap (λ c. text_eq x name || c) (sym (one_of-keys x marks))
  where
    by : (c : Bool) → is_some (cond c (Some b) (mark_at x marks)) ≡ (c || is_some (mark_at x marks))
    by true = refl
    by false = refl

-- a mark more leaves no more terms unmarked
pub left-more : (given : JsonMembers) (name : List ℕ) (b : Bool) (marks after : List (List ℕ × Bool)) → Puts name b marks after → left after given ≤ left marks given
left-more given name b marks after put =
    let same : left after given ≡ unmarked (name ∷ keys_of marks) (terms_of given) = unmarked-same (keys_of after) (name ∷ keys_of marks) (terms_of given) (keys-after name b marks after put) in
    let fewer : unmarked (name ∷ keys_of marks) (terms_of given) ≤ left marks given = unmarked-more name (keys_of marks) (terms_of given) in
    omega (arith, same, fewer)

-- and a term that had none is one less
pub left-less : (given : JsonMembers) (name : List ℕ) (value : JsonValue) (b : Bool) (marks after : List (List ℕ × Bool)) → entry_value name (terms_of given) ≡ Some value → mark_at name marks ≡ None → Puts name b marks after → left after given < left marks given
left-less given name value b marks after found none put =
    let same : left after given ≡ unmarked (name ∷ keys_of marks) (terms_of given) = unmarked-same (keys_of after) (name ∷ keys_of marks) (terms_of given) (keys-after name b marks after put) in
    let less : unmarked (name ∷ keys_of marks) (terms_of given) < left marks given = rw (unmarked-free (name ∷ keys_of marks) (terms_of given), unmarked-free (keys_of marks) (terms_of given)) (free-less name (keys_of marks) (terms_of given) value found (one_of-keys name marks ∙ ap is_some none)) in
    omega (arith, same, less)

-- ---- how a name stands

pub stands-no-term : (name : List ℕ) (given : JsonMembers) (marks : List (List ℕ × Bool)) → is_context_key name ≡ true → standing_in given marks name ≡ ready
stands-no-term name given marks h = ap (standing_by (mark_at name marks)) (no-entry name given h)

pub stands-absent : (name : List ℕ) (given : JsonMembers) (marks : List (List ℕ × Bool)) → is_context_key name ≡ false → value_of name given ≡ None → standing_in given marks name ≡ ready
stands-absent name given marks h none = ap (standing_by (mark_at name marks)) (entry-found name given h ∙ none)

pub stands-as : (name : List ℕ) (given : JsonMembers) (marks : List (List ℕ × Bool)) (value : JsonValue) (mark : Option Bool) → is_context_key name ≡ false → value_of name given ≡ Some value → mark_at name marks ≡ mark → standing_in given marks name ≡ standing_by mark (Some value)
stands-as name given marks value mark h found m = ap (standing_by (mark_at name marks)) (entry-found name given h ∙ found) ∙ ap (λ k. standing_by k (Some value)) m
