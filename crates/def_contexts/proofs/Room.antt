-- Why there is room enough: each term that is being defined is another one of the context.
use Rattle.std.proofs.Common.{◌≡◌, ℕ, zero, suc, ◌<◌, ◌≤◌, Bool, true, false, ◌||◌, List, [], ◌∷◌, length, Option, Some, None, is_some, cond, refl, sym, ap, ◌∙◌, true≢false, arith}
use Rattle.std.specs.Cmp.Lexicographic.{bytes_decides}
use Rattle.lf_model.specs.JsonData.{JsonValue}
use Rattle.lf_rdf.specs.Equality.{text_eq}
use Rattle.def_contexts.specs.Keywords.{one_of}
use Rattle.def_contexts.specs.Drafts.{Draft}
use Rattle.def_contexts.specs.Defining.{Entry, entry_value, standing_of, made_ready, needed, Define, define, name_kind, term_defined, define_each, define_terms}
use Rattle.def_contexts.specs.RoomLaws.{RoomIsEnough}

-- how many terms aren't being defined
abbrev pub free : List (List ℕ) → List Entry → ℕ
free beings [] = 0
free beings (e ∷ rest) = cond (one_of beings e.name) (free beings rest) (suc (free beings rest))

pub free-length : (beings : List (List ℕ)) (terms : List Entry) → free beings terms ≤ length terms
free-length beings [] = omega arith
free-length beings (e ∷ rest) = by (one_of beings e.name) (free-length beings rest)
  where
    by : (b : Bool) → free beings rest ≤ length rest → cond b (free beings rest) (suc (free beings rest)) ≤ suc (length rest)
    by true h = omega arith
    by false h = omega arith

free-fewer : (name : List ℕ) (beings : List (List ℕ)) (terms : List Entry) → free (name ∷ beings) terms ≤ free beings terms
free-fewer name beings [] = omega arith
free-fewer name beings (e ∷ rest) = by (text_eq e.name name) (one_of beings e.name) (free-fewer name beings rest)
  where
    by : (same b : Bool) → free (name ∷ beings) rest ≤ free beings rest → cond (same || b) (free (name ∷ beings) rest) (suc (free (name ∷ beings) rest)) ≤ cond b (free beings rest) (suc (free beings rest))
    by true true h = h
    by true false h = omega arith
    by false true h = h
    by false false h = omega arith

-- a term that begins to be defined is one free term less
pub free-less : (name : List ℕ) (beings : List (List ℕ)) (terms : List Entry) (value : JsonValue) → entry_value name terms ≡ Some value → one_of beings name ≡ false → free (name ∷ beings) terms < free beings terms
free-less name beings [] value found new = absurd (true≢false (sym (ap is_some found)))
free-less name beings (e ∷ rest) value found new =
    by (text_eq name e.name) refl found (λ later. free-less name beings rest value later new)
  where
    turned : text_eq name e.name ≡ true → text_eq e.name name ≡ true
    turned same = (bytes_decides e.name name).1 (sym ((bytes_decides name e.name).0 same))

    unheld : text_eq name e.name ≡ true → one_of beings e.name ≡ false
    unheld same = ap (one_of beings) (sym ((bytes_decides name e.name).0 same)) ∙ new

    fewer : free (name ∷ beings) rest ≤ free beings rest
    fewer = free-fewer name beings rest

    more : (same b : Bool) → free (name ∷ beings) rest < free beings rest → cond (same || b) (free (name ∷ beings) rest) (suc (free (name ∷ beings) rest)) < cond b (free beings rest) (suc (free beings rest))
    more true true h = h
    more true false h = omega arith
    more false true h = h
    more false false h = omega arith

    now : (same b : Bool) → same ≡ true → b ≡ false → cond (same || b) (free (name ∷ beings) rest) (suc (free (name ∷ beings) rest)) < cond b (free beings rest) (suc (free beings rest))
    now false b p q = absurd (true≢false (sym p))
    now true true p q = absurd (true≢false q)
    now true false p q = omega (arith, fewer)

    by : (same : Bool) → text_eq name e.name ≡ same → cond same (Some e.value) (entry_value name rest) ≡ Some value → (entry_value name rest ≡ Some value → free (name ∷ beings) rest < free beings rest) → cond (text_eq e.name name || one_of beings e.name) (free (name ∷ beings) rest) (suc (free (name ∷ beings) rest)) < cond (one_of beings e.name) (free beings rest) (suc (free beings rest))
    by true same here later = now (text_eq e.name name) (one_of beings e.name) (turned same) (unheld same)
    by false same here later = more (text_eq e.name name) (one_of beings e.name) (later here)

-- what two definitions agree on, where there is room for both
abbrev pub Agree : List Entry → Define → Define → List (List ℕ) → Type 0
Agree terms one two beings =
    (name : List ℕ) (value : JsonValue) (draft : Draft) → entry_value name terms ≡ Some value →
    one_of beings name ≡ false → one beings name value draft ≡ two beings name value draft

pub needed-agree : (terms : List Entry) (one two : Define) (beings : List (List ℕ)) → Agree terms one two beings → needed terms one beings ≡ needed terms two beings
needed-agree terms one two beings agree =
    λ i. λ name draft. by name draft (one_of draft.done name) (one_of beings name) (entry_value name terms) refl refl i
  where
    by : (name : List ℕ) (draft : Draft) (done being : Bool) (o : Option JsonValue) → one_of beings name ≡ being → entry_value name terms ≡ o → made_ready (standing_of done being o) one beings name draft ≡ made_ready (standing_of done being o) two beings name draft
    by name draft done being None held found = refl
    by name draft true being (Some value) held found = refl
    by name draft false true (Some value) held found = refl
    by name draft false false (Some value) held found = agree name value draft found held

pub define-agree : (terms : List Entry) (room other : ℕ) (beings : List (List ℕ)) → free beings terms ≤ room → free beings terms ≤ other → Agree terms (define terms room) (define terms other) beings
unfolding define
define-agree terms zero other beings r o name value draft found new =
    absurd (empty (free-less name beings terms value found new))
  where
    empty : free (name ∷ beings) terms < free beings terms → ⊥
    empty h = omega arith
define-agree terms (suc room) zero beings r o name value draft found new =
    absurd (empty (free-less name beings terms value found new))
  where
    empty : free (name ∷ beings) terms < free beings terms → ⊥
    empty h = omega arith
define-agree terms (suc room) (suc other) beings r o name value draft found new =
    let less : free (name ∷ beings) terms < free beings terms = free-less name beings terms value found new in
    ap (λ need. term_defined (name_kind name) need name value draft)
    (needed-agree terms (define terms room) (define terms other) (name ∷ beings)
    (define-agree terms room other (name ∷ beings) (omega arith) (omega arith)))

pub room_is_enough : RoomIsEnough
unfolding define_terms
room_is_enough terms table room enough =
    ap (λ need. define_each need terms (record { table = table; done = [] }))
    (needed-agree terms (define terms room) (define terms (length terms)) []
    (define-agree terms room (length terms) [] (let h : free [] terms ≤ length terms = free-length [] terms in omega arith) (free-length [] terms)))
