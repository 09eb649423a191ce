-- The terms of a map one after another, the keys of a map before its terms, and the whole context.
use Rattle.std.proofs.Common.{◌≡◌, ℕ, zero, suc, ◌+◌, ◌<◌, Bool, true, false, List, [], ◌∷◌, length, drop, get_or, Result, Ok, Err, cond, codes, refl, sym, ap, subst, ◌∙◌, arith}
use Rattle.std.specs.Bool.{⊤}
use Rattle.lf_sorted.specs.declared.map.Entry.{Entry}
use Rattle.lf_model.specs.declared.table.TermTable.{TermTable}
use Rattle.lf_model.specs.declared.error.LdError.{LdError}
use Rattle.lf_model.specs.declared.error.LdError.TheVariants.{InvalidVersionValue, InvalidLocalContext}
use Rattle.lf_model.specs.declared.json.Json.{Json}
use Rattle.lf_model.specs.JsonBridge.{json_data, members_data}
use Rattle.lf_model.specs.JsonData.{JsonValue, JsonMembers, no_members, member}
use Rattle.def_contexts.specs.Outcomes.{◌>>=◌, refuse}
use Rattle.def_contexts.specs.Members.{value_of}
use Rattle.def_contexts.specs.Defining.{define_each, define_terms}
use Rattle.def_contexts.specs.Table.{is_context_key, is_bad_version, has_refused_key, terms_of, map_table, empty_table, table_after, table_of}
use Rattle.lf_context.specs.declared.error.ContextErr.{ContextErr}
use Rattle.lf_context.specs.declared.error.ContextErr.TheVariants.{Ld, Memory}
use Rattle.lf_context.specs.Parts.{IsPart}
use Rattle.lf_context.specs.Maps.{checked, vocab_step}
use Rattle.lf_context.specs.Stages.{drafted}
use Rattle.lf_context.specs.Walks.{need_in, MakesReady, IsTable, IsOnItsWay, Furthers}
use Rattle.lf_context.proofs.Turns.{then-then}

-- ---- terms

pub way-begins : (given : JsonMembers) (table : TermTable) (marks : List (List ℕ × Bool)) → marks ≡ [] → IsOnItsWay given table table marks given
way-begins given table marks none = ([], rw none (λ x. refl), refl)

member-at : (es : List (Entry Json)) (i : ℕ) (e : Entry Json) → i < length es → e ≡ get_or es i e → members_data (drop i es) ≡ member e.key (json_data e.value) (members_data (drop (suc i) es))
member-at [] i e within is = absurd (omega arith)
member-at (f ∷ fs) zero e within is = ap (λ (z : Entry Json). member z.key (json_data z.value) (members_data fs)) (sym is)
member-at (f ∷ fs) (suc i) e within is = member-at fs i e (omega arith) is

pub member-next : (es : List (Entry Json)) (i : ℕ) (e : Entry Json) → i < length es → e ≡ get_or es i e → members_data (drop i es) ≡ member e.key (json_data e.value) (members_data (drop (i + 1) es))
member-next es i e within is = let next : i + 1 ≡ suc i = omega arith in rw next (member-at es i e within is)

-- a key that is no term
pub way-past : (given : JsonMembers) (first now : TermTable) (marks : List (List ℕ × Bool)) (whole : JsonMembers) (key : List ℕ) (value : JsonValue) (rest : JsonMembers) → whole ≡ member key value rest → is_context_key key ≡ true → IsOnItsWay given first now marks whole → IsOnItsWay given first now marks rest
way-past given first now marks whole key value rest parts skipped h = (
  h.0,
  h.1,
  h.2 ∙ ap (λ m. define_each (need_in given []) (terms_of m) (drafted now h.0)) parts ∙ ap (λ b. define_each (need_in given []) (cond b (terms_of rest) (record { name = key; value = value } ∷ terms_of rest)) (drafted now h.0)) skipped,
)

here : (given : JsonMembers) (now : TermTable) (all : List (List ℕ)) (whole : JsonMembers) (key : List ℕ) (value : JsonValue) (rest : JsonMembers) → whole ≡ member key value rest → is_context_key key ≡ false → define_each (need_in given []) (terms_of whole) (drafted now all) ≡ (need_in given [] key (drafted now all) >>= define_each (need_in given []) (terms_of rest))
here given now all whole key value rest parts term =
    ap (λ m. define_each (need_in given []) (terms_of m) (drafted now all)) parts ∙ ap (λ b. define_each (need_in given []) (cond b (terms_of rest) (record { name = key; value = value } ∷ terms_of rest)) (drafted now all)) term

-- a term that was made ready
pub way-further : (given : JsonMembers) (first now next : TermTable) (marks after : List (List ℕ × Bool)) (whole : JsonMembers) (key : List ℕ) (value : JsonValue) (rest : JsonMembers) → whole ≡ member key value rest → is_context_key key ≡ false → MakesReady given now marks key next after (Ok tt) → IsOnItsWay given first now marks whole → IsOnItsWay given first next after rest
way-further given first now next marks after whole key value rest parts term ready h =
    let r = ready h.0 h.1 in (
      r.0,
      r.1,
      h.2 ∙ here given now h.0 whole key value rest parts term ∙ ap (λ d. d >>= define_each (need_in given []) (terms_of rest)) r.2,
    )

pub way-ends : (given : JsonMembers) (first now : TermTable) (marks : List (List ℕ × Bool)) (rest : JsonMembers) → rest ≡ no_members → IsOnItsWay given first now marks rest → (define_terms (terms_of given) first >>= λ all. Ok all.table) ≡ Ok now
unfolding define_terms
way-ends given first now marks rest none h =
    ap (λ d. d >>= λ all. Ok all.table) (h.2 ∙ ap (λ m. define_each (need_in given []) (terms_of m) (drafted now h.0)) none)

pub way-stops : (given : JsonMembers) (first now next : TermTable) (marks after : List (List ℕ × Bool)) (whole : JsonMembers) (key : List ℕ) (value : JsonValue) (rest : JsonMembers) (e : ContextErr) → whole ≡ member key value rest → is_context_key key ≡ false → MakesReady given now marks key next after (Err e) → IsOnItsWay given first now marks whole → IsTable (define_terms (terms_of given) first >>= λ all. Ok all.table) next (Err e)
unfolding define_terms
way-stops given first now next marks after whole key value rest (Ld error) parts term refused h =
    ap (λ d. d >>= λ all. Ok all.table) (h.2 ∙ here given now h.0 whole key value rest parts term ∙ ap (λ d. d >>= define_each (need_in given []) (terms_of rest)) (refused h.0 h.1))
way-stops given first now next marks after whole key value rest Memory parts term refused h = tt

-- what one member leads to
pub furthers-past : (given : JsonMembers) (now : TermTable) (marks : List (List ℕ × Bool)) (key : List ℕ) → is_context_key key ≡ true → Furthers given now marks key now marks (Ok tt)
furthers-past given now marks key skipped = λ first whole rest value parts h. way-past given first now marks whole key value rest parts skipped h

pub furthers-ready : (given : JsonMembers) (now next : TermTable) (marks after : List (List ℕ × Bool)) (key : List ℕ) (result : Result ⊤ ContextErr) → is_context_key key ≡ false → MakesReady given now marks key next after result → Furthers given now marks key next after result
furthers-ready given now next marks after key (Ok u) term ready = λ first whole rest value parts h. way-further given first now next marks after whole key value rest parts term ready h
furthers-ready given now next marks after key (Err e) term ready = λ first whole rest value parts h. way-stops given first now next marks after whole key value rest e parts term ready h

-- ---- the map of a context

pub map-steps : (given : JsonMembers) (table : TermTable) → map_table given table ≡ (checked given >>= λ _. vocab_step given table)
unfolding map_table
map-steps given table =
    sym (then-then (refuse (is_bad_version (value_of (codes "@version") given)) InvalidVersionValue) (λ _. refuse (has_refused_key given) InvalidLocalContext) (λ _. vocab_step given table))

pub table-then : {A : Type 0} (r : Result A LdError) (k : A → Result TermTable LdError) (x : A) (new : TermTable) (result : Result ⊤ ContextErr) → r ≡ Ok x → IsTable (k x) new result → IsTable (r >>= k) new result
table-then r k x new result e h = subst (λ s. IsTable (s >>= k) new result) (sym e) h

pub table-refused : {A : Type 0} (r : Result A LdError) (k : A → Result TermTable LdError) (new : TermTable) (e : ContextErr) → IsPart r (Err e) → IsTable (r >>= k) new (Err e)
table-refused r k new (Ld error) h = ap (λ s. s >>= k) h
table-refused r k new Memory h = tt

pub map-by-steps : (given : JsonMembers) (table new : TermTable) (result : Result ⊤ ContextErr) → IsTable (checked given >>= λ _. vocab_step given table) new result → IsTable (map_table given table) new result
map-by-steps given table new result h = subst (λ s. IsTable s new result) (sym (map-steps given table)) h

-- ---- the whole context

pub processed : (context : JsonValue) (first last table : TermTable) → first ≡ empty_table → table_after context first ≡ Ok last → table ≡ last → table_of context ≡ Ok table
unfolding table_of
processed context first last table begins read ends = ap (table_after context) (sym begins) ∙ read ∙ ap Ok (sym ends)

pub refused : (context : JsonValue) (first last : TermTable) (e : ContextErr) → first ≡ empty_table → IsTable (table_after context first) last (Err e) → IsPart (table_of context) (Err e)
unfolding table_of
refused context first last (Ld error) begins read = ap (table_after context) (sym begins) ∙ read
refused context first last Memory begins read = tt
