-- Definitions that stand at their names, in a map that is kept in order.
use Rattle.std.proofs.Common.{◌≡◌, ℕ, Bool, true, false, not, List, [], ◌∷◌, Some, None, is_some, Result, Ok, Err, OnOk, OnErr, cond, refl, sym, ap, ◌∙◌, true≢false, Ordering, Less, Equal, Greater, nat_cmp}
use Rattle.std.specs.Ordering.{is_eq, match_ordering}
use Rattle.std.specs.Cmp.Lexicographic.{slice_cmp, bytes_decides}
use Rattle.std.specs.Map.{values_of, lookup, remove_entry}
use Rattle.std.specs.BTreeMap.{is_at, insert_entry}
use Rattle.std.proofs.lemmas.Map.Text.{is_eq-slice_cmp}
use Rattle.lf_model.specs.declared.table.TermDef.{TermDef}
use Rattle.lf_rdf.specs.Equality.{text_eq}
use Rattle.def_contexts.specs.Expansion.{find_term}
use Rattle.def_contexts.specs.Drafts.{put_term, without_term}
use Rattle.def_contexts.proofs.Expanding.{first_true, second_true}
use Rattle.def_contexts.proofs.Ordered.{both_true}
use Rattle.lf_context.specs.Tables.{is_named, are_named}

abbrev pub name_cmp : List ℕ → List ℕ → Ordering
name_cmp = slice_cmp nat_cmp

abbrev Slot : Type 0
Slot = List ℕ × TermDef

-- an entry's key is the name of its definition
key-name : (e : Slot) → is_named e ≡ true → e.0 ≡ e.1.name
key-name e named = (bytes_decides e.0 e.1.name).0 named

-- a look-up by the key finds what a look-up by the name finds
pub looked_up : (name : List ℕ) (es : List Slot) → are_named es ≡ true → lookup (is_at (name_cmp name)) es ≡ find_term name (values_of es)
looked_up name [] named = refl
looked_up name (e ∷ es) named =
    ap (λ b. cond b (Some e.1) (lookup (is_at (name_cmp name)) es)) (is_eq-slice_cmp name e.0 ∙ ap (text_eq name) (key-name e (first_true (is_named e) (are_named es) named)))
    ∙ ap (λ r. cond (text_eq name e.1.name) (Some e.1) r) (looked_up name es (second_true (is_named e) (are_named es) named))

-- nothing is at the name
none-there : (name : List ℕ) (es : List Slot) → are_named es ≡ true → lookup (is_at (name_cmp name)) es ≡ None → without_term name (values_of es) ≡ values_of es
none-there name [] named none = refl
none-there name (e ∷ es) named none =
    by (text_eq name e.0) (is_eq-slice_cmp name e.0) none (none-there name es (second_true (is_named e) (are_named es) named))
  where
    here : e.0 ≡ e.1.name
    here = key-name e (first_true (is_named e) (are_named es) named)

    by : (b : Bool) → is_at (name_cmp name) e.0 ≡ b → cond (is_at (name_cmp name) e.0) (Some e.1) (lookup (is_at (name_cmp name)) es) ≡ None → (lookup (is_at (name_cmp name)) es ≡ None → without_term name (values_of es) ≡ values_of es) → without_term name (e.1 ∷ values_of es) ≡ e.1 ∷ values_of es
    by true at lacks later = absurd (true≢false (ap is_some (sym (ap (λ b. cond b (Some e.1) (lookup (is_at (name_cmp name)) es)) at) ∙ lacks)))
    by false at lacks later =
        ap (λ b. cond (not b) (e.1 ∷ without_term name (values_of es)) (without_term name (values_of es))) (ap (text_eq name) (sym here) ∙ sym (is_eq-slice_cmp name e.0) ∙ at)
        ∙ ap (λ l. e.1 ∷ l) (later (sym (ap (λ b. cond b (Some e.1) (lookup (is_at (name_cmp name)) es)) at) ∙ lacks))

out : (name : List ℕ) (es : List Slot) → lookup (is_at (name_cmp name)) (remove_entry (is_at (name_cmp name)) es) ≡ None → are_named es ≡ true → values_of (remove_entry (is_at (name_cmp name)) es) ≡ without_term name (values_of es)
out name [] none named = refl
out name (e ∷ es) none named =
    by (is_at (name_cmp name) e.0) refl none (λ lacks. out name es lacks (second_true (is_named e) (are_named es) named))
  where
    here : e.0 ≡ e.1.name
    here = key-name e (first_true (is_named e) (are_named es) named)

    test : (b : Bool) → is_at (name_cmp name) e.0 ≡ b → text_eq name e.1.name ≡ b
    test b at = ap (text_eq name) (sym here) ∙ sym (is_eq-slice_cmp name e.0) ∙ at

    by : (b : Bool) → is_at (name_cmp name) e.0 ≡ b → lookup (is_at (name_cmp name)) (cond b es (e ∷ remove_entry (is_at (name_cmp name)) es)) ≡ None → (lookup (is_at (name_cmp name)) (remove_entry (is_at (name_cmp name)) es) ≡ None → values_of (remove_entry (is_at (name_cmp name)) es) ≡ without_term name (values_of es)) → values_of (cond b es (e ∷ remove_entry (is_at (name_cmp name)) es)) ≡ without_term name (e.1 ∷ values_of es)
    by true at lacks later =
        sym (none-there name es (second_true (is_named e) (are_named es) named) lacks)
        ∙ sym (ap (λ b. cond (not b) (e.1 ∷ without_term name (values_of es)) (without_term name (values_of es))) (test true at))
    by false at lacks later =
        ap (λ l. e.1 ∷ l) (later (sym (ap (λ b. cond b (Some e.1) (lookup (is_at (name_cmp name)) (remove_entry (is_at (name_cmp name)) es))) at) ∙ lacks))
        ∙ sym (ap (λ b. cond (not b) (e.1 ∷ without_term name (values_of es)) (without_term name (values_of es))) (test false at))

-- what is taken out by its key is taken out by its name
pub taken_out : (name : List ℕ) (es after : List Slot) → after ≡ remove_entry (is_at (name_cmp name)) es → lookup (is_at (name_cmp name)) after ≡ None → are_named es ≡ true → values_of after ≡ without_term name (values_of es)
taken_out name es after removed none named =
    ap values_of removed ∙ out name es (sym (ap (lookup (is_at (name_cmp name))) removed) ∙ none) named

pub named_without : (test : List ℕ → Bool) (es : List Slot) → are_named es ≡ true → are_named (remove_entry test es) ≡ true
named_without test [] named = refl
named_without test (e ∷ es) named = by (test e.0) (named_without test es (second_true (is_named e) (are_named es) named))
  where
    by : (b : Bool) → are_named (remove_entry test es) ≡ true → are_named (cond b es (e ∷ remove_entry test es)) ≡ true
    by true later = second_true (is_named e) (are_named es) named
    by false later = both_true (is_named e) (are_named (remove_entry test es)) (first_true (is_named e) (are_named es) named) later

-- what is put in at its name stands at its name
pub put_in : (d : TermDef) (es : List Slot) → are_named es ≡ true → values_of (insert_entry name_cmp es d.name d) ≡ put_term d (values_of es)
put_in d [] named = refl
put_in d (e ∷ es) named =
    by (name_cmp d.name e.0) (put_in d es (second_true (is_named e) (are_named es) named))
    ∙ ap (λ k. match_ordering (name_cmp d.name k) (d ∷ e.1 ∷ values_of es) (d ∷ values_of es) (e.1 ∷ put_term d (values_of es))) (key-name e (first_true (is_named e) (are_named es) named))
  where
    by : (o : Ordering) → values_of (insert_entry name_cmp es d.name d) ≡ put_term d (values_of es) → values_of (match_ordering o ((d.name, d) ∷ e ∷ es) ((e.0, d) ∷ es) (e ∷ insert_entry name_cmp es d.name d)) ≡ match_ordering o (d ∷ e.1 ∷ values_of es) (d ∷ values_of es) (e.1 ∷ put_term d (values_of es))
    by Less later = refl
    by Equal later = refl
    by Greater later = ap (λ l. e.1 ∷ l) later

itself : (name : List ℕ) → text_eq name name ≡ true
itself name = (bytes_decides name name).1 refl

pub named_with : (d : TermDef) (es : List Slot) → are_named es ≡ true → are_named (insert_entry name_cmp es d.name d) ≡ true
named_with d [] named = both_true (text_eq d.name d.name) true (itself d.name) refl
named_with d (e ∷ es) named =
    by (name_cmp d.name e.0) refl (named_with d es (second_true (is_named e) (are_named es) named))
  where
    by : (o : Ordering) → name_cmp d.name e.0 ≡ o → are_named (insert_entry name_cmp es d.name d) ≡ true → are_named (match_ordering o ((d.name, d) ∷ e ∷ es) ((e.0, d) ∷ es) (e ∷ insert_entry name_cmp es d.name d)) ≡ true
    by Less c later = both_true (text_eq d.name d.name) (are_named (e ∷ es)) (itself d.name) named
    by Equal c later =
        both_true (text_eq e.0 d.name) (are_named es)
        ((bytes_decides e.0 d.name).1 (sym ((bytes_decides d.name e.0).0 (sym (is_eq-slice_cmp d.name e.0) ∙ ap is_eq c))))
        (second_true (is_named e) (are_named es) named)
    by Greater c later = both_true (is_named e) (are_named (insert_entry name_cmp es d.name d)) (first_true (is_named e) (are_named es) named) later

-- a put under a key that is the definition's name
pub put_there : (d : TermDef) (key : List ℕ) (es after : List Slot) → key ≡ d.name → after ≡ insert_entry name_cmp es key d → are_named es ≡ true → values_of after ≡ put_term d (values_of es)
put_there d key es after same put named = ap values_of put ∙ ap (λ k. values_of (insert_entry name_cmp es k d)) same ∙ put_in d es named

pub named_after : {A E : Type 0} (r : Result A E) (d : TermDef) (key : List ℕ) (es after : List Slot) → key ≡ d.name → OnOk r (after ≡ insert_entry name_cmp es key d) → OnErr r (after ≡ es) → are_named es ≡ true → are_named after ≡ true
named_after (Ok x) d key es after same put kept named = ap are_named put ∙ ap (λ k. are_named (insert_entry name_cmp es k d)) same ∙ named_with d es named
named_after (Err e) d key es after same put kept named = ap are_named kept ∙ named
