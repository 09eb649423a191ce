-- What one term more changes among the names.
use Rattle.std.proofs.Common.{◌≡◌, ℕ, ◌+◌, Bool, true, false, ◌&&◌, ◌||◌, cond, List, Some, refl, ap, sym, ◌∙◌, drop, nat_cmp, is_eq}
use Rattle.std.specs.Prelude.{is_some, slice_get}
use Rattle.std.specs.Option.{option_and_then}
use Rattle.std.specs.Cmp.Lexicographic.{slice_cmp}
use Rattle.std.proofs.lemmas.Cmp.{nat_list_eq_equiv}
use Rattle.std.proofs.lemmas.Map.Text.{is_eq-slice_cmp}
use Rattle.lf_rdf.specs.Equality.{text_eq}
use Rattle.lf_model.specs.declared.table.TermTable.{TermTable}
use Rattle.lf_model.specs.declared.table.TermDef.{TermDef}
use Rattle.def_contexts.specs.Expansion.{find_term}
use Rattle.lf_select.specs.Names.{named, is_prefix_name, AreNamedFrom, ArePrefixesFrom, Names}
use Rattle.lf_select.proofs.Filed.{here-and-after}

pub name-added : (table : TermTable) (before after : Names) (place : ℕ) (term : TermDef) → slice_get table.terms place ≡ Some term
    → ((q : List ℕ) → named after q ≡ cond (is_eq (slice_cmp nat_cmp term.name q)) (Some place) (named before q))
    → AreNamedFrom table before (place + 1) → AreNamedFrom table after place
name-added table before after place term here added before_all q =
    ap (option_and_then (slice_get table.terms)) (added q ∙ ap (λ b. cond b (Some place) (named before q)) (is_eq-slice_cmp term.name q ∙ nat_list_eq_equiv.symm term.name q))
    ∙ go (text_eq q term.name)
    ∙ (λ i. find_term q (sym (here-and-after table.terms place term here) i))
  where
    go : (b : Bool) → option_and_then (slice_get table.terms) (cond b (Some place) (named before q))
        ≡ cond b (Some term) (find_term q (drop (place + 1) table.terms))
    go true = here
    go false = before_all q

pub prefix-added : (table : TermTable) (before after : Names) (place : ℕ) (term : TermDef) → slice_get table.terms place ≡ Some term
    → term.prefix ≡ true
    → ((q : List ℕ) → named after q ≡ cond (is_eq (slice_cmp nat_cmp term.name q)) (Some place) (named before q))
    → ArePrefixesFrom table before (place + 1) → ArePrefixesFrom table after place
prefix-added table before after place term here may added before_all q =
    ap is_some (added q ∙ ap (λ b. cond b (Some place) (named before q)) (is_eq-slice_cmp term.name q))
    ∙ go (text_eq term.name q)
    ∙ (λ i. (text_eq term.name q && sym may i) || is_prefix_name (drop (place + 1) table.terms) q)
    ∙ (λ i. is_prefix_name (sym (here-and-after table.terms place term here) i) q)
  where
    go : (b : Bool) → is_some (cond b (Some place) (named before q)) ≡ ((b && true) || is_prefix_name (drop (place + 1) table.terms) q)
    go true = refl
    go false = before_all q

pub no-prefix-added : (table : TermTable) (before : Names) (place : ℕ) (term : TermDef) → slice_get table.terms place ≡ Some term
    → term.prefix ≡ false → ArePrefixesFrom table before (place + 1) → ArePrefixesFrom table before place
no-prefix-added table before place term here may before_all q =
    before_all q
    ∙ go (text_eq term.name q)
    ∙ (λ i. (text_eq term.name q && sym may i) || is_prefix_name (drop (place + 1) table.terms) q)
    ∙ (λ i. is_prefix_name (sym (here-and-after table.terms place term here) i) q)
  where
    go : (b : Bool) → is_prefix_name (drop (place + 1) table.terms) q ≡ ((b && false) || is_prefix_name (drop (place + 1) table.terms) q)
    go true = refl
    go false = refl
