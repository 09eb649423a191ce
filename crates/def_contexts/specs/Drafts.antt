-- A table while a context is read: a term that another one needs is defined first
-- (JSON-LD 1.1 Processing Algorithms and API, sections 4.2 and 5.2).
use Rattle.std.specs.Prelude.{List, [], ◌∷◌, ℕ, Bool, true, false, not, ◌||◌, if◌then◌else◌, Option, is_some, Result, Ok, filter}
use Rattle.std.specs.Ordering.{match_ordering, nat_cmp}
use Rattle.std.specs.Cmp.Lexicographic.{slice_cmp}
use Rattle.lf_model.specs.declared.table.TermTable.{TermTable}
use Rattle.lf_model.specs.declared.table.TermDef.{TermDef}
use Rattle.lf_model.specs.declared.error.LdError.{LdError}
use Rattle.lf_rdf.specs.Equality.{text_eq}
use Rattle.def_contexts.specs.Keywords.{is_keyword, has_keyword_form}
use Rattle.def_contexts.specs.Expansion.{find_term, expand, Split, unsplit, as_is, split, split_of}
use Rattle.def_contexts.specs.Outcomes.{◌>>=◌}

-- a definition in its place in byte order; an older one of its name goes
abbrev pub put_term : TermDef → List TermDef → List TermDef
put_term d [] = d ∷ []
put_term d (e ∷ rest) =
    match_ordering (slice_cmp nat_cmp d.name e.name) (d ∷ e ∷ rest) (d ∷ rest) (e ∷ put_term d rest)

-- the definitions of other terms
abbrev pub without_term : List ℕ → List TermDef → List TermDef
without_term name terms = filter (λ (d : TermDef). not (text_eq name d.name)) terms

-- the table so far, and the terms of this context that are done
pub record Draft : Type 0 where
  pub table : TermTable
  pub done : List (List ℕ)

abbrev pub with_table : TermTable → Draft → Draft
with_table table draft = record draft { table = table }

-- a term is done without a definition
abbrev pub settled : List ℕ → Draft → Draft
settled name draft = record draft { done = name ∷ draft.done }

-- a term is done and has a definition
abbrev pub defined : TermDef → Draft → Draft
defined d draft =
    record {
      table = record draft.table { terms = put_term d draft.table.terms };
      done = d.name ∷ draft.done;
    }

-- the older definition of a term that is defined anew is gone
abbrev pub forgotten : List ℕ → Draft → Draft
forgotten name draft =
    with_table (record draft.table { terms = without_term name draft.table.terms }) draft

-- what makes a draft in which a needed term is done
abbrev pub Need : Type 0
Need = List ℕ → Draft → Result Draft LdError

-- a draft and what a text expands to by it
pub record Expanded : Type 0 where
  pub draft : Draft
  pub iri : Option (List ℕ)

abbrev pub expanded_by : List ℕ → Draft → Expanded
expanded_by text draft = record { draft = draft; iri = expand draft.table text true }

abbrev pub need_if : Bool → Need → List ℕ → Draft → Result Draft LdError
need_if true need name draft = need name draft
need_if false need name draft = Ok draft

-- a text is needed as a term, unless it is a keyword or has the form of one
abbrev pub need_whole : Need → List ℕ → Draft → Result Draft LdError
need_whole need text draft =
    need_if (not (is_keyword text || has_keyword_form text)) need text draft

abbrev pub need_split : Need → Split → Draft → Result Draft LdError
need_split need unsplit draft = Ok draft
need_split need as_is draft = Ok draft
need_split need (split before after) draft = need before draft

-- what stands before the `:` of a text that is no term is needed as a term
abbrev pub need_prefix : Need → List ℕ → Draft → Result Draft LdError
need_prefix need text draft =
    need_split need (if is_some (find_term text draft.table.terms) then unsplit else split_of text)
    draft

-- a text of the context expanded with `vocab`
abbrev pub expanded : Need → List ℕ → Draft → Result Expanded LdError
expanded need text draft = do
  whole ← need_whole need text draft
  both ← need_prefix need text whole
  Ok (expanded_by text both)

-- a term expanded as if it were not a term itself
abbrev pub self_expanded : Need → List ℕ → Draft → Result Expanded LdError
self_expanded need name draft = do
  both ← need_prefix need name draft
  Ok (expanded_by name both)
