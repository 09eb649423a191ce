-- Laws of IRI expansion.
use Rattle.std.specs.Prelude.{◌≡◌, List, ℕ, Bool, true, Some, None, IsTrue, IsFalse}
use Rattle.lf_model.specs.declared.table.TermTable.{TermTable}
use Rattle.lf_model.specs.declared.table.TermDef.{TermDef}
use Rattle.def_contexts.specs.Keywords.{is_keyword, has_keyword_form}
use Rattle.def_contexts.specs.Texts.{is_absolute, before_colon, after_colon}
use Rattle.def_contexts.specs.Expansion.{find_term, by_prefix, expand}

-- a keyword expands to itself
abbrev pub KeywordsStay : Type 0
KeywordsStay =
    (table : TermTable) (text : List ℕ) (vocab : Bool) → IsTrue (is_keyword text) →
    expand table text vocab ≡ Some text

-- a term expands with `vocab` to its IRI, or to nothing where it has none
abbrev pub TermsGiveTheirIri : Type 0
TermsGiveTheirIri =
    (table : TermTable) (text : List ℕ) (d : TermDef) → IsFalse (is_keyword text) →
    IsFalse (has_keyword_form text) →
    find_term text table.terms ≡ Some d → expand table text true ≡ d.iri

-- an absolute text that is no term, and whose prefix is no term that may be one, expands to itself
abbrev pub AbsoluteTextsStay : Type 0
AbsoluteTextsStay =
    (table : TermTable) (text : List ℕ) (vocab : Bool) → IsTrue (is_absolute text) →
    find_term text table.terms ≡ None →
    by_prefix (find_term (before_colon text) table.terms) (after_colon text) ≡ None →
    expand table text vocab ≡ Some text
