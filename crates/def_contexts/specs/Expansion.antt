-- IRI expansion (JSON-LD 1.1 Processing Algorithms and API, section 5.2).
use Rattle.std.specs.Prelude.{List, [], ◌∷◌, ◌++◌, ℕ, Bool, true, false, ◌||◌, if◌then◌else◌, Option, Some, None, unwrap_or, find}
use Rattle.std.specs.Option.{option_or}
use Rattle.lf_base.specs.Ascii as ch
use Rattle.lf_model.specs.declared.table.TermTable.{TermTable}
use Rattle.lf_model.specs.declared.table.TermDef.{TermDef}
use Rattle.lf_rdf.specs.Equality.{text_eq}
use Rattle.def_contexts.specs.Keywords.{is_keyword, has_keyword_form}
use Rattle.def_contexts.specs.Texts.{is_absolute, has_later_colon, before_colon, after_colon, begins_authority}

-- the definition of a term, where the table has one
abbrev pub find_term : List ℕ → List TermDef → Option TermDef
find_term name terms = find (λ (d : TermDef). text_eq name d.name) terms

-- how a text with a `:` is read: it stands as it is, as a blank node identifier or before `//`, or
-- has a prefix and a rest
pub data Split : Type 0 where
  unsplit : Split
  as_is : Split
  split : List ℕ → List ℕ → Split

abbrev pub split_at : List ℕ → List ℕ → Split
split_at before after = if text_eq before (ch.underscore ∷ []) || begins_authority after then as_is
    else split before after

-- a text with `:` after its first character is cut at its first `:`
abbrev pub split_of : List ℕ → Split
split_of text =
    if has_later_colon text then split_at (before_colon text) (after_colon text) else unsplit

-- whether an IRI mapping is a keyword
abbrev pub maps_to_keyword : Option (List ℕ) → Bool
maps_to_keyword (Some iri) = is_keyword iri
maps_to_keyword None = false

-- what a term decides: with `vocab` its IRI or nothing, otherwise its keyword alone
abbrev pub by_term : Bool → Option TermDef → Option (Option (List ℕ))
by_term vocab None = None
by_term vocab (Some d) = if vocab || maps_to_keyword d.iri then Some d.iri else None

-- an IRI mapping and what follows it
abbrev pub followed_by : Option (List ℕ) → List ℕ → Option (List ℕ)
followed_by (Some iri) rest = Some (iri ++ rest)
followed_by None rest = None

-- the IRI of a term that may be a prefix, and the rest
abbrev pub by_prefix : Option TermDef → List ℕ → Option (List ℕ)
by_prefix None rest = None
by_prefix (Some d) rest = if d.prefix then followed_by d.iri rest else None

abbrev pub if_absolute : List ℕ → Option (List ℕ)
if_absolute text = if is_absolute text then Some text else None

-- what the `:` of a text decides
abbrev pub by_split : TermTable → List ℕ → Split → Option (List ℕ)
by_split table text unsplit = None
by_split table text as_is = Some text
by_split table text (split before after) =
    option_or (by_prefix (find_term before table.terms) after) (if_absolute text)

-- with `vocab` the vocabulary mapping goes before a text that nothing else decides; otherwise it
-- stays, and is relative
abbrev pub by_vocab : Bool → Option (List ℕ) → List ℕ → List ℕ
by_vocab true (Some mapping) text = mapping ++ text
by_vocab true None text = text
by_vocab false mapping text = text

-- what a text expands to; keywords stay, and other texts of their form give nothing
unfoldable pub expand : TermTable → List ℕ → Bool → Option (List ℕ)
expand table text vocab =
    if is_keyword text then Some text
    else if has_keyword_form text then None
    else unwrap_or (by_term vocab (find_term text table.terms))
    (Some (unwrap_or (by_split table text (split_of text)) (by_vocab vocab table.vocab text)))
