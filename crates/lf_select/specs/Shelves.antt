-- What is filed under an IRI and a key: the place of the term that is least by length and name.
use Rattle.std.specs.Prelude.{◌≡◌, List, [], ◌∷◌, ℕ, ◌+◌, Bool, false, ◌&&◌, if◌then◌else◌, Option, Some, None, length, drop, filter, slice_get}
use Rattle.std.specs.List.{list_any}
use Rattle.std.specs.Option.{option_and_then, option_or}
use Rattle.std.specs.Ordering.{nat_cmp}
use Rattle.std.specs.Cmp.Lexicographic.{slice_cmp}
use Rattle.std.specs.BTreeMap.{BTreeMap, get}
use Rattle.lf_rdf.specs.Equality.{text_eq}
use Rattle.lf_model.specs.declared.table.TermTable.{TermTable}
use Rattle.lf_model.specs.declared.table.TermDef.{TermDef}
use Rattle.def_selection.specs.Chosen.{least, lesser, ranks_less, stands_for}
use Rattle.lf_select.specs.declared.key.SlotKey.{SlotKey}
use Rattle.lf_select.specs.Keys.{key_cmp, key_eq, keys_of}

abbrev pub Shelf : Type 0
Shelf = BTreeMap SlotKey ℕ

abbrev pub Shelves : Type 0
Shelves = BTreeMap (List ℕ) Shelf

-- the shelf of an IRI
abbrev pub shelf_of : Shelves → List ℕ → Option Shelf
shelf_of shelves iri = get (slice_cmp nat_cmp) shelves iri

-- the place of an IRI's key
abbrev pub place_at : Shelves → List ℕ → SlotKey → Option ℕ
place_at shelves iri key = option_and_then (λ shelf. get key_cmp shelf key) (shelf_of shelves iri)

-- the term of a shelf's key
abbrev pub term_in : List TermDef → Shelf → SlotKey → Option TermDef
term_in terms shelf key = option_and_then (slice_get terms) (get key_cmp shelf key)

-- the term of an IRI's key
abbrev pub term_at : List TermDef → Shelves → List ℕ → SlotKey → Option TermDef
term_at terms shelves iri key = option_and_then (slice_get terms) (place_at shelves iri key)

-- among terms of one slot the shorter name decides, then the lesser
abbrev pub name_rank : TermDef → List ℕ
name_rank term = length term.name ∷ term.name

-- the term that was filed before comes first
abbrev pub comes_first : TermDef → Option TermDef → Bool
comes_first term None = false
comes_first term (Some other) = ranks_less (name_rank other) (name_rank term)

-- the term has the IRI and the key
abbrev pub is_under : TermTable → List ℕ → SlotKey → TermDef → Bool
is_under table iri key term =
    stands_for iri term && list_any (λ own. key_eq own key) (keys_of table term)

-- the least of the terms with an IRI and a key
abbrev pub best_under : TermTable → List TermDef → List ℕ → SlotKey → Option TermDef
best_under table terms iri key = least name_rank (filter (is_under table iri key) terms)

-- the terms from a place on are filed
abbrev pub IsFiledFrom : TermTable → Shelves → ℕ → Type 0
IsFiledFrom table shelves place =
    (iri : List ℕ) (key : SlotKey) →
    term_at table.terms shelves iri key ≡ best_under table (drop place table.terms) iri key

-- all terms are filed
abbrev pub IsFiled : TermTable → Shelves → Type 0
IsFiled table shelves =
    (iri : List ℕ) (key : SlotKey) →
    term_at table.terms shelves iri key ≡ best_under table table.terms iri key

-- the term at a place is filed under an IRI and a key, where no other term comes before it
abbrev pub Files : List TermDef → Shelves → Shelves → List ℕ → SlotKey → ℕ → Type 0
Files terms before after iri key place =
    (term : TermDef) → slice_get terms place ≡ Some term → (q : List ℕ) (k : SlotKey) →
    term_at terms after q k
    ≡ (if text_eq iri q && key_eq key k then lesser name_rank term (term_at terms before q k)
    else term_at terms before q k)

-- the term at a place is filed under an IRI and these keys, beside all later terms
abbrev pub IsFiledUnder : TermTable → Shelves → List ℕ → ℕ → List SlotKey → Type 0
IsFiledUnder table shelves iri place own_keys =
    (term : TermDef) → slice_get table.terms place ≡ Some term → (q : List ℕ) (k : SlotKey) →
    term_at table.terms shelves q k
    ≡ (if text_eq iri q && list_any (λ own. key_eq own k) own_keys
    then lesser name_rank term (best_under table (drop (place + 1) table.terms) q k)
    else best_under table (drop (place + 1) table.terms) q k)

-- the first that there is
abbrev pub first_some : {A B : Type 0} → (A → Option B) → List A → Option B
first_some f [] = None
first_some f (x ∷ xs) = option_or (f x) (first_some f xs)
