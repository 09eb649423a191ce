-- Circles of terms that need each other (JSON-LD 1.1 Processing Algorithms and API, section 4.2.2,
-- step 1).
use Rattle.std.specs.Prelude.{◌≡◌, ◌⊎◌, List, [], ◌∷◌, ◌++◌, ℕ, if◌then◌else◌, Option, Some, Err, IsTrue, codes}
use Rattle.lf_model.specs.declared.error.LdError.TheVariants.{CyclicIriMapping}
use Rattle.lf_model.specs.JsonData.{JsonValue, JsonItems, JsonMembers, null, truth, whole, fraction, text, array, object, no_items, item}
use Rattle.def_contexts.specs.Texts.{has_later_colon, before_colon}
use Rattle.def_contexts.specs.Keywords.{one_of}
use Rattle.def_contexts.specs.Members.{value_of}
use Rattle.def_contexts.specs.Expansion.{Split, unsplit, as_is, split, split_of}
use Rattle.def_contexts.specs.Defining.{Entry, entry_value}
use Rattle.def_contexts.specs.Table.{terms_of, table_of}

-- what stands before the `:` of a text
abbrev pub prefix_of_split : Split → List (List ℕ)
prefix_of_split unsplit = []
prefix_of_split as_is = []
prefix_of_split (split before after) = before ∷ []

-- a text names itself and what stands before its `:`
abbrev pub named_by_text : Option JsonValue → List (List ℕ)
named_by_text (Some (text t)) = t ∷ prefix_of_split (split_of t)
named_by_text _ = []

-- a term with a `:` names what stands before it
abbrev pub named_by_name : List ℕ → List (List ℕ)
named_by_name name = if has_later_colon name then before_colon name ∷ [] else []

abbrev pub named_by_map : JsonMembers → List (List ℕ)
named_by_map members =
    named_by_text (value_of (codes "@id") members)
    ++ named_by_text (value_of (codes "@type") members)
    ++ named_by_text (value_of (codes "@reverse") members)

abbrev pub named_by_value : JsonValue → List (List ℕ)
named_by_value (object members) = named_by_map members
named_by_value (text id) = named_by_text (Some (text id))
named_by_value _ = []

-- the names that a term may need
abbrev pub named_by : List ℕ → JsonValue → List (List ℕ)
named_by name value = named_by_name name ++ named_by_value value

-- a term of a context leads to another name by what the definitions name, one after another
pub data Leads (terms : List Entry) : List ℕ → List ℕ → Type 0 where
  step :
      {from to : List ℕ} (value : JsonValue) → entry_value from terms ≡ Some value →
      IsTrue (one_of (named_by from value) to) → Leads terms from to
  chain :
      {from over to : List ℕ} → Leads terms from over → Leads terms over to → Leads terms from to

-- a term that leads to itself
abbrev pub HasCircle : List Entry → Type 0
HasCircle terms = (name : List ℕ) × Leads terms name name

-- such a term in one of the maps of a context
abbrev mutual
  pub ContextHasCircle : JsonValue → Type 0
  ContextHasCircle (array items) = ItemsHaveCircle items
  ContextHasCircle (object members) = HasCircle (terms_of members)
  ContextHasCircle null = ⊥
  ContextHasCircle (truth b) = ⊥
  ContextHasCircle (whole n) = ⊥
  ContextHasCircle fraction = ⊥
  ContextHasCircle (text t) = ⊥

  pub ItemsHaveCircle : JsonItems → Type 0
  ItemsHaveCircle no_items = ⊥
  ItemsHaveCircle (item value rest) = ContextHasCircle value ⊎ ItemsHaveCircle rest

-- a context is refused as cyclic only where a term leads to itself
abbrev pub CyclesAreCircles : Type 0
CyclesAreCircles =
    (context : JsonValue) → table_of context ≡ Err CyclicIriMapping → ContextHasCircle context
