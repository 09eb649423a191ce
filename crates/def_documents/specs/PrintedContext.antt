-- The context that a document shows (JSON-LD 1.1 Framing, section 4.1: the context of the frame),
-- without its `@version` entries.
use Rattle.std.specs.Prelude.{List, [], ◌∷◌, ℕ, if◌then◌else◌}
use Rattle.lf_rdf.specs.Equality.{text_eq}
use Rattle.lf_model.specs.JsonData.{JsonValue, null, truth, whole, fraction, text, array, object, JsonItems, no_items, item, JsonMembers, no_members, member}
use Rattle.def_selection.specs.Keywords.{at_context, at_version}

-- `@version` entries are left out, at whatever depth they stand
abbrev mutual
  pub without_version : JsonValue → JsonValue
  without_version null = null
  without_version (truth flag) = truth flag
  without_version (whole number) = whole number
  without_version fraction = fraction
  without_version (text characters) = text characters
  without_version (array items) = array (items_without_version items)
  without_version (object members) = object (members_without_version members)

  pub items_without_version : JsonItems → JsonItems
  items_without_version no_items = no_items
  items_without_version (item value rest) =
      item (without_version value) (items_without_version rest)

  pub members_without_version : JsonMembers → JsonMembers
  members_without_version no_members = no_members
  members_without_version (member key value rest) =
      if text_eq key at_version then members_without_version rest
      else member key (without_version value) (members_without_version rest)

-- the entry of a context that has something to say: null, `{}` and `[]` have nothing
abbrev pub shown : JsonValue → List (List ℕ × JsonValue)
shown null = []
shown (array no_items) = []
shown (object no_members) = []
shown context = (at_context, context) ∷ []

-- the entry of `@context`, where there is one
abbrev pub context_entry : JsonValue → List (List ℕ × JsonValue)
context_entry context = shown (without_version context)
