-- The label of a blank node identifier (RDF 1.1 N-Quads, the production BLANK_NODE_LABEL).
use Rattle.std.specs.Prelude.{List, ℕ, Bool, true, false, ◌||◌, if◌then◌else◌, drop, Option, Some, None}
use Rattle.def_patch_texts.specs.Characters.{is_pn_chars_u, is_digit, is_label_char}
use Rattle.def_contexts.specs.Labels.{is_blank_id}

-- what stands behind `_:`, where it is a label
abbrev pub blank_label : List ℕ → Option (List ℕ)
blank_label text = if is_blank_id text then Some (drop 2 text) else None

-- a character may be the first of a label, or stand behind it
abbrev pub is_fit : Bool → ℕ → Bool
is_fit true c = is_label_char c
is_fit false c = is_pn_chars_u c || is_digit c
