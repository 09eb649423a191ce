-- Identifiers of blank nodes (RDF 1.1 N-Quads, the production BLANK_NODE_LABEL of the grammar).
use Rattle.std.specs.Prelude.{List, [], ◌∷◌, ℕ, nat_eq, Bool, ◌&&◌, drop}
use Rattle.std.specs.Str.{chars}
use Rattle.std.specs.List.{starts_with}
use Rattle.lf_base.specs.Ascii as ch
use Rattle.def_patch_texts.specs.Characters.{is_label}

-- `_:` and a label
unfoldable pub is_blank_id : List ℕ → Bool
unfolding chars
is_blank_id text =
    starts_with nat_eq text (ch.underscore ∷ ch.colon ∷ []) && is_label (chars (drop 2 text))
