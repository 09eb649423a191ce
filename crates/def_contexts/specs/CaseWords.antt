-- Words for the worked cases.
use Rattle.std.specs.Prelude.{List, ℕ, false, Some, None}
use Rattle.lf_model.specs.declared.table.TermDef.{TermDef}
use Rattle.lf_model.specs.declared.table.TermTable.{TermTable}
use Rattle.lf_model.specs.declared.table.Container.TheVariants.{NoContainer}
use Rattle.lf_model.specs.JsonData.{JsonValue, object, array, members_of, items_of}
use Rattle.def_contexts.specs.Keywords.{is_keyword, has_keyword_form}
use Rattle.def_contexts.specs.Texts.{is_absolute}
use Rattle.def_contexts.specs.Labels.{is_blank_id}
use Rattle.def_contexts.specs.Expansion.{expand}
use Rattle.def_contexts.specs.Terms.{ordinary_term}
use Rattle.def_contexts.specs.Table.{map_table, table_of}
use Rattle.def_contexts.specs.Defining.{define, define_terms}
use Rattle.def_contexts.specs.GivenValues.{given}
use Rattle.def_contexts.specs.Defaults.{defaults_of}
use Rattle.def_contexts.specs.FrameKeys.{meaning_of}
use Rattle.def_contexts.specs.SubFrames.{top_frame}
use Rattle.def_contexts.specs.Frames.{frame_of}

-- a proof that unfolds this computes contexts
unfoldable pub contexts_open : Unit {0}
unfolding is_keyword has_keyword_form is_absolute expand ordinary_term define define_terms map_table
    table_of
contexts_open = tt

-- a proof that unfolds this computes frames
unfoldable pub frames_open : Unit {0}
unfolding contexts_open is_blank_id given defaults_of meaning_of top_frame frame_of
frames_open = tt

abbrev pub map_of : List (List ℕ × JsonValue) → JsonValue
map_of entries = object (members_of entries)

abbrev pub list_of : List JsonValue → JsonValue
list_of values = array (items_of values)

-- a term of this IRI and no more
abbrev pub plain_term : List ℕ → List ℕ → TermDef
plain_term name iri =
    record {
      name = name;
      iri = Some iri;
      prefix = false;
      reverse = false;
      coercion = None;
      language = None;
      container = NoContainer;
    }

-- a table of these terms and no more
abbrev pub table_with : List TermDef → TermTable
table_with terms = record { vocab = None; language = None; terms = terms; type_set = false }
