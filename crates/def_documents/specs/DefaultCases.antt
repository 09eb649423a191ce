-- Worked cases: default values, and the null of a property without one.
use Rattle.std.specs.Prelude.{◌≡◌, refl, [], ◌∷◌, None, codes}
use Rattle.def_framing.specs.Items.{node_items}
use Rattle.lf_rdf.specs.declared.term.Term.TheVariants.{Blank}
use Rattle.lf_model.specs.declared.table.TermTable.{TermTable}
use Rattle.lf_model.specs.declared.table.Container.TheVariants as container
use Rattle.lf_model.specs.declared.document.Doc.TheVariants.{Bytes}
use Rattle.lf_model.specs.declared.frame.DefaultValue.TheVariants.{Null, Ref, Scalar}
use Rattle.lf_model.specs.declared.scalar.Scalar.TheVariants.{Text}
use Rattle.lf_model.specs.TreeData.{TreeNode, TreeEntry, fallback_entry, empty_fallback}
use Rattle.def_selection.specs.Keywords.{selection_open}
use Rattle.def_documents.specs.CaseData.{held_context, held_term, no_context, no_terms, node_of, one, table_of}
use Rattle.def_framing.specs.Outcome.{matched}
use Rattle.def_documents.specs.Document.{document, most_items, most_bytes}

abbrev with_value : TreeEntry → TreeNode
with_value value = node_of (codes "http://e/a") (one (codes "http://e/p") value ∷ [])

abbrev in_sets : TermTable
in_sets = table_of None (held_term (codes "p") (codes "http://e/p") container.Set ∷ [])

pub default_text :
    document no_terms no_context
    (matched (with_value (fallback_entry (Scalar (Text (codes "d")) None None))) ∷ [])
    ≡ Bytes (codes "{\"@id\":\"http://e/a\",\"http://e/p\":\"d\"}")
unfolding selection_open most_items most_bytes node_items
default_text = refl

pub default_null :
    document no_terms no_context (matched (with_value (fallback_entry Null)) ∷ [])
    ≡ Bytes (codes "{\"@id\":\"http://e/a\",\"http://e/p\":null}")
unfolding selection_open most_items most_bytes node_items
default_null = refl

-- an array that holds null alone is empty
pub null_in_set :
    document in_sets (held_context (codes "p") (codes "http://e/p") (codes "@set"))
    (matched (with_value (fallback_entry Null)) ∷ [])
    ≡ Bytes (codes "{\"@context\":{\"p\":{\"@container\":\"@set\",\"@id\":\"http://e/p\"}},\"@id\":\"http://e/a\",\"p\":[]}")
unfolding selection_open most_items most_bytes node_items
null_in_set = refl

-- an empty default is an empty array
pub default_empty :
    document no_terms no_context (matched (with_value empty_fallback) ∷ [])
    ≡ Bytes (codes "{\"@id\":\"http://e/a\",\"http://e/p\":[]}")
unfolding selection_open most_items most_bytes node_items
default_empty = refl

-- a reference in a default keeps its id
pub default_reference :
    document no_terms no_context
    (matched (with_value (fallback_entry (Ref (Blank (codes "x"))))) ∷ [])
    ≡ Bytes (codes "{\"@id\":\"http://e/a\",\"http://e/p\":{\"@id\":\"_:x\"}}")
unfolding selection_open most_items most_bytes node_items
default_reference = refl
