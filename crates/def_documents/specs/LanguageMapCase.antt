-- Worked case: a language map.
use Rattle.std.specs.Prelude.{◌≡◌, refl, [], ◌∷◌, None, codes}
use Rattle.def_framing.specs.Items.{node_items}
use Rattle.lf_rdf.specs.Vocabulary.{rdf_lang_string, xsd_string}
use Rattle.lf_model.specs.declared.table.TermTable.{TermTable}
use Rattle.lf_model.specs.declared.table.Container.TheVariants as container
use Rattle.lf_model.specs.declared.document.Doc.TheVariants.{Bytes}
use Rattle.lf_model.specs.TreeData.{TreeNode}
use Rattle.def_selection.specs.Keywords.{selection_open}
use Rattle.def_documents.specs.CaseData.{held_context, held_term, many, node_of, plain, table_of, tagged}
use Rattle.def_framing.specs.Outcome.{matched}
use Rattle.def_documents.specs.Document.{document, most_items, most_bytes}

abbrev labelled : TreeNode
labelled =
    node_of (codes "http://e/a")
    (many (codes "http://e/label") (tagged (codes "x") (codes "en")
    ∷ tagged (codes "y") (codes "en-gb") ∷ plain (codes "z") ∷ []) ∷ [])

abbrev by_language : TermTable
by_language =
    table_of None (held_term (codes "label") (codes "http://e/label") container.Language ∷ [])

abbrev by_language_set : TermTable
by_language_set =
    table_of None (held_term (codes "label") (codes "http://e/label") container.LanguageSet ∷ [])

-- a text without a language stands under `@none`
pub language_map_document :
    document by_language (held_context (codes "label") (codes "http://e/label") (codes "@language"))
    (matched labelled ∷ [])
    ≡ Bytes (codes "{\"@context\":{\"label\":{\"@container\":\"@language\",\"@id\":\"http://e/label\"}},\"@id\":\"http://e/a\",\"label\":{\"@none\":\"z\",\"en\":\"x\",\"en-gb\":\"y\"}}")
unfolding rdf_lang_string xsd_string selection_open most_items most_bytes node_items
language_map_document = refl

-- with `@set` each text stands in an array
pub language_set_document :
    document by_language_set
    (held_context (codes "label") (codes "http://e/label") (codes "@language"))
    (matched labelled ∷ [])
    ≡ Bytes (codes "{\"@context\":{\"label\":{\"@container\":\"@language\",\"@id\":\"http://e/label\"}},\"@id\":\"http://e/a\",\"label\":{\"@none\":[\"z\"],\"en\":[\"x\"],\"en-gb\":[\"y\"]}}")
unfolding rdf_lang_string xsd_string selection_open most_items most_bytes node_items
language_set_document = refl
