-- Worked case: an IRI whose scheme is a prefix of the context.
use Rattle.std.specs.Prelude.{◌≡◌, refl, [], ◌∷◌, None, codes}
use Rattle.def_framing.specs.Items.{node_items}
use Rattle.lf_rdf.specs.Vocabulary.{xsd_string}
use Rattle.lf_model.specs.declared.table.TermTable.{TermTable}
use Rattle.lf_model.specs.declared.error.LdError.TheVariants.{IriConfusedWithPrefix}
use Rattle.lf_model.specs.declared.document.Doc.TheVariants.{Bytes, Refused}
use Rattle.lf_model.specs.JsonData.{JsonValue, text, object, members_of}
use Rattle.lf_model.specs.TreeData.{TreeNode}
use Rattle.def_selection.specs.Keywords.{selection_open}
use Rattle.def_documents.specs.CaseData.{node_of, one, plain, prefix_term, reference, table_of}
use Rattle.def_framing.specs.Outcome.{matched}
use Rattle.def_documents.specs.Document.{document, most_items, most_bytes}

abbrev tagging : TermTable
tagging = table_of None (prefix_term (codes "tag") (codes "http://t/") ∷ [])

abbrev context : JsonValue
context = object (members_of ((codes "tag", text (codes "http://t/")) ∷ []))

abbrev before : TreeNode
before =
    node_of (codes "http://e/a")
    (one (codes "http://e/n") (plain (codes "A"))
    ∷ one (codes "http://e/p") (reference (codes "tag:x,1")) ∷ [])

abbrev after : TreeNode
after = node_of (codes "http://e/a") (one (codes "http://e/n") (plain (codes "A")) ∷ [])

pub confused_document :
    document tagging context (matched before ∷ []) ≡ Refused IriConfusedWithPrefix
unfolding xsd_string selection_open most_items most_bytes node_items
confused_document = refl

pub cleared_document :
    document tagging context (matched after ∷ [])
    ≡ Bytes
    (codes "{\"@context\":{\"tag\":\"http://t/\"},\"@id\":\"http://e/a\",\"http://e/n\":\"A\"}")
unfolding xsd_string selection_open most_items most_bytes node_items
cleared_document = refl
