-- Worked case: a library that contains a book.
use Rattle.std.specs.Prelude.{◌≡◌, refl, [], ◌∷◌, Some, codes, option_map}
use Rattle.def_framing.specs.Items.{node_items}
use Rattle.lf_rdf.specs.declared.term.Term.TheVariants.{Iri}
use Rattle.lf_model.specs.declared.document.Doc.TheVariants.{Bytes}
use Rattle.lf_model.specs.JsonData.{JsonValue, fraction, text, object, members_of}
use Rattle.lf_model.specs.TreeData.{TreeNode, tree, no_nodes, no_reverses, properties_of, node_entry}
use Rattle.def_selection.specs.Keywords.{selection_open}
use Rattle.def_documents.specs.CaseData.{library, reference, tagged, one}
use Rattle.def_documents.specs.Nodes.{compact}
use Rattle.def_documents.specs.JsonPrint.{json_text}
use Rattle.def_framing.specs.Outcome.{matched, not_key, no_match}
use Rattle.def_documents.specs.Document.{document, most_items, most_bytes}

abbrev book : TreeNode
book =
    tree (Some (Iri (codes "http://l/b1"))) (Iri (codes "http://l/Book") ∷ []) no_nodes
    (properties_of (
    one (codes "http://purl.org/dc/terms/creator") (reference (codes "http://l/plato"))
    ∷ one (codes "http://purl.org/dc/terms/title") (tagged (codes "Republic") (codes "en"))
    ∷ []))
    no_reverses

abbrev shelf : TreeNode
shelf =
    tree (Some (Iri (codes "http://l/lib"))) (Iri (codes "http://l/Library") ∷ []) no_nodes
    (properties_of (one (codes "http://l/contains") (node_entry book) ∷ [])) no_reverses

abbrev context : JsonValue
context = object (members_of (
    (codes "@version", fraction)
    ∷ (codes "@vocab", text (codes "http://l/"))
    ∷ (
      codes "contains",
      object (members_of ((codes "@container", text (codes "@set"))
          ∷ (codes "@type", text (codes "@id")) ∷ [])),
    )
    ∷ (
      codes "creator",
      object (members_of ((codes "@id", text (codes "dc:creator"))
          ∷ (codes "@type", text (codes "@id")) ∷ [])),
    )
    ∷ (codes "dc", text (codes "http://purl.org/dc/terms/"))
    ∷ []))

-- a type by the vocabulary mapping, an id by the coercion of its term, a property by a prefix
pub book_compacts :
    option_map json_text (compact library book)
    ≡ Some (codes "{\"@id\":\"http://l/b1\",\"@type\":\"Book\",\"creator\":\"http://l/plato\",\"dc:title\":{\"@language\":\"en\",\"@value\":\"Republic\"}}")
unfolding selection_open
book_compacts = refl

-- the document, with the context and without its version
pub library_document :
    document library context (no_match ∷ matched shelf ∷ not_key ∷ [])
    ≡ Bytes (codes "{\"@context\":{\"@vocab\":\"http://l/\",\"contains\":{\"@container\":\"@set\",\"@type\":\"@id\"},\"creator\":{\"@id\":\"dc:creator\",\"@type\":\"@id\"},\"dc\":\"http://purl.org/dc/terms/\"},\"@id\":\"http://l/lib\",\"@type\":\"Library\",\"contains\":[{\"@id\":\"http://l/b1\",\"@type\":\"Book\",\"creator\":\"http://l/plato\",\"dc:title\":{\"@language\":\"en\",\"@value\":\"Republic\"}}]}")
unfolding selection_open most_items most_bytes node_items
library_document = refl
