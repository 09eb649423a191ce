-- Worked cases of compaction: lists, reverse properties, graphs, types, coercions, and entries
-- under one key.
use Rattle.std.specs.Prelude.{◌≡◌, refl, List, [], ◌∷◌, ℕ, Some, None, true, codes, pos}
use Rattle.std.specs.Fmt.{digits}
use Rattle.lf_rdf.specs.declared.term.Term.TheVariants.{Iri, Literal}
use Rattle.lf_rdf.specs.Vocabulary.{xsd_string}
use Rattle.lf_model.specs.declared.frame.DefaultValue.TheVariants.{Scalar}
use Rattle.lf_model.specs.declared.scalar.Scalar.TheVariants.{Whole, Bool}
use Rattle.lf_model.specs.declared.table.Container.TheVariants as container
use Rattle.lf_model.specs.TreeData.{TreeNode, tree, no_nodes, no_properties, no_reverses, nodes_of, properties_of, reverses_of, entries_of, list_entry, literal_entry, fallback_entry}
use Rattle.def_selection.specs.Keywords.{selection_open}
use Rattle.def_documents.specs.CaseData.{held_term, many, no_terms, node_of, one, plain, plain_term, prefix_term, printed, reference, table_of, typed_term}

-- a list under a term with `@list`, its items by the term's coercion
pub list_in_term :
    printed
    (table_of None (typed_term (codes "l") (codes "http://e/l") (codes "@id") container.List ∷ []))
    (node_of (codes "http://e/a")
    (one (codes "http://e/l") (list_entry (entries_of (reference (codes "http://e/x") ∷ reference (codes "http://e/y") ∷ []))) ∷ []))
    ≡ Some (codes "{\"@id\":\"http://e/a\",\"l\":[\"http://e/x\",\"http://e/y\"]}")
unfolding selection_open
list_in_term = refl

-- lists without a term are maps, inner ones too
pub list_in_map :
    printed no_terms
    (node_of (codes "http://e/a")
    (one (codes "http://e/l") (list_entry (entries_of (plain (codes "1") ∷ list_entry (entries_of []) ∷ []))) ∷ []))
    ≡ Some (codes "{\"@id\":\"http://e/a\",\"http://e/l\":{\"@list\":[\"1\",{\"@list\":[]}]}}")
unfolding selection_open xsd_string
list_in_map = refl

-- `@list` is for a property's sole value
pub list_beside_value :
    printed (table_of None (held_term (codes "l") (codes "http://e/l") container.List ∷ []))
    (node_of (codes "http://e/a")
    (many (codes "http://e/l") (list_entry (entries_of (plain (codes "1") ∷ [])) ∷ plain (codes "2") ∷ []) ∷ []))
    ≡ Some (codes "{\"@id\":\"http://e/a\",\"http://e/l\":[{\"@list\":[\"1\"]},\"2\"]}")
unfolding selection_open xsd_string
list_beside_value = refl

-- a node that points here, under `@reverse`, and under a reverse term
abbrev pointed : TreeNode
pointed =
    tree (Some (Iri (codes "http://e/a"))) [] no_nodes
    (properties_of (one (codes "http://e/n") (plain (codes "A")) ∷ []))
    (reverses_of ((
      codes "http://e/p",
      nodes_of (node_of (codes "http://e/b")
          (one (codes "http://e/p") (reference (codes "http://e/a")) ∷ []) ∷ []),
    ) ∷ []))

pub in_reverse :
    printed no_terms pointed
    ≡ Some (codes "{\"@id\":\"http://e/a\",\"@reverse\":{\"http://e/p\":{\"@id\":\"http://e/b\",\"http://e/p\":{\"@id\":\"http://e/a\"}}},\"http://e/n\":\"A\"}")
unfolding selection_open xsd_string
in_reverse = refl

pub in_reverse_term :
    printed (table_of None
    (record (plain_term (codes "in") (codes "http://e/p")) { reverse = true } ∷ [])) pointed
    ≡ Some (codes "{\"@id\":\"http://e/a\",\"http://e/n\":\"A\",\"in\":{\"@id\":\"http://e/b\",\"http://e/p\":{\"@id\":\"http://e/a\"}}}")
unfolding selection_open xsd_string
in_reverse_term = refl

-- a graph is always an array
pub named_graph :
    printed no_terms
    (tree (Some (Iri (codes "http://e/g"))) [] (nodes_of
    (node_of (codes "http://e/a") (one (codes "http://e/p") (plain (codes "1")) ∷ []) ∷ []))
    no_properties no_reverses)
    ≡ Some (codes
    "{\"@graph\":[{\"@id\":\"http://e/a\",\"http://e/p\":\"1\"}],\"@id\":\"http://e/g\"}")
unfolding selection_open xsd_string
named_graph = refl

-- one type is a text, unless the table asks for an array; several are an array
abbrev typed : List (List ℕ) → TreeNode
typed [] = node_of (codes "http://e/a") []
typed (first ∷ []) =
    tree (Some (Iri (codes "http://e/a"))) (Iri first ∷ []) no_nodes no_properties no_reverses
typed (first ∷ second ∷ rest) = tree (Some (Iri (codes "http://e/a"))) (Iri first ∷ Iri second ∷ [])
    no_nodes no_properties no_reverses

pub one_type :
    printed no_terms (typed (codes "http://e/T" ∷ []))
    ≡ Some (codes "{\"@id\":\"http://e/a\",\"@type\":\"http://e/T\"}")
unfolding selection_open
one_type = refl

pub one_type_in_array :
    printed (record no_terms { type_set = true }) (typed (codes "http://e/T" ∷ []))
    ≡ Some (codes "{\"@id\":\"http://e/a\",\"@type\":[\"http://e/T\"]}")
unfolding selection_open
one_type_in_array = refl

pub two_types :
    printed no_terms (typed (codes "http://e/T" ∷ codes "http://e/U" ∷ []))
    ≡ Some (codes "{\"@id\":\"http://e/a\",\"@type\":[\"http://e/T\",\"http://e/U\"]}")
unfolding selection_open
two_types = refl

-- an id that compacts to a term asks for the coercion `@vocab` first
pub vocab_coercion :
    printed
    (table_of None (
    plain_term (codes "Red") (codes "http://e/Red")
    ∷ typed_term (codes "colour") (codes "http://e/c") (codes "@id") container.NoContainer
    ∷ typed_term (codes "shade") (codes "http://e/c") (codes "@vocab") container.NoContainer
    ∷ []))
    (node_of (codes "http://e/a") (many (codes "http://e/c")
    (reference (codes "http://e/Red") ∷ reference (codes "http://e/Blue") ∷ []) ∷ []))
    ≡ Some (codes "{\"@id\":\"http://e/a\",\"colour\":\"http://e/Blue\",\"shade\":\"Red\"}")
unfolding selection_open
vocab_coercion = refl

-- a literal of the coercion's datatype is its text, and one of another datatype a map under another
-- key
pub datatype_coercion :
    printed (table_of None (typed_term (codes "age") (codes "http://e/age") (codes "http://e/int")
    container.NoContainer ∷ []))
    (node_of (codes "http://e/a")
    (many (codes "http://e/age") (literal_entry (Literal (codes "5") (codes "http://e/int") None) ∷ literal_entry (Literal (codes "V") (codes "http://e/roman") None) ∷ []) ∷ []))
    ≡ Some (codes "{\"@id\":\"http://e/a\",\"age\":\"5\",\"http://e/age\":{\"@type\":\"http://e/roman\",\"@value\":\"V\"}}")
unfolding selection_open xsd_string
datatype_coercion = refl

-- numbers and truth values of defaults stand as they are
pub default_scalars :
    printed no_terms
    (node_of (codes "http://e/a")
    (many (codes "http://e/p") (fallback_entry (Scalar (Whole (pos 42)) None None) ∷ fallback_entry (Scalar (Bool true) None None) ∷ []) ∷ []))
    ≡ Some (codes "{\"@id\":\"http://e/a\",\"http://e/p\":[42,true]}")
unfolding selection_open digits
default_scalars = refl

-- two properties that come under one key share an array, in order of their IRIs
pub shared_key :
    printed
    (table_of (Some (codes "http://v/")) (prefix_term (codes "ex") (codes "http://e/") ∷ []))
    (node_of (codes "http://e/a") (one (codes "http://v/ex:p") (plain (codes "2"))
    ∷ one (codes "http://e/p") (plain (codes "1")) ∷ []))
    ≡ Some (codes "{\"@id\":\"ex:a\",\"ex:p\":[\"1\",\"2\"]}")
unfolding selection_open xsd_string
shared_key = refl

-- keywords by their aliases
pub aliases :
    printed (table_of None (plain_term (codes "id") (codes "@id")
    ∷ held_term (codes "kind") (codes "@type") container.Set ∷ []))
    (typed (codes "http://e/T" ∷ []))
    ≡ Some (codes "{\"id\":\"http://e/a\",\"kind\":[\"http://e/T\"]}")
unfolding selection_open
aliases = refl

-- values of `@reverse`: those with a reverse term stand in the node, behind a property of the same
-- key, and the others under `@reverse`
pub reverse_beside_property :
    printed (table_of None
    (record (plain_term (codes "foo:") (codes "http://e/p")) { reverse = true } ∷ []))
    (tree (Some (Iri (codes "http://e/a"))) [] no_nodes (properties_of (one (codes "foo:") (plain (codes "1")) ∷ []))
    (reverses_of (
    (codes "http://e/p", nodes_of (node_of (codes "http://e/b") [] ∷ []))
    ∷ (
      codes "http://e/q",
      nodes_of (node_of (codes "http://e/c") [] ∷ node_of (codes "http://e/d") [] ∷ []),
    )
    ∷ [])))
    ≡ Some (codes "{\"@id\":\"http://e/a\",\"@reverse\":{\"http://e/q\":[{\"@id\":\"http://e/c\"},{\"@id\":\"http://e/d\"}]},\"foo:\":[\"1\",{\"@id\":\"http://e/b\"}]}")
unfolding selection_open xsd_string
reverse_beside_property = refl

-- inner lists of a list under a term with `@list` are arrays too
pub inner_lists :
    printed (table_of None (held_term (codes "l") (codes "http://e/l") container.List ∷ []))
    (node_of (codes "http://e/a")
    (one (codes "http://e/l") (list_entry (entries_of (list_entry (entries_of (plain (codes "1") ∷ [])) ∷ list_entry (entries_of []) ∷ []))) ∷ []))
    ≡ Some (codes "{\"@id\":\"http://e/a\",\"l\":[[\"1\"],[]]}")
unfolding selection_open xsd_string
inner_lists = refl
