-- What a frame asks of a node's id and types (JSON-LD 1.1 Framing, section 4.1 and section 5.3,
-- step 1).
use Rattle.std.specs.Prelude.{List, [], ◌∷◌, ℕ, Bool, true, false, if◌then◌else◌, Option, Some, None, Result, Ok, Err, drop, codes}
use Rattle.lf_rdf.specs.declared.term.Term.{Term}
use Rattle.lf_rdf.specs.declared.term.Term.TheVariants.{Iri, Blank}
use Rattle.lf_rdf.specs.Equality.{text_eq}
use Rattle.lf_model.specs.declared.table.TermTable.{TermTable}
use Rattle.lf_model.specs.declared.frame.IdTest.{IdTest}
use Rattle.lf_model.specs.declared.frame.IdTest.TheVariants as id_test
use Rattle.lf_model.specs.declared.frame.TypeTest.{TypeTest}
use Rattle.lf_model.specs.declared.frame.TypeTest.TheVariants as type_test
use Rattle.lf_model.specs.declared.error.LdError.{LdError}
use Rattle.lf_model.specs.declared.error.LdError.TheVariants.{InvalidIdValue, InvalidTypeValue}
use Rattle.lf_model.specs.JsonData.{JsonValue, JsonItems, text, array, object, no_items, item, no_members, member}
use Rattle.def_contexts.specs.Texts.{is_absolute}
use Rattle.def_contexts.specs.Labels.{is_blank_id}
use Rattle.def_contexts.specs.Expansion.{expand}

-- `{}` or `[{}]`: any value
abbrev pub is_any : JsonValue → Bool
is_any (object no_members) = true
is_any (array (item (object no_members) no_items)) = true
is_any _ = false

-- `[]`: no value
abbrev pub is_never : JsonValue → Bool
is_never (array no_items) = true
is_never _ = false

-- the node of an id: an absolute IRI, or `_:` and a label
abbrev pub node_of_id : List ℕ → Option Term
node_of_id id =
    if is_absolute id then Some (Iri id)
    else if is_blank_id id then Some (Blank (drop 2 id))
    else None

abbrev pub node_expanded : Option (List ℕ) → Option Term
node_expanded (Some id) = node_of_id id
node_expanded None = None

-- the node that a text expands to
abbrev pub node_named : TermTable → Bool → List ℕ → Option Term
node_named table vocab name = node_expanded (expand table name vocab)

abbrev pub cons_node : Option Term → Option (List Term) → Option (List Term)
cons_node (Some node) (Some rest) = Some (node ∷ rest)
cons_node (Some node) None = None
cons_node None rest = None

-- the nodes of the texts of an array
abbrev pub nodes_of_items : TermTable → Bool → JsonItems → Option (List Term)
nodes_of_items table vocab no_items = Some []
nodes_of_items table vocab (item (text name) rest) =
    cons_node (node_named table vocab name) (nodes_of_items table vocab rest)
nodes_of_items table vocab (item _ rest) = None

-- the nodes of a text or an array of texts
abbrev pub nodes_of : TermTable → Bool → JsonValue → Option (List Term)
nodes_of table vocab (text name) = cons_node (node_named table vocab name) (Some [])
nodes_of table vocab (array items) = nodes_of_items table vocab items
nodes_of table vocab _ = None

abbrev pub id_list : Option (List Term) → Result IdTest LdError
id_list (Some ids) = Ok (id_test.OneOf ids)
id_list None = Err InvalidIdValue

-- `@id`
abbrev pub id_test_of : TermTable → JsonValue → Result IdTest LdError
id_test_of table value =
    if is_any value then Ok id_test.Any
    else if is_never value then Ok id_test.Never
    else id_list (nodes_of table false value)

abbrev pub type_list : Option (List Term) → Result TypeTest LdError
type_list (Some types) = Ok (type_test.OneOf types)
type_list None = Err InvalidTypeValue

abbrev pub type_fallback : Option (List Term) → Result TypeTest LdError
type_fallback (Some types) = Ok (type_test.Fallback types)
type_fallback None = Err InvalidTypeValue

-- `@type` that asks for types, or gives them to a node that has none by `@default` alone
abbrev pub types_given : TermTable → JsonValue → Result TypeTest LdError
types_given table (object (member key value no_members)) =
    if text_eq key (codes "@default") then type_fallback (nodes_of table true value)
    else Err InvalidTypeValue
types_given table value = type_list (nodes_of table true value)

-- `@type`
abbrev pub type_test_of : TermTable → JsonValue → Result TypeTest LdError
type_test_of table value =
    if is_any value then Ok type_test.Any
    else if is_never value then Ok type_test.Never
    else types_given table value
