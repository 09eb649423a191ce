-- Embedding a node by a frame (JSON-LD 1.1 Framing, section 4: the framing algorithm).
use Rattle.std.specs.Prelude.{List, [], ◌∷◌, ◌++◌, ℕ, zero, suc, not, ◌&&◌, Some}
use Rattle.lf_rdf.specs.declared.term.Term.{Term}
use Rattle.lf_rdf.specs.declared.question.GraphRef.{GraphRef}
use Rattle.lf_model.specs.TreeData.{TreeNode, tree, no_nodes, no_properties, no_reverses, nodes_of, properties_of, reverses_of}
use Rattle.def_nested.specs.Nested.{Nested, flags_of}
use Rattle.def_datasets.specs.Views.{View}
use Rattle.def_framing.specs.Views.{Views, Place}
use Rattle.lf_model.specs.declared.document.Limit.TheVariants.{Depth}
use Rattle.def_framing.specs.Results.{State, Result, gives, over, then, choose, item, entered}
use Rattle.def_framing.specs.Steps.{as_reference, types_by, seen}
use Rattle.def_framing.specs.Parts.{Embedding, graph_part, value_part, default_part, reverse_part}

-- a node is output as a reference: its id alone
abbrev pub refer : Term → State → Result TreeNode
refer id state =
    then (item state)
    (λ counted after. gives (tree (Some id) [] no_nodes no_properties no_reverses) after)

-- what embeds a node that isn't output as a reference
abbrev pub Descent : Type 0
Descent = GraphRef → Term → Nested → List Place → State → Result TreeNode

-- the path has no room for one more node
abbrev pub no_room : Descent
no_room graph id frame path state = over Depth

-- the named graph, the properties, the defaults and the reverse properties, in that order
abbrev pub contents :
    Views → Embedding → GraphRef → Term → Nested → View → List Place → State → Result TreeNode
contents views self graph id frame view path state =
    then (graph_part views self graph id frame path state)
    (λ nodes with_graph. then (value_part views self graph frame path view.props with_graph)
    (λ values with_values. then (default_part frame values with_values)
    (λ defaults with_defaults. then (reverse_part views self graph id frame path with_defaults)
    (λ reverses after.
    gives
    (tree (Some id) (types_by (flags_of frame).types view.types) (nodes_of nodes)
    (properties_of (values ++ defaults)) (reverses_of reverses))
    after))))

-- the node is counted and joins the path and the embedded nodes; it leaves the path with its
-- contents
abbrev pub inside : Views → Embedding → Descent
inside views self graph id frame path state =
    then (item state)
    (λ counted after.
    contents views self graph id frame (seen id (views.view graph id))
    (record { graph = graph; id = id } ∷ path)
    (entered (record { graph = graph; id = id }) after))

-- a node that isn't embedded free may be output as a reference
abbrev pub outer : Descent → Embedding
outer descent graph id frame free path state =
    choose (not free
    && as_reference (flags_of frame).embed (record { graph = graph; id = id }) path state)
    (refer id)
    (descent graph id frame path) state

-- a node is embedded in the room that the path has left
unfoldable pub embed : Views → ℕ → Embedding
embed views zero = outer no_room
embed views (suc room) = outer (inside views (embed views room))
