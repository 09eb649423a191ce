-- The items of lists of nodes, values, properties and reverse properties.
use Rattle.std.proofs.Common.{◌≡◌, ℕ, ◌+◌, List, [], ◌∷◌, ◌++◌, arith}
use Rattle.lf_model.specs.TreeData.{TreeNode, TreeNodes, TreeEntry, TreeEntries, nodes_of, entries_of, properties_of, reverses_of}
use Rattle.def_framing.specs.Parts.{with_property, with_reverse}
use Rattle.def_framing.specs.Items.{node_items, nodes_items, entry_items, entries_items, properties_items, reverses_items}

abbrev pub nodes_size : List TreeNode → ℕ
nodes_size nodes = nodes_items (nodes_of nodes)

abbrev pub entries_size : List TreeEntry → ℕ
entries_size entries = entries_items (entries_of entries)

abbrev pub properties_size : List (List ℕ × TreeEntries) → ℕ
properties_size props = properties_items (properties_of props)

abbrev pub reverses_size : List (List ℕ × TreeNodes) → ℕ
reverses_size props = reverses_items (reverses_of props)

pub nodes-append :
    (done : List TreeNode) (made : TreeNode) → nodes_size (done ++ made ∷ []) ≡ nodes_size done + node_items made
unfolding node_items nodes_items
nodes-append [] made = omega arith
nodes-append (first ∷ rest) made =
    let e : nodes_size (rest ++ made ∷ []) ≡ nodes_size rest + node_items made = nodes-append rest made in omega arith

pub entries-append :
    (done : List TreeEntry) (made : TreeEntry) →
    entries_size (done ++ made ∷ []) ≡ entries_size done + entry_items made
unfolding entry_items entries_items
entries-append [] made = omega arith
entries-append (first ∷ rest) made =
    let e : entries_size (rest ++ made ∷ []) ≡ entries_size rest + entry_items made = entries-append rest made in
    omega arith

pub properties-append :
    (one two : List (List ℕ × TreeEntries)) →
    properties_size (one ++ two) ≡ properties_size one + properties_size two
unfolding properties_items
properties-append [] two = omega arith
properties-append (first ∷ rest) two =
    let e : properties_size (rest ++ two) ≡ properties_size rest + properties_size two = properties-append rest two in
    omega arith

pub reverses-append :
    (one two : List (List ℕ × TreeNodes)) → reverses_size (one ++ two) ≡ reverses_size one + reverses_size two
unfolding reverses_items
reverses-append [] two = omega arith
reverses-append (first ∷ rest) two =
    let e : reverses_size (rest ++ two) ≡ reverses_size rest + reverses_size two = reverses-append rest two in
    omega arith

-- a property without values isn't there, and has no items
pub property-added :
    (iri : List ℕ) (made : List TreeEntry) (done : List (List ℕ × TreeEntries)) →
    properties_size (with_property iri made done) ≡ properties_size done + entries_size made
unfolding properties_items entries_items
property-added iri [] done = omega arith
property-added iri (first ∷ rest) done =
    rw (properties-append done ((iri, entries_of (first ∷ rest)) ∷ [])) (omega arith)

pub reverse-added :
    (iri : List ℕ) (made : List TreeNode) (done : List (List ℕ × TreeNodes)) →
    reverses_size (with_reverse iri made done) ≡ reverses_size done + nodes_size made
unfolding reverses_items nodes_items
reverse-added iri [] done = omega arith
reverse-added iri (first ∷ rest) done =
    rw (reverses-append done ((iri, nodes_of (first ∷ rest)) ∷ [])) (omega arith)
