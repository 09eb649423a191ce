-- What a list node may have beside its item and its rest, and what it may not.
use Rattle.std.specs.Prelude.{◌≡◌, refl, List, [], ◌∷◌, ◌++◌, Bool, ◌&&◌, ◌||◌, codes, true, false}
use Rattle.std.specs.List.{list_all, list_any}
use Rattle.lf_rdf.specs.declared.term.Term.{Term}
use Rattle.lf_rdf.specs.declared.term.Term.TheVariants.{Iri, Blank}
use Rattle.lf_rdf.specs.declared.quad.Quad.{Quad}
use Rattle.lf_rdf.specs.declared.question.GraphRef.TheVariants as graph
use Rattle.lf_rdf.specs.Vocabulary.{rdf_type, rdf_first, rdf_rest, rdf_nil, rdf_list, xsd_string}
use Rattle.def_datasets.specs.Dataset.{dataset_of}
use Rattle.def_datasets.specs.Cells.{is_shaped, is_proper, is_cell}
use Rattle.def_datasets.specs.Worked.Words.{plain, quad, quad_in, a, b, g, l, p, nil}

unfoldable pub c : Term
c = Blank (codes "c")

unfoldable pub d : Term
d = Blank (codes "d")

unfoldable pub e : Term
e = Blank (codes "e")

-- a list of one item, which `a` uses
abbrev pub alone : List Quad
alone = quad a l c ∷ quad c rdf_first (plain (codes "1")) ∷ quad c rdf_rest nil ∷ []

-- whether its node is a cell beside these quads
abbrev pub cell_beside : List Quad → Bool
cell_beside more = is_cell (dataset_of (alone ++ more)) graph.Default c

-- a type `rdf:List`; being a type, in whatever graph; and triples in another graph
pub still_a_cell : list_all cell_beside
    ([]
    ∷ (quad c rdf_type (Iri rdf_list) ∷ [])
    ∷ (quad b rdf_type c ∷ quad_in g b rdf_type c ∷ [])
    ∷ (quad_in g c p (plain (codes "1")) ∷ [])
    ∷ [])
    ≡ true
unfolding a b g l p nil c rdf_type rdf_first rdf_rest rdf_nil rdf_list xsd_string
still_a_cell = refl

-- another type, a literal as type, two types, a further triple, a second item or rest, a second
-- use, here or in another graph, and a graph of its name
pub no_cell : list_any cell_beside
    ((quad c rdf_type b ∷ [])
    ∷ (quad c rdf_type (plain rdf_list) ∷ [])
    ∷ (quad c rdf_type (Iri rdf_list) ∷ quad c rdf_type b ∷ [])
    ∷ (quad c p (plain (codes "1")) ∷ [])
    ∷ (quad c rdf_first (plain (codes "2")) ∷ [])
    ∷ (quad c rdf_rest b ∷ [])
    ∷ (quad b l c ∷ [])
    ∷ (quad_in g a l c ∷ [])
    ∷ (quad_in c a p (plain (codes "1")) ∷ [])
    ∷ [])
    ≡ false
unfolding a b g l p nil c rdf_type rdf_first rdf_rest rdf_nil rdf_list xsd_string
no_cell = refl

-- whether the node is a cell of a dataset of these quads
abbrev pub cell_of : List Quad → Bool
cell_of quads = is_cell (dataset_of quads) graph.Default c

-- without a rest, an item or a use; with a rest that is no list; and used in another graph alone
pub no_list : list_any cell_of
    ((quad a l c ∷ quad c rdf_first (plain (codes "1")) ∷ [])
    ∷ (quad a l c ∷ quad c rdf_rest nil ∷ [])
    ∷ (quad c rdf_first (plain (codes "1")) ∷ quad c rdf_rest nil ∷ [])
    ∷ (quad a l c ∷ quad c rdf_first (plain (codes "1")) ∷ quad c rdf_rest b ∷ [])
    ∷ (quad a l c ∷ quad c rdf_first (plain (codes "1")) ∷ quad c rdf_rest (plain rdf_nil) ∷ [])
    ∷ (quad_in g a l c ∷ quad c rdf_first (plain (codes "1")) ∷ quad c rdf_rest nil ∷ [])
    ∷ [])
    ≡ false
unfolding a b g l nil c rdf_type rdf_first rdf_rest rdf_nil rdf_list xsd_string
no_list = refl

-- an IRI is no cell
pub iri_is_no_cell :
    is_shaped (quad a l b ∷ quad b rdf_first (plain (codes "1")) ∷ quad b rdf_rest nil ∷ [])
    graph.Default b ≡ false
unfolding a b l nil rdf_type rdf_first rdf_rest rdf_nil rdf_list xsd_string
iri_is_no_cell = refl

-- two nodes, each the rest of the other: shaped, and not proper
abbrev pub ring_of_rests : List Quad
ring_of_rests =
    dataset_of
    (quad c rdf_first (plain (codes "1")) ∷ quad c rdf_rest d ∷ quad d rdf_first (plain (codes "2"))
    ∷ quad d rdf_rest c ∷ [])

pub rests_are_shaped :
    (is_shaped ring_of_rests graph.Default c && is_shaped ring_of_rests graph.Default d) ≡ true
unfolding c d rdf_type rdf_first rdf_rest rdf_nil rdf_list xsd_string
rests_are_shaped = refl

pub rests_are_not_proper :
    (is_proper ring_of_rests graph.Default c || is_proper ring_of_rests graph.Default d) ≡ false
unfolding c d rdf_type rdf_first rdf_rest rdf_nil rdf_list xsd_string
rests_are_not_proper = refl

-- two lists, each the first item of the other, and a second node behind the first: proper, and no
-- cells
abbrev pub ring_of_items : List Quad
ring_of_items =
    dataset_of
    (quad c rdf_first d ∷ quad c rdf_rest e ∷ quad d rdf_first c ∷ quad d rdf_rest nil ∷ quad e rdf_first (plain (codes "1"))
    ∷ quad e rdf_rest nil
    ∷ [])

pub items_are_proper : list_all (is_proper ring_of_items graph.Default) (c ∷ d ∷ e ∷ []) ≡ true
unfolding c d e nil rdf_type rdf_first rdf_rest rdf_nil rdf_list xsd_string
items_are_proper = refl

pub items_are_no_cells : list_any (is_cell ring_of_items graph.Default) (c ∷ d ∷ e ∷ []) ≡ false
unfolding c d e nil rdf_type rdf_first rdf_rest rdf_nil rdf_list xsd_string
items_are_no_cells = refl
