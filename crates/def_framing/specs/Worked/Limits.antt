-- Worked cases: the limits of a tree.
use Rattle.std.specs.Prelude.{◌≡◌, [], ◌∷◌, ℕ, codes, true}
use Rattle.lf_rdf.specs.declared.question.GraphRef.TheVariants.{Merged}
use Rattle.lf_rdf.specs.Vocabulary.{xsd_string, rdf_type, rdf_first, rdf_rest, rdf_nil, rdf_list}
use Rattle.lf_model.specs.TreeData.{literal_entry}
use Rattle.def_framing.specs.Views.{Views, of_dataset}
use Rattle.def_framing.specs.Worked.Words.{string, output, quad, a, b, p, any}
use Rattle.def_framing.specs.Matching.{accepts, kind_accepts, prop_tests}
use Rattle.def_framing.specs.Parts.{emit, emit_all}
use Rattle.lf_model.specs.declared.document.Limit.TheVariants.{TreeItems, Depth}
use Rattle.def_framing.specs.Results.{State, gives, over, at_first}
use Rattle.def_framing.specs.Embedding.{embed}
use mathlib.Core.Path.{refl}

-- one node with one value, and one that refers to it
unfoldable pub small : Views
small = of_dataset (quad a p (string (codes "1")) ∷ quad b p a ∷ [])

abbrev after : ℕ → State
after count = record { embedded = []; count = count }

-- the node and its value are the last two of 65,536 items
pub last_items :
    embed small 256 Merged a any true [] (after 65534)
    ≡ gives (output a [] ((p, literal_entry (string (codes "1")) ∷ []) ∷ []))
    (record { embedded = record { graph = Merged; id = a } ∷ []; count = 65536 })
unfolding embed emit emit_all accepts kind_accepts prop_tests small a b p xsd_string rdf_type
    rdf_first rdf_rest rdf_nil rdf_list
last_items = refl

-- the value would be item 65,537
pub one_item_more : embed small 256 Merged a any true [] (after 65535) ≡ over TreeItems
unfolding embed emit emit_all accepts kind_accepts prop_tests small a b p xsd_string rdf_type
    rdf_first rdf_rest rdf_nil rdf_list
one_item_more = refl

-- the second node on the path has no room
pub no_room_left : embed small 1 Merged b any true [] at_first ≡ over Depth
unfolding embed emit emit_all accepts kind_accepts prop_tests small a b p xsd_string rdf_type
    rdf_first rdf_rest rdf_nil rdf_list
no_room_left = refl

-- the depth is tried before the count
pub depth_first : embed small 0 Merged b any true [] (after 65536) ≡ over Depth
unfolding embed emit emit_all accepts kind_accepts prop_tests small a b p xsd_string rdf_type
    rdf_first rdf_rest rdf_nil rdf_list
depth_first = refl
