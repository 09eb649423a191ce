-- What a walk through a tree has embedded and output so far, and the path to the node at hand.
use Rattle.std.specs.Prelude.{List, map, reverse}
use Rattle.lf_embed.specs.declared.walk.Walk.{Walk}
use Rattle.lf_embed.specs.Places.{place_data}
use Rattle.def_framing.specs.Results.{State}
use Rattle.def_framing.specs.Views as framing

-- the nodes embedded so far, and the count of items
abbrev pub state_of : Walk → State
state_of walk = record { embedded = map place_data walk.embedded.keys; count = walk.count }

-- the steps of the path, the last one first
abbrev pub path_of : Walk → List framing.Place
path_of walk = reverse (map place_data walk.path.items)
