-- The outputs of properties and of defaults, put together.
use Rattle.std.proofs.Common.{◌≡◌, List, ◌++◌, map}
use Rattle.std.proofs.lemmas.List.{map-append}
use Rattle.lf_model.specs.declared.tree.TreeProp.{TreeProp}
use Rattle.lf_model.specs.TreeBridge.{property_data}

pub outputs_join : (values defaults : List TreeProp) → map property_data (values ++ defaults) ≡ map property_data values ++ map property_data defaults
outputs_join values defaults = map-append property_data values defaults
