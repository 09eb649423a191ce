-- Where a program's sub-frame stands, as the definitions see it.
use Rattle.std.specs.Prelude.{Bool, true, false, Option, Some}
use Rattle.std.specs.Option.{option_copied}
use Rattle.lf_model.specs.declared.table.TermDef.{TermDef}
use Rattle.lf_model.specs.declared.table.Container.{Container}
use Rattle.lf_model.specs.declared.table.Container.TheVariants as container
use Rattle.lf_expand.specs.declared.place.Place as program
use Rattle.lf_expand.specs.declared.place.PlaceKind.{PlaceKind}
use Rattle.lf_expand.specs.declared.place.PlaceKind.TheVariants as kind
use Rattle.def_contexts.specs.Places.{Place, of_property, of_item, of_graph, of_reverse, of_top}

abbrev pub place_of : PlaceKind → Option TermDef → Place
place_of kind.Property term = of_property term
place_of kind.Item term = of_item term
place_of kind.Graph term = of_graph
place_of kind.Reverse term = of_reverse
place_of kind.Top term = of_top

abbrev pub place_data : program.Place → Place
place_data place = place_of place.kind (option_copied place.term)

abbrev pub is_reverse : Place → Bool
is_reverse of_reverse = true
is_reverse _ = false

abbrev pub is_list_container : Container → Bool
is_list_container container.List = true
is_list_container _ = false

-- a property whose term has the container `@list`
abbrev pub is_listed : Place → Bool
is_listed (of_property (Some d)) = is_list_container d.container
is_listed _ = false
