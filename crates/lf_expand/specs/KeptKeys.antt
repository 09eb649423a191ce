-- What the keys of a map that are kept say of the map, key by key.
use Rattle.std.specs.Prelude.{List, [], ◌∷◌, Bool, true, false, not, ◌&&◌, ◌||◌, if◌then◌else◌, codes}
use Rattle.lf_expand.specs.declared.class.MapClass as program
use Rattle.lf_expand.specs.declared.class.MapClass.TheVariants as class
use Rattle.lf_expand.specs.declared.class.KeptKeys.{KeptKeys}
use Rattle.def_contexts.specs.FrameKeys.{Meaning, dropped, keyword, property, reverse_property, is_the_keyword, MapClass, value_map, list_map, set_map, node_map}

abbrev pub class_data : program.MapClass → MapClass
class_data class.Value = value_map
class_data class.List = list_map
class_data class.Set = set_map
class_data class.Node = node_map

-- whether a key is kept, by whether its value stands for null
abbrev pub is_kept : Meaning → Bool → Bool
is_kept dropped is_null = false
is_kept (keyword name) is_null = true
is_kept (property iri term) is_null = not is_null
is_kept (reverse_property iri) is_null = true

abbrev pub nothing_kept : KeptKeys
nothing_kept =
    record { of_value = false; of_list = false; any = false; more = false; set_first = false }

-- one more key that is kept
abbrev pub with_key : KeptKeys → Meaning → KeptKeys
with_key keys m =
    record {
      of_value = keys.of_value || is_the_keyword (codes "@value") m
          || is_the_keyword (codes "@language") m;
      of_list = keys.of_list || is_the_keyword (codes "@list") m;
      any = true;
      more = keys.more || keys.any;
      set_first = if keys.any then keys.set_first else is_the_keyword (codes "@set") m;
    }

-- the keys that are kept, after those before them
abbrev pub kept_keys : KeptKeys → List Meaning → KeptKeys
kept_keys keys [] = keys
kept_keys keys (m ∷ rest) = kept_keys (with_key keys m) rest

abbrev pub is_alone : KeptKeys → Bool
is_alone keys = keys.any && not keys.more && keys.set_first

abbrev pub class_by : KeptKeys → MapClass
class_by keys =
    if keys.of_value then value_map
    else if keys.of_list then list_map
    else if is_alone keys then set_map
    else node_map
