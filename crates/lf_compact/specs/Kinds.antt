-- What an item of a list is, as definitions see it.
use Rattle.lf_compact.specs.declared.kinds.Kind.{Kind}
use Rattle.lf_compact.specs.declared.kinds.Kind.TheVariants as k
use Rattle.def_documents.specs.Picks.{ItemKind, of_datatype, of_language, untyped, of_node}

abbrev pub kind_data : Kind → ItemKind
kind_data (k.Datatype datatype) = of_datatype datatype.now
kind_data (k.Language language) = of_language language.now
kind_data k.Untyped = untyped
kind_data k.Node = of_node
