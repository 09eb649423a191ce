-- What a program takes a key for, as the definitions see it.
use Rattle.std.specs.Option.{option_copied}
use Rattle.lf_expand.specs.declared.meaning.Meaning as program
use Rattle.lf_expand.specs.declared.meaning.Meaning.TheVariants as key
use Rattle.def_contexts.specs.FrameKeys.{Meaning, dropped, keyword, property, reverse_property}

abbrev pub meaning_data : program.Meaning → Meaning
meaning_data key.Dropped = dropped
meaning_data (key.Keyword name) = keyword name
meaning_data (key.Property iri term) = property iri (option_copied term)
meaning_data (key.Reverse iri) = reverse_property iri
