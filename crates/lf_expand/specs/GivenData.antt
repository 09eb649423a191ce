-- What a program makes of a scalar, as the definitions see it.
use Rattle.lf_expand.specs.declared.given.Given as program
use Rattle.lf_expand.specs.declared.given.Given.TheVariants as made
use Rattle.lf_expand.specs.declared.given.Coercion as coercion
use Rattle.lf_expand.specs.declared.given.Coercion.TheVariants as by
use Rattle.def_contexts.specs.GivenValues.{Given, reference, plain_value, Coercion, to_id, to_vocab, to_datatype, uncoerced}

abbrev pub given_data : program.Given → Given
given_data (made.Reference node) = reference node
given_data (made.Plain s datatype language) = plain_value s datatype language

abbrev pub coercion_data : coercion.Coercion → Coercion
coercion_data by.ToId = to_id
coercion_data by.ToVocab = to_vocab
coercion_data (by.ToDatatype iri) = to_datatype iri.now
coercion_data by.Uncoerced = uncoerced
