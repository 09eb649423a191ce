-- The least quads with the terms that a question names.
use Rattle.std.specs.Prelude.{[], Option}
use Rattle.lf_rdf.specs.declared.term.Term.{Term}
use Rattle.lf_rdf.specs.declared.term.Term.TheVariants.{Iri}
use Rattle.lf_rdf.specs.declared.quad.Quad.{Quad}

-- the least term
abbrev pub least : Term
least = Iri []

abbrev pub lowest_subject : Term → Option Term → Quad
lowest_subject subject label =
    record { subject = subject; predicate = least; object = least; graph = label }

abbrev pub lowest_object : Term → Term → Option Term → Quad
lowest_object object predicate label =
    record { subject = least; predicate = predicate; object = object; graph = label }

abbrev pub lowest_graph : Option Term → Quad
lowest_graph label = record { subject = least; predicate = least; object = least; graph = label }
