-- Quads of words, as tests write them.
use Rattle.std.specs.Prelude.{List, [], ◌∷◌, ℕ, nat_eq, drop, Option, Some, None, if◌then◌else◌}
use Rattle.std.specs.List.{starts_with}
use Rattle.lf_rdf.specs.declared.term.Term.{Term}
use Rattle.lf_rdf.specs.declared.term.Term.TheVariants.{Iri, Blank, Literal}
use Rattle.lf_rdf.specs.declared.quad.Quad.{Quad}
use Rattle.lf_rdf.specs.Vocabulary.{xsd_string}

-- a label behind `_:`, a plain string behind `'`, and otherwise an IRI
abbrev pub term_of : List ℕ → Term
term_of word =
    if starts_with nat_eq word (95 ∷ 58 ∷ []) then Blank (drop 2 word)
    else if starts_with nat_eq word (39 ∷ []) then Literal (drop 1 word) xsd_string None
    else Iri word

-- the empty word is the default graph
abbrev pub label_of : List ℕ → Option Term
label_of [] = None
label_of (c ∷ rest) = Some (term_of (c ∷ rest))

abbrev pub quad_of : List ℕ → List ℕ → List ℕ → List ℕ → Quad
quad_of subject predicate object graph =
    record {
      subject = term_of subject;
      predicate = term_of predicate;
      object = term_of object;
      graph = label_of graph;
    }
