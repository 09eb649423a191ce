-- Whole documents in which one rule of compaction, pruning or printing decides.
use Rattle.std.specs.Prelude.{refl, [], ◌∷◌, pos, negsuc, true, codes}
use Rattle.lf_rdf.specs.declared.term.Term.TheVariants.{Blank, Iri}
use Rattle.lf_rdf.specs.Vocabulary.{rdf_type, rdf_first, rdf_rest, rdf_nil}
use Rattle.lf_model.specs.JsonData.{null, fraction, text, truth, whole}
use Rattle.lf_model.specs.declared.error.LdError.TheVariants as ld
use Rattle.lf_model.specs.declared.document.Doc.TheVariants.{Refused}
use Rattle.def_contexts.specs.CaseWords.{list_of, map_of}
use Rattle.def_framing.specs.Worked.Words.{quad, quad_in, string, a, b, g, l, n, p, q}
use Rattle.def_scratch.specs.RowWords.{Gives, Prints, rows_open, tagged, typed}

-- a node under a reverse term stands in the map of the node itself
pub reverse_term :
    Prints (map_of ((
      codes "@context",
      map_of
          ((codes "in", map_of ((codes "@reverse", text (codes "http://e/p")) ∷ [])) ∷ []),
    )
    ∷ (codes "@id", text (codes "http://e/a")) ∷ (codes "in", map_of []) ∷ []))
    (quad a n (string (codes "A")) ∷ quad b p a ∷ [])
    (codes "{\"@context\":{\"in\":{\"@reverse\":\"http://e/p\"}},\"@id\":\"http://e/a\",\"http://e/n\":\"A\",\"in\":{\"@id\":\"http://e/b\",\"http://e/p\":{\"@id\":\"http://e/a\"}}}")
unfolding rows_open
reverse_term = refl

-- a reverse term with a coercion and `@set`: an array of compacted ids
pub reverse_term_references :
    Prints (map_of ((
      codes "@context",
      map_of ((
        codes "in",
        map_of ((codes "@container", text (codes "@set"))
            ∷ (codes "@reverse", text (codes "http://e/p"))
            ∷ (codes "@type", text (codes "@id")) ∷ []),
      ) ∷ []),
    )
    ∷ (codes "@id", text (codes "http://e/a"))
    ∷ (codes "in", map_of ((codes "@embed", text (codes "@never")) ∷ [])) ∷ []))
    (quad a n (string (codes "A")) ∷ quad b p a ∷ [])
    (codes "{\"@context\":{\"in\":{\"@container\":\"@set\",\"@reverse\":\"http://e/p\",\"@type\":\"@id\"}},\"@id\":\"http://e/a\",\"http://e/n\":\"A\",\"in\":[\"http://e/b\"]}")
unfolding rows_open
reverse_term_references = refl

-- the keyword of `@reverse` by its alias
pub reverse_alias :
    Prints (map_of ((codes "@context", map_of ((codes "from", text (codes "@reverse")) ∷ []))
    ∷ (codes "@id", text (codes "http://e/a"))
    ∷ (
      codes "from",
      map_of
          ((codes "http://e/p", map_of ((codes "@embed", text (codes "@never")) ∷ [])) ∷ []),
    )
    ∷ [])) (quad b p a ∷ [])
    (codes "{\"@context\":{\"from\":\"@reverse\"},\"@id\":\"http://e/a\",\"from\":{\"http://e/p\":{\"@id\":\"http://e/b\"}}}")
unfolding rows_open
reverse_alias = refl

-- a blank node that points here and has no label left
pub reverse_blank :
    Prints (map_of ((codes "@id", text (codes "http://e/a"))
    ∷ (
      codes "@reverse",
      map_of ((codes "http://e/p", map_of ((codes "@explicit", truth true) ∷ [])) ∷ []),
    )
    ∷ [])) (quad a n (string (codes "A")) ∷ quad (Blank (codes "x")) p a ∷ [])
    (codes "{\"@id\":\"http://e/a\",\"@reverse\":{\"http://e/p\":{}},\"http://e/n\":\"A\"}")
unfolding rows_open
reverse_blank = refl

-- one type is an array where the context says so; keywords by their aliases
pub types_as_set :
    Prints (map_of ((
      codes "@context",
      map_of ((codes "@type", map_of ((codes "@container", text (codes "@set")) ∷ []))
          ∷ (codes "@vocab", text (codes "http://e/")) ∷ (codes "id", text (codes "@id"))
          ∷ []),
    ) ∷ (codes "@type", text (codes "T")) ∷ []))
    (quad a rdf_type (Iri (codes "http://e/T")) ∷ [])
    (codes "{\"@context\":{\"@type\":{\"@container\":\"@set\"},\"@vocab\":\"http://e/\",\"id\":\"@id\"},\"@type\":[\"T\"],\"id\":\"http://e/a\"}")
unfolding rows_open
types_as_set = refl

-- under another key than `@type` one type stands alone
pub types_under_alias :
    Prints (map_of ((
      codes "@context",
      map_of ((codes "@type", map_of ((codes "@container", text (codes "@set")) ∷ []))
          ∷ (codes "kind", text (codes "@type")) ∷ []),
    )
    ∷ (codes "@id", text (codes "http://e/a")) ∷ []))
    (quad a rdf_type (Iri (codes "http://e/T")) ∷ [])
    (codes "{\"@context\":{\"@type\":{\"@container\":\"@set\"},\"kind\":\"@type\"},\"@id\":\"http://e/a\",\"kind\":\"http://e/T\"}")
unfolding rows_open
types_under_alias = refl

-- a label among types counts, so the node keeps its id; types stay
pub type_counts_label :
    Prints (map_of [])
    (quad a rdf_type (Blank (codes "t")) ∷ quad (Blank (codes "t")) p (string (codes "1")) ∷ [])
    (codes "{\"@graph\":[{\"@id\":\"_:t\",\"http://e/p\":\"1\"},{\"@id\":\"http://e/a\",\"@type\":\"_:t\"}]}")
unfolding rows_open
type_counts_label = refl

-- a label that occurs once, as a type, stays
pub type_stays :
    Prints (map_of ((codes "@id", text (codes "http://e/a")) ∷ []))
    (quad a rdf_type (Blank (codes "t")) ∷ quad (Blank (codes "t")) p (string (codes "1")) ∷ [])
    (codes "{\"@id\":\"http://e/a\",\"@type\":\"_:t\"}")
unfolding rows_open
type_stays = refl

-- several nodes under the alias of `@graph`
pub graph_alias :
    Prints (map_of ((codes "@context", map_of ((codes "nodes", text (codes "@graph")) ∷ [])) ∷ []))
    (quad a p (string (codes "1")) ∷ quad b p (string (codes "2")) ∷ [])
    (codes "{\"@context\":{\"nodes\":\"@graph\"},\"nodes\":[{\"@id\":\"http://e/a\",\"http://e/p\":\"1\"},{\"@id\":\"http://e/b\",\"http://e/p\":\"2\"}]}")
unfolding rows_open
graph_alias = refl

-- a text without a language under a default language is a map; one of the language stands alone
pub default_language :
    Prints (map_of ((codes "@context", map_of ((codes "@language", text (codes "en")) ∷ []))
    ∷ (codes "@id", text (codes "http://e/a"))
    ∷ (
      codes "http://e/p",
      map_of
          ((codes "@default", text (codes "d")) ∷ (codes "@value", text (codes "y")) ∷ []),
    )
    ∷ [])) (quad a n (string (codes "A")) ∷ quad a p (string (codes "x")) ∷ [])
    (codes "{\"@context\":{\"@language\":\"en\"},\"@id\":\"http://e/a\",\"http://e/n\":{\"@value\":\"A\"},\"http://e/p\":\"d\"}")
unfolding rows_open
default_language = refl

-- `@list` is for a property's sole value: here the IRI itself is the key, and both values share an
-- array
pub list_not_sole :
    Prints (map_of ((
      codes "@context",
      map_of ((
        codes "l",
        map_of ((codes "@container", text (codes "@list"))
            ∷ (codes "@id", text (codes "http://e/l")) ∷ []),
      ) ∷ []),
    )
    ∷ (codes "@id", text (codes "http://e/a")) ∷ []))
    (quad a l (string (codes "1")) ∷ quad a l (Iri rdf_nil) ∷ [])
    (codes "{\"@context\":{\"l\":{\"@container\":\"@list\",\"@id\":\"http://e/l\"}},\"@id\":\"http://e/a\",\"http://e/l\":[\"1\",{\"@list\":[]}]}")
unfolding rows_open
list_not_sole = refl

pub list_sole :
    Prints (map_of ((
      codes "@context",
      map_of ((
        codes "l",
        map_of ((codes "@container", text (codes "@list"))
            ∷ (codes "@id", text (codes "http://e/l")) ∷ []),
      ) ∷ []),
    )
    ∷ (codes "@id", text (codes "http://e/a")) ∷ [])) (quad a l (Iri rdf_nil) ∷ [])
    (codes "{\"@context\":{\"l\":{\"@container\":\"@list\",\"@id\":\"http://e/l\"}},\"@id\":\"http://e/a\",\"l\":[]}")
unfolding rows_open
list_sole = refl

-- a pruned reference is an empty map, also under a coercion to ids
pub pruned_item :
    Prints (map_of ((codes "@context", map_of ((codes "l", map_of ((codes "@container", text (codes "@list")) ∷ (codes "@id", text (codes "http://e/l")) ∷ (codes "@type", text (codes "@id")) ∷ [])) ∷ [])) ∷ (codes "@id", text (codes "http://e/a")) ∷ [])) (
    quad a l (Blank (codes "c1"))
    ∷ quad (Blank (codes "c1")) rdf_first (Blank (codes "x"))
    ∷ quad (Blank (codes "c1")) rdf_rest (Blank (codes "c2"))
    ∷ quad (Blank (codes "c2")) rdf_first b
    ∷ quad (Blank (codes "c2")) rdf_rest (Iri rdf_nil)
    ∷ [])
    (codes "{\"@context\":{\"l\":{\"@container\":\"@list\",\"@id\":\"http://e/l\",\"@type\":\"@id\"}},\"@id\":\"http://e/a\",\"l\":[{},\"http://e/b\"]}")
unfolding rows_open
pruned_item = refl

-- a node without an id still asks for the coercion to ids
pub pruned_reference :
    Prints (map_of ((
      codes "@context",
      map_of ((
        codes "p",
        map_of ((codes "@id", text (codes "http://e/p"))
            ∷ (codes "@type", text (codes "@id")) ∷ []),
      ) ∷ []),
    )
    ∷ (codes "@id", text (codes "http://e/a")) ∷ [])) (quad a p (Blank (codes "x")) ∷ [])
    (codes "{\"@context\":{\"p\":{\"@id\":\"http://e/p\",\"@type\":\"@id\"}},\"@id\":\"http://e/a\",\"p\":{}}")
unfolding rows_open
pruned_reference = refl

-- and under `@reverse` it doesn't
pub pruned_reverse :
    Prints (map_of ((
      codes "@context",
      map_of ((
        codes "p",
        map_of ((codes "@id", text (codes "http://e/p"))
            ∷ (codes "@type", text (codes "@id")) ∷ []),
      ) ∷ []),
    )
    ∷ (codes "@id", text (codes "http://e/a"))
    ∷ (
      codes "@reverse",
      map_of ((codes "p", map_of ((codes "@explicit", truth true) ∷ [])) ∷ []),
    ) ∷ []))
    (quad b p a ∷ quad (Blank (codes "x")) p a ∷ [])
    (codes "{\"@context\":{\"p\":{\"@id\":\"http://e/p\",\"@type\":\"@id\"}},\"@id\":\"http://e/a\",\"@reverse\":{\"http://e/p\":{},\"p\":\"http://e/b\"}}")
unfolding rows_open
pruned_reverse = refl

-- several texts of a language, and the alias of `@none`
pub language_sets :
    Prints (map_of ((codes "@context", map_of ((codes "label", map_of ((codes "@container", list_of (text (codes "@language") ∷ text (codes "@set") ∷ [])) ∷ (codes "@id", text (codes "http://e/label")) ∷ [])) ∷ (codes "none", text (codes "@none")) ∷ [])) ∷ (codes "@id", text (codes "http://e/a")) ∷ [])) (
    quad a (codes "http://e/label") (tagged (codes "x") (codes "en"))
    ∷ quad a (codes "http://e/label") (tagged (codes "y") (codes "en"))
    ∷ quad a (codes "http://e/label") (string (codes "z"))
    ∷ [])
    (codes "{\"@context\":{\"label\":{\"@container\":[\"@language\",\"@set\"],\"@id\":\"http://e/label\"},\"none\":\"@none\"},\"@id\":\"http://e/a\",\"label\":{\"en\":[\"x\",\"y\"],\"none\":[\"z\"]}}")
unfolding rows_open
language_sets = refl

-- a term named like its IRI: values without the term, a language map at the place of its first
-- text, and a reference share one array
pub term_like_its_iri :
    Prints (map_of ((codes "@context", map_of ((codes "http://e/p", map_of ((codes "@container", list_of (text (codes "@language") ∷ text (codes "@set") ∷ [])) ∷ [])) ∷ [])) ∷ (codes "@id", text (codes "http://e/a")) ∷ [])) (
    quad a p (typed (codes "1") (codes "http://e/int"))
    ∷ quad a p (tagged (codes "x") (codes "en"))
    ∷ quad a p (string (codes "y"))
    ∷ quad a p b
    ∷ [])
    (codes "{\"@context\":{\"http://e/p\":{\"@container\":[\"@language\",\"@set\"]}},\"@id\":\"http://e/a\",\"http://e/p\":[{\"@type\":\"http://e/int\",\"@value\":\"1\"},{\"@none\":[\"y\"],\"en\":[\"x\"]},{\"@id\":\"http://e/b\"}]}")
unfolding rows_open
term_like_its_iri = refl

-- an id that is a term's is compacted with the vocabulary
pub vocab_coercion :
    Prints (map_of ((
      codes "@context",
      map_of ((codes "@vocab", text (codes "http://e/"))
          ∷ (
            codes "c",
            map_of ((codes "@id", text (codes "http://e/c"))
                ∷ (codes "@type", text (codes "@vocab")) ∷ []),
          )
          ∷ (codes "red", text (codes "http://e/Red")) ∷ []),
    )
    ∷ (codes "@id", text (codes "http://e/a")) ∷ [])) (quad a (codes "http://e/c")
    (Iri (codes "http://e/Red")) ∷ quad a (codes "http://e/c") b ∷ [])
    (codes "{\"@context\":{\"@vocab\":\"http://e/\",\"c\":{\"@id\":\"http://e/c\",\"@type\":\"@vocab\"},\"red\":\"http://e/Red\"},\"@id\":\"http://e/a\",\"c\":[\"red\",\"b\"]}")
unfolding rows_open
vocab_coercion = refl

-- a datatype that is confused, and an IRI with an authority, which isn't
pub confused_datatype :
    Gives (map_of ((codes "@context", map_of ((codes "tag", text (codes "http://t/")) ∷ []))
    ∷ (codes "@id", text (codes "http://e/a")) ∷ []))
    (quad a p (typed (codes "1") (codes "tag:x")) ∷ [])
    (Refused ld.IriConfusedWithPrefix)
unfolding rows_open
confused_datatype = refl

pub confused_type :
    Gives (map_of ((codes "@context", map_of ((codes "tag", text (codes "http://t/")) ∷ []))
    ∷ (codes "@id", text (codes "http://e/a")) ∷ []))
    (quad a rdf_type (Iri (codes "tag:x")) ∷ [])
    (Refused ld.IriConfusedWithPrefix)
unfolding rows_open
confused_type = refl

pub confused_property :
    Gives (map_of ((codes "@context", map_of ((codes "tag", text (codes "http://t/")) ∷ []))
    ∷ (codes "@id", text (codes "http://e/a")) ∷ []))
    (quad a (codes "tag:x") (string (codes "1")) ∷ [])
    (Refused ld.IriConfusedWithPrefix)
unfolding rows_open
confused_property = refl

pub authority :
    Prints (map_of ((codes "@context", map_of ((codes "tag", text (codes "http://t/")) ∷ []))
    ∷ (codes "@id", text (codes "http://e/a")) ∷ []))
    (quad a p (Iri (codes "tag://x")) ∷ [])
    (codes "{\"@context\":{\"tag\":\"http://t/\"},\"@id\":\"http://e/a\",\"http://e/p\":{\"@id\":\"tag://x\"}}")
unfolding rows_open
authority = refl

-- an empty default is an empty array
pub empty_default :
    Prints (map_of ((codes "@id", text (codes "http://e/a"))
    ∷ (
      codes "http://e/p",
      map_of ((codes "@default", list_of []) ∷ (codes "@value", text (codes "y")) ∷ []),
    )
    ∷ [])) (quad a p (string (codes "x")) ∷ [])
    (codes "{\"@id\":\"http://e/a\",\"http://e/p\":[]}")
unfolding rows_open
empty_default = refl

-- a number below 0
pub default_number :
    Prints (map_of ((codes "@id", text (codes "http://e/a"))
    ∷ (
      codes "http://e/p",
      map_of
          ((codes "@default", whole (negsuc 4)) ∷ (codes "@value", text (codes "y")) ∷ []),
    )
    ∷ [])) (quad a p (string (codes "x")) ∷ [])
    (codes "{\"@id\":\"http://e/a\",\"http://e/p\":-5}")
unfolding rows_open
default_number = refl

-- a reference in a default counts its label, and keeps it
pub default_reference :
    Prints (map_of ((codes "@id", text (codes "http://e/a"))
    ∷ (
      codes "http://e/p",
      map_of ((codes "@default", map_of ((codes "@id", text (codes "_:x")) ∷ []))
          ∷ (codes "@value", text (codes "y")) ∷ []),
    ) ∷ []))
    (quad a p (string (codes "x")) ∷ quad a q (Blank (codes "x")) ∷ [])
    (codes "{\"@id\":\"http://e/a\",\"http://e/p\":{\"@id\":\"_:x\"},\"http://e/q\":{\"@id\":\"_:x\"}}")
unfolding rows_open
default_reference = refl

pub default_reference_alone :
    Prints (map_of ((codes "@id", text (codes "http://e/a"))
    ∷ (
      codes "http://e/p",
      map_of ((codes "@default", map_of ((codes "@id", text (codes "_:x")) ∷ []))
          ∷ (codes "@value", text (codes "y")) ∷ []),
    ) ∷ []))
    (quad a p (string (codes "x")) ∷ [])
    (codes "{\"@id\":\"http://e/a\",\"http://e/p\":{\"@id\":\"_:x\"}}")
unfolding rows_open
default_reference_alone = refl

-- a number of the term's datatype stands as it is, and a text of another one is a map
pub default_datatype :
    Prints (map_of ((
      codes "@context",
      map_of ((
        codes "p",
        map_of ((codes "@id", text (codes "http://e/p"))
            ∷ (codes "@type", text (codes "http://www.w3.org/2001/XMLSchema#integer"))
            ∷ []),
      ) ∷ []),
    ) ∷ (codes "@id", text (codes "http://e/a"))
    ∷ (
      codes "p",
      map_of ((
        codes "@default",
        list_of (whole (pos 5)
            ∷ map_of ((codes "@type", text (codes "http://e/roman"))
            ∷ (codes "@value", text (codes "v")) ∷ []) ∷ []),
      )
          ∷ (codes "@value", text (codes "y")) ∷ []),
    ) ∷ []))
    (quad a p (string (codes "x")) ∷ [])
    (codes "{\"@context\":{\"p\":{\"@id\":\"http://e/p\",\"@type\":\"http://www.w3.org/2001/XMLSchema#integer\"}},\"@id\":\"http://e/a\",\"http://e/p\":{\"@type\":\"http://e/roman\",\"@value\":\"v\"},\"p\":5}")
unfolding rows_open
default_datatype = refl

-- under the coercion `@none` each value says what it is
pub coercion_none :
    Prints (map_of ((codes "@context", map_of ((codes "p", map_of ((codes "@id", text (codes "http://e/p")) ∷ (codes "@type", text (codes "@none")) ∷ [])) ∷ [])) ∷ (codes "@id", text (codes "http://e/a")) ∷ [])) (
    quad a p (string (codes "1"))
    ∷ quad a p (typed (codes "2") (codes "http://www.w3.org/2001/XMLSchema#integer"))
    ∷ quad a p b
    ∷ [])
    (codes "{\"@context\":{\"p\":{\"@id\":\"http://e/p\",\"@type\":\"@none\"}},\"@id\":\"http://e/a\",\"p\":[{\"@value\":\"1\"},{\"@type\":\"http://www.w3.org/2001/XMLSchema#integer\",\"@value\":\"2\"},{\"@id\":\"http://e/b\"}]}")
unfolding rows_open
coercion_none = refl

-- `@version` is left out at whatever depth it stands
pub inner_versions :
    Prints (map_of ((
      codes "@context",
      list_of (map_of ((codes "@version", fraction)
          ∷ (
            codes "p",
            map_of ((codes "@id", null) ∷ (codes "@version", fraction) ∷ []),
          ) ∷ [])
          ∷ map_of ((codes "@version", fraction) ∷ []) ∷ null ∷ []),
    ) ∷ [])) []
    (codes "{\"@context\":[{\"p\":{\"@id\":null}},{},null]}")
unfolding rows_open
inner_versions = refl

pub version_alone :
    Prints (map_of ((codes "@context", map_of ((codes "@version", fraction) ∷ [])) ∷ []))
    (quad a p (string (codes "x")) ∷ [])
    (codes "{\"@id\":\"http://e/a\",\"http://e/p\":\"x\"}")
unfolding rows_open
version_alone = refl

-- a compact IRI that is a term isn't used for a value, and is used for an id where it is the id's
-- own term
pub prefix_is_term :
    Prints (map_of ((
      codes "@context",
      map_of ((codes "ex", text (codes "http://e/"))
          ∷ (
            codes "ex:p",
            map_of ((codes "@id", text (codes "http://e/p"))
                ∷ (codes "@type", text (codes "@id")) ∷ []),
          ) ∷ []),
    )
    ∷ (codes "@id", text (codes "http://e/a")) ∷ []))
    (quad a p (string (codes "1")) ∷ quad a q (Iri (codes "http://e/p")) ∷ [])
    (codes "{\"@context\":{\"ex\":\"http://e/\",\"ex:p\":{\"@id\":\"http://e/p\",\"@type\":\"@id\"}},\"@id\":\"ex:a\",\"ex:q\":{\"@id\":\"ex:p\"},\"http://e/p\":\"1\"}")
unfolding rows_open
prefix_is_term = refl

-- a keyword and a property under one key
pub shared_by_name :
    Prints (map_of ((codes "@context", map_of ((codes "foo:", text (codes "@graph")) ∷ []))
    ∷ (codes "@graph", map_of []) ∷ []))
    (quad_in g a p (string (codes "1")) ∷ quad g (codes "foo:") (string (codes "2")) ∷ [])
    (codes "{\"@context\":{\"foo:\":\"@graph\"},\"@id\":\"http://e/g\",\"foo:\":[{\"@id\":\"http://e/a\",\"http://e/p\":\"1\"},\"2\"]}")
unfolding rows_open
shared_by_name = refl
