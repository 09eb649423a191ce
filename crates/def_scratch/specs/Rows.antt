-- Whole documents: from a frame and quads to the printed bytes.
use Rattle.std.specs.Prelude.{refl, [], ◌∷◌, true, codes}
use Rattle.lf_rdf.specs.declared.term.Term.TheVariants.{Blank, Iri}
use Rattle.lf_rdf.specs.Vocabulary.{rdf_type, rdf_first, rdf_rest, rdf_nil}
use Rattle.lf_model.specs.JsonData.{fraction, text, truth}
use Rattle.lf_model.specs.declared.error.LdError.TheVariants as ld
use Rattle.lf_model.specs.declared.document.Doc.TheVariants.{Refused}
use Rattle.def_contexts.specs.CaseWords.{list_of, map_of}
use Rattle.def_framing.specs.Worked.Words.{quad, quad_in, string, a, b, c, g, l, n, p, q}
use Rattle.def_scratch.specs.RowWords.{Gives, Prints, rows_open, tagged}

pub plain_quad :
    Prints (map_of []) (quad a p (string (codes "x")) ∷ [])
    (codes "{\"@id\":\"http://e/a\",\"http://e/p\":\"x\"}")
unfolding rows_open
plain_quad = refl

pub empty_data :
    Prints (map_of ((codes "@type", text (codes "http://e/T")) ∷ [])) []
    (codes "{}")
unfolding rows_open
empty_data = refl

pub empty_data_with_context :
    Prints
    (map_of ((codes "@context", map_of ((codes "@vocab", text (codes "http://e/")) ∷ [])) ∷ []))
    []
    (codes "{\"@context\":{\"@vocab\":\"http://e/\"}}")
unfolding rows_open
empty_data_with_context = refl

-- the label occurs once, and `_:b` stands before the IRI
pub blank_pruned :
    Prints (map_of [])
    (quad a p (string (codes "2")) ∷ quad (Blank (codes "b")) p (string (codes "1")) ∷ [])
    (codes "{\"@graph\":[{\"http://e/p\":\"1\"},{\"@id\":\"http://e/a\",\"http://e/p\":\"2\"}]}")
unfolding rows_open
blank_pruned = refl

pub library :
    Prints (map_of ((codes "@context", map_of ((codes "@version", fraction) ∷ (codes "@vocab", text (codes "http://l/")) ∷ (codes "contains", map_of ((codes "@container", text (codes "@set")) ∷ (codes "@type", text (codes "@id")) ∷ [])) ∷ (codes "creator", map_of ((codes "@id", text (codes "dc:creator")) ∷ (codes "@type", text (codes "@id")) ∷ [])) ∷ (codes "dc", text (codes "http://purl.org/dc/terms/")) ∷ [])) ∷ (codes "@type", text (codes "Library")) ∷ (codes "contains", map_of ((codes "@type", text (codes "Book")) ∷ [])) ∷ [])) (
    quad (Iri (codes "http://l/b1")) (codes "http://purl.org/dc/terms/creator")
    (Iri (codes "http://l/plato"))
    ∷ quad (Iri (codes "http://l/b1")) (codes "http://purl.org/dc/terms/title")
    (tagged (codes "Republic") (codes "en"))
    ∷ quad (Iri (codes "http://l/b1")) rdf_type (Iri (codes "http://l/Book"))
    ∷ quad (Iri (codes "http://l/lib")) (codes "http://l/contains") (Iri (codes "http://l/b1"))
    ∷ quad (Iri (codes "http://l/lib")) rdf_type (Iri (codes "http://l/Library"))
    ∷ [])
    (codes "{\"@context\":{\"@vocab\":\"http://l/\",\"contains\":{\"@container\":\"@set\",\"@type\":\"@id\"},\"creator\":{\"@id\":\"dc:creator\",\"@type\":\"@id\"},\"dc\":\"http://purl.org/dc/terms/\"},\"@id\":\"http://l/lib\",\"@type\":\"Library\",\"contains\":[{\"@id\":\"http://l/b1\",\"@type\":\"Book\",\"creator\":\"http://l/plato\",\"dc:title\":{\"@language\":\"en\",\"@value\":\"Republic\"}}]}")
unfolding rows_open
library = refl

-- two trees share a blank node, and then one has it alone
pub shared_blank :
    Prints (map_of ((codes "http://e/p", map_of []) ∷ [])) (
    quad a p (Blank (codes "x"))
    ∷ quad b p (Blank (codes "x"))
    ∷ quad (Blank (codes "x")) q (string (codes "1"))
    ∷ [])
    (codes "{\"@graph\":[{\"@id\":\"http://e/a\",\"http://e/p\":{\"@id\":\"_:x\",\"http://e/q\":\"1\"}},{\"@id\":\"http://e/b\",\"http://e/p\":{\"@id\":\"_:x\",\"http://e/q\":\"1\"}}]}")
unfolding rows_open
shared_blank = refl

pub shared_blank_later :
    Prints (map_of ((codes "http://e/p", map_of []) ∷ []))
    (quad a p (Blank (codes "x")) ∷ quad (Blank (codes "x")) q (string (codes "1")) ∷ [])
    (codes "{\"@id\":\"http://e/a\",\"http://e/p\":{\"http://e/q\":\"1\"}}")
unfolding rows_open
shared_blank_later = refl

pub once_per_tree :
    Prints (map_of ((codes "http://e/p", map_of []) ∷ []))
    (quad a p c ∷ quad a q c ∷ quad b p c ∷ quad c n (string (codes "c")) ∷ [])
    (codes "{\"@graph\":[{\"@id\":\"http://e/a\",\"http://e/p\":{\"@id\":\"http://e/c\",\"http://e/n\":\"c\"},\"http://e/q\":{\"@id\":\"http://e/c\"}},{\"@id\":\"http://e/b\",\"http://e/p\":{\"@id\":\"http://e/c\",\"http://e/n\":\"c\"}}]}")
unfolding rows_open
once_per_tree = refl

pub always_cycle :
    Prints (map_of ((codes "@embed", text (codes "@always")) ∷ [])) (quad a p b ∷ quad b p a ∷ [])
    (codes "{\"@graph\":[{\"@id\":\"http://e/a\",\"http://e/p\":{\"@id\":\"http://e/b\",\"http://e/p\":{\"@id\":\"http://e/a\"}}},{\"@id\":\"http://e/b\",\"http://e/p\":{\"@id\":\"http://e/a\",\"http://e/p\":{\"@id\":\"http://e/b\"}}}]}")
unfolding rows_open
always_cycle = refl

-- a list, and then one whose second cell has a property of its own
pub list_loses_cell :
    Prints (map_of ((codes "@id", text (codes "http://e/a")) ∷ [])) (
    quad a l (Blank (codes "c1"))
    ∷ quad (Blank (codes "c1")) rdf_first (string (codes "1"))
    ∷ quad (Blank (codes "c1")) rdf_rest (Blank (codes "c2"))
    ∷ quad (Blank (codes "c2")) rdf_first (string (codes "2"))
    ∷ quad (Blank (codes "c2")) rdf_rest (Blank (codes "c3"))
    ∷ quad (Blank (codes "c3")) rdf_first (string (codes "3"))
    ∷ quad (Blank (codes "c3")) rdf_rest (Iri rdf_nil)
    ∷ [])
    (codes "{\"@id\":\"http://e/a\",\"http://e/l\":{\"@list\":[\"1\",\"2\",\"3\"]}}")
unfolding rows_open
list_loses_cell = refl

pub list_loses_cell_later :
    Prints (map_of ((codes "@id", text (codes "http://e/a")) ∷ [])) (
    quad a l (Blank (codes "c1"))
    ∷ quad (Blank (codes "c1")) rdf_first (string (codes "1"))
    ∷ quad (Blank (codes "c1")) rdf_rest (Blank (codes "c2"))
    ∷ quad (Blank (codes "c2")) (codes "http://e/x") (string (codes "y"))
    ∷ quad (Blank (codes "c2")) rdf_first (string (codes "2"))
    ∷ quad (Blank (codes "c2")) rdf_rest (Blank (codes "c3"))
    ∷ quad (Blank (codes "c3")) rdf_first (string (codes "3"))
    ∷ quad (Blank (codes "c3")) rdf_rest (Iri rdf_nil)
    ∷ [])
    (codes "{\"@id\":\"http://e/a\",\"http://e/l\":{\"http://www.w3.org/1999/02/22-rdf-syntax-ns#first\":\"1\",\"http://www.w3.org/1999/02/22-rdf-syntax-ns#rest\":{\"http://e/x\":\"y\",\"http://www.w3.org/1999/02/22-rdf-syntax-ns#first\":\"2\",\"http://www.w3.org/1999/02/22-rdf-syntax-ns#rest\":{\"@list\":[\"3\"]}}}}")
unfolding rows_open
list_loses_cell_later = refl

-- a cell that is used in another graph too, and one that is its own item
pub no_list :
    Prints (map_of ((codes "@id", text (codes "http://e/a")) ∷ [])) (
    quad a l (Blank (codes "c"))
    ∷ quad_in g b l (Blank (codes "c"))
    ∷ quad (Blank (codes "c")) rdf_first (string (codes "1"))
    ∷ quad (Blank (codes "c")) rdf_rest (Iri rdf_nil)
    ∷ [])
    (codes "{\"@id\":\"http://e/a\",\"http://e/l\":{\"http://www.w3.org/1999/02/22-rdf-syntax-ns#first\":\"1\",\"http://www.w3.org/1999/02/22-rdf-syntax-ns#rest\":{\"@list\":[]}}}")
unfolding rows_open
no_list = refl

pub no_list_itself :
    Prints (map_of []) (
    quad (Blank (codes "c")) rdf_first (Blank (codes "c"))
    ∷ quad (Blank (codes "c")) rdf_rest (Iri rdf_nil)
    ∷ [])
    (codes "{\"@id\":\"_:c\",\"http://www.w3.org/1999/02/22-rdf-syntax-ns#first\":{\"@id\":\"_:c\"},\"http://www.w3.org/1999/02/22-rdf-syntax-ns#rest\":{\"@list\":[]}}")
unfolding rows_open
no_list_itself = refl

pub default_value :
    Prints (map_of ((codes "@id", text (codes "http://e/a"))
    ∷ (
      codes "http://e/p",
      map_of
          ((codes "@default", text (codes "d")) ∷ (codes "@value", text (codes "y")) ∷ []),
    )
    ∷ [])) (quad a p (string (codes "x")) ∷ [])
    (codes "{\"@id\":\"http://e/a\",\"http://e/p\":\"d\"}")
unfolding rows_open
default_value = refl

pub default_null :
    Prints (map_of ((codes "@id", text (codes "http://e/a"))
    ∷ (codes "http://e/p", map_of ((codes "@value", text (codes "y")) ∷ [])) ∷ []))
    (quad a p (string (codes "x")) ∷ [])
    (codes "{\"@id\":\"http://e/a\",\"http://e/p\":null}")
unfolding rows_open
default_null = refl

pub default_set :
    Prints (map_of ((
      codes "@context",
      map_of ((
        codes "p",
        map_of ((codes "@container", text (codes "@set"))
            ∷ (codes "@id", text (codes "http://e/p")) ∷ []),
      ) ∷ []),
    )
    ∷ (codes "@id", text (codes "http://e/a"))
    ∷ (codes "p", map_of ((codes "@value", text (codes "y")) ∷ [])) ∷ []))
    (quad a p (string (codes "x")) ∷ [])
    (codes "{\"@context\":{\"p\":{\"@container\":\"@set\",\"@id\":\"http://e/p\"}},\"@id\":\"http://e/a\",\"p\":[]}")
unfolding rows_open
default_set = refl

pub match_none :
    Prints (map_of ((codes "http://e/p", list_of []) ∷ []))
    (quad a p (string (codes "1")) ∷ quad b q (string (codes "2")) ∷ [])
    (codes "{\"@id\":\"http://e/b\",\"http://e/p\":null,\"http://e/q\":\"2\"}")
unfolding rows_open
match_none = refl

pub match_either :
    Prints (map_of ((codes "http://e/p", map_of []) ∷ (codes "http://e/q", map_of []) ∷ []))
    (quad a p (string (codes "1")) ∷ quad b q (string (codes "2")) ∷ [])
    (codes "{\"@graph\":[{\"@id\":\"http://e/a\",\"http://e/p\":\"1\",\"http://e/q\":null},{\"@id\":\"http://e/b\",\"http://e/p\":null,\"http://e/q\":\"2\"}]}")
unfolding rows_open
match_either = refl

pub match_both :
    Prints (map_of ((codes "@requireAll", truth true) ∷ (codes "http://e/p", map_of [])
    ∷ (codes "http://e/q", map_of []) ∷ []))
    (quad a p (string (codes "1")) ∷ quad b q (string (codes "2")) ∷ [])
    (codes "{}")
unfolding rows_open
match_both = refl

pub match_one_alone :
    Prints (map_of ((codes "@requireAll", truth true) ∷ (codes "http://e/p", map_of [])
    ∷ (codes "http://e/q", list_of []) ∷ []))
    (quad a p (string (codes "1")) ∷ quad b q (string (codes "2")) ∷ [])
    (codes "{\"@id\":\"http://e/a\",\"http://e/p\":\"1\",\"http://e/q\":null}")
unfolding rows_open
match_one_alone = refl

pub reverse_before :
    Prints (map_of ((codes "@id", text (codes "http://e/a"))
    ∷ (codes "@reverse", map_of ((codes "http://e/p", map_of []) ∷ [])) ∷ []))
    (quad a n (string (codes "A")) ∷ [])
    (codes "{\"@id\":\"http://e/a\",\"http://e/n\":\"A\"}")
unfolding rows_open
reverse_before = refl

pub reverse_arrives :
    Prints (map_of ((codes "@id", text (codes "http://e/a"))
    ∷ (codes "@reverse", map_of ((codes "http://e/p", map_of []) ∷ [])) ∷ []))
    (quad a n (string (codes "A")) ∷ quad b p a ∷ [])
    (codes "{\"@id\":\"http://e/a\",\"@reverse\":{\"http://e/p\":{\"@id\":\"http://e/b\",\"http://e/p\":{\"@id\":\"http://e/a\"}}},\"http://e/n\":\"A\"}")
unfolding rows_open
reverse_arrives = refl

pub named_graph :
    Prints (map_of ((codes "@graph", map_of []) ∷ [])) (quad_in g a p (string (codes "1")) ∷ [])
    (codes "{\"@graph\":[{\"@id\":\"http://e/a\",\"http://e/p\":\"1\"}],\"@id\":\"http://e/g\"}")
unfolding rows_open
named_graph = refl

pub merged_graph :
    Prints (map_of []) (quad_in g a p (string (codes "1")) ∷ [])
    (codes "{\"@graph\":[{\"@id\":\"http://e/a\",\"http://e/p\":\"1\"},{\"@id\":\"http://e/g\"}]}")
unfolding rows_open
merged_graph = refl

pub language_map :
    Prints (map_of ((codes "@context", map_of ((codes "label", map_of ((codes "@container", text (codes "@language")) ∷ (codes "@id", text (codes "http://e/label")) ∷ [])) ∷ [])) ∷ (codes "@id", text (codes "http://e/a")) ∷ [])) (
    quad a (codes "http://e/label") (tagged (codes "x") (codes "en"))
    ∷ quad a (codes "http://e/label") (tagged (codes "y") (codes "en-gb"))
    ∷ quad a (codes "http://e/label") (string (codes "z"))
    ∷ [])
    (codes "{\"@context\":{\"label\":{\"@container\":\"@language\",\"@id\":\"http://e/label\"}},\"@id\":\"http://e/a\",\"label\":{\"@none\":\"z\",\"en\":\"x\",\"en-gb\":\"y\"}}")
unfolding rows_open
language_map = refl

pub confused_prefix :
    Gives (map_of ((codes "@context", map_of ((codes "tag", text (codes "http://t/")) ∷ []))
    ∷ (codes "@id", text (codes "http://e/a")) ∷ []))
    (quad a n (string (codes "A")) ∷ quad a p (Iri (codes "tag:x,1")) ∷ [])
    (Refused ld.IriConfusedWithPrefix)
unfolding rows_open
confused_prefix = refl

pub confused_before :
    Prints (map_of ((codes "@context", map_of ((codes "tag", text (codes "http://t/")) ∷ []))
    ∷ (codes "@id", text (codes "http://e/a")) ∷ [])) (quad a n (string (codes "A")) ∷ [])
    (codes "{\"@context\":{\"tag\":\"http://t/\"},\"@id\":\"http://e/a\",\"http://e/n\":\"A\"}")
unfolding rows_open
confused_before = refl
