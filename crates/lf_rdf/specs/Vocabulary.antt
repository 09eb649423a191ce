-- The IRIs of RDF and XML Schema that have a meaning here (RDF Schema 1.1; RDF 1.1 Concepts, section 5).
use Rattle.std.specs.Prelude.{List, ℕ, codes}

unfoldable pub rdf_type : List ℕ
rdf_type = codes "http://www.w3.org/1999/02/22-rdf-syntax-ns#type"

unfoldable pub rdf_first : List ℕ
rdf_first = codes "http://www.w3.org/1999/02/22-rdf-syntax-ns#first"

unfoldable pub rdf_rest : List ℕ
rdf_rest = codes "http://www.w3.org/1999/02/22-rdf-syntax-ns#rest"

unfoldable pub rdf_nil : List ℕ
rdf_nil = codes "http://www.w3.org/1999/02/22-rdf-syntax-ns#nil"

unfoldable pub rdf_list : List ℕ
rdf_list = codes "http://www.w3.org/1999/02/22-rdf-syntax-ns#List"

unfoldable pub rdf_lang_string : List ℕ
rdf_lang_string = codes "http://www.w3.org/1999/02/22-rdf-syntax-ns#langString"

unfoldable pub xsd_string : List ℕ
xsd_string = codes "http://www.w3.org/2001/XMLSchema#string"
