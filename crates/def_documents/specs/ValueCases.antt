-- Worked cases of values: the terms that they ask for, and what they are compacted to.
use Rattle.std.specs.Prelude.{◌≡◌, refl, List, [], ◌∷◌, ℕ, Option, Some, None, true, codes, option_map, pos, map}
use Rattle.std.specs.Fmt.{digits}
use Rattle.lf_rdf.specs.declared.term.Term.TheVariants.{Literal}
use Rattle.lf_rdf.specs.Vocabulary.{rdf_lang_string, xsd_string}
use Rattle.lf_model.specs.declared.frame.DefaultValue.TheVariants.{Scalar}
use Rattle.lf_model.specs.declared.scalar.Scalar.TheVariants.{Whole}
use Rattle.lf_model.specs.declared.table.TermTable.{TermTable}
use Rattle.lf_model.specs.declared.table.TermDef.{TermDef}
use Rattle.lf_model.specs.declared.table.Container.TheVariants as container
use Rattle.lf_model.specs.TreeData.{TreeNode, TreeEntry, entries_of, list_entry, literal_entry, fallback_entry}
use Rattle.def_selection.specs.Keywords.{selection_open}
use Rattle.def_selection.specs.Chosen.{chosen}
use Rattle.def_documents.specs.CaseData.{held_term, many, node_of, plain, plain_term, printed, reference, table_of, tagged, typed_term}
use Rattle.def_documents.specs.Picks.{pick_of}

-- the containers of each kind of value, in order: a text with a language asks for language maps
-- first, one without asks for them last, and no other value asks for them
abbrev mixed : TreeNode
mixed =
    node_of (codes "http://e/a")
    (many (codes "http://e/p")
    (tagged (codes "x") (codes "en")
    ∷ plain (codes "y")
    ∷ literal_entry (Literal (codes "5") (codes "http://e/int") None)
    ∷ reference (codes "http://e/b")
    ∷ []) ∷ [])

abbrev by_language : TermDef
by_language = held_term (codes "map") (codes "http://e/p") container.Language

abbrev by_language_set : TermDef
by_language_set = held_term (codes "maps") (codes "http://e/p") container.LanguageSet

abbrev in_set : TermDef
in_set = held_term (codes "set") (codes "http://e/p") container.Set

abbrev alone : TermDef
alone = plain_term (codes "one") (codes "http://e/p")

pub all_containers :
    printed (table_of None (by_language ∷ by_language_set ∷ alone ∷ in_set ∷ [])) mixed
    ≡ Some (codes "{\"@id\":\"http://e/a\",\"map\":{\"en\":\"x\"},\"set\":[\"y\",{\"@type\":\"http://e/int\",\"@value\":\"5\"},{\"@id\":\"http://e/b\"}]}")
unfolding selection_open xsd_string rdf_lang_string
all_containers = refl

pub maps_and_one :
    printed (table_of None (by_language_set ∷ alone ∷ [])) mixed
    ≡ Some (codes "{\"@id\":\"http://e/a\",\"maps\":{\"en\":[\"x\"]},\"one\":[\"y\",{\"@type\":\"http://e/int\",\"@value\":\"5\"},{\"@id\":\"http://e/b\"}]}")
unfolding selection_open xsd_string rdf_lang_string
maps_and_one = refl

pub maps_alone :
    printed (table_of None (by_language ∷ by_language_set ∷ [])) mixed
    ≡ Some (codes "{\"@id\":\"http://e/a\",\"http://e/p\":[{\"@type\":\"http://e/int\",\"@value\":\"5\"},{\"@id\":\"http://e/b\"}],\"map\":{\"@none\":\"y\",\"en\":\"x\"}}")
unfolding selection_open xsd_string rdf_lang_string
maps_alone = refl

pub set_and_one :
    printed (table_of None (alone ∷ in_set ∷ [])) mixed
    ≡ Some (codes "{\"@id\":\"http://e/a\",\"set\":[{\"@language\":\"en\",\"@value\":\"x\"},\"y\",{\"@type\":\"http://e/int\",\"@value\":\"5\"},{\"@id\":\"http://e/b\"}]}")
unfolding selection_open xsd_string rdf_lang_string
set_and_one = refl

-- the term that a list asks for: any term where it is empty, and otherwise by what all of its items
-- are
abbrev list_term : List ℕ → Option (List ℕ) → Option (Option (List ℕ)) → TermDef
list_term name coercion language =
    record (held_term name (codes "http://e/l") container.List)
    { coercion = coercion; language = language }

abbrev list_terms : TermTable
list_terms =
    table_of None (
    list_term (codes "english") None (Some (Some (codes "en")))
    ∷ list_term (codes "id") (Some (codes "@id")) None
    ∷ list_term (codes "int") (Some (codes "http://e/int")) None
    ∷ list_term (codes "any") None None
    ∷ list_term (codes "plain") None (Some None)
    ∷ [])

abbrev term_of_list : List TreeEntry → Option (List ℕ)
term_of_list items =
    option_map (λ term. term.name) (chosen list_terms (codes "http://e/l")
    (pick_of list_terms true (list_entry (entries_of items))))

abbrev number : TreeEntry
number = literal_entry (Literal (codes "5") (codes "http://e/int") None)

pub empty_list_term : term_of_list [] ≡ Some (codes "id")
unfolding selection_open
empty_list_term = refl

pub datatype_list_term : term_of_list (number ∷ number ∷ []) ≡ Some (codes "int")
unfolding selection_open xsd_string
datatype_list_term = refl

pub node_list_term :
    term_of_list (reference (codes "http://e/b") ∷ list_entry (entries_of []) ∷ [])
    ≡ Some (codes "id")
unfolding selection_open
node_list_term = refl

pub language_list_term :
    term_of_list (tagged (codes "x") (codes "en") ∷ tagged (codes "y") (codes "en") ∷ [])
    ≡ Some (codes "english")
unfolding selection_open rdf_lang_string
language_list_term = refl

pub plain_list_term :
    term_of_list (plain (codes "x") ∷ plain (codes "y") ∷ []) ≡ Some (codes "plain")
unfolding selection_open xsd_string
plain_list_term = refl

pub mixed_list_terms :
    map term_of_list (
    (plain (codes "x") ∷ number ∷ [])
    ∷ (tagged (codes "x") (codes "en") ∷ tagged (codes "y") (codes "de") ∷ [])
    ∷ (number ∷ reference (codes "http://e/b") ∷ [])
    ∷ [])
    ≡ Some (codes "any") ∷ Some (codes "any") ∷ Some (codes "any") ∷ []
unfolding selection_open xsd_string rdf_lang_string
mixed_list_terms = refl

-- a text stands alone where its language is the term's, else the table's; null is no language
abbrev german : List TermDef → TermTable
german terms = record (table_of None terms) { language = Some (codes "de") }

abbrev spoken : TreeNode
spoken =
    node_of (codes "http://e/a")
    (many (codes "http://e/p") (tagged (codes "x") (codes "de") ∷ tagged (codes "y") (codes "en")
    ∷ plain (codes "z") ∷ []) ∷ [])

pub by_default_language :
    printed (german []) spoken
    ≡ Some (codes "{\"@id\":\"http://e/a\",\"http://e/p\":[\"x\",{\"@language\":\"en\",\"@value\":\"y\"},{\"@value\":\"z\"}]}")
unfolding selection_open xsd_string rdf_lang_string
by_default_language = refl

pub by_term_language :
    printed
    (german (
    record (plain_term (codes "en") (codes "http://e/p")) { language = Some (Some (codes "en")) }
    ∷ record (plain_term (codes "no") (codes "http://e/p")) { language = Some None }
    ∷ plain_term (codes "p") (codes "http://e/p")
    ∷ [])) spoken
    ≡ Some (codes "{\"@id\":\"http://e/a\",\"en\":\"y\",\"no\":\"z\",\"p\":\"x\"}")
unfolding selection_open xsd_string rdf_lang_string
by_term_language = refl

-- a number without a datatype is itself, save under the coercion `@none`; one with the coercion's
-- datatype is itself, and one with another is a map
pub scalars_by_coercion :
    printed
    (table_of None (
    typed_term (codes "int") (codes "http://e/p") (codes "http://e/int") container.NoContainer
    ∷ typed_term (codes "none") (codes "http://e/p") (codes "@none") container.NoContainer
    ∷ []))
    (node_of (codes "http://e/a")
    (many (codes "http://e/p")
    (fallback_entry (Scalar (Whole (pos 1)) None None)
    ∷ fallback_entry (Scalar (Whole (pos 2)) (Some (codes "http://e/int")) None)
    ∷ fallback_entry (Scalar (Whole (pos 3)) (Some (codes "http://e/roman")) None)
    ∷ []) ∷ []))
    ≡ Some (codes "{\"@id\":\"http://e/a\",\"int\":2,\"none\":[{\"@value\":1},{\"@type\":\"http://e/roman\",\"@value\":3}]}")
unfolding selection_open digits
scalars_by_coercion = refl
