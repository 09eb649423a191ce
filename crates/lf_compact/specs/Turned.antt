-- Values of reverse properties that were filed under reverse terms, and the others.
use Rattle.std.specs.Prelude.{List, ℕ, not, filter, map}
use Rattle.def_documents.specs.Entries.{Filed}
use Rattle.def_documents.specs.Nodes.{is_turned}

abbrev pub turned_values : List Filed → List Filed
turned_values values = filter is_turned values

abbrev pub unturned_values : List Filed → List Filed
unturned_values values = filter (λ f. not (is_turned f)) values

abbrev pub turned_of : List (List ℕ × List Filed) → List (List ℕ × List Filed)
turned_of reverses = map (λ r. (r.0, filter is_turned r.1)) reverses

abbrev pub unturned_of : List (List ℕ × List Filed) → List (List ℕ × List Filed)
unturned_of reverses = map (λ r. (r.0, filter (λ f. not (is_turned f)) r.1)) reverses
