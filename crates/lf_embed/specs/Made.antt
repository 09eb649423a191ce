-- Outputs of which there may be none, and the output of a literal.
use Rattle.std.specs.Prelude.{List, [], ◌∷◌, ◌++◌, Option, Some, None}
use Rattle.lf_rdf.specs.declared.term.Term.{Term}
use Rattle.lf_model.specs.TreeData.{TreeEntry, literal_entry}
use Rattle.def_framing.specs.Results.{State, Result, gives, item, then}

-- an output joins those before it, where there is one
abbrev pub with_made : {A : Type 0} → Option A → List A → List A
with_made None done = done
with_made (Some made) done = done ++ made ∷ []

-- a literal is counted and output as it is
abbrev pub emit_literal : Term → State → Result (Option TreeEntry)
emit_literal term state =
    then (item state) (λ counted after. gives (Some (literal_entry term)) after)
