-- The values of a node's property as data that definitions match on
-- (JSON-LD 1.1, section 9.3 to 9.7: a value object, a node reference or a list).
use Rattle.std.specs.Prelude.{List, [], ◌∷◌}
use Rattle.lf_rdf.specs.declared.term.Term.{Term}

mutual
  pub data ListValue : Type 0 where
    literal : Term → ListValue
    reference : Term → ListValue
    list : ListValues → ListValue

  -- the items of a list, in order
  pub data ListValues : Type 0 where
    no_values : ListValues
    value : ListValue → ListValues → ListValues

-- a list's items from a list
abbrev pub values_of : List ListValue → ListValues
values_of [] = no_values
values_of (first ∷ rest) = value first (values_of rest)

-- a list's items as a list
abbrev pub values_list : ListValues → List ListValue
values_list no_values = []
values_list (value first rest) = first ∷ values_list rest
