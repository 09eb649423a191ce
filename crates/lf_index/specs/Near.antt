-- Values with a chunk of their bytes.
use Rattle.std.specs.Prelude.{List, map}
use Rattle.lf_index.specs.declared.near.Marked.{Marked}

abbrev pub values_of : {T : Type 0} → List (Marked T) → List T
values_of = map (λ m. m.value)
