-- What is written of quads.
use Rattle.std.specs.Prelude.{ℕ, true, List, [], ◌∷◌, ◌++◌, map}
use Rattle.lf_base.specs.Ascii as ch
use Rattle.lf_rdf.specs.declared.quad.Quad.{Quad}
use Rattle.lf_rdf.specs.declared.quad.Signed.{Signed}
use Rattle.lf_rdf.specs.Canonical.{line}

-- the canonical line of each quad, and LF behind each
abbrev pub lines_text : List Quad → List ℕ
lines_text [] = []
lines_text (quad ∷ quads) = line quad ++ ch.line_feed ∷ lines_text quads

-- the quad as a patch adds it
abbrev pub added : Quad → Signed
added quad = record { add = true; quad = quad }

abbrev pub all_added : List Quad → List Signed
all_added = map added
