-- A quad that one patch deletes and adds stays, and the empty patch changes nothing; each patch
-- makes a version.
use Rattle.std.specs.Prelude.{◌≡◌, refl, List, [], ◌∷◌, codes}
use Rattle.lf_rdf.specs.declared.quad.Quad.{Quad}
use Rattle.lf_rdf.specs.declared.quad.Signed.{Signed}
use Rattle.lf_rdf.specs.Vocabulary.{xsd_string}
use Rattle.def_datasets.specs.Dataset.{after, at_version}
use Rattle.def_datasets.specs.Worked.Words.{plain, quad, added, deleted, a, p}

abbrev pub statement : Quad
statement = quad a p (plain (codes "x"))

abbrev pub patches : List (List Signed)
patches = (added statement ∷ []) ∷ (deleted statement ∷ added statement ∷ []) ∷ []
    ∷ (deleted statement ∷ []) ∷ []

pub version_0 : at_version patches 0 ≡ []
unfolding a p xsd_string
version_0 = refl

pub version_1 : at_version patches 1 ≡ statement ∷ []
unfolding a p xsd_string
version_1 = refl

pub version_2 : at_version patches 2 ≡ statement ∷ []
unfolding a p xsd_string
version_2 = refl

pub version_3 : at_version patches 3 ≡ statement ∷ []
unfolding a p xsd_string
version_3 = refl

pub version_4 : at_version patches 4 ≡ []
unfolding a p xsd_string
version_4 = refl

-- the order of the lines doesn't count
pub other_way_round : after [] (added statement ∷ deleted statement ∷ []) ≡ statement ∷ []
unfolding a p xsd_string
other_way_round = refl
