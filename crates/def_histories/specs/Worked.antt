-- Worked histories, which compute.
use Rattle.std.specs.Prelude.{◌≡◌, refl, List, [], ◌∷◌, ℕ, Option, Some, None, true, false, codes}
use Rattle.lf_rdf.specs.declared.term.Term.TheVariants.{Iri, Literal}
use Rattle.lf_rdf.specs.declared.quad.Quad.{Quad}
use Rattle.lf_rdf.specs.declared.quad.Patch.{Patch}
use Rattle.lf_rdf.specs.Vocabulary.{xsd_string}
use Rattle.def_histories.specs.declared.live.Live.{Live}
use Rattle.def_histories.specs.declared.operation.Operation.{Operation}
use Rattle.def_histories.specs.declared.operation.Operation.TheVariants.{Commit, Register, Retire, Publish}
use Rattle.def_histories.specs.History.{commits, text_bytes, live_frames, live}
use Rattle.def_histories.specs.Legal.{is_frame_name, most_name}
use Rattle.def_histories.specs.Replay.{dataset_at, newest_dataset, notices}

abbrev pub f : List ℕ
f = codes "f"

abbrev pub g : List ℕ
g = codes "g"

abbrev pub all : List ℕ
all = codes "{}"

abbrev pub other : List ℕ
other = codes "{}\n"

abbrev pub frame : List ℕ → ℕ → List ℕ → Option ℕ → Live
frame name number text published =
    record { name = name; number = number; text = text; published = published }

-- registered again with another text: the name has the next text number and nothing published
abbrev pub again : List Operation
again = Register 1 f all ∷ Register 1 g all ∷ Publish f 0 ∷ Register 2 f other ∷ []

pub again_live : live_frames again ≡ frame g 2 all None ∷ frame f 3 other None ∷ []
again_live = refl

pub again_notices : notices again ≡ record { frame = f; version = 0 } ∷ []
again_notices = refl

pub again_bytes : text_bytes again ≡ 7
again_bytes = refl

-- retired and registered anew
abbrev pub anew : List Operation
anew = Register 1 f all ∷ Retire 1 f ∷ Register 1 f all ∷ []

pub anew_live : live anew f ≡ Some (frame f 2 all None)
anew_live = refl

pub retired : live (Register 1 f all ∷ Retire 1 f ∷ []) f ≡ None
retired = refl

-- published at version 1, and then at version 2
abbrev pub quad : Quad
quad = record {
  subject = Iri (codes "http://e/a");
  predicate = Iri (codes "http://e/p");
  object = Iri (codes "http://e/b");
  graph = None;
}

abbrev pub statement : Patch
statement = record { lines = record { add = true; quad = quad } ∷ []; bytes = 38 }

abbrev pub nothing : Patch
nothing = record { lines = []; bytes = 0 }

abbrev pub published : List Operation
published =
    Register 1 f all ∷ Commit 1 statement ∷ Publish f 1 ∷ Commit 2 nothing ∷ Publish f 2 ∷ []

pub published_live : live published f ≡ Some (frame f 1 all (Some 2))
published_live = refl

-- an idle commit makes a version
pub idle_versions : commits published ≡ 2
idle_versions = refl

pub idle_dataset : newest_dataset published ≡ quad ∷ []
idle_dataset = refl

pub first_dataset : dataset_at published 0 ≡ []
first_dataset = refl

-- the quad `<http://e/a> <http://e/p> "x" .`
abbrev pub plain : Quad
plain =
    record {
      subject = Iri (codes "http://e/a");
      predicate = Iri (codes "http://e/p");
      object = Literal (codes "x") xsd_string None;
      graph = None;
    }

abbrev pub added : Patch
added = record { lines = record { add = true; quad = plain } ∷ []; bytes = 32 }

-- its deletion, and then its addition
abbrev pub put_back : Patch
put_back =
    record {
      lines =
          record { add = false; quad = plain } ∷ record { add = true; quad = plain } ∷ [];
      bytes = 68;
    }

-- that patch and the empty one make a version each, with the same quad
abbrev pub idle : List Operation
idle = Commit 1 added ∷ Commit 1 put_back ∷ Commit 1 nothing ∷ []

pub idle_count : commits idle ≡ 3
idle_count = refl

pub idle_first : dataset_at idle 1 ≡ plain ∷ []
unfolding xsd_string
idle_first = refl

pub idle_second : dataset_at idle 2 ≡ plain ∷ []
unfolding xsd_string
idle_second = refl

pub idle_third : dataset_at idle 3 ≡ plain ∷ []
unfolding xsd_string
idle_third = refl

-- names have 1 to 64 characters
pub name_of_none : is_frame_name [] ≡ false
unfolding most_name
name_of_none = refl

pub name_of_one : is_frame_name (codes "a") ≡ true
unfolding most_name
name_of_one = refl

pub name_of_64 :
    is_frame_name (codes "0123456789_ABCDEFGHIJKLMNOPQRSTUVWXYZ-abcdefghijklmnopqrstuvwxyz") ≡ true
unfolding most_name
name_of_64 = refl

pub name_of_65 :
    is_frame_name (codes "0123456789_ABCDEFGHIJKLMNOPQRSTUVWXYZ-abcdefghijklmnopqrstuvwxyz0")
    ≡ false
unfolding most_name
name_of_65 = refl

pub name_with_space : is_frame_name (codes "a b") ≡ false
unfolding most_name
name_with_space = refl
