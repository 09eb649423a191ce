-- Worked jobs.
use Rattle.std.specs.Prelude.{◌≡◌, refl, List, [], ◌∷◌, ℕ, Some, None}
use Rattle.def_histories.specs.declared.operation.Operation.{Operation}
use Rattle.def_histories.specs.declared.operation.Operation.TheVariants.{Commit, Register, Publish}
use Rattle.def_histories.specs.Jobs.{Job, Fits}
use Rattle.def_histories.specs.Worked.{f, g, all, other, again, statement, nothing, published}

abbrev pub is_all : List ℕ → Type 0
is_all text = text ≡ all

-- a board of version 1 that is to reach version 2
abbrev pub onward : Job
onward = record {
  name = f;
  number = 1;
  board = Some (statement.lines ∷ []);
  target = statement.lines ∷ nothing.lines ∷ [];
}

pub onward_fits : Fits is_all published onward
onward_fits = record {
  text = all;
  board = (nothing.lines ∷ [], refl);
  target = ([], refl);
  registered =
      record {
        before = [];
        seat = 1;
        later = Commit 1 statement ∷ Publish f 1 ∷ Commit 2 nothing ∷ Publish f 2 ∷ [];
        stands = refl;
        numbered = refl;
      };
  gives = refl;
}

-- a name that was registered again has two text numbers, and a job of the older one fits too
abbrev pub older : Job
older = record { name = f; number = 1; board = None; target = [] }

pub older_fits : Fits is_all again older
older_fits = record {
  text = all;
  board = tt;
  target = ([], refl);
  registered =
      record {
        before = [];
        seat = 1;
        later = Register 1 g all ∷ Publish f 0 ∷ Register 2 f other ∷ [];
        stands = refl;
        numbered = refl;
      };
  gives = refl;
}

abbrev pub newer : Job
newer = record { name = f; number = 3; board = None; target = [] }

pub newer_fits : Fits (λ text. text ≡ other) again newer
newer_fits = record {
  text = other;
  board = tt;
  target = ([], refl);
  registered = record {
    before = Register 1 f all ∷ Register 1 g all ∷ Publish f 0 ∷ [];
    seat = 2;
    later = [];
    stands = refl;
    numbered = refl;
  };
  gives = refl;
}
