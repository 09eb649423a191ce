-- The room of short texts.
use Rattle.std.specs.Prelude.{ℕ}

-- how many bytes a short text has at most
abbrev pub short_room : ℕ
short_room = 320

-- how many digits a number of 64 bits has at most
abbrev pub number_room : ℕ
number_room = 20
