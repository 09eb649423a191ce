-- The files of a shelf in memory.
use Rattle.std.specs.Prelude.{List, ℕ, find, nat_eq}
use Rattle.std.specs.Option.{option_map}
use Rattle.std.specs.Cmp.Lexicographic.{pointwise}
use Rattle.lf_io.specs.declared.calls.Calls.{Calls}
use Rattle.lf_io.specs.declared.file.File.{File}
use Rattle.lf_io.specs.declared.memory_shelf.MemoryShelf.{MemoryShelf}
use Rattle.lf_io.specs.Files.{Files}

-- the bytes of the first file of each name
abbrev pub by_name : List File → Files
by_name files name =
    option_map (λ file. file.bytes) (find (λ file. pointwise nat_eq file.name name) files)

-- the files of a shelf
abbrev pub shelf_files : MemoryShelf → List File
shelf_files shelf = shelf.files

-- the calls of a shelf
abbrev pub shelf_calls : MemoryShelf → Calls
shelf_calls shelf = shelf.calls

-- how many takes of names that are there failed
abbrev pub shelf_refusals : MemoryShelf → ℕ
shelf_refusals shelf = shelf.refusals
