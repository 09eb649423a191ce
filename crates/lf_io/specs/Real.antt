-- What the objects over std count.
use Rattle.std.specs.Prelude.{ℕ}
use Rattle.lf_io.specs.declared.read_source.ReadSource.{ReadSource}
use Rattle.lf_io.specs.declared.write_sink.WriteSink.{WriteSink}
use Rattle.lf_io.specs.declared.file_shelf.FileShelf.{FileShelf}

-- how many bytes were taken of a reader
abbrev pub reader_taken : {R : Type 0} → ReadSource R → ℕ
reader_taken source = source.taken

-- how often a reader failed
abbrev pub reader_faults : {R : Type 0} → ReadSource R → ℕ
reader_faults source = source.faults

-- how often a writer failed
abbrev pub writer_faults : {W : Type 0} → WriteSink W → ℕ
writer_faults sink = sink.faults

-- how often a take of a file failed
abbrev pub take_faults : {R : Type 0} → FileShelf R → ℕ
take_faults shelf = shelf.faults
