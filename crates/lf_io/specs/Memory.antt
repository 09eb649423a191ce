-- What the objects in memory give, hold and keep.
use Rattle.std.specs.Prelude.{List, ℕ, drop, length, Bool, ◌||◌, nat_lt, nat_eq}
use Rattle.lf_io.specs.declared.calls.Calls.{Calls}
use Rattle.lf_io.specs.declared.memory_source.MemorySource.{MemorySource}
use Rattle.lf_io.specs.declared.memory_sink.MemorySink.{MemorySink}

-- the bytes that a source has left
abbrev pub bytes_left : MemorySource → List ℕ
bytes_left source = drop source.taken source.bytes.items

-- how many bytes were taken of a source
abbrev pub bytes_taken : MemorySource → ℕ
bytes_taken source = source.taken

-- how many bytes a read takes at most
abbrev pub source_piece : MemorySource → ℕ
source_piece source = source.piece

-- the calls of a source
abbrev pub source_calls : MemorySource → Calls
source_calls source = source.calls

-- the bytes that a sink holds
abbrev pub bytes_held : MemorySink → List ℕ
bytes_held sink = sink.bytes.items

-- how many bytes a sink has room for
abbrev pub room_of : MemorySink → ℕ
room_of sink = sink.room

-- how many bytes a write takes at most
abbrev pub sink_piece : MemorySink → ℕ
sink_piece sink = sink.piece

-- the calls of a sink
abbrev pub sink_calls : MemorySink → Calls
sink_calls sink = sink.calls

-- the bytes are none, or the sink has room for one more
abbrev pub piece_fits : MemorySink → List ℕ → Bool
piece_fits sink bytes = nat_eq (length bytes) 0 || nat_lt (length (bytes_held sink)) (room_of sink)
