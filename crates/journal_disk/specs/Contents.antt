-- What writes, syncs and a revival make of a disk in memory.
use Rattle.std.specs.Prelude.{ℕ, ◌+◌, ◌-◌, ◌%◌, ◌++◌, List, [], ◌∷◌, length, take, drop, map, replicate, slice_index}
use Rattle.std.specs.List.{range_with_len}
use Rattle.journal_disk.specs.Disk.{DiskState}
use Rattle.journal_disk.specs.Disk.Change.{Wrote, Kept}

-- nothing was written yet
abbrev pub blank : DiskState
blank = record { contents = []; past = [] }

-- what is kept, and nothing else is told
abbrev pub begins : List ℕ → DiskState
begins contents = record { contents = contents; past = Kept contents ∷ [] }

-- so many bytes at least, by zeros behind the end
abbrev pub padded : ℕ → List ℕ → List ℕ
padded count contents = contents ++ replicate (count - length contents) 0

-- bytes over those from a place on
abbrev pub put_over : ℕ → List ℕ → List ℕ → List ℕ
put_over at bytes contents = take at contents ++ (bytes ++ drop (at + length bytes) contents)

-- the bytes are written at the place, and zeros fill a gap before it
abbrev pub writes : ℕ → List ℕ → DiskState → DiskState
writes at bytes s = record {
  contents = put_over at bytes (padded (at + length bytes) s.contents);
  past = Wrote at (length bytes) ∷ s.past;
}

-- so many bytes: these, repeated from the front
abbrev pub repeated : ℕ → List ℕ → List ℕ
repeated count bytes = map (λ place. slice_index bytes (place % length bytes)) (range_with_len 0 count)
