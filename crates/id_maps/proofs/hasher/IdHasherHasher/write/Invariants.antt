use Rattle.std.proofs.Common.{◌≡◌, take, fold}
use Rattle.id_maps.specs.Hashing.{mixed}
use Rattle.id_maps.proofs.hasher.IdHasherHasher.write.Given as goal

abbrev pub invariant-loop-byte : goal.invariant-loop-byte
invariant-loop-byte l = l.state ≡ fold mixed l.fn.self.state (take l.byte-index l.bytes)
