use Rattle.std.proofs.Common.{◌≡◌, ◌++◌, take}
use Rattle.std.specs.List.{flat_map}
use Rattle.schedule_text.specs.Spelling.{spelled_byte}
use Rattle.schedule_text.proofs.writing.pieces.push_escaped.Given as goal

abbrev pub invariant-loop-byte : goal.invariant-loop-byte
invariant-loop-byte l = l.out.items ≡ l.fn.out.items ++ flat_map spelled_byte (take l.byte-index l.bytes)
