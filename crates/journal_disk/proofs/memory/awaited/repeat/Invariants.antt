use Rattle.std.proofs.Common.{◌≡◌, ◌≤◌, vec_len}
use Rattle.std.specs.Prelude.{vec_capacity}
use Rattle.journal_disk.specs.Contents.{repeated}
use Rattle.journal_disk.proofs.memory.awaited.repeat.Given as goal

abbrev pub invariant-loop-place : goal.invariant-loop-place
invariant-loop-place l = record {
  made : l.all.items ≡ repeated l.place l.bytes;
  many : vec_len l.all ≡ l.place;
  room : l.count ≤ vec_capacity l.all;
}
