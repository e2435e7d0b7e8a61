use Rattle.std.proofs.Common.{◌≡◌, ◌*◌, ◌+◌, take, length}
use Rattle.rand_chacha.specs.ChaCha.{key_of}
use Rattle.lms_sign.specs.Randomizer.{stream_bytes}
use Rattle.lms_sign.proofs.randomizer.randomizer.Given as goal

abbrev pub invariant-loop-i : goal.invariant-loop-i
invariant-loop-i l = record {
  stream : l.stream ≡ record { key = key_of l.seed; stream = l.q + 1; word_pos = l.i };
  len : length l.c ≡ 32;
  written : take (4 * l.i) l.c ≡ stream_bytes l.seed (l.q + 1) l.i;
}
