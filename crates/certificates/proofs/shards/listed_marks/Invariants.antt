use Rattle.std.proofs.Common.{◌≡◌, ◌<◌, ◌||◌, ℕ, length}
use Rattle.txn_meta.specs.Places.{is_marked}
use Rattle.frame_views.specs.Items.{tallies_of, tallies_left}
use Rattle.certificates.specs.Tallies.{lists}
use Rattle.certificates.proofs.shards.listed_marks.Given as goal

abbrev pub invariant-loop-tally : goal.invariant-loop-tally
invariant-loop-tally l = record {
  eight : length l.marks ≡ 8;
  marked : (s : ℕ) → s < 8 → (is_marked l.marks s || lists (tallies_left l.tally-iterator) s) ≡ lists (tallies_of l.tallies) s;
}
