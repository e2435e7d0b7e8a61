use Rattle.std.proofs.Common.{◌||◌, ◌==◌, ◌∙◌, ap, sym, arith}
use Rattle.std.proofs.lemmas.List.{length-set}
use Rattle.txn_meta.specs.Places.{is_marked}
use Rattle.frame_views.specs.Items.{tallies_left}
use Rattle.certificates.specs.Tallies.{lists}
use Rattle.certificates.proofs.ShardLaws.{marked_more, moved}
use Rattle.certificates.proofs.shards.listed_marks.Goals as goal

pub loop-tally-preserved-then-place-lt8 : goal.loop-tally-preserved-then-place-lt8
loop-tally-preserved-then-place-lt8 c = record {
  eight = length-set _ _ _ ∙ c.loop-tally.invariant.eight;
  marked = λ s h.
      ap (λ b. b || lists (tallies_left c.next.new.self) s) (marked_more c.loop-tally.marks c.in-Some.tally.shard s (omega arith))
      ∙ moved (c.in-Some.tally.shard == s) (is_marked c.loop-tally.marks s) (lists (tallies_left c.next.new.self) s) _
      (sym (ap (λ ts. is_marked c.loop-tally.marks s || lists ts s) c.in-Some.ensures.steps) ∙ c.loop-tally.invariant.marked s h);
}
