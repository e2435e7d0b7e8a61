use Rattle.std.proofs.Common.{◌≡◌, ◌/◌, ◌^◌}
use Rattle.batch_sign.specs.Parting.{nodes_at}
use Rattle.batch_sign.specs.Places.{parting, text_above}
use Rattle.batch_sign.specs.Trees.{climbed, depth_over, leaf_of, path_over}
use Rattle.batch_sign.specs.Signatures.{depth_in, leaf_number_in, path_in}
use Rattle.batch_sign.proofs.finding.ways_part.Given as goal

abbrev pub invariant-loop-level : goal.invariant-loop-level
invariant-loop-level l =
    let r = leaf_number_in l.signature in
    let path = path_in l.signature in
    let tree = path_over l.leaves (depth_over l.leaves) r in
    let first = text_above path r l.message in
    let second = text_above tree r l.held in
    record {
      depth : l.depth ≡ depth_in l.signature;
      number : l.number ≡ r / 2 ^ l.level;
      own : l.own ≡ climbed path r (leaf_of l.message) l.level;
      other : l.other ≡ climbed tree r (leaf_of l.held) l.level;
      last : l.last ≡ nodes_at first second (parting first second l.level);
    }
