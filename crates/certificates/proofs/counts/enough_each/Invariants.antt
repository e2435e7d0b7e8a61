use Rattle.std.proofs.Common.{◌≡◌}
use Rattle.frame_views.specs.Items.{tallies_of, tallies_left}
use Rattle.certificates.specs.Refusals.{few_listed}
use Rattle.certificates.proofs.counts.enough_each.Given as goal

abbrev pub invariant-loop-tally : goal.invariant-loop-tally
invariant-loop-tally l = few_listed l.needed (tallies_left l.tally-iterator) ≡ few_listed l.needed (tallies_of l.tallies)
