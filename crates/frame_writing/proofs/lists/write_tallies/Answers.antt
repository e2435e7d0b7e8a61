use Rattle.frame_views.specs.Fitting.{widest, after_tally, FitsTally}
use Rattle.frame_values.specs.Owned.{tally_value}
use Rattle.frame_writing.proofs.PartLaws.{each_fits}
use Rattle.frame_writing.proofs.lists.write_tallies.Goals as goal

pub write_tally-requires : goal.write_tally-requires
write_tally-requires c =
    rw c.part-item.is
    (each_fits (FitsTally widest) after_tally tally_value c.args.tallies.now c.requires c.loop-part.part-index _ c.loop-part-test.true)
