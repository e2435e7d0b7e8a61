use Rattle.frame_views.specs.Fitting.{widest, after_word, FitsWord}
use Rattle.frame_values.specs.Owned.{word_value}
use Rattle.frame_writing.proofs.PartLaws.{each_fits}
use Rattle.frame_writing.proofs.lists.write_words.Goals as goal

pub write_word-requires : goal.write_word-requires
write_word-requires c =
    rw c.part-item.is
    (each_fits (FitsWord widest) after_word word_value c.args.words.now c.requires c.loop-part.part-index _ c.loop-part-test.true)
