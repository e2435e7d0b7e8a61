use Rattle.std.proofs.Common.{◌∙◌, ap, sym}
use Rattle.journal_disk.specs.Memory.{MemDiskState}
use Rattle.node_journal.specs.Steps.{handed}
use Rattle.run_journals.specs.Journals.{after_stop}
use Rattle.run_journals.proofs.StopLaws.{going-awaits}
use Rattle.run_journals.proofs.TookLaws.{stop-stays}
use Rattle.run_journals.proofs.journal.RunJournal.stop.Goals as goal

pub returns-clause-took : goal.returns-clause-took
returns-clause-took g c me begun x j =
    c.in_ok-took.ensures.took me begun c.args.stop x
    (going-awaits c.args.self.now.journaled c.stop_in.new.self me begun c.args.stop x j.going c.stop_in.ensures.replica
    (c.stop_in.ensures.reflects begun x.taken j.going.reflects) (ap (λ (d : MemDiskState). d.stops) c.stop_in.ensures.disk))
    c.requires.write

pub returns-clause-journal : goal.returns-clause-journal
returns-clause-journal g c me begun x j of =
    let h = handed c.args.now c.args.from c.args.frame.now in
    let stays = stop-stays h c.args.stop x c.in_ok-took.took in
    record {
      shard = c.in_ok-start_again.ensures.shard ∙ c.in_ok-took.ensures.shard ∙ j.shard ∙ sym stays.shard;
      index = c.in_ok-start_again.ensures.index ∙ c.in_ok-took.ensures.index ∙ j.index ∙ sym stays.index;
      going = c.in_ok-start_again.ensures.going me begun (after_stop x h c.args.stop c.in_ok-took.took)
          (c.in_ok-took.ensures.left me begun c.args.stop x
          (going-awaits c.args.self.now.journaled c.stop_in.new.self me begun c.args.stop x j.going c.stop_in.ensures.replica
          (c.stop_in.ensures.reflects begun x.taken j.going.reflects) (ap (λ (d : MemDiskState). d.stops) c.stop_in.ensures.disk))
          c.requires.write) of;
    }
