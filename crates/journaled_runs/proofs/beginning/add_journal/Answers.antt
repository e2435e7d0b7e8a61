use Rattle.std.proofs.Common.{◌∙◌, sym, ap}
use Rattle.cluster_run.specs.Parts.{replica_self}
use Rattle.cluster_run.specs.States.{first_standing}
use Rattle.run_journals.specs.Journals.{fresh}
use Rattle.journaled_runs.specs.Shown.{pen_of}
use Rattle.journaled_runs.proofs.BeginLaws.{begun_one, correct_added, faulty_added}
use Rattle.journaled_runs.proofs.beginning.add_journal.Goals as goal

pub returns-then-is_faulty : goal.returns-then-is_faulty
returns-then-is_faulty g c = λ s st cluster kit shows.
    faulty_added s c.args.journals.now (first_standing s c.args.shard c.args.index)
    (sym (c.is_faulty.ensures s st shows) ∙ c.if-is_faulty.true)

pub returns : goal.returns
returns g c = λ s st cluster kit shows.
    correct_added s c.args.journals.now c.add.new.self (first_standing s c.args.shard c.args.index)
    (sym (c.is_faulty.ensures s st shows) ∙ c.if-is_faulty.false)
    (λ before h. c.in_ok-add.ensures.added (replica_self s) (pen_of s) before (fresh c.args.shard c.args.index) h
    (begun_one s (g.K.Kit.value c.kit.result.now) c.args.cluster c.args.shard c.args.index _ _ _ c.in_ok-journal.journal cluster
    (kit ∙ ap g.K.Kit.value (sym c.kit.ensures)) c.in_ok-own.ensures.kit c.in_ok-journal.ensures))
