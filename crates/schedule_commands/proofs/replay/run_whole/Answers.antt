use Rattle.std.proofs.Common.{[], false}
use Rattle.schedule_replay.specs.Outcomes.{replay_of}
use Rattle.schedule_commands.proofs.Behind.{closes_alone, faults_alone, faults_by}
use Rattle.schedule_commands.proofs.replay.run_whole.Goals as goal

pub take-requires : goal.take-requires
take-requires c = ([], [], c.new-start.ensures false)

pub returns-in_err-reading : goal.returns-in_err-reading
returns-in_err-reading c =
    faults_by c.from_residual.result c.in_err-reading.field-0.0 (replay_of c.args.text.now) c.from_residual.ensures.1
    (faults_alone c.in_err-reading.field-0.0 c.args.text.now (λ h. let carried = c.in_err-reading.ensures.links.carries h in absurd cc)
    (c.in_err-reading.ensures.reads.should [] [] [] (c.new-start.ensures false)))

pub end-requires : goal.end-requires
end-requires c =
    let reads = c.in_ok-reading.ensures.reads in
    (reads.gave, c.args.text.now, λ later. reads.should [] later [] (c.new-start.ensures false))

pub returns : goal.returns
returns c =
    let reads = c.in_ok-reading.ensures.reads in
    closes_alone c.end.result (replay_of c.args.text.now) (λ h. let carried = c.end.ensures.links.carries h in absurd cc)
    (c.end.ensures.ends.should reads.gave [] c.args.text.now (λ later. reads.should [] later [] (c.new-start.ensures false)))
