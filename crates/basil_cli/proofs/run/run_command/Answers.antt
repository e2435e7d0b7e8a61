use Rattle.std.proofs.Common.{rules, inl, inr}
use Rattle.basil_types.specs.Causes.{Rose, TookPrefix}
use Rattle.command_ends.specs.Answers.{counted}
use Rattle.command_ends.specs.Outcome.{link_fault_text, read_fault_text}
use Rattle.command_ends.specs.declared.status.Status.TheVariants as ends
use Rattle.basil_cli.proofs.Arguments.{ending_answers, ending_told, fault_answers}
use Rattle.basil_cli.proofs.run.run_command.Goals as goal

pub returns-in-Ok-clause-answers : goal.returns-in-Ok-clause-answers
returns-in-Ok-clause-answers g c =
    let counts = counted (g.S.Source.faults c.args.source.now) (g.S.Source.faults c.ending_for.new.source)
    (g.L.Links.faults c.args.links.now) (g.L.Links.faults c.ending_for.new.links) in
    ending_answers c.args.command.now (g.L.Links.told c.args.links.now) (g.L.Links.told c.ending_for.new.links)
    (g.S.Source.left c.args.source.now) c.write_ending.result c.in-Ok.ending counts (g.K.Sink.taken c.args.sink.now)
    (g.K.Sink.taken c.write_ending.new.sink) c.in-Ok.ensures.outcome (c.write_ending.ensures.answers counts)

pub returns-in-Ok-clause-complete : goal.returns-in-Ok-clause-complete
returns-in-Ok-clause-complete g c = λ read write link.
    ending_told c.args.command.now (g.L.Links.told c.args.links.now) (g.L.Links.told c.ending_for.new.links)
    (g.S.Source.left c.args.source.now) c.write_ending.result c.in-Ok.ending c.in-Ok.ensures.outcome (c.write_ending.ensures.complete write)

pub returns-in-Err-clause-answers : goal.returns-in-Err-clause-answers
returns-in-Err-clause-answers g c =
    let counts = counted (g.S.Source.faults c.args.source.now) (g.S.Source.faults c.ending_for.new.source)
    (g.L.Links.faults c.args.links.now) (g.L.Links.faults c.ending_for.new.links) in
    let old = g.K.Sink.taken c.args.sink.now in
    let new = g.K.Sink.taken c.write.new.self in
    let rose : Rose (g.S.Source.faults c.args.source.now) (g.S.Source.faults c.ending_for.new.source) = search rules in
    let prefix : TookPrefix old new read_fault_text = search rules in
    fault_answers c.args.command.now (g.L.Links.told c.args.links.now) (g.L.Links.told c.ending_for.new.links)
    (g.S.Source.left c.args.source.now) ends.WriteFault counts old new
    c.in-Err-Failed.ensures.outcome (λ o. inr (inl (record { rose = rose; prefix = prefix })))

pub returns-in-Err-write-clause-answers : goal.returns-in-Err-write-clause-answers
returns-in-Err-write-clause-answers g c =
    let counts = counted (g.S.Source.faults c.args.source.now) (g.S.Source.faults c.ending_for.new.source)
    (g.L.Links.faults c.args.links.now) (g.L.Links.faults c.ending_for.new.links) in
    let old = g.K.Sink.taken c.args.sink.now in
    let new = g.K.Sink.taken c.write-in-Err-Link.new.self in
    let rose : Rose (g.L.Links.faults c.args.links.now) (g.L.Links.faults c.ending_for.new.links) = search rules in
    let prefix : TookPrefix old new link_fault_text = search rules in
    fault_answers c.args.command.now (g.L.Links.told c.args.links.now) (g.L.Links.told c.ending_for.new.links)
    (g.S.Source.left c.args.source.now) ends.WriteFault counts old new
    c.in-Err-Link.ensures.outcome (λ o. inr (inr (record { rose = rose; prefix = prefix })))
