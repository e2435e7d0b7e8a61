-- What the run came to is written.
use Rattle.std.proofs.Common.{rules, inl, inr}
use Rattle.basil_types.specs.Causes.{Rose, TookAll, TookPrefix}
use Rattle.command_ends.specs.Answers.{counted}
use Rattle.party_commands.specs.Clients.{client_station}
use Rattle.command_ends.specs.Outcome.{read_fault_text}
use Rattle.command_ends.specs.Endings.{outcome_is}
use Rattle.party_commands.proofs.ClientLaws.{client_refused_any, client_told}
use Rattle.party_commands.proofs.NodeLaws.{some_both, some_map}
use Rattle.party_commands.proofs.client.run_client.Goals as goal

pub returns-in-Ok-clause-ran : goal.returns-in-Ok-clause-ran
returns-in-Ok-clause-ran g c = λ s moments state outcomes ticks told.
    let counts = counted (g.S.Source.faults c.args.source.now) (g.S.Source.faults c.run_source.new.source)
    (g.L.Links.faults c.args.links.now) (g.L.Links.faults c.run_source.new.links) in
    some_map (g.S.Source.left c.args.source.now) _ _
    (λ bytes ran e. record { outcome = outcome_is c.in-Ok.ending; ran = ran e; answers = c.write_ending.ensures.answers counts })
    (c.in-Ok.ensures.ran s moments state ticks told)

pub returns-in-Ok-clause-complete : goal.returns-in-Ok-clause-complete
returns-in-Ok-clause-complete g c = λ read write.
    some_both (g.S.Source.left c.args.source.now) _ _ _
    (λ bytes refused ending. client_told c.write_ending.result (outcome_is c.in-Ok.ending) (client_station c.args.call.now.seat bytes)
    refused ending (c.write_ending.ensures.complete write))
    c.in-Ok.ensures.refused c.in-Ok.ensures.ending

pub returns-in-Ok-write-clause-refused : goal.returns-in-Ok-write-clause-refused
returns-in-Ok-write-clause-refused g c =
    let all : TookAll (g.K.Sink.taken c.args.sink.now) (g.K.Sink.taken c.write.new.self) read_fault_text = search rules in
    client_refused_any (g.S.Source.left c.args.source.now) c.args.call.now.seat _ (λ o. all)

pub returns-in-Err-clause-refused : goal.returns-in-Err-clause-refused
returns-in-Err-clause-refused g c =
    let rose : Rose (g.S.Source.faults c.args.source.now) (g.S.Source.faults c.run_source.new.source) = search rules in
    let prefix : TookPrefix (g.K.Sink.taken c.args.sink.now) (g.K.Sink.taken c.write.new.self) read_fault_text = search rules in
    client_refused_any (g.S.Source.left c.args.source.now) c.args.call.now.seat _
    (λ o. inr (inl (record { rose = rose; prefix = prefix })))
