-- What was served is written.
use Rattle.std.proofs.Common.{rules, ◌≡◌, Some, None, Err, inl, inr}
use Rattle.basil_types.specs.Causes.{Rose, TookAll, TookPrefix}
use Rattle.node_link.specs.declared.fault.ServeFault.TheVariants as stops
use Rattle.command_ends.specs.Answers.{counted}
use Rattle.party_commands.specs.Nodes.{station_of}
use Rattle.command_ends.specs.Outcome.{link_fault_text, read_fault_text}
use Rattle.command_ends.specs.Endings.{outcome_is}
use Rattle.command_input.specs.declared.input.InputFail.TheVariants as input
use Rattle.party_commands.proofs.NodeLaws.{node_told, ok_map, refused_any, some_both, some_map, stopped_as, stopped_told, weaker_link}
use Rattle.party_commands.proofs.NodeLaws.{weaker_same, wrote, wrote_at, wrote_served}
use Rattle.party_commands.proofs.node.run_node.Goals as goal

pub returns-in-Ok-clause-seated : goal.returns-in-Ok-clause-seated
returns-in-Ok-clause-seated g c = λ done.
    let counts = counted (g.S.Source.faults c.args.source.now) (g.S.Source.faults c.serve_source.new.source)
    (g.L.Links.faults c.args.links.now) (g.L.Links.faults c.serve_source.new.links) in
    some_map (g.S.Source.left c.args.source.now) _ _
    (λ bytes. ok_map (station_of c.args.call.now.seat bytes) _ _
    (wrote c.write_ending.result (outcome_is c.in-Ok.ending) counts _ _ done (c.write_ending.ensures.answers counts)))
    c.in-Ok.ensures.seated

pub returns-in-Ok-clause-served : goal.returns-in-Ok-clause-served
returns-in-Ok-clause-served g c = λ s n done.
    let counts = counted (g.S.Source.faults c.args.source.now) (g.S.Source.faults c.serve_source.new.source)
    (g.L.Links.faults c.args.links.now) (g.L.Links.faults c.serve_source.new.links) in
    some_map (g.S.Source.left c.args.source.now) _ _
    (λ bytes so e b. wrote_served c.write_ending.result (outcome_is c.in-Ok.ending) counts _ _ done
    (c.write_ending.ensures.answers counts) s c.args.call.now.connections n _ _ _ _ (so e b))
    (c.in-Ok.ensures.served s n)

pub returns-in-Ok-clause-whole : goal.returns-in-Ok-clause-whole
returns-in-Ok-clause-whole g c = λ s n still done.
    let counts = counted (g.S.Source.faults c.args.source.now) (g.S.Source.faults c.serve_source.new.source)
    (g.L.Links.faults c.args.links.now) (g.L.Links.faults c.serve_source.new.links) in
    some_map (g.S.Source.left c.args.source.now) _ _
    (λ bytes so e b. wrote_at c.write_ending.result (outcome_is c.in-Ok.ending) counts _ _ done
    (c.write_ending.ensures.answers counts) _ _ _ (so e b))
    (c.in-Ok.ensures.whole s n still)

pub returns-in-Ok-clause-stands : goal.returns-in-Ok-clause-stands
returns-in-Ok-clause-stands g c = λ s n.
    some_map (g.S.Source.left c.args.source.now) _ _
    (λ bytes so e b. stopped_told s c.args.call.now.connections n _ _ _ _ c.write_ending.result c.write_ending.ensures.no_link (so e b))
    (c.in-Ok.ensures.stands s n)

pub returns-in-Ok-write-clause-stands : goal.returns-in-Ok-write-clause-stands
returns-in-Ok-write-clause-stands g c = λ s n.
    let ended : c.serve_source.result ≡ Err input.Failed = search rules in
    some_map (g.S.Source.left c.args.source.now) _ _
    (λ bytes so e b. stopped_as s c.args.call.now.connections n _ _ _ _ _ _ ended None (weaker_same None) (so e b))
    (c.serve_source.ensures.stands s n)

pub returns-in-Err-clause-stands : goal.returns-in-Err-clause-stands
returns-in-Err-clause-stands g c = λ s n.
    let ended : c.serve_source.result ≡ Err input.Failed = search rules in
    some_map (g.S.Source.left c.args.source.now) _ _
    (λ bytes so e b. stopped_as s c.args.call.now.connections n _ _ _ _ _ _ ended None (weaker_same None) (so e b))
    (c.serve_source.ensures.stands s n)

pub returns-in-Ok-write-2-clause-stands : goal.returns-in-Ok-write-2-clause-stands
returns-in-Ok-write-2-clause-stands g c = λ s n.
    let ended : c.serve_source.result ≡ Err input.Link = search rules in
    some_map (g.S.Source.left c.args.source.now) _ _
    (λ bytes so e b. stopped_as s c.args.call.now.connections n _ _ _ _ _ _ ended (Some stops.LinkFault) (weaker_same _) (so e b))
    (c.serve_source.ensures.stands s n)

pub returns-in-Err-write-clause-stands : goal.returns-in-Err-write-clause-stands
returns-in-Err-write-clause-stands g c = λ s n.
    let ended : c.serve_source.result ≡ Err input.Link = search rules in
    some_map (g.S.Source.left c.args.source.now) _ _
    (λ bytes so e b. stopped_as s c.args.call.now.connections n _ _ _ _ _ _ ended None weaker_link (so e b))
    (c.serve_source.ensures.stands s n)

pub returns-in-Err-NoMemory-clause-stands : goal.returns-in-Err-NoMemory-clause-stands
returns-in-Err-NoMemory-clause-stands g c = λ s n.
    let ended : c.serve_source.result ≡ Err input.NoMemory = search rules in
    some_map (g.S.Source.left c.args.source.now) _ _
    (λ bytes so e b. stopped_as s c.args.call.now.connections n _ _ _ _ _ _ ended (Some stops.NoMemory) (weaker_same _) (so e b))
    (c.serve_source.ensures.stands s n)

pub returns-in-Ok-clause-complete : goal.returns-in-Ok-clause-complete
returns-in-Ok-clause-complete g c = λ read write link.
    let counts = counted (g.S.Source.faults c.args.source.now) (g.S.Source.faults c.serve_source.new.source)
    (g.L.Links.faults c.args.links.now) (g.L.Links.faults c.serve_source.new.links) in
    some_both (g.S.Source.left c.args.source.now) _ _ _
    (λ bytes refused seated. node_told c.write_ending.result (outcome_is c.in-Ok.ending) counts (g.K.Sink.taken c.args.sink.now)
    (g.K.Sink.taken c.write_ending.new.sink) (station_of c.args.call.now.seat bytes) refused seated
    (c.write_ending.ensures.complete write))
    c.in-Ok.ensures.refused c.in-Ok.ensures.seated

pub returns-in-Ok-write-clause-refused : goal.returns-in-Ok-write-clause-refused
returns-in-Ok-write-clause-refused g c =
    let all : TookAll (g.K.Sink.taken c.args.sink.now) (g.K.Sink.taken c.write.new.self) read_fault_text = search rules in
    refused_any (g.S.Source.left c.args.source.now) c.args.call.now.seat _ (λ o. all)

pub returns-in-Err-clause-refused : goal.returns-in-Err-clause-refused
returns-in-Err-clause-refused g c =
    let rose : Rose (g.S.Source.faults c.args.source.now) (g.S.Source.faults c.serve_source.new.source) = search rules in
    let prefix : TookPrefix (g.K.Sink.taken c.args.sink.now) (g.K.Sink.taken c.write.new.self) read_fault_text = search rules in
    refused_any (g.S.Source.left c.args.source.now) c.args.call.now.seat _ (λ o. inr (inl (record { rose = rose; prefix = prefix })))

pub returns-in-Ok-write-2-clause-refused : goal.returns-in-Ok-write-2-clause-refused
returns-in-Ok-write-2-clause-refused g c =
    let all : TookAll (g.K.Sink.taken c.args.sink.now) (g.K.Sink.taken c.write-in-Err-Link.new.self) link_fault_text = search rules in
    refused_any (g.S.Source.left c.args.source.now) c.args.call.now.seat _ (λ o. all)

pub returns-in-Err-write-clause-refused : goal.returns-in-Err-write-clause-refused
returns-in-Err-write-clause-refused g c =
    let rose : Rose (g.L.Links.faults c.args.links.now) (g.L.Links.faults c.serve_source.new.links) = search rules in
    let prefix : TookPrefix (g.K.Sink.taken c.args.sink.now) (g.K.Sink.taken c.write-in-Err-Link.new.self) link_fault_text = search rules in
    refused_any (g.S.Source.left c.args.source.now) c.args.call.now.seat _ (λ o. inr (inr (record { rose = rose; prefix = prefix })))
