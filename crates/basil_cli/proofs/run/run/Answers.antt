-- A node's arguments are no other command.
use Rattle.std.proofs.Common.{rules, ◌≡◌, Some, None, Ok, map, string_bytes, refl, subst}
use Rattle.std.specs.Prelude.{IfErr, IfSome}
use Rattle.party_seat.specs.Serving.{Begins, HasStopped, serves_at}
use Rattle.command_ends.specs.Answers.{Answers, counted}
use Rattle.party_commands.specs.Clients.{ToldRun, client_of, client_station}
use Rattle.command_input.specs.Commands.{command_of}
use Rattle.party_commands.specs.Nodes.{WroteAt, WroteServed, node_of, station_of, stop_told}
use Rattle.command_ends.specs.Outcome.{is_too_long}
use Rattle.party_commands.specs.declared.client.ClientCall.{ClientCall}
use Rattle.party_commands.specs.declared.node.NodeCall.{NodeCall}
use Rattle.basil_cli.proofs.Arguments.{untaken_arguments}
use Rattle.basil_cli.proofs.PartyArguments.{client_is_none, client_wanting, no_such, node_is_none, node_no_client, node_wanting}
use Rattle.basil_cli.proofs.PartyArguments.{not_read, same_call, same_client}
use Rattle.party_commands.proofs.ClientLaws.{client_refused_any}
use Rattle.party_commands.proofs.NodeLaws.{not_begun, refused_any, some_any}
use Rattle.command_input.proofs.Stopping.{untaken}
use Rattle.basil_cli.proofs.run.run.Goals as goal

pub returns-in-Ok-Some-Node-clause-safe : goal.returns-in-Ok-Some-Node-clause-safe
returns-in-Ok-Some-Node-clause-safe g c = λ carried e f.
    let said : node_of (map string_bytes c.args.arguments.now) ≡ Some c.in-Ok-Some-Node.call = search rules in
    let none : command_of (map string_bytes c.args.arguments.now) ≡ None =
    node_is_none (map string_bytes c.args.arguments.now) c.in-Ok-Some-Node.call said in
    absurd cc

pub returns-in-Ok-Some-Node-clause-broken : goal.returns-in-Ok-Some-Node-clause-broken
returns-in-Ok-Some-Node-clause-broken g c = λ carried e f.
    let said : node_of (map string_bytes c.args.arguments.now) ≡ Some c.in-Ok-Some-Node.call = search rules in
    let none : command_of (map string_bytes c.args.arguments.now) ≡ None =
    node_is_none (map string_bytes c.args.arguments.now) c.in-Ok-Some-Node.call said in
    absurd cc

pub returns-in-Ok-Some-Node-clause-unbatched : goal.returns-in-Ok-Some-Node-clause-unbatched
returns-in-Ok-Some-Node-clause-unbatched g c = λ claim e f.
    let said : node_of (map string_bytes c.args.arguments.now) ≡ Some c.in-Ok-Some-Node.call = search rules in
    no_such (command_of (map string_bytes c.args.arguments.now)) _
    (node_is_none (map string_bytes c.args.arguments.now) c.in-Ok-Some-Node.call said) e _

pub returns-in-Ok-Some-Node-clause-through : goal.returns-in-Ok-Some-Node-clause-through
returns-in-Ok-Some-Node-clause-through g c = λ e f.
    let said : node_of (map string_bytes c.args.arguments.now) ≡ Some c.in-Ok-Some-Node.call = search rules in
    not_read (command_of (map string_bytes c.args.arguments.now))
    (node_is_none (map string_bytes c.args.arguments.now) c.in-Ok-Some-Node.call said) e _

pub returns-in-Ok-Some-Node-clause-node_served : goal.returns-in-Ok-Some-Node-clause-node_served
returns-in-Ok-Some-Node-clause-node_served g c = λ call s n e done.
    let said : node_of (map string_bytes c.args.arguments.now) ≡ Some c.in-Ok-Some-Node.call = search rules in
    subst
    (λ (x : NodeCall). IfSome (g.S.Source.left c.args.source.now) (λ bytes. station_of x.seat bytes ≡ Ok s →
    Begins s (g.C.Clock.moments c.args.clock.now) (g.L.Links.told c.args.links.now) n →
    WroteServed s x.connections n (g.C.Clock.moments c.run_node.new.clock) (g.L.Links.told c.run_node.new.links)
    (g.L.Links.faults c.args.links.now) (g.L.Links.faults c.run_node.new.links)
    (g.K.Sink.taken c.args.sink.now) (g.K.Sink.taken c.run_node.new.sink)))
    (same_call (map string_bytes c.args.arguments.now) c.in-Ok-Some-Node.call call said e) (c.run_node.ensures.served s n done)

pub returns-in-Ok-Some-Node-clause-node_whole : goal.returns-in-Ok-Some-Node-clause-node_whole
returns-in-Ok-Some-Node-clause-node_whole g c = λ call s n e still done.
    let said : node_of (map string_bytes c.args.arguments.now) ≡ Some c.in-Ok-Some-Node.call = search rules in
    subst
    (λ (x : NodeCall). IfSome (g.S.Source.left c.args.source.now) (λ bytes. station_of x.seat bytes ≡ Ok s →
    Begins s (g.C.Clock.moments c.args.clock.now) (g.L.Links.told c.args.links.now) n →
    WroteAt (serves_at s x.connections n) (g.C.Clock.moments c.run_node.new.clock) (g.L.Links.told c.run_node.new.links)
    (g.K.Sink.taken c.args.sink.now) (g.K.Sink.taken c.run_node.new.sink)))
    (same_call (map string_bytes c.args.arguments.now) c.in-Ok-Some-Node.call call said e) (c.run_node.ensures.whole s n still done)

pub returns-in-Ok-Some-Node-clause-node_stands : goal.returns-in-Ok-Some-Node-clause-node_stands
returns-in-Ok-Some-Node-clause-node_stands g c = λ call s n e.
    let said : node_of (map string_bytes c.args.arguments.now) ≡ Some c.in-Ok-Some-Node.call = search rules in
    subst
    (λ (x : NodeCall). IfSome (g.S.Source.left c.args.source.now) (λ bytes. station_of x.seat bytes ≡ Ok s →
    Begins s (g.C.Clock.moments c.args.clock.now) (g.L.Links.told c.args.links.now) n →
    HasStopped s x.connections n (g.C.Clock.moments c.run_node.new.clock) (g.L.Links.told c.run_node.new.links)
    (g.L.Links.faults c.args.links.now) (g.L.Links.faults c.run_node.new.links) (stop_told c.run_node.result)))
    (same_call (map string_bytes c.args.arguments.now) c.in-Ok-Some-Node.call call said e) (c.run_node.ensures.stands s n)

pub returns-in-Err-clause-soon : goal.returns-in-Err-clause-soon
returns-in-Err-clause-soon g c = λ none.
    untaken_arguments (command_of (map string_bytes c.args.arguments.now))
    (g.L.Links.told c.args.links.now) (g.S.Source.left c.args.source.now)

pub returns-in-Err-clause-node_refused : goal.returns-in-Err-clause-node_refused
returns-in-Err-clause-node_refused g c = λ call e. refused_any (g.S.Source.left c.args.source.now) call.seat _ (λ o. refl)

pub returns-in-Err-clause-node_idle : goal.returns-in-Err-clause-node_idle
returns-in-Err-clause-node_idle g c = λ call e. refused_any (g.S.Source.left c.args.source.now) call.seat _ (λ o. refl)

pub returns-in-Err-clause-node_still : goal.returns-in-Err-clause-node_still
returns-in-Err-clause-node_still g c = λ call e. refused_any (g.S.Source.left c.args.source.now) call.seat _ (λ o. refl)

pub returns-in-Err-clause-node_stands : goal.returns-in-Err-clause-node_stands
returns-in-Err-clause-node_stands g c = λ call s n e.
    some_any (g.S.Source.left c.args.source.now) _ (λ bytes at b. not_begun s _ _ _ n _ _ refl b)

pub returns-in-Err-clause-node_complete : goal.returns-in-Err-clause-node_complete
returns-in-Err-clause-node_complete g c = λ call e read write link.
    some_any (g.S.Source.left c.args.source.now) _ (λ bytes. node_wanting (station_of call.seat bytes))

pub returns-in-Err-clause-node_soon : goal.returns-in-Err-clause-node_soon
returns-in-Err-clause-node_soon g c = λ call e. untaken is_too_long (g.S.Source.left c.args.source.now)

pub returns-in-Ok-Some-Node-clause-client_refused : goal.returns-in-Ok-Some-Node-clause-client_refused
returns-in-Ok-Some-Node-clause-client_refused g c = λ call e.
    let said : node_of (map string_bytes c.args.arguments.now) ≡ Some c.in-Ok-Some-Node.call = search rules in
    no_such (client_of (map string_bytes c.args.arguments.now)) call
    (node_no_client (map string_bytes c.args.arguments.now) c.in-Ok-Some-Node.call said) e _

pub returns-in-Ok-Some-Node-clause-client_idle : goal.returns-in-Ok-Some-Node-clause-client_idle
returns-in-Ok-Some-Node-clause-client_idle g c = λ call e.
    let said : node_of (map string_bytes c.args.arguments.now) ≡ Some c.in-Ok-Some-Node.call = search rules in
    no_such (client_of (map string_bytes c.args.arguments.now)) call
    (node_no_client (map string_bytes c.args.arguments.now) c.in-Ok-Some-Node.call said) e _

pub returns-in-Ok-Some-Node-clause-client_still : goal.returns-in-Ok-Some-Node-clause-client_still
returns-in-Ok-Some-Node-clause-client_still g c = λ call e.
    let said : node_of (map string_bytes c.args.arguments.now) ≡ Some c.in-Ok-Some-Node.call = search rules in
    no_such (client_of (map string_bytes c.args.arguments.now)) call
    (node_no_client (map string_bytes c.args.arguments.now) c.in-Ok-Some-Node.call said) e _

pub returns-in-Ok-Some-Node-clause-client_ran : goal.returns-in-Ok-Some-Node-clause-client_ran
returns-in-Ok-Some-Node-clause-client_ran g c = λ call s moments state e outcomes ticks told.
    let said : node_of (map string_bytes c.args.arguments.now) ≡ Some c.in-Ok-Some-Node.call = search rules in
    no_such (client_of (map string_bytes c.args.arguments.now)) call
    (node_no_client (map string_bytes c.args.arguments.now) c.in-Ok-Some-Node.call said) e _

pub returns-in-Ok-Some-Node-clause-client_complete : goal.returns-in-Ok-Some-Node-clause-client_complete
returns-in-Ok-Some-Node-clause-client_complete g c = λ call e read write.
    let said : node_of (map string_bytes c.args.arguments.now) ≡ Some c.in-Ok-Some-Node.call = search rules in
    no_such (client_of (map string_bytes c.args.arguments.now)) call
    (node_no_client (map string_bytes c.args.arguments.now) c.in-Ok-Some-Node.call said) e _

pub returns-in-Ok-Some-Client-clause-safe : goal.returns-in-Ok-Some-Client-clause-safe
returns-in-Ok-Some-Client-clause-safe g c = λ carried e f.
    let said : client_of (map string_bytes c.args.arguments.now) ≡ Some c.in-Ok-Some-Client.call = search rules in
    no_such (command_of (map string_bytes c.args.arguments.now)) _
    (client_is_none (map string_bytes c.args.arguments.now) c.in-Ok-Some-Client.call said).0 e _

pub returns-in-Ok-Some-Client-clause-safe_in_part : goal.returns-in-Ok-Some-Client-clause-safe_in_part
returns-in-Ok-Some-Client-clause-safe_in_part g c = λ carried e f.
    let said : client_of (map string_bytes c.args.arguments.now) ≡ Some c.in-Ok-Some-Client.call = search rules in
    no_such (command_of (map string_bytes c.args.arguments.now)) _
    (client_is_none (map string_bytes c.args.arguments.now) c.in-Ok-Some-Client.call said).0 e _

pub returns-in-Ok-Some-Client-clause-broken : goal.returns-in-Ok-Some-Client-clause-broken
returns-in-Ok-Some-Client-clause-broken g c = λ carried e f.
    let said : client_of (map string_bytes c.args.arguments.now) ≡ Some c.in-Ok-Some-Client.call = search rules in
    no_such (command_of (map string_bytes c.args.arguments.now)) _
    (client_is_none (map string_bytes c.args.arguments.now) c.in-Ok-Some-Client.call said).0 e _

pub returns-in-Ok-Some-Client-clause-load_safe : goal.returns-in-Ok-Some-Client-clause-load_safe
returns-in-Ok-Some-Client-clause-load_safe g c = λ size e f.
    let said : client_of (map string_bytes c.args.arguments.now) ≡ Some c.in-Ok-Some-Client.call = search rules in
    no_such (command_of (map string_bytes c.args.arguments.now)) _
    (client_is_none (map string_bytes c.args.arguments.now) c.in-Ok-Some-Client.call said).0 e _

pub returns-in-Ok-Some-Client-clause-load_safe_in_part : goal.returns-in-Ok-Some-Client-clause-load_safe_in_part
returns-in-Ok-Some-Client-clause-load_safe_in_part g c = λ size e f.
    let said : client_of (map string_bytes c.args.arguments.now) ≡ Some c.in-Ok-Some-Client.call = search rules in
    no_such (command_of (map string_bytes c.args.arguments.now)) _
    (client_is_none (map string_bytes c.args.arguments.now) c.in-Ok-Some-Client.call said).0 e _

pub returns-in-Ok-Some-Client-clause-load_broken : goal.returns-in-Ok-Some-Client-clause-load_broken
returns-in-Ok-Some-Client-clause-load_broken g c = λ size e f.
    let said : client_of (map string_bytes c.args.arguments.now) ≡ Some c.in-Ok-Some-Client.call = search rules in
    no_such (command_of (map string_bytes c.args.arguments.now)) _
    (client_is_none (map string_bytes c.args.arguments.now) c.in-Ok-Some-Client.call said).0 e _

pub returns-in-Ok-Some-Client-clause-unbatched : goal.returns-in-Ok-Some-Client-clause-unbatched
returns-in-Ok-Some-Client-clause-unbatched g c = λ claim e f.
    let said : client_of (map string_bytes c.args.arguments.now) ≡ Some c.in-Ok-Some-Client.call = search rules in
    no_such (command_of (map string_bytes c.args.arguments.now)) _
    (client_is_none (map string_bytes c.args.arguments.now) c.in-Ok-Some-Client.call said).0 e _

pub returns-in-Ok-Some-Client-clause-through : goal.returns-in-Ok-Some-Client-clause-through
returns-in-Ok-Some-Client-clause-through g c = λ e f.
    let said : client_of (map string_bytes c.args.arguments.now) ≡ Some c.in-Ok-Some-Client.call = search rules in
    not_read (command_of (map string_bytes c.args.arguments.now))
    (client_is_none (map string_bytes c.args.arguments.now) c.in-Ok-Some-Client.call said).0 e _

pub returns-in-Ok-Some-Client-clause-node_refused : goal.returns-in-Ok-Some-Client-clause-node_refused
returns-in-Ok-Some-Client-clause-node_refused g c = λ call e.
    let said : client_of (map string_bytes c.args.arguments.now) ≡ Some c.in-Ok-Some-Client.call = search rules in
    no_such (node_of (map string_bytes c.args.arguments.now)) call
    (client_is_none (map string_bytes c.args.arguments.now) c.in-Ok-Some-Client.call said).1 e _

pub returns-in-Ok-Some-Client-clause-node_idle : goal.returns-in-Ok-Some-Client-clause-node_idle
returns-in-Ok-Some-Client-clause-node_idle g c = λ call e.
    let said : client_of (map string_bytes c.args.arguments.now) ≡ Some c.in-Ok-Some-Client.call = search rules in
    no_such (node_of (map string_bytes c.args.arguments.now)) call
    (client_is_none (map string_bytes c.args.arguments.now) c.in-Ok-Some-Client.call said).1 e _

pub returns-in-Ok-Some-Client-clause-node_still : goal.returns-in-Ok-Some-Client-clause-node_still
returns-in-Ok-Some-Client-clause-node_still g c = λ call e.
    let said : client_of (map string_bytes c.args.arguments.now) ≡ Some c.in-Ok-Some-Client.call = search rules in
    no_such (node_of (map string_bytes c.args.arguments.now)) call
    (client_is_none (map string_bytes c.args.arguments.now) c.in-Ok-Some-Client.call said).1 e _

pub returns-in-Ok-Some-Client-clause-node_written : goal.returns-in-Ok-Some-Client-clause-node_written
returns-in-Ok-Some-Client-clause-node_written g c = λ call e done.
    let said : client_of (map string_bytes c.args.arguments.now) ≡ Some c.in-Ok-Some-Client.call = search rules in
    no_such (node_of (map string_bytes c.args.arguments.now)) call
    (client_is_none (map string_bytes c.args.arguments.now) c.in-Ok-Some-Client.call said).1 e _

pub returns-in-Ok-Some-Client-clause-node_served : goal.returns-in-Ok-Some-Client-clause-node_served
returns-in-Ok-Some-Client-clause-node_served g c = λ call s n e done.
    let said : client_of (map string_bytes c.args.arguments.now) ≡ Some c.in-Ok-Some-Client.call = search rules in
    no_such (node_of (map string_bytes c.args.arguments.now)) call
    (client_is_none (map string_bytes c.args.arguments.now) c.in-Ok-Some-Client.call said).1 e _

pub returns-in-Ok-Some-Client-clause-node_whole : goal.returns-in-Ok-Some-Client-clause-node_whole
returns-in-Ok-Some-Client-clause-node_whole g c = λ call s n e still done.
    let said : client_of (map string_bytes c.args.arguments.now) ≡ Some c.in-Ok-Some-Client.call = search rules in
    no_such (node_of (map string_bytes c.args.arguments.now)) call
    (client_is_none (map string_bytes c.args.arguments.now) c.in-Ok-Some-Client.call said).1 e _

pub returns-in-Ok-Some-Client-clause-node_stands : goal.returns-in-Ok-Some-Client-clause-node_stands
returns-in-Ok-Some-Client-clause-node_stands g c = λ call s n e.
    let said : client_of (map string_bytes c.args.arguments.now) ≡ Some c.in-Ok-Some-Client.call = search rules in
    no_such (node_of (map string_bytes c.args.arguments.now)) call
    (client_is_none (map string_bytes c.args.arguments.now) c.in-Ok-Some-Client.call said).1 e _

pub returns-in-Ok-Some-Client-clause-node_complete : goal.returns-in-Ok-Some-Client-clause-node_complete
returns-in-Ok-Some-Client-clause-node_complete g c = λ call e read write link.
    let said : client_of (map string_bytes c.args.arguments.now) ≡ Some c.in-Ok-Some-Client.call = search rules in
    no_such (node_of (map string_bytes c.args.arguments.now)) call
    (client_is_none (map string_bytes c.args.arguments.now) c.in-Ok-Some-Client.call said).1 e _

pub returns-in-Ok-Some-Client-clause-client_refused : goal.returns-in-Ok-Some-Client-clause-client_refused
returns-in-Ok-Some-Client-clause-client_refused g c = λ call e.
    let said : client_of (map string_bytes c.args.arguments.now) ≡ Some c.in-Ok-Some-Client.call = search rules in
    let counts = counted (g.S.Source.faults c.args.source.now) (g.S.Source.faults c.run_client.new.source)
    (g.L.Links.faults c.args.links.now) (g.L.Links.faults c.run_client.new.links) in
    subst
    (λ (x : ClientCall). IfSome (g.S.Source.left c.args.source.now) (λ bytes. IfErr (client_station x.seat bytes) (λ refusal.
    Answers c.run_client.result refusal counts (g.K.Sink.taken c.args.sink.now) (g.K.Sink.taken c.run_client.new.sink))))
    (same_client (map string_bytes c.args.arguments.now) c.in-Ok-Some-Client.call call said e) c.run_client.ensures.refused

pub returns-in-Ok-Some-Client-clause-client_idle : goal.returns-in-Ok-Some-Client-clause-client_idle
returns-in-Ok-Some-Client-clause-client_idle g c = λ call e.
    let said : client_of (map string_bytes c.args.arguments.now) ≡ Some c.in-Ok-Some-Client.call = search rules in
    subst
    (λ (x : ClientCall). IfSome (g.S.Source.left c.args.source.now) (λ bytes. IfErr (client_station x.seat bytes) (λ _.
    c.run_client.new.links ≡ c.args.links.now)))
    (same_client (map string_bytes c.args.arguments.now) c.in-Ok-Some-Client.call call said e) c.run_client.ensures.idle

pub returns-in-Ok-Some-Client-clause-client_still : goal.returns-in-Ok-Some-Client-clause-client_still
returns-in-Ok-Some-Client-clause-client_still g c = λ call e.
    let said : client_of (map string_bytes c.args.arguments.now) ≡ Some c.in-Ok-Some-Client.call = search rules in
    subst
    (λ (x : ClientCall). IfSome (g.S.Source.left c.args.source.now) (λ bytes. IfErr (client_station x.seat bytes) (λ _.
    c.run_client.new.clock ≡ c.args.clock.now)))
    (same_client (map string_bytes c.args.arguments.now) c.in-Ok-Some-Client.call call said e) c.run_client.ensures.still

pub returns-in-Ok-Some-Client-clause-client_ran : goal.returns-in-Ok-Some-Client-clause-client_ran
returns-in-Ok-Some-Client-clause-client_ran g c = λ call s moments state e outcomes ticks told.
    let said : client_of (map string_bytes c.args.arguments.now) ≡ Some c.in-Ok-Some-Client.call = search rules in
    let counts = counted (g.S.Source.faults c.args.source.now) (g.S.Source.faults c.run_client.new.source)
    (g.L.Links.faults c.args.links.now) (g.L.Links.faults c.run_client.new.links) in
    subst
    (λ (x : ClientCall). IfSome (g.S.Source.left c.args.source.now) (λ bytes. client_station x.seat bytes ≡ Ok s →
    ToldRun s x.task moments state (g.L.Links.told c.run_client.new.links) counts c.run_client.result
    (g.K.Sink.taken c.args.sink.now) (g.K.Sink.taken c.run_client.new.sink)))
    (same_client (map string_bytes c.args.arguments.now) c.in-Ok-Some-Client.call call said e)
    (c.run_client.ensures.ran s moments state outcomes ticks told)

pub returns-in-Err-clause-client_refused : goal.returns-in-Err-clause-client_refused
returns-in-Err-clause-client_refused g c = λ call e. client_refused_any (g.S.Source.left c.args.source.now) call.seat _ (λ o. refl)

pub returns-in-Err-clause-client_idle : goal.returns-in-Err-clause-client_idle
returns-in-Err-clause-client_idle g c = λ call e. client_refused_any (g.S.Source.left c.args.source.now) call.seat _ (λ o. refl)

pub returns-in-Err-clause-client_still : goal.returns-in-Err-clause-client_still
returns-in-Err-clause-client_still g c = λ call e. client_refused_any (g.S.Source.left c.args.source.now) call.seat _ (λ o. refl)

pub returns-in-Err-clause-client_complete : goal.returns-in-Err-clause-client_complete
returns-in-Err-clause-client_complete g c = λ call e read write.
    some_any (g.S.Source.left c.args.source.now) _ (λ bytes. client_wanting (client_station call.seat bytes))

pub returns-in-Err-clause-client_soon : goal.returns-in-Err-clause-client_soon
returns-in-Err-clause-client_soon g c = λ call e. untaken is_too_long (g.S.Source.left c.args.source.now)
