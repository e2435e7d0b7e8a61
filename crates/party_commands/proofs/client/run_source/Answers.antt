use Rattle.std.proofs.Common.{rules}
use Rattle.std.specs.Prelude.{IfSome}
use Rattle.command_input.specs.Inputs.{IsWhole}
use Rattle.command_input.specs.declared.input.Whole.TheVariants as whole
use Rattle.party_commands.proofs.ClientLaws.{client_idle_whole, client_ok_whole, client_ran_whole, client_refused_whole}
use Rattle.party_commands.proofs.client.run_source.Goals as goal

pub returns-in-Bytes-clause-refused : goal.returns-in-Bytes-clause-refused
returns-in-Bytes-clause-refused g c =
    let read : IfSome (g.S.Source.left c.args.source.now) (λ bytes. IsWhole (whole.Bytes c.as_slice.result.now) bytes) = search rules in
    client_refused_whole c.args.call.now.seat c.as_slice.result.now (g.S.Source.left c.args.source.now) _ read c.run_file.ensures.refused

pub returns-in-Bytes-clause-idle : goal.returns-in-Bytes-clause-idle
returns-in-Bytes-clause-idle g c =
    let read : IfSome (g.S.Source.left c.args.source.now) (λ bytes. IsWhole (whole.Bytes c.as_slice.result.now) bytes) = search rules in
    client_idle_whole c.args.call.now.seat c.as_slice.result.now (g.S.Source.left c.args.source.now) _ read c.run_file.ensures.idle

pub returns-in-Bytes-clause-still : goal.returns-in-Bytes-clause-still
returns-in-Bytes-clause-still g c =
    let read : IfSome (g.S.Source.left c.args.source.now) (λ bytes. IsWhole (whole.Bytes c.as_slice.result.now) bytes) = search rules in
    client_idle_whole c.args.call.now.seat c.as_slice.result.now (g.S.Source.left c.args.source.now) _ read c.run_file.ensures.still

pub returns-in-Bytes-clause-ending : goal.returns-in-Bytes-clause-ending
returns-in-Bytes-clause-ending g c =
    let read : IfSome (g.S.Source.left c.args.source.now) (λ bytes. IsWhole (whole.Bytes c.as_slice.result.now) bytes) = search rules in
    client_ok_whole c.args.call.now.seat c.as_slice.result.now (g.S.Source.left c.args.source.now) _ read c.run_file.ensures.ending

pub returns-in-Bytes-clause-ran : goal.returns-in-Bytes-clause-ran
returns-in-Bytes-clause-ran g c s moments state ticks told =
    let read : IfSome (g.S.Source.left c.args.source.now) (λ bytes. IsWhole (whole.Bytes c.as_slice.result.now) bytes) = search rules in
    client_ran_whole c.args.call.now.seat c.as_slice.result.now (g.S.Source.left c.args.source.now) s _ read
    (λ e. c.run_file.ensures.ran s moments state e ticks told)
