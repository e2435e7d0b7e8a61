use Rattle.std.proofs.Common.{rules, Err, ap}
use Rattle.std.specs.Prelude.{IfSome}
use Rattle.command_input.specs.Inputs.{IsWhole}
use Rattle.command_input.specs.declared.input.Whole.TheVariants as whole
use Rattle.party_commands.proofs.NodeLaws.{idle_whole, no_link, not_begun, ok_whole, served_whole, some_any}
use Rattle.party_commands.proofs.node.serve_source.Goals as goal

pub returns-in_err-bytes-clause-stands : goal.returns-in_err-bytes-clause-stands
returns-in_err-bytes-clause-stands g c s n =
    let unlinked = no_link _ c.in_err-bytes.field-0.0 c.from_residual.ensures.1
    (λ e. c.in_err-bytes.ensures.unlinked (ap (λ fail. Err fail) e)) in
    some_any (g.S.Source.left c.args.source.now) _ (λ bytes e b. not_begun s _ _ _ n _ _ unlinked b)

pub returns-in-Bytes-clause-idle : goal.returns-in-Bytes-clause-idle
returns-in-Bytes-clause-idle g c =
    let read : IfSome (g.S.Source.left c.args.source.now) (λ bytes. IsWhole (whole.Bytes c.as_slice.result.now) bytes) = search rules in
    idle_whole c.args.call.now.seat c.as_slice.result.now (g.S.Source.left c.args.source.now) _ read
    c.serve_file.ensures.idle

pub returns-in-Bytes-clause-still : goal.returns-in-Bytes-clause-still
returns-in-Bytes-clause-still g c =
    let read : IfSome (g.S.Source.left c.args.source.now) (λ bytes. IsWhole (whole.Bytes c.as_slice.result.now) bytes) = search rules in
    idle_whole c.args.call.now.seat c.as_slice.result.now (g.S.Source.left c.args.source.now) _ read
    c.serve_file.ensures.still

pub returns-in-Bytes-clause-seated : goal.returns-in-Bytes-clause-seated
returns-in-Bytes-clause-seated g c =
    let read : IfSome (g.S.Source.left c.args.source.now) (λ bytes. IsWhole (whole.Bytes c.as_slice.result.now) bytes) = search rules in
    ok_whole c.args.call.now.seat c.as_slice.result.now (g.S.Source.left c.args.source.now) _ read
    c.serve_file.ensures.seated

pub returns-in-Bytes-clause-served : goal.returns-in-Bytes-clause-served
returns-in-Bytes-clause-served g c s n =
    let read : IfSome (g.S.Source.left c.args.source.now) (λ bytes. IsWhole (whole.Bytes c.as_slice.result.now) bytes) = search rules in
    served_whole c.args.call.now.seat c.as_slice.result.now (g.S.Source.left c.args.source.now) s _ _ read
    (c.serve_file.ensures.served s n)

pub returns-in-Bytes-clause-stands : goal.returns-in-Bytes-clause-stands
returns-in-Bytes-clause-stands g c s n =
    let read : IfSome (g.S.Source.left c.args.source.now) (λ bytes. IsWhole (whole.Bytes c.as_slice.result.now) bytes) = search rules in
    served_whole c.args.call.now.seat c.as_slice.result.now (g.S.Source.left c.args.source.now) s _ _ read
    (c.serve_file.ensures.stands s n)

pub returns-in-Bytes-clause-whole : goal.returns-in-Bytes-clause-whole
returns-in-Bytes-clause-whole g c s n still =
    let read : IfSome (g.S.Source.left c.args.source.now) (λ bytes. IsWhole (whole.Bytes c.as_slice.result.now) bytes) = search rules in
    served_whole c.args.call.now.seat c.as_slice.result.now (g.S.Source.left c.args.source.now) s _ _ read
    (λ e b. c.serve_file.ensures.whole s n e b still)
