-- The time of a begun transaction is the clock's moment, and a transaction that is taken up gets the first slot.
use Rattle.std.proofs.Common.{ap, ◌∙◌, max}
use Rattle.client_core.specs.Clients.{ClientSelf}
use Rattle.client_core.specs.Seats.{self_at}
use Rattle.client_link.specs.Running.{starting}
use Rattle.party_commands.specs.Clients.{time_at}
use Rattle.party_commands.proofs.ClientLaws.{formed, moment_of, on_ok, taken_to_certify, taken_up, taken_up_first, transacted}
use Rattle.party_commands.proofs.client.run_task.Goals as goal

pub returns-in-Transact-clause-ran : goal.returns-in-Transact-clause-ran
returns-in-Transact-clause-ran g c w moments state shows ticks told =
    let me : ClientSelf =
    self_at c.args.client.now.seat (g.V.Verifier.accepted c.args.client.now.keys) (g.S.Signer.fixed c.args.client.now.pen) in
    let time = c.max-time.ensures ∙ ap (λ k. max k 1) (moment_of moments _ _ _ ticks c.now.ensures.ticks) in
    transacted c.client_run.new.client me c.args.file.now (g.L.Links.told c.client_run.new.links) (starting w state)
    (g.L.Links.faults c.args.links.now) (g.L.Links.faults c.client_run.new.links) (time_at moments) c.args.task.now c.client_run.result
    _ _ c.in-Transact.plan c.in-Transact.is time c.ops.ensures (c.client_run.ensures.ran w state shows told)

pub returns-in-Form-clause-ran : goal.returns-in-Form-clause-ran
returns-in-Form-clause-ran g c w moments state shows ticks told =
    let me : ClientSelf =
    self_at c.args.client.now.seat (g.V.Verifier.accepted c.args.client.now.keys) (g.S.Signer.fixed c.args.client.now.pen) in
    let time = c.max-time.ensures ∙ ap (λ k. max k 1) (moment_of moments _ _ _ ticks c.now.ensures.ticks) in
    formed c.client_run-in-Form.new.client me c.args.file.now (g.L.Links.told c.client_run-in-Form.new.links) (starting w state)
    (g.L.Links.faults c.args.links.now) (g.L.Links.faults c.client_run-in-Form.new.links) (time_at moments) c.args.task.now
    c.client_run-in-Form.result
    _ _ c.in-Form.plan c.in-Form.is time c.ops-in-Form.ensures (c.client_run-in-Form.ensures.ran w state shows told)

pub returns-in-Recover-clause-ran : goal.returns-in-Recover-clause-ran
returns-in-Recover-clause-ran g c w moments state shows ticks told =
    let me : ClientSelf =
    self_at c.args.client.now.seat (g.V.Verifier.accepted c.args.client.now.keys) (g.S.Signer.fixed c.args.client.now.pen) in
    taken_up c.client_finish.new.client me c.args.file.now (g.L.Links.told c.client_finish.new.links) (starting w state)
    (g.L.Links.faults c.args.links.now) (g.L.Links.faults c.client_finish.new.links) (time_at moments) c.args.task.now
    c.client_finish.result c.in-Recover.signed c.in-Recover.is (c.client_finish.ensures.ran w state shows told)

pub returns-in-Recover-clause-first : goal.returns-in-Recover-clause-first
returns-in-Recover-clause-first g c w shows none =
    on_ok c.client_finish.result (λ slot at. taken_up_first w c.in-Recover.signed.transaction slot none at)
    (c.client_finish.ensures.slot w shows)

pub returns-in-Certify-clause-ran : goal.returns-in-Certify-clause-ran
returns-in-Certify-clause-ran g c w moments state shows ticks told =
    let me : ClientSelf =
    self_at c.args.client.now.seat (g.V.Verifier.accepted c.args.client.now.keys) (g.S.Signer.fixed c.args.client.now.pen) in
    taken_to_certify c.client_finish-in-Certify.new.client me c.args.file.now (g.L.Links.told c.client_finish-in-Certify.new.links)
    (starting w state) (g.L.Links.faults c.args.links.now) (g.L.Links.faults c.client_finish-in-Certify.new.links) (time_at moments)
    c.args.task.now c.client_finish-in-Certify.result c.in-Certify.signed c.in-Certify.is
    (c.client_finish-in-Certify.ensures.ran w state shows told)

pub returns-in-Certify-clause-first : goal.returns-in-Certify-clause-first
returns-in-Certify-clause-first g c w shows none =
    on_ok c.client_finish-in-Certify.result (λ slot at. taken_up_first w c.in-Certify.signed.transaction slot none at)
    (c.client_finish-in-Certify.ensures.slot w shows)
