use Rattle.std.proofs.Common.{refl}
use Rattle.basil_types.specs.declared.party.Party.TheVariants as parties
use Rattle.cluster_run.specs.Events.{set_begun}
use Rattle.cluster_run.specs.Parts.{send}
use Rattle.cluster_run.specs.States.{State}
use Rattle.cluster_world.specs.Beginning.{formed_by}
use Rattle.cluster_world.proofs.PrepareLaws.{kept_shows}
use Rattle.cluster_world.proofs.SendingLaws.{comes_err}
use Rattle.cluster_world.proofs.engine.Engine.send_formed.Goals as goal

pub returns-in_err-send : goal.returns-in_err-send
returns-in_err-send g c s before st b caller said mail h begun at holds =
    let kept : State = set_begun c.args.tx (record b { formed = formed_by caller c.args.slot }) st in
    comes_err g.V.Verifier g.S.Signer s (send s (parties.Client c.args.client) said mail kept) c.send.new.self before
    c.from_residual-in_err-send.result c.in_err-send.field-0.0 c.from_residual-in_err-send.ensures.1
    (c.in_err-send.ensures s kept said mail
    (kept_shows g.V.Verifier g.S.Signer s c.args.self.now c.keep_formed.new.self st kept refl refl refl c.in_ok-keep_formed.ensures.pool h
    (c.in_ok-keep_formed.ensures.kept s st b caller h.stands begun at))
    holds)

pub returns : goal.returns
returns g c s before st b caller said mail h begun at holds =
    let kept : State = set_begun c.args.tx (record b { formed = formed_by caller c.args.slot }) st in
    c.in_ok-send.ensures s kept said mail
    (kept_shows g.V.Verifier g.S.Signer s c.args.self.now c.keep_formed.new.self st kept refl refl refl c.in_ok-keep_formed.ensures.pool h
    (c.in_ok-keep_formed.ensures.kept s st b caller h.stands begun at))
    holds
