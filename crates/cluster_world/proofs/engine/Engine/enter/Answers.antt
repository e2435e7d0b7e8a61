use Rattle.cluster_run.specs.Parts.{mail_from}
use Rattle.cluster_world.proofs.SendingLaws.{enter_ends, enter_full, enter_goes}
use Rattle.cluster_world.proofs.engine.Engine.enter.Goals as goal

pub returns-then-not-has : goal.returns-then-not-has
returns-then-not-has g c = λ s st h.
    enter_full g.V.Verifier g.S.Signer s c.args.self.now st (mail_from c.args.from c.args.message) c.as_slice.result.now c.room.result
    (record { messages = c.room.ensures.messages; bytes = c.room.ensures.bytes }) c.as_slice.ensures h c.if-not-has.ensures c.full.result
    c.full.ensures

pub returns-in_err-enter_one : goal.returns-in_err-enter_one
returns-in_err-enter_one g c = λ s st h.
    enter_ends g.V.Verifier g.S.Signer s c.args.self.now st (mail_from c.args.from c.args.message) c.as_slice.result.now c.room.result
    (record { messages = c.room.ensures.messages; bytes = c.room.ensures.bytes }) c.as_slice.ensures h c.if-not-has.ensures
    c.enter_one.new.self c.from_residual.result c.in_err-enter_one.field-0.0 c.from_residual.ensures.1
    (c.in_err-enter_one.ensures.goes s st h)

pub returns : goal.returns
returns g c = λ s st h.
    enter_goes g.V.Verifier g.S.Signer s c.args.self.now st (mail_from c.args.from c.args.message) c.as_slice.result.now c.room.result
    (record { messages = c.room.ensures.messages; bytes = c.room.ensures.bytes }) c.as_slice.ensures h c.if-not-has.ensures
    c.enter_one.new.self (c.in_ok-enter_one.ensures.goes s st h)
