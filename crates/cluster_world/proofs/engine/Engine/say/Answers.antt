use Rattle.std.proofs.Common.{Ok, Err, refl, subst, sym}
use Rattle.cluster_run.specs.Faulty.{faulty_signature}
use Rattle.faulty_parties.specs.Lies.{CanBeSaid}
use Rattle.cluster_world.specs.Lying.{says}
use Rattle.cluster_world.proofs.LyingLaws.{room_told, says_full, says_goes}
use Rattle.cluster_world.proofs.SendingLaws.{comes_err}
use Rattle.cluster_world.proofs.engine.Engine.say.Goals as goal

pub returns-then-not-has : goal.returns-then-not-has
returns-then-not-has g c = λ s st u h own said can.
    let old = c.args.self.now in
    let p = c.args.party in
    let signature = faulty_signature s st p u.words in
    says_full g.V.Verifier g.S.Signer s st p u own old c.room.result c.messages.result c.bytes.result h
    (record { messages = c.room.ensures.messages; bytes = c.room.ensures.bytes })
    (c.messages.ensures.said u signature said)
    (c.bytes.ensures.said u signature said
    (subst (λ n. CanBeSaid n c.args.lie) (sym (can.size u.words)) c.requires.ready))
    c.if-not-has.ensures c.full.result c.full.ensures

pub returns-in_err-enter_all : goal.returns-in_err-enter_all
returns-in_err-enter_all g c = λ s st u h own said can.
    let old = c.args.self.now in
    let mid = record old { pens = c.sign-out.new.self } in
    let messages = c.sign-out.result.messages.items in
    comes_err g.V.Verifier g.S.Signer s (says s u st) c.enter_all.new.self st c.from_residual.result c.in_err-enter_all.field-0.0
    c.from_residual.ensures.1
    (says_goes g.V.Verifier g.S.Signer s st c.args.party u own old mid c.enter_all.new.self messages
    (Err c.in_err-enter_all.field-0.0) refl (c.sign-out.ensures.pens s st u.words h.stands.pens)
    (c.sign-out.ensures.holds s st u h.stands.pens can.faulty own said).messages
    (room_told old.pool c.room.result c.args.lie c.messages.result c.bytes.result messages
    (record { messages = c.room.ensures.messages; bytes = c.room.ensures.bytes })
    c.messages.ensures.count c.bytes.ensures.bytes c.if-not-has.ensures c.sign-out.ensures.tells) h
    (λ k. c.in_err-enter_all.ensures s _ k))

pub returns : goal.returns
returns g c = λ s st u h own said can.
    let old = c.args.self.now in
    let mid = record old { pens = c.sign-out.new.self } in
    let messages = c.sign-out.result.messages.items in
    says_goes g.V.Verifier g.S.Signer s st c.args.party u own old mid c.enter_all.new.self messages
    (Ok tt) refl (c.sign-out.ensures.pens s st u.words h.stands.pens)
    (c.sign-out.ensures.holds s st u h.stands.pens can.faulty own said).messages
    (room_told old.pool c.room.result c.args.lie c.messages.result c.bytes.result messages
    (record { messages = c.room.ensures.messages; bytes = c.room.ensures.bytes })
    c.messages.ensures.count c.bytes.ensures.bytes c.if-not-has.ensures c.sign-out.ensures.tells) h
    (λ k. c.in_ok-enter_all.ensures s _ k)
