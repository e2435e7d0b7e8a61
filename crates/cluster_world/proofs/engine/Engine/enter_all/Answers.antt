use Rattle.std.proofs.Common.{◌≡◌, ◌∙◌, [], ap, arith, refl, subst, sym}
use Rattle.cluster_run.specs.Parts as parts
use Rattle.message_pool.specs.Posts.{sent}
use Rattle.cluster_world.specs.Sending.{HasRoomFor, mails}
use Rattle.cluster_world.proofs.PairLaws.{nil_of}
use Rattle.cluster_world.proofs.SendingLaws.{Along, along_breaks, along_end, along_next, room_behind, room_next}
use Rattle.cluster_world.proofs.engine.Engine.enter_all.Goals as goal

pub loop-message-init : goal.loop-message-init
loop-message-init g c =
    let same = sym (c.into_iter-message-iterator.ensures.into_iter_gives.0 ∙ c.into_vec-message-items.ensures) in
    record {
      room = subst (HasRoomFor c.args.self.now.pool) same c.requires;
      along = λ s st h.
          record { now = st; same = ap (λ l. parts.enter_all s (mails c.args.from l) st) same; shows = h };
    }

pub enter_one-requires-clause-few : goal.enter_one-requires-clause-few
enter_one-requires-clause-few g c =
    (room_next c.loop-message.self.pool c.in-Some.message c.next.new.self.rest.items
    (subst (HasRoomFor c.loop-message.self.pool) c.in-Some.ensures.steps.0 c.loop-message.invariant.room)).0

pub enter_one-requires-clause-small : goal.enter_one-requires-clause-small
enter_one-requires-clause-small g c =
    (room_next c.loop-message.self.pool c.in-Some.message c.next.new.self.rest.items
    (subst (HasRoomFor c.loop-message.self.pool) c.in-Some.ensures.steps.0 c.loop-message.invariant.room)).1

pub loop-message-preserved : goal.loop-message-preserved
loop-message-preserved g c =
    let m = c.in-Some.message in
    let rest = c.next.new.self.rest.items in
    let core = c.loop-message.self in
    record {
      room = room_behind core.pool c.enter_one.new.self.pool (sent c.args.from m.to m.frame) m rest c.in_ok-enter_one.ensures.grown refl
          c.in_ok-enter_one.ensures.limits (subst (HasRoomFor core.pool) c.in-Some.ensures.steps.0 c.loop-message.invariant.room);
      along = λ s st h.
          let a = subst (λ l. Along g.V.Verifier g.S.Signer s c.args.from c.args.messages.items l st core) c.in-Some.ensures.steps.0
          (c.loop-message.invariant.along s st h) in
          along_next g.V.Verifier g.S.Signer s c.args.from c.args.messages.items rest m st core c.enter_one.new.self a
          (c.in_ok-enter_one.ensures.goes s a.now a.shows);
    }

pub returns-in_err-enter_one : goal.returns-in_err-enter_one
returns-in_err-enter_one g c = λ s st h.
    let m = c.in-Some.message in
    let rest = c.next.new.self.rest.items in
    let core = c.loop-message.self in
    let a = subst (λ l. Along g.V.Verifier g.S.Signer s c.args.from c.args.messages.items l st core) c.in-Some.ensures.steps.0
    (c.loop-message.invariant.along s st h) in
    along_breaks g.V.Verifier g.S.Signer s c.args.from c.args.messages.items rest m st core c.enter_one.new.self c.from_residual.result
    c.in_err-enter_one.field-0.0 c.from_residual.ensures.1 a (c.in_err-enter_one.ensures.goes s a.now a.shows)

pub returns : goal.returns
returns g c = λ s st h.
    let none : c.loop-message.message-iterator.rest.items ≡ [] = nil_of c.loop-message.message-iterator.rest.items
    (omega (arith, c.loop-message.message-iterator.rest.ok.0, c.in-None.ensures.steps.0)) in
    along_end g.V.Verifier g.S.Signer s c.args.from c.args.messages.items st c.loop-message.self
    (subst (λ l. Along g.V.Verifier g.S.Signer s c.args.from c.args.messages.items l st c.loop-message.self) none
    (c.loop-message.invariant.along s st h))
