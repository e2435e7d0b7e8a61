use Rattle.std.proofs.Common.{◌∙◌, List, All, length, suc, subst, ap, arith}
use Rattle.node_steps.specs.declared.pending.Unsigned.{Unsigned}
use Rattle.node_steps.specs.Pendings.{HasRoomFor}
use Rattle.node_steps.proofs.Sending.{next_sent}
use Rattle.node_steps.proofs.pending.send.Goals as goal

pub loop-unsigned-preserved : goal.loop-unsigned-preserved
loop-unsigned-preserved c =
    let rest = c.loop-unsigned.unsigned-iterator.rest.items in
    let steps = c.in-Some.ensures.steps.0 in
    record {
      told = next_sent c.args.signature.now c.loop-unsigned.out.messages.items c.push.new.self.items c.in-Some.unsigned rest
          c.next.new.self.rest.items c.seal-frame.result steps c.seal-frame.ensures c.push.ensures.items ∙ c.loop-unsigned.invariant.told;
      room = omega (arith, ap length steps, c.push.ensures.room, c.loop-unsigned.invariant.room, c.requires.room);
      rooms = λ k d lt. subst (λ (l : List Unsigned). All (HasRoomFor (length c.args.signature.now)) l) steps
          c.loop-unsigned.invariant.rooms (suc k) d (omega (arith, lt));
      signed = c.loop-unsigned.invariant.signed;
    }
