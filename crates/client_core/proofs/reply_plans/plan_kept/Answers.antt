use Rattle.std.proofs.Common.{◌++◌, ◌+◌, length, List, [], Option, refl, sym, ap, subst}
use Rattle.std.specs.Prelude.{slice_get}
use Rattle.std.specs.Option.{ForSome}
use Rattle.basil_types.specs.declared.outbox.Envelope.{Envelope}
use Rattle.client_core.specs.declared.replies.KeptReply.{KeptReply}
use Rattle.client_core.specs.declared.work.Work.{Work}
use Rattle.client_core.specs.Replying.{TellsAt}
use Rattle.client_core.specs.Slots.{put_read}
use Rattle.node_steps.specs.Pendings.{bytes_sent}
use Rattle.client_core.specs.Works.{CanWork}
use Rattle.client_core.proofs.FoundLaws.{there}
use Rattle.client_core.proofs.ReadingLaws.{shown_at}
use Rattle.client_core.proofs.ReplyingLaws.{held_tells, nothing_kept, slot_tells}
use Rattle.client_core.proofs.reply_plans.plan_kept.Goals as goal

pub returns-in-Some-clause-planned : goal.returns-in-Some-clause-planned
returns-in-Some-clause-planned c = λ signing held v s r h within at room tells. record {
  leaves = (
    h,
    (
      s,
      r,
      at,
      refl,
      subst (λ (o : Option KeptReply). ForSome (slice_get held.slots.items c.args.slot) (TellsAt c.args.read o r)) c.in-Some.is tells,
    ),
  );
  words = refl;
  messages = ap (λ (l : List Envelope). l ++ []) c.outbox.ensures.messages;
}

pub returns-in-None-clause-planned : goal.returns-in-None-clause-planned
returns-in-None-clause-planned c = λ signing held v s r h within at room tells.
    let found = there held.slots.items c.args.slot within in
    let x = found.0 in
    let asked = there x.reads.items c.args.read (room x found.1).0 in
    let told = subst (λ (o : Option KeptReply). TellsAt c.args.read o r x) c.in-None.is (tells x found.1) asked.0 asked.1 in
    nothing_kept signing held v _ c.plan_nothing.result c.plan_nothing.ensures.work c.plan_nothing.ensures.messages
    (held_tells held v c.args.slot x (record s { reads = put_read r s.reads }) h found.1
    (slot_tells x s c.args.read asked.0 r (shown_at held v c.args.slot x s h found.1 at) asked.1 told.0 told.1))
    refl

pub returns-in-Some-clause-ready : goal.returns-in-Some-clause-ready
returns-in-Some-clause-ready c = λ size left held within room. record {
  work = (within, room);
  unsigned = c.outbox.ensures.signed;
  counts = record {
    messages = sym (ap (λ (l : List Envelope). length l + 0) c.outbox.ensures.messages);
    bytes = sym (ap (λ (l : List Envelope). bytes_sent l + 0) c.outbox.ensures.messages);
  };
}

pub returns-in-None-clause-ready : goal.returns-in-None-clause-ready
returns-in-None-clause-ready c = λ size left held within room. record {
  work = subst (λ (w : Work). CanWork size left held c.plan_nothing.result.out w) (sym c.plan_nothing.ensures.work) tt;
  unsigned = c.plan_nothing.ensures.signed;
  counts = c.plan_nothing.ensures.counts size;
}
