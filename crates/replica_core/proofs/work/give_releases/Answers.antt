use Rattle.std.proofs.Common.{ℕ, length, ap, sym, subst, ◌∙◌, arith}
use Rattle.node_steps.specs.Pendings.{bytes_in}
use Rattle.replica_core.specs.KnownWorks.{CanRelease, frames_in, release_bytes}
use Rattle.replica_core.proofs.Releasing.{next_can, first_can, next_told}
use Rattle.replica_core.proofs.work.give_releases.Goals as goal

pub give_release-requires : goal.give_release-requires
give_release-requires g c =
    let i = c.loop-release.invariant in
    let h = c.in-Some.ensures.steps.0 in
    let rest = c.loop-release.release-iterator.rest.items in
    record {
      can = subst (λ (n : ℕ). CanRelease n c.loop-release.known.table.entries c.in-Some.release) (ap (λ s. s.size) (sym i.fixed))
          (first_can (g.S.Signer.fixed c.args.pen.now).size c.loop-release.known.table.entries c.in-Some.release rest
          c.next.new.self.rest.items h i.can);
      left = omega (arith, ap length h, i.left);
      room = record { messages = omega (arith, ap frames_in h, i.room.messages); words = omega (arith, ap length h, i.room.words) };
    }

pub loop-release-preserved : goal.loop-release-preserved
loop-release-preserved g c =
    let i = c.loop-release.invariant in
    let n = c.give_release.ensures in
    let h = c.in-Some.ensures.steps.0 in
    record {
      can = next_can (g.S.Signer.fixed c.args.pen.now).size c.loop-release.known.table.entries c.give_release.new.known.table.entries
          c.in-Some.release c.loop-release.release-iterator.rest.items c.next.new.self.rest.items _ h n.entries i.can;
      left = omega (arith, ap length h, i.left, n.left);
      room = record {
        messages = omega (arith, ap frames_in h, i.room.messages, n.message_room);
        words = omega (arith, ap length h, i.room.words, n.word_room);
      };
      told = λ book. next_told (g.S.Signer.fixed c.args.pen.now) (g.S.Signer.fixed c.loop-release.pen) c.in-Some.release
          c.loop-release.release-iterator.rest.items c.next.new.self.rest.items _ _ h i.fixed (n.told book) ∙ i.told book;
      bytes = omega (
        arith,
        ap (release_bytes (g.S.Signer.fixed c.args.pen.now).size) h,
        ap
            (λ s. bytes_in s.size c.in-Some.release.pending.frames.items) i.fixed,
        n.sends.bytes,
        i.bytes,
      );
      messages = omega (arith, ap frames_in h, n.sends.messages, i.messages);
      noted = λ noted s. n.noted noted (i.noted noted s);
      fixed = n.fixed ∙ i.fixed;
    }
