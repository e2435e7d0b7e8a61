use Rattle.std.proofs.Common.{◌≡◌, ◌+◌, ◌≤◌, length}
use Rattle.node_steps.specs.Pendings.{bytes_sent}
use Rattle.replica_core.specs.Holding.{KeepsNoted}
use Rattle.replica_core.specs.KnownWorks.{CanReleaseAll, HasRoomFor, all_released, frames_in, release_bytes}
use Rattle.replica_core.specs.Replicas.{BookValue}
use Rattle.replica_core.specs.Seats.{book_of}
use Rattle.replica_core.specs.Telling.{told_with}
use Rattle.replica_core.proofs.work.give_releases.Given as goal

abbrev pub invariant-loop-release : goal.invariant-loop-release
invariant-loop-release g l =
    record {
      can : CanReleaseAll (g.S.Signer.fixed l.fn.pen).size l.known.table.entries l.release-iterator.rest.items;
      left : length l.release-iterator.rest.items ≤ g.S.Signer.left_of l.pen;
      room : HasRoomFor l.out (frames_in l.release-iterator.rest.items) (length l.release-iterator.rest.items);
      told : (book : BookValue) →
          all_released (g.S.Signer.fixed l.fn.pen) l.release-iterator.rest.items
          (told_with (book_of book l.known (g.S.Signer.spent l.pen) (g.S.Signer.left_of l.pen)) l.out) ≡ all_released
          (g.S.Signer.fixed l.fn.pen) l.fn.votes.items
          (told_with (book_of book l.fn.known (g.S.Signer.spent l.fn.pen) (g.S.Signer.left_of l.fn.pen)) l.fn.out);
      messages : length l.out.messages.items + frames_in l.release-iterator.rest.items ≡ length l.fn.out.messages.items + frames_in
          l.fn.votes.items;
      bytes : bytes_sent l.out.messages.items + release_bytes (g.S.Signer.fixed l.fn.pen).size l.release-iterator.rest.items ≡ bytes_sent
          l.fn.out.messages.items + release_bytes (g.S.Signer.fixed l.fn.pen).size l.fn.votes.items;
      noted : KeepsNoted l.fn.known l.known;
      fixed : g.S.Signer.fixed l.pen ≡ g.S.Signer.fixed l.fn.pen;
    }
