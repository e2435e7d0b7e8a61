use Rattle.std.proofs.Common.{ℕ, Bool, cond, List, Some, None, Ok, sym, ap, ◌∙◌}
use Rattle.std.specs.Prelude.{option_map}
use Rattle.basil_types.specs.Shown.{transaction_of}
use Rattle.frame_views.specs.Shown.{committed_of, read_of}
use Rattle.mvtso_check.specs.Book.{held_in}
use Rattle.replica_core.specs.declared.refusal.Refusal.TheVariants.{FromFuture}
use Rattle.replica_core.specs.declared.reads.ReadWork.{ReadWork}
use Rattle.replica_core.specs.ReadWorks.{perform_read}
use Rattle.replica_core.specs.Seats.{book_of}
use Rattle.replica_core.specs.Telling.{begun}
use Rattle.replica_core.proofs.ReadPlans.{read_planned}
use Rattle.replica_core.proofs.Sends.{can_sign}
use Rattle.replica_core.proofs.reads.plan_read.Goals as goal

pub returns-clause-answer : goal.returns-clause-answer
returns-clause-answer g c accepts book stands =
    let spent = g.S.Signer.spent c.args.pen.now in
    let left = g.S.Signer.left_of c.args.pen.now in
    let kept = c.room_for_read.ensures.as_before (held_in c.args.known.now.table.entries) book.noted stands in
    read_planned c.args.seat.now accepts (g.S.Signer.fixed c.args.pen.now) (book_of book c.args.known.now spent left) c.args.now c.args.from
    (read_of c.args.m.now)
    (option_map committed_of c.latest_committed-committed.result)
    (option_map transaction_of c.latest_prepared-prepared.result) c.in_ok-pending.pending
    c.signatures_end_frames.ensures.read_replies
    (ap (λ (b : Bool). cond b (Some (FromFuture c.args.now)) None) (sym c.is_from_future.ensures ∙ c.if-is_from_future.false))
    (can_sign spent left (λ z. c.if-left-eq0.false (c.left-left.ensures ∙ z)))
    (c.latest_committed-committed.ensures book.noted kept) (c.latest_prepared-prepared.ensures book.noted kept)
    c.in_ok-pending.ensures.words c.in_ok-pending.ensures.fronts
    ∙ ap
    (λ (k : List ℕ). let w : ReadWork = record {
      key = k;
      time = c.args.m.now.time;
      client = c.args.m.now.client;
      pending = c.in_ok-pending.pending;
    } in Ok (perform_read (g.S.Signer.fixed c.args.pen.now) (begun (book_of book c.args.known.now spent left)) w)) (sym c.in_ok-key.ensures)
