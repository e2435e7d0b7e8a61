use Rattle.std.proofs.Common.{List, ℕ, subst}
use Rattle.std.specs.Prelude.{slice_get}
use Rattle.client_core.specs.Replying.{IsPlaceOf}
use Rattle.client_core.proofs.FoundLaws.{same_some}
use Rattle.client_core.proofs.HeldLaws.{got}
use Rattle.client_core.proofs.ReplyingLaws.{read_at}
use Rattle.client_core.proofs.held.Slot.take_reply.Goals as goal

pub returns-in-Ok : goal.returns-in-Ok
returns-in-Ok g c = λ reads r keeps at_r.
    let x = c.args.self.now in
    let a = c.index-asked.result.now in
    let at = got x.reads.items c.args.read a c.requires.read c.index-asked.ensures in
    let taken = c.in-Ok.ensures r (read_at x.reads.items reads c.args.read a r keeps at at_r) in (
      taken.0,
      same_some (slice_get x.reads.items c.args.read) _ a at (
        taken.1,
        subst (λ (k : List ℕ). IsPlaceOf k c.args.read x.reads.items)
            c.as_slice.ensures (c.is_place_of.ensures c.if-not-is_place_of.false),
      ),
    )

pub returns-in-Err : goal.returns-in-Err
returns-in-Err g c = λ reads r keeps at_r.
    let x = c.args.self.now in
    let a = c.index-asked.result.now in
    let at = got x.reads.items c.args.read a c.requires.read c.index-asked.ensures in
    c.in-Err.ensures r (read_at x.reads.items reads c.args.read a r keeps at at_r)
