use Rattle.std.proofs.Common.{refl, sym, arith}
use Rattle.node_journal.proofs.FrontLaws.{stepped}
use Rattle.node_journal.proofs.HeardLaws.{handed-takes}
use Rattle.node_journal.proofs.opening.take_again.Goals as goal

pub returns-in-Ok-clause-heard : goal.returns-in-Ok-clause-heard
returns-in-Ok-clause-heard g c book shows =
    let r = handed-takes c.args.entry.now _ (sym c.in-Some.ensures) (λ i. let f = c.type_inv.entry i in omega arith) in
    let s = stepped _ _ _ _ _ (c.in-Ok.ensures.answer book shows) in
    record { handed = _; done = s.done; written = r.entry; moment = r.moment; answered = s.is; shows = s.shows }

pub returns-then-eq-clause-refused : goal.returns-then-eq-clause-refused
returns-then-eq-clause-refused g c book h done shows read answered = refl
