use Rattle.faulty_parties.proofs.PenLaws.{sends_at, stepped}
use Rattle.faulty_parties.proofs.pens.Pens.sign_at.Goals as goal

pub returns-clause-pens : goal.returns-clause-pens
returns-clause-pens g c pen at =
    stepped g.S.Signer c.args.self.now.pens.items c.args.place c.index_mut.result.now pen c.sign.new.pen c.index_mut.ensures.value at
    c.sign.ensures.fixed c.sign.ensures.pen

pub returns-clause-sends : goal.returns-clause-sends
returns-clause-sends g c pen at =
    sends_at g.S.Signer c.args.self.now.pens.items c.args.place c.index_mut.result.now pen c.args.out.now c.sign.new.out c.args.pending
    c.index_mut.ensures.value at c.sign.ensures.sends
