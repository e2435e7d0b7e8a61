use Rattle.faulty_parties.proofs.PenLaws.{can_sign, found_item, holds_said, is_of, lies_on, no_pen_left, signs_here, size_here, tells_sent}
use Rattle.faulty_parties.proofs.pens.Pens.say.Goals as goal

pub sign_at-signature-requires-clause-can : goal.sign_at-signature-requires-clause-can
sign_at-signature-requires-clause-can g c pen at =
    can_sign g.S.Signer c.args.self.now c.args.party c.in-Some.place pen c.in-Some.ensures at c.args.lie c.requires.left c.requires.ready

pub unreachable-requires : goal.unreachable-requires
unreachable-requires g c = no_pen_left g.S.Signer c.args.self.now c.args.party c.in-None.ensures c.requires.left

pub returns-clause-signature : goal.returns-clause-signature
returns-clause-signature g c s st words lies among w =
    let x = found_item (is_of c.args.party) c.args.self.now.pens.items c.in-Some.place c.in-Some.ensures in
    signs_here g.S.Signer c.args.self.now c.args.party c.in-Some.place x.item c.in-Some.ensures x.is s st words c.args.lie.pending.words
    c.sign_at-signature.result.items lies among w (c.sign_at-signature.ensures.signature x.item x.is)

pub returns-clause-holds : goal.returns-clause-holds
returns-clause-holds g c s st u lies among own says =
    let x = found_item (is_of c.args.party) c.args.self.now.pens.items c.in-Some.place c.in-Some.ensures in
    holds_said u c.args.lie _ c.sign_at-signature.result.items _ c.sign_at-signature.new.out c.requires.ready says
    (signs_here g.S.Signer c.args.self.now c.args.party c.in-Some.place x.item c.in-Some.ensures x.is s st u.words
    c.args.lie.pending.words c.sign_at-signature.result.items lies among says.words
    (c.sign_at-signature.ensures.signature x.item x.is))
    c.sign_at-signature.ensures.messages c.sign_at-signature.ensures.words

pub returns-clause-pens : goal.returns-clause-pens
returns-clause-pens g c s st words lies =
    let x = found_item (is_of c.args.party) c.args.self.now.pens.items c.in-Some.place c.in-Some.ensures in
    lies_on g.S.Signer c.args.self.now c.args.party c.in-Some.place x.item c.in-Some.ensures x.is c.sign_at-signature.new.self s st words
    c.requires.left (c.sign_at-signature.ensures.pens x.item x.is) lies

pub returns-clause-tells : goal.returns-clause-tells
returns-clause-tells g c =
    let x = found_item (is_of c.args.party) c.args.self.now.pens.items c.in-Some.place c.in-Some.ensures in
    tells_sent c.args.lie _ _ c.sign_at-signature.new.out c.requires.ready
    (size_here g.S.Signer c.args.self.now c.args.party c.in-Some.place x.item c.in-Some.ensures x.is)
    (c.sign_at-signature.ensures.sends x.item x.is)
