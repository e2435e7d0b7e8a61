use Rattle.std.proofs.Common.{◌≡◌, ◌∙◌, Ok, Err, length, refl, subst, sym}
use Rattle.basil_types.specs.declared.party.Party.TheVariants.{Client}
use Rattle.cluster_run.specs.Events as events
use Rattle.cluster_run.specs.Faulty.{faulty_signature}
use Rattle.faulty_parties.specs.Lies.{CanBeSaid}
use Rattle.faulty_parties.specs.Pens.{size_in}
use Rattle.faulty_parties.specs.Unsaid.{unsaid_first}
use Rattle.cluster_world.specs.Lying.{built_of}
use Rattle.cluster_world.specs.Shows.{Stands}
use Rattle.cluster_world.proofs.FirstLaws.{first_full, first_goes, with_formed}
use Rattle.cluster_world.proofs.LyingLaws.{room_told}
use Rattle.cluster_world.proofs.SendingLaws.{comes_err}
use Rattle.cluster_world.proofs.engine.Engine.say_first.Goals as goal

pub returns-then-not-has : goal.returns-then-not-has
returns-then-not-has g c = λ s st b h at own is says can.
    let old = c.args.self.now in
    let u = unsaid_first s.cluster (built_of b) in
    let signature = faulty_signature s st (Client b.client) u.words in
    let size = subst (λ x. length (faulty_signature s st x u.words) ≡ size_in g.S.Signer old.pens c.args.party) own (can.size u.words) in
    first_full g.V.Verifier g.S.Signer s st c.args.tx b old c.room.result c.messages.result c.bytes.result h
    (record { messages = c.room.ensures.messages; bytes = c.room.ensures.bytes }) (c.messages.ensures.said u signature says)
    (c.bytes.ensures.said u signature says (subst (λ n. CanBeSaid n c.args.lie) (sym size) c.requires.ready))
    c.if-not-has.ensures c.full.result c.full.ensures

pub returns-in_err-enter_all : goal.returns-in_err-enter_all
returns-in_err-enter_all g c = λ s st b h at own is says can.
    let old = c.args.self.now in
    let q = c.args.party in
    let u = unsaid_first s.cluster (built_of b) in
    let mid = record old { pens = c.say-out.new.self } in
    let messages = c.say-out.result.out.messages.items in
    comes_err g.V.Verifier g.S.Signer s (events.prepares_lie s c.args.tx b st) c.enter_all.new.self st c.from_residual.result
    c.in_err-enter_all.field-0.0 c.from_residual.ensures.1
    (first_goes g.V.Verifier g.S.Signer s st c.args.tx b q own c.args.t is old mid c.keep_said.new.self c.enter_all.new.self
    messages c.from_vec.result (Err c.in_err-enter_all.field-0.0) h at refl (c.say-out.ensures.pens s st u.words h.stands.pens)
    (c.say-out.ensures.holds s st u h.stands.pens can.faulty (sym own) says).messages
    (c.from_vec.ensures ∙ c.say-out.ensures.signature s st u.words h.stands.pens can.faulty says.words)
    (room_told old.pool c.room.result c.args.lie c.messages.result c.bytes.result messages
    (record { messages = c.room.ensures.messages; bytes = c.room.ensures.bytes }) c.messages.ensures.count c.bytes.ensures.bytes
    c.if-not-has.ensures c.say-out.ensures.tells)
    c.keep_said.ensures.pool
    (λ now stands got.
    subst (λ f. Stands s c.keep_said.new.self (with_formed c.args.tx b f now)) c.new.ensures
    (c.keep_said.ensures.kept s now b stands got))
    (λ now shows. c.in_err-enter_all.ensures s now shows))

pub returns : goal.returns
returns g c = λ s st b h at own is says can.
    let old = c.args.self.now in
    let q = c.args.party in
    let u = unsaid_first s.cluster (built_of b) in
    let mid = record old { pens = c.say-out.new.self } in
    let messages = c.say-out.result.out.messages.items in
    first_goes g.V.Verifier g.S.Signer s st c.args.tx b q own c.args.t is old mid c.keep_said.new.self c.enter_all.new.self
    messages c.from_vec.result (Ok tt) h at refl (c.say-out.ensures.pens s st u.words h.stands.pens)
    (c.say-out.ensures.holds s st u h.stands.pens can.faulty (sym own) says).messages
    (c.from_vec.ensures ∙ c.say-out.ensures.signature s st u.words h.stands.pens can.faulty says.words)
    (room_told old.pool c.room.result c.args.lie c.messages.result c.bytes.result messages
    (record { messages = c.room.ensures.messages; bytes = c.room.ensures.bytes }) c.messages.ensures.count c.bytes.ensures.bytes
    c.if-not-has.ensures c.say-out.ensures.tells)
    c.keep_said.ensures.pool
    (λ now stands got.
    subst (λ f. Stands s c.keep_said.new.self (with_formed c.args.tx b f now)) c.new.ensures
    (c.keep_said.ensures.kept s now b stands got))
    (λ now shows. c.in_ok-enter_all.ensures s now shows)
