use Rattle.std.proofs.Common.{◌∙◌, sym, ap, subst}
use Rattle.basil_types.specs.Transaction.{TransactionValue}
use Rattle.frame_views.specs.Shown.{message_of}
use Rattle.client_recover.specs.Standing.{StandsFor}
use Rattle.client_core.specs.Showing.{StandsNow}
use Rattle.client_core.specs.Taking.{taken_of}
use Rattle.client_core.proofs.TakingLaws.{taken_ok}
use Rattle.client_core.proofs.held.Formed.hold_back.Goals as goal

pub returns-in-Ok-clause-taken : goal.returns-in-Ok-clause-taken
returns-in-Ok-clause-taken g c = λ p h.
    let f = c.args.self.now in
    let u = f.pursuit in
    let stands : StandsFor u p = subst (λ b. StandsNow b u p) c.requires.none h.stands in
    let taken = taken_ok (taken_of (g.V.Verifier.accepted c.args.keys.now) u.cluster u.transaction (message_of c.args.m.now))
    u c.add_frame.new.pursuit c.in-Ok.ensures.taken in (
      taken.0,
      ap (λ (t : TransactionValue). taken_of (g.V.Verifier.accepted c.args.keys.now) u.cluster t (message_of c.args.m.now))
          (sym stands.transaction) ∙ taken.1,
      (taken.2).now p stands,
    )

pub returns-in-Err-clause-refused : goal.returns-in-Err-clause-refused
returns-in-Err-clause-refused g c = λ p h wanting.
    let f = c.args.self.now in
    let u = f.pursuit in
    let stands : StandsFor u p = subst (λ b. StandsNow b u p) c.requires.none h.stands in
    ap (λ (t : TransactionValue). taken_of (g.V.Verifier.accepted c.args.keys.now) u.cluster t (message_of c.args.m.now))
    (sym stands.transaction)
    ∙ c.in-Err.ensures.refused wanting

pub returns-in-Ok-clause-shown : goal.returns-in-Ok-clause-shown
returns-in-Ok-clause-shown g c = λ p h.
    let f = c.args.self.now in
    let u = f.pursuit in
    let stands : StandsFor u p = subst (λ b. StandsNow b u p) c.requires.none h.stands in
    let taken = taken_ok (taken_of (g.V.Verifier.accepted c.args.keys.now) u.cluster u.transaction (message_of c.args.m.now))
    u c.add_frame.new.pursuit c.in-Ok.ensures.taken in
    record { stands = (taken.2).back p stands; second = h.second }

pub returns-in-Err-clause-shown : goal.returns-in-Err-clause-shown
returns-in-Err-clause-shown g c = λ p h.
    let f = c.args.self.now in
    let u = f.pursuit in
    let stands : StandsFor u p = subst (λ b. StandsNow b u p) c.requires.none h.stands in
    record {
      stands = subst (λ b. StandsNow b c.add_frame.new.pursuit p) (sym c.requires.none) (c.in-Err.ensures.as_before.now p stands);
      second = h.second;
    }
