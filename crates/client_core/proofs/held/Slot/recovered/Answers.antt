use Rattle.std.proofs.Common.{◌∙◌, false, refl, ap}
use Rattle.basil_types.specs.Transaction.{TransactionValue}
use Rattle.client_core.proofs.HeldLaws.{some_of}
use Rattle.client_core.proofs.RecoverLaws.{recovered_shows}
use Rattle.client_core.proofs.held.Slot.recovered.Goals as goal

pub returns-clause-shown : goal.returns-clause-shown
returns-clause-shown c =
    recovered_shows _ c.args.t.now c.in_ok-transaction.transaction c.args.signature.now c.in_ok-signature.signature _ refl
    (c.time-time.ensures.value ∙ ap (λ (u : TransactionValue). u.time) c.view.ensures.value)
    c.new.ensures.items c.new-2.ensures.items refl c.in_ok-transaction.ensures c.in_ok-signature.ensures
    (record { stands = c.new-pursuit.ensures.stands false; second = refl })

pub returns-clause-cluster : goal.returns-clause-cluster
returns-clause-cluster c = some_of c.args.cluster _ c.new-pursuit.ensures.cluster
