use Rattle.std.proofs.Common.{Option, subst, sym}
use Rattle.certificates.specs.Deciding.{HasGoodForm}
use Rattle.client_core.specs.declared.held.Formed.{Formed}
use Rattle.client_core.specs.Showing.{ShowsFormed}
use Rattle.client_core.proofs.ShowingLaws.{formed_law, none_law}
use Rattle.client_core.proofs.held.Slot.formed_parts.Goals as goal

pub returns-in-Some-clause-parts : goal.returns-in-Some-clause-parts
returns-in-Some-clause-parts c = λ p h.
    formed_law c.in-Some.formed p c.transaction-transaction.result.now c.signature-signature.result.now
    (subst (λ (f : Option Formed). ShowsFormed f p) c.in-Some.is h)
    c.transaction-transaction.ensures.value c.signature-signature.ensures.value

pub returns-in-None-clause-parts : goal.returns-in-None-clause-parts
returns-in-None-clause-parts c = λ p h. none_law p (subst (λ (f : Option Formed). ShowsFormed f p) c.in-None.is h)

pub returns-in-Some-clause-form : goal.returns-in-Some-clause-form
returns-in-Some-clause-form c =
    subst HasGoodForm (sym c.transaction-transaction.ensures.value) c.transaction-transaction.ensures.form
