-- A pair whose form and whose certificate were tested.
use Rattle.std.proofs.Common.{◌≡◌, Bool, true, false, Option, Some, None, Ok, Err, sym, ap, ◌∙◌}
use Rattle.std.specs.Prelude.{Result, OnOk, IfErr, ◌&&◌, is_none}
use Rattle.std.specs.Result.{is_ok, is_err}
use Rattle.basil_types.specs.Refusals.{Refuses}
use Rattle.basil_types.specs.declared.party.Decision.{Decision}
use Rattle.basil_types.specs.Setting.{Setting}
use Rattle.certificates.specs.declared.refusal.CertRefusal.{CertRefusal}
use Rattle.certificates.specs.Accepted.{Accepted}
use Rattle.certificates.specs.Refusals.{decision_of, refusal}
use Rattle.frame_views.specs.Values.{PairValue}
use Rattle.txn_meta.specs.declared.form.FormFault.{FormFault}
use Rattle.txn_meta.specs.Form.{form_fault}
use Rattle.cluster_run.specs.Parts.{is_proven}
use Rattle.cluster_run.specs.States.{Setup}
use Rattle.run_sight.specs.Keeping.{AreOf}

formed : (form : Result (Unit {0}) FormFault) (o : Option FormFault) → OnOk form (o ≡ None) → is_err form ≡ false → o ≡ None
formed (Ok u) o e f = e
formed (Err x) o e f = absurd cc

passed : (tested : Result (Unit {0}) CertRefusal) (o : Option CertRefusal) → Refuses tested o → is_ok tested ≡ is_none o
passed (Ok u) o e = sym (ap is_none e)
passed (Err x) o e = sym (ap is_none e)

-- what is tested, where this is the fault of the form
abbrev tests : Setup → PairValue → Option FormFault → Bool
tests s p form = is_none form && is_none (refusal s.kit.accepts s.cluster p.transaction (decision_of p.certificate.body) p.certificate)

module _ (s : Setup) (A : Accepted) (c : Setting) (p : PairValue) (own : AreOf A c s) where
  -- the form is good, and the certificate was tested for the decision that it names
  pub tested_is : (form : Result (Unit {0}) FormFault) (tested : Result (Unit {0}) CertRefusal) (d : Decision) (r : Bool) →
      OnOk form (form_fault p.transaction ≡ None) → is_err form ≡ false → d ≡ decision_of p.certificate.body →
      Refuses tested (refusal A c p.transaction d p.certificate) → r ≡ is_ok tested → r ≡ is_proven s p
  tested_is form tested d r good fine named e f =
      f ∙ passed tested (refusal A c p.transaction d p.certificate) e
      ∙ ap (λ (x : Decision). is_none (refusal A c p.transaction x p.certificate)) named
      ∙ ap (λ (B : Accepted). is_none (refusal B c p.transaction (decision_of p.certificate.body) p.certificate)) own.accepts
      ∙ ap (λ (b : Setting). is_none (refusal s.kit.accepts b p.transaction (decision_of p.certificate.body) p.certificate)) own.cluster
      ∙ ap (tests s p) (sym (formed form (form_fault p.transaction) good fine))

  -- the form isn't good
  pub unformed : (form : Result (Unit {0}) FormFault) → IfErr form (λ fault. form_fault p.transaction ≡ Some fault) → is_err form ≡ true →
      false ≡ is_proven s p
  unformed (Ok u) bad e = absurd cc
  unformed (Err fault) bad e = sym (ap (tests s p) bad)
