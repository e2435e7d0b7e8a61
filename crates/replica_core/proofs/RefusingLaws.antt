-- The first refusal, test by test.
use Rattle.std.proofs.Common.{◌≡◌, Bool, true, cond, Option, None, Some, ap, subst, ◌∙◌}
use Rattle.std.specs.Prelude.{Result, Ok, Err}
use Rattle.basil_types.specs.Built.{or_else}
use Rattle.frame_views.specs.Values.{MessageValue}
use Rattle.replica_core.specs.declared.refusal.Refusal.{Refusal}
use Rattle.replica_core.specs.declared.refusal.Refusal.TheVariants.{NotMine}
use Rattle.replica_core.specs.Refusals.{refused, bad_transaction, is_mine, not_mine, bad_signature, bad_proof}
use Rattle.basil_types.specs.Refusals.{Refuses}
use Rattle.replica_core.specs.Replicas.{ReplicaSelf}

module _ (me : ReplicaSelf) (m : MessageValue) (form : bad_transaction m ≡ None) (mine : is_mine me m ≡ true) where
  to_signatures : refused me m ≡ or_else (bad_signature me m) (bad_proof me m)
  to_signatures =
      ap (λ (o : Option Refusal). or_else o (or_else (not_mine me m) (or_else (bad_signature me m) (bad_proof me m)))) form
      ∙ ap (λ (b : Bool). or_else (cond b None (Some NotMine)) (or_else (bad_signature me m) (bad_proof me m))) mine

  pub signature_refused : (e : Refusal) → bad_signature me m ≡ Some e → refused me m ≡ Some e
  signature_refused e h = to_signatures ∙ ap (λ (o : Option Refusal). or_else o (bad_proof me m)) h

  pub proof_left : bad_signature me m ≡ None → refused me m ≡ bad_proof me m
  proof_left h = to_signatures ∙ ap (λ (o : Option Refusal). or_else o (bad_proof me m)) h

pub ok_none : (r : Result (Unit {0}) Refusal) (x : Option Refusal) (u : Unit {0}) → Refuses r x → r ≡ Ok u → x ≡ None
ok_none r x u h e = subst (λ (r : Result (Unit {0}) Refusal). Refuses r x) e h

pub err_some : (r : Result (Unit {0}) Refusal) (x : Option Refusal) (f : Refusal) → Refuses r x → r ≡ Err f → x ≡ Some f
err_some r x f h e = subst (λ (r : Result (Unit {0}) Refusal). Refuses r x) e h
