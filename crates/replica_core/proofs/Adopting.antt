-- A leader's decision is adopted where nothing refuses it.
use Rattle.std.proofs.Common.{◌≡◌, Bool, true, false, not, Option, Some, None, Err, refl, ap, ◌∙◌}
use Rattle.basil_types.specs.Built.{or_else}
use Rattle.node_steps.specs.Refusing.{needs, unless}
use Rattle.replica_core.specs.declared.refusal.Refusal.TheVariants.{NotLeader}
use Rattle.replica_core.specs.declared.refusal.Refusal.{Refusal}
use Rattle.replica_core.specs.Replicas.{Done}

or_same : (x y z : Option Refusal) → or_else x (or_else y z) ≡ or_else (or_else x y) z
or_same None y z = refl
or_same (Some e) y z = refl

pub refused_first : (x y z : Option Refusal) (e : Refusal) (done : Done) → or_else x y ≡ Some e
    → unless (or_else x (or_else y z)) done ≡ Err e
refused_first x y z e done h = ap (λ o. unless o done) (or_same x y z ∙ ap (λ o. or_else o z) h)

pub refused_last : (x y z : Option Refusal) → or_else x y ≡ None → or_else x (or_else y z) ≡ z
refused_last x y z h = or_same x y z ∙ ap (λ o. or_else o z) h

pub led : (b : Bool) → not b ≡ false → needs b NotLeader ≡ None
led true h = refl
led false h = absurd cc
