-- A frame that names the transaction: its fault, or what is taken of it.
use Rattle.std.proofs.Common.{◌≡◌, List, ℕ, Bool, true, cond, Option, None, Some, Err, sym, ap, subst, ◌∙◌}
use Rattle.std.specs.Prelude.{Result, IfOk, option_map}
use Rattle.basil_types.specs.Built.{or_else}
use Rattle.basil_types.specs.declared.memory.NoMemory.{NoMemory}
use Rattle.frame_values.specs.declared.owned.certificate.Certificate.{Certificate}
use Rattle.frame_values.specs.Owned.{certificate_value}
use Rattle.frame_views.specs.Values.{CertificateValue}
use Rattle.std.specs.Str.{bytes_eq}
use Rattle.basil_types.specs.Transaction.{TransactionValue, id}
use Rattle.certificates.specs.declared.fault.FrameFault.{FrameFault}
use Rattle.certificates.specs.declared.fault.FrameFault.TheVariants.{NotMine}
use Rattle.node_steps.specs.Refusing.{unless}
use Rattle.client_recover.specs.declared.pursuit.Pursuit.{Pursuit}
use Rattle.client_recover.specs.Taken.{TakenValue}
use Rattle.client_recover.specs.Frames.{if_mine}
use Rattle.client_recover.specs.Standing.{Takes, TakesOf}

pub refused_of : (named : List ℕ) (t : TransactionValue) (fault : Option FrameFault) (x : TakenValue) (f : FrameFault) →
    bytes_eq named (id t) ≡ true → fault ≡ Some f →
    if_mine named t fault x ≡ Err f
refused_of named t fault x f mine is =
    ap (λ (b : Bool). let r : Result TakenValue FrameFault = cond b (unless fault x) (Err NotMine) in r) mine ∙ ap (λ o. unless o x) is

pub takes_of : (named : List ℕ) (t : TransactionValue) (fault : Option FrameFault) (x : TakenValue) (old new : Pursuit) →
    bytes_eq named (id t) ≡ true → fault ≡ None →
    Takes old new x → TakesOf (if_mine named t fault x) old new
takes_of named t fault x old new mine none h =
    subst (λ r. TakesOf r old new)
    (sym (ap (λ (b : Bool). let r : Result TakenValue FrameFault = cond b (unless fault x) (Err NotMine) in r) mine
    ∙ ap (λ o. unless o x) none)) h

-- where the votes decide nothing, what comes next does
pub none_then : (o : Result (Option Certificate) NoMemory) (a b : Option CertificateValue) → a ≡ None →
    IfOk o (λ x. option_map certificate_value x ≡ b) →
    IfOk o (λ x. option_map certificate_value x ≡ or_else a b)
none_then o a b e h = subst (λ a. IfOk o (λ x. option_map certificate_value x ≡ or_else a b)) (sym e) h
