-- Votes that are released one by one.
use Rattle.std.proofs.Common.{◌≡◌, ℕ, ◌+◌, List, [], ◌∷◌, ◌++◌, length, None, refl, sym, ap, subst, ◌∙◌, arith}
use Rattle.basil_types.specs.declared.outbox.Envelope.{Envelope}
use Rattle.basil_types.specs.declared.outbox.Outbox.{Outbox}
use Rattle.keyring.specs.Signing.{Signing}
use Rattle.node_steps.specs.Pendings.{Sends, bytes_sent}
use Rattle.txn_table.specs.Entries.{EntryValue, voted}
use Rattle.txn_table.specs.Tables.{changed}
use Rattle.replica_core.specs.declared.work.Release.{Release}
use Rattle.replica_core.specs.KnownWorks.{CanRelease, CanReleaseAll, all_released, released_told}
use Rattle.replica_core.specs.Telling.{Told}

pub next_can : (size : ℕ) (es ns : List EntryValue) (r : Release) (rest left : List Release) (s : List ℕ) → rest ≡ r ∷ left →
    ns ≡ changed (voted r.decision s None) r.place es → CanReleaseAll size es rest → CanReleaseAll size ns left
next_can size es ns r rest left s h n can =
    let all = subst (λ rs. CanReleaseAll size es rs) h can in
    subst (λ es. CanReleaseAll size es left) (sym n) (all.1 s)

pub first_can : (size : ℕ) (es : List EntryValue) (r : Release) (rest left : List Release) → rest ≡ r ∷ left →
    CanReleaseAll size es rest → CanRelease size es r
first_can size es r rest left h can = (subst (λ rs. CanReleaseAll size es rs) h can).0

pub next_told : (g g' : Signing) (r : Release) (rest left : List Release) (t t' : Told) → rest ≡ r ∷ left → g' ≡ g →
    t' ≡ released_told g' t r → all_released g left t' ≡ all_released g rest t
next_told g g' r rest left t t' h e f =
    ap (all_released g left) (f ∙ ap (λ (s : Signing). released_told s t r) e) ∙ sym (ap (λ rs. all_released g rs t) h)

length_one : (es : List Envelope) (e : Envelope) → length (es ++ e ∷ []) ≡ length es + 1
length_one [] e = refl
length_one (x ∷ es) e = let i = length_one es e in omega (arith, i)

bytes_one : (es : List Envelope) (e : Envelope) → bytes_sent (es ++ e ∷ []) ≡ bytes_sent es + length e.frame
bytes_one [] e = omega arith
bytes_one (x ∷ es) e = let i = bytes_one es e in omega (arith, i)

pub sends_one : (old new : Outbox) (e : Envelope) → new.messages.items ≡ old.messages.items ++ e ∷ [] → Sends old new 1 (length e.frame)
sends_one old new e n = record {
  messages = ap length n ∙ length_one old.messages.items e;
  bytes = ap bytes_sent n
      ∙ bytes_one old.messages.items e;
}
