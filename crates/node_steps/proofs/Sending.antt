-- Frames that are sent one by one.
use Rattle.std.proofs.Common.{◌≡◌, ◌+◌, ℕ, List, [], suc, ◌∷◌, ◌++◌, length, map, refl, sym, ap, ◌∙◌, arith}
use Rattle.std.proofs.lemmas.List.{append_assoc}
use Rattle.basil_types.specs.declared.outbox.Envelope.{Envelope}
use Rattle.basil_types.specs.declared.outbox.Outbox.{Outbox}
use Rattle.basil_types.specs.Transaction.{long_text}
use Rattle.node_steps.specs.declared.pending.Unsigned.{Unsigned}
use Rattle.node_steps.specs.Pendings.{sealed, bytes_in, bytes_sent, Sends}

pub next_sent : (signature : List ℕ) (out new : List Envelope) (u : Unsigned) (rest left : List Unsigned) (frame : List ℕ) →
    rest ≡ u ∷ left → frame ≡ u.frame.items ++ long_text signature → new ≡ out ++ record { to = u.to; frame = frame } ∷ [] →
    new ++ map (sealed signature) left ≡ out ++ map (sealed signature) rest
next_sent signature out new u rest left frame r f n =
    ap (λ (l : List Envelope). l ++ map (sealed signature) left) (n
    ∙ ap (λ (b : List ℕ). let e : Envelope = record { to = u.to; frame = b } in out ++ e ∷ []) f)
    ∙ append_assoc out (sealed signature u ∷ []) (map (sealed signature) left)
    ∙ sym (ap (λ (l : List Unsigned). out ++ map (sealed signature) l) r)

sent_behind : (es fs : List Envelope) → bytes_sent (es ++ fs) ≡ bytes_sent es + bytes_sent fs
sent_behind [] fs = omega arith
sent_behind (e ∷ es) fs = let i = sent_behind es fs in omega (arith, i)

length_behind : (xs ys : List ℕ) → length (xs ++ ys) ≡ length xs + length ys
length_behind [] ys = omega arith
length_behind (x ∷ xs) ys = let i = length_behind xs ys in omega (arith, i)

sealed_bytes : (signature : List ℕ) (us : List Unsigned) → bytes_sent (map (sealed signature) us) ≡ bytes_in (length signature) us
sealed_bytes signature [] = refl
sealed_bytes signature (u ∷ us) =
    let i = sealed_bytes signature us in
    let l = length_behind u.frame.items (long_text signature) in
    omega (arith, i, l)

length_sealed : (signature : List ℕ) (us : List Unsigned) → length (map (sealed signature) us) ≡ length us
length_sealed signature [] = refl
length_sealed signature (u ∷ us) = ap suc (length_sealed signature us)

length_sent : (es fs : List Envelope) → length (es ++ fs) ≡ length es + length fs
length_sent [] fs = omega arith
length_sent (e ∷ es) fs = let i = length_sent es fs in omega (arith, i)

pub more_sent : (signature : List ℕ) (size : ℕ) (old new : Outbox) (us : List Unsigned) → length signature ≡ size →
    new.messages.items ≡ old.messages.items ++ map (sealed signature) us → Sends old new (length us) (bytes_in size us)
more_sent signature size old new us l n =
    let es = old.messages.items in
    record {
      messages = ap length n ∙ length_sent es (map (sealed signature) us) ∙ ap (λ k. length es + k) (length_sealed signature us);
      bytes = ap bytes_sent n ∙ sent_behind es (map (sealed signature) us)
          ∙ ap (λ k. bytes_sent es + k) (sealed_bytes signature us ∙ ap (λ k. bytes_in k us) l);
    }
