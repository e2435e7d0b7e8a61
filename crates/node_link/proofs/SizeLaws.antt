-- How many bytes an answer has, and how it is filled.
use Rattle.std.proofs.Common.{◌≡◌, ℕ, suc, ◌+◌, ◌*◌, ◌^◌, ◌<◌, ◌≤◌, List, [], ◌∷◌, ◌++◌, length, drop, get_or, Vec, vec_len, vec_capacity}
use Rattle.std.proofs.Common.{refl, sym, ap, ◌∙◌, append_assoc, arith}
use Rattle.std.specs.Int.{w32, to_be_bytes}
use Rattle.std.specs.List.{flat_map}
use Rattle.std.specs.declared.alloc.Global.{Global}
use Rattle.std.proofs.lemmas.List.{append-nil, drop_all, drop_more, length-append}
use Rattle.basil_types.specs.Parties.{party_bytes}
use Rattle.basil_types.specs.declared.outbox.Envelope.{Envelope}
use Rattle.basil_types.specs.declared.party.Party.{Party}
use Rattle.basil_types.specs.declared.party.Party.TheVariants.{Replica, Client}
use Rattle.node_steps.specs.Pendings.{bytes_sent}
use Rattle.node_link.specs.Answering.{envelope_bytes, answer_bytes}

-- ---- sizes

head_size : (p : Party) (n : ℕ) → length (party_bytes p ++ to_be_bytes w32 n) ≡ 7
head_size (Replica shard index) n = refl
head_size (Client number) n = refl

envelope_size : (e : Envelope) → length (envelope_bytes e) ≡ 7 + length e.frame
envelope_size e =
    length-append (party_bytes e.to ++ to_be_bytes w32 (length e.frame)) e.frame
    ∙ ap (λ (k : ℕ). k + length e.frame) (head_size e.to (length e.frame))

both : (a b f n s : ℕ) → a ≡ 7 + f → b ≡ 7 * n + s → a + b ≡ 7 * suc n + (f + s)
both a b f n s p q = omega (arith, p, q)

envelopes_size : (es : List Envelope) → length (flat_map envelope_bytes es) ≡ 7 * length es + bytes_sent es
envelopes_size [] = refl
envelopes_size (e ∷ es) =
    length-append (envelope_bytes e) (flat_map envelope_bytes es)
    ∙ both (length (envelope_bytes e)) (length (flat_map envelope_bytes es)) (length e.frame) (length es) (bytes_sent es)
    (envelope_size e) (envelopes_size es)

pub answer_size : (sent : List Envelope) → length (answer_bytes sent) ≡ 4 + (7 * length sent + bytes_sent sent)
answer_size sent =
    let count : length (to_be_bytes w32 (length sent)) ≡ 4 = refl in
    length-append (to_be_bytes w32 (length sent)) (flat_map envelope_bytes sent)
    ∙ ap (λ (k : ℕ). k + length (flat_map envelope_bytes sent)) count ∙ ap (λ (k : ℕ). 4 + k) (envelopes_size sent)

-- the size of an answer is that which its plan told
pub sized_by : (sent : List Envelope) (messages bytes : ℕ) → length sent ≡ messages → bytes_sent sent ≡ bytes →
    length (answer_bytes sent) ≡ 4 + (7 * messages + bytes)
sized_by sent messages bytes m b =
    answer_size sent ∙ ap (λ (k : ℕ). 4 + (7 * k + bytes_sent sent)) m ∙ ap (λ (k : ℕ). 4 + (7 * messages + k)) b

-- a short answer has few messages
pub few_messages : (sent : List Envelope) → length (answer_bytes sent) < 2 ^ 32 → length sent < 2 ^ 32
few_messages sent short = omega (arith, answer_size sent, short)

-- ---- filling

-- of the envelopes the first ones stand in the bytes, and there is room for the others
pub record Filling (before : List ℕ) (out : Vec ℕ Global) (envelopes : List Envelope) (k : ℕ) : Type 0 where
  pub written : before ++ flat_map envelope_bytes envelopes ≡ out.items ++ flat_map envelope_bytes (drop k envelopes)
  pub room : vec_len out + length (flat_map envelope_bytes (drop k envelopes)) ≤ vec_capacity out
  pub short : length (flat_map envelope_bytes (drop k envelopes)) < 2 ^ 32

-- the next one and those behind it
parted : (envelopes : List Envelope) (k : ℕ) (e : Envelope) → k < length envelopes → e ≡ get_or envelopes k e →
    flat_map envelope_bytes (drop k envelopes) ≡ envelope_bytes e ++ flat_map envelope_bytes (drop (k + 1) envelopes)
parted envelopes k e h is =
    ap (flat_map envelope_bytes) (drop_more envelopes k e h ∙ ap (λ (x : Envelope). x ∷ drop (k + 1) envelopes) (sym is))

pub parted_size : (envelopes : List Envelope) (k : ℕ) (e : Envelope) → k < length envelopes → e ≡ get_or envelopes k e →
    length (flat_map envelope_bytes (drop k envelopes))
    ≡ length (envelope_bytes e) + length (flat_map envelope_bytes (drop (k + 1) envelopes))
parted_size envelopes k e h is =
    ap length (parted envelopes k e h is) ∙ length-append (envelope_bytes e) (flat_map envelope_bytes (drop (k + 1) envelopes))

pub filled_one : (before : List ℕ) (old new : Vec ℕ Global) (envelopes : List Envelope) (k : ℕ) (e : Envelope) →
    k < length envelopes → e ≡ get_or envelopes k e → new.items ≡ old.items ++ envelope_bytes e → vec_capacity old ≤ vec_capacity new →
    Filling before old envelopes k → Filling before new envelopes (k + 1)
filled_one before old new envelopes k e h is appended kept f =
    let rest = flat_map envelope_bytes (drop (k + 1) envelopes) in
    let size = parted_size envelopes k e h is in
    let more : length new.items ≡ length old.items + length (envelope_bytes e) =
    ap length appended ∙ length-append old.items (envelope_bytes e) in
    record {
      written = f.written ∙ ap (λ (x : List ℕ). old.items ++ x) (parted envelopes k e h is)
          ∙ sym (append_assoc old.items (envelope_bytes e) rest) ∙ ap (λ (x : List ℕ). x ++ rest) (sym appended);
      room = omega (arith, f.room, size, more, kept);
      short = omega (arith, f.short, size);
    }

pub filled_all : (before : List ℕ) (out : Vec ℕ Global) (envelopes : List Envelope) (k : ℕ) → length envelopes ≤ k →
    Filling before out envelopes k → out.items ≡ before ++ flat_map envelope_bytes envelopes
filled_all before out envelopes k h f =
    sym (f.written ∙ ap (λ (es : List Envelope). out.items ++ flat_map envelope_bytes es) (drop_all k envelopes h) ∙ append-nil out.items)
