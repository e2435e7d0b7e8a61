-- Envelopes that wait are answered, one after the other.
use Rattle.std.proofs.Common.{◌≡◌, ℕ, ◌+◌, ◌-◌, ◌≤◌, List, [], ◌∷◌, ◌++◌, length, drop, Option, Some, None, refl, sym, ap, subst, ◌∙◌}
use Rattle.std.proofs.Common.{append_assoc, arith}
use Rattle.std.specs.Prelude.{slice_get}
use Rattle.std.proofs.lemmas.List.{append-nil, length-append}
use Rattle.basil_types.specs.declared.links.LinkFail.{LinkFail}
use Rattle.basil_types.specs.declared.outbox.Envelope.{Envelope}
use Rattle.basil_types.specs.Links.{LinkState}
use Rattle.keyring.specs.declared.verifier.Verifier as verifiers
use Rattle.keyring.specs.declared.signer.Signer as signers
use Rattle.replica_core.specs.declared.replica.Replica.{Replica}
use Rattle.replica_core.specs.Replicas.{ReplicaSelf}
use Rattle.node_link.specs.Standing.{Reading}
use Rattle.node_link.specs.Serving.{Served, serves, serves_all, ServedSome, IsAt, HasServed}
use Rattle.replica_core.specs.Shown.{own}
use Rattle.node_link.proofs.ServingLaws.{serves_none, serves_one, serves_then, served_behind, served_before}

-- from a first moment of a call to this one, these envelopes were answered
pub record Answering {V S : Type 0} {v : verifiers.Ghosts V} {g : signers.Ghosts S} (first now : Replica V S v g)
    (ticks later : Option (List ℕ)) (told after : Option LinkState) (reader rest : Reading) (frames count : ℕ)
    (faults fails : ℕ) : Type 0 where
  pub done : List Envelope
  pub split : reader.waiting ≡ done ++ rest.waiting
  pub kept : rest ≡ record reader { waiting = rest.waiting }
  pub counted : count ≡ frames + length done
  pub self : own now ≡ own first
  pub unfailed : fails ≡ faults
  pub at : (state : LinkState) (s : Served) → IsAt first ticks told state s →
      IsAt now later after state (serves_all (own first) s done)

pub answering_none : {V S : Type 0} {v : verifiers.Ghosts V} {g : signers.Ghosts S} (first : Replica V S v g)
    (ticks : Option (List ℕ)) (told : Option LinkState) (reader : Reading) (frames faults : ℕ) →
    Answering first first ticks ticks told told reader reader frames frames faults faults
answering_none first ticks told reader frames faults =
    record {
      done = [];
      split = refl;
      kept = refl;
      counted = omega arith;
      self = refl;
      unfailed = refl;
      at = λ state s h. rw (serves_none (own first) s) h;
    }

first_waits : (waiting : List Envelope) (e : Envelope) → Some e ≡ slice_get waiting 0 → waiting ≡ e ∷ drop 1 waiting
first_waits [] e h = absurd cc
first_waits (x ∷ xs) e h = let same : e ≡ x = cc in ap (λ (y : Envelope). y ∷ xs) (sym same)

none_waits : (waiting : List Envelope) → None ≡ slice_get waiting 0 → waiting ≡ []
none_waits [] h = refl
none_waits (x ∷ xs) h = absurd cc

-- the next one was taken
abbrev taken : Reading → Reading
taken r = record r { waiting = drop 1 r.waiting }

pub answering_more : {V S : Type 0} {v : verifiers.Ghosts V} {g : signers.Ghosts S} (first now next : Replica V S v g)
    (ticks later latest : Option (List ℕ)) (told after last : Option LinkState) (reader rest new : Reading)
    (frames count counted : ℕ) (faults fails failed : ℕ) (e : Envelope) →
    Answering first now ticks later told after reader rest frames count faults fails →
    Some e ≡ slice_get rest.waiting 0 → new ≡ taken rest → counted ≡ count + 1 → own next ≡ own now → failed ≡ fails →
    ((state : LinkState) (s : Served) → IsAt now later after state s → IsAt next latest last state (serves (own now) s e)) →
    Answering first next ticks latest told last reader new frames counted faults failed
answering_more first now next ticks later latest told after last reader rest new frames count counted faults fails failed e a h n c o k at =
    let split : reader.waiting ≡ (a.done ++ e ∷ []) ++ drop 1 rest.waiting =
    a.split ∙ ap (λ (es : List Envelope). a.done ++ es) (first_waits rest.waiting e h) ∙
    sym (append_assoc a.done (e ∷ []) (drop 1 rest.waiting)) in
    record {
      done = a.done ++ e ∷ [];
      split = split ∙ ap (λ (r : Reading). (a.done ++ e ∷ []) ++ r.waiting) (sym n);
      kept = n ∙ ap taken a.kept ∙ ap (λ (r : Reading). record reader { waiting = r.waiting }) (sym n);
      counted = omega (arith, length-append a.done (e ∷ []), a.counted);
      self = o ∙ a.self;
      unfailed = k ∙ a.unfailed;
      at = λ state s start.
          let one : serves_all (own first) s (a.done ++ e ∷ []) ≡ serves (own first) (serves_all (own first) s a.done) e =
          serves_then (own first) s a.done (e ∷ []) ∙ serves_one (own first) (serves_all (own first) s a.done) e in
          let same : serves (own now) (serves_all (own first) s a.done) e ≡ serves (own first) (serves_all (own first) s a.done) e =
          ap (λ (me : ReplicaSelf). serves me (serves_all (own first) s a.done) e) a.self in
          rw (one, ← same) (at state (serves_all (own first) s a.done) (a.at state s start));
    }

-- none waits any more
pub record AnsweredAll {V S : Type 0} {v : verifiers.Ghosts V} {g : signers.Ghosts S} (first now : Replica V S v g)
    (ticks later : Option (List ℕ)) (told after : Option LinkState) (reader rest : Reading) (frames count : ℕ) : Type 0 where
  pub emptied : taken rest ≡ record reader { waiting = [] }
  pub counted : count ≡ frames + length reader.waiting
  pub at : (state : LinkState) (s : Served) → IsAt first ticks told state s →
      IsAt now later after state (serves_all (own first) s reader.waiting)

pub answered_all : {V S : Type 0} {v : verifiers.Ghosts V} {g : signers.Ghosts S} (first now : Replica V S v g)
    (ticks later : Option (List ℕ)) (told after : Option LinkState) (reader rest : Reading) (frames count : ℕ)
    (faults fails : ℕ) → Answering first now ticks later told after reader rest frames count faults fails →
    None ≡ slice_get rest.waiting 0 → AnsweredAll first now ticks later told after reader rest frames count
answered_all first now ticks later told after reader rest frames count faults fails a h =
    let empty : rest.waiting ≡ [] = none_waits rest.waiting h in
    let all : reader.waiting ≡ a.done =
    a.split ∙ ap (λ (es : List Envelope). a.done ++ es) empty ∙ append-nil a.done in
    record {
      emptied = ap taken a.kept ∙ ap (λ (es : List Envelope). record reader { waiting = drop 1 es }) empty;
      counted = rw all a.counted;
      at = λ state s start. rw all (a.at state s start);
    }

-- a call fails at one
pub answering_fails : {V S : Type 0} {v : verifiers.Ghosts V} {g : signers.Ghosts S} (first now next : Replica V S v g)
    (ticks later latest : Option (List ℕ)) (told after last : Option LinkState) (reader rest : Reading)
    (frames count counted : ℕ) (faults fails : ℕ) (fail : LinkFail) (e : Envelope) (state : LinkState) (s : Served) →
    Answering first now ticks later told after reader rest frames count faults fails → IsAt first ticks told state s →
    Some e ≡ slice_get rest.waiting 0 → count ≤ counted →
    ((s : Served) → IsAt now later after state s → HasServed next latest last (own now) state s (e ∷ []) (counted - count) fail) →
    HasServed next latest last (own first) state s reader.waiting (counted - frames) fail
answering_fails first now next ticks later latest told after last reader rest
    frames count counted faults fails fail e state s a start h l failed =
    let did = failed (serves_all (own first) s a.done) (a.at state s start) in
    let split : reader.waiting ≡ (a.done ++ e ∷ []) ++ drop 1 rest.waiting =
    a.split ∙ ap (λ (es : List Envelope). a.done ++ es) (first_waits rest.waiting e h) ∙
    sym (append_assoc a.done (e ∷ []) (drop 1 rest.waiting)) in
    let number : counted - frames ≡ length a.done + (counted - count) = omega (arith, a.counted) in
    let own-did : ServedSome (own first) (serves_all (own first) s a.done) (e ∷ []) (counted - count) fail did.0 =
    subst (λ (me : ReplicaSelf). ServedSome me (serves_all (own first) s a.done) (e ∷ []) (counted - count) fail did.0) a.self did.2 in (
      did.0,
      did.1,
      rw (split, number)
          (served_before (own first) s did.0 (a.done ++ e ∷ []) (drop 1 rest.waiting) (length a.done + (counted - count)) fail
          (served_behind (own first) s did.0 a.done (e ∷ []) (counted - count) fail own-did)),
    )
