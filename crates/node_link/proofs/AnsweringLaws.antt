-- What a call of a node has served.
use Rattle.std.proofs.Common.{◌≡◌, ℕ, List, [], ◌∷◌, ◌++◌, drop, take, Option, Some, Result, Ok, Err, OnErr, refl, sym, ap, subst}
use Rattle.std.proofs.Common.{◌∙◌, append_assoc, arith, inr}
use Rattle.std.specs.Prelude.{IfErr, option_map}
use Rattle.std.specs.Result.{IsErrAnd}
use Rattle.std.proofs.lemmas.List.{take-append-drop}
use Rattle.basil_types.specs.declared.links.LinkFail.{LinkFail}
use Rattle.basil_types.specs.declared.links.LinkFail.TheVariants as fails
use Rattle.basil_types.specs.declared.outbox.Envelope.{Envelope}
use Rattle.basil_types.specs.Causes.{Ticks}
use Rattle.basil_types.specs.Links.{LinkState, WrotePrefix, writes}
use Rattle.keyring.specs.declared.verifier.Verifier as verifiers
use Rattle.keyring.specs.declared.signer.Signer as signers
use Rattle.replica_core.specs.declared.replica.Replica.{Replica}
use Rattle.replica_core.specs.Answers.{answer}
use Rattle.replica_core.specs.Replicas.{ReplicaSelf}
use Rattle.node_link.specs.Answering.{answer_bytes}
use Rattle.node_link.specs.Serving.{Served, next_moment, sent_by, book_after, serves, Begins, Handles, HasServed}
use Rattle.replica_core.specs.Shown.{ShowsBook}
use Rattle.node_link.proofs.ServingLaws.{serves_none, serves_one, begins_same, none_more}

pub on_err : {T E : Type 0} (r : Result T E) {P : Type 0} → P → OnErr r P
on_err (Ok x) p = tt
on_err (Err e) p = p

-- at the exit of a `?`
pub at_err : {T E : Type 0} (r : Result T E) (e : E) (P : E → Type 0) → IsErrAnd r (λ x. x ≡ e) → P e → IfErr r P
at_err (Ok x) e P is p = absurd is
at_err (Err x) e P is p = subst P (sym is) p

-- whichever the error is
pub any_err : {T E : Type 0} (r : Result T E) (P : E → Type 0) → ((e : E) → P e) → IfErr r P
any_err (Ok x) P p = tt
any_err (Err e) P p = p e

pub of_err : {T E : Type 0} (r : Result T E) (e : E) {P : Type 0} → r ≡ Err e → OnErr r P → P
of_err (Ok x) e is p = absurd cc
of_err (Err d) e is p = p

-- ---- a moment

pub record Ticked (moments : List ℕ) (later : Option (List ℕ)) (moment : ℕ) : Type 0 where
  pub moment_is : moment ≡ next_moment moments
  pub later_is : later ≡ Some (drop 1 moments)

ticked_by : (moments : List ℕ) (later : Option (List ℕ)) (moment : ℕ) → Ticks (Some moments) later moment → Ticked moments later moment
ticked_by [] later moment h = record { moment_is = h.0; later_is = h.1 }
ticked_by (m ∷ moments) later moment h = record { moment_is = h.0; later_is = h.1 }

pub ticked : (moments : List ℕ) (ticks later : Option (List ℕ)) (moment : ℕ) → ticks ≡ Some moments → Ticks ticks later moment →
    Ticked moments later moment
ticked moments ticks later moment e h =
    ticked_by moments later moment (subst (λ (t : Option (List ℕ)). Ticks t later moment) e h)

-- ---- one envelope

-- its frame wasn't handled
pub not_handled : {V S : Type 0} {v : verifiers.Ghosts V} {g : signers.Ghosts S} (new : Replica V S v g)
    (ticks later : Option (List ℕ)) (told : Option LinkState) (me : ReplicaSelf) (state : LinkState) (s : Served)
    (envelopes : List Envelope) (moment handled : ℕ) → handled ≡ 0 → ShowsBook new s.book → ticks ≡ Some s.moments →
    Ticks ticks later moment → told ≡ Some (record state { written = s.written }) →
    HasServed new later told me state s envelopes handled fails.NoMemory
not_handled new ticks later told me state s envelopes moment handled none book e h l =
    let none-served = serves_none me s in
    rw none (
      record s { moments = drop 1 s.moments },
      record { book = book; moments = (ticked s.moments ticks later moment e h).later_is; links = l },
      record {
        within = omega arith;
        book = rw none-served refl;
        moments = rw none-served (inr refl);
        least = rw none-served (begins_same s.written);
        most = rw none-served (begins_same s.written);
      },
    )

written_front : (written bytes : List ℕ) (count : ℕ) → Begins (written ++ take count bytes) (written ++ bytes)
written_front written bytes count =
    record {
      rest = drop count bytes;
      is = ap (λ (text : List ℕ). written ++ text) (sym (take-append-drop count bytes)) ∙
          sym (append_assoc written (take count bytes) (drop count bytes));
    }

-- its frame was handled, and some of the answer was written
pub handled_one : {V S : Type 0} {v : verifiers.Ghosts V} {g : signers.Ghosts S} (new : Replica V S v g)
    (ticks later : Option (List ℕ)) (told after : Option LinkState) (me : ReplicaSelf) (state : LinkState) (s : Served)
    (e : Envelope) (moment handled : ℕ) (bytes : List ℕ) (fail : LinkFail) → handled ≡ 1 → ticks ≡ Some s.moments →
    Ticks ticks later moment →
    told ≡ Some (record state { written = s.written }) → Handles (answer me moment e.to s.book e.frame) s.book new bytes →
    WrotePrefix told after bytes → HasServed new later after me state s (e ∷ []) handled fail
handled_one new ticks later told after me state s e moment handled bytes fail one at h l did w =
    let tick = ticked s.moments ticks later moment at h in
    let answered = answer me (next_moment s.moments) e.to s.book e.frame in
    let moved : answer me moment e.to s.book e.frame ≡ answered =
    ap (λ (m : ℕ). answer me m e.to s.book e.frame) tick.moment_is in
    let bytes-are : bytes ≡ answer_bytes (sent_by answered) =
    did.text ∙ ap (λ a. answer_bytes (sent_by a)) moved in
    let t : Served = record (serves me s e) { written = s.written ++ take w.count bytes } in
    let single = serves_one me s e in
    rw one (
      t,
      record {
        book = subst (λ b. ShowsBook new b) (ap (book_after s.book) moved) did.book;
        moments = tick.later_is;
        links = w.is ∙ ap (option_map (writes (take w.count bytes))) l;
      },
      record {
        within = omega arith;
        book = rw single refl;
        moments = rw single (none_more fail (serves me s e).moments);
        least = rw (serves_none me s) (record { rest = take w.count bytes; is = refl });
        most = rw single
            (subst (λ (text : List ℕ). Begins (s.written ++ take w.count bytes) (s.written ++ text)) bytes-are
            (written_front s.written bytes w.count));
      },
    )
