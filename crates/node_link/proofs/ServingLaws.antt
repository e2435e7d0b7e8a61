-- What was served of some envelopes, and of more.
use Rattle.std.proofs.Common.{◌≡◌, ℕ, zero, suc, ◌+◌, ◌-◌, ◌≤◌, List, [], ◌∷◌, ◌++◌, length, drop, take, fold, Result, Ok, Err, refl, sym}
use Rattle.std.proofs.Common.{ap, subst, ◌∙◌, append_assoc, arith, inl}
use Rattle.std.proofs.lemmas.List.{append-nil, length-append, take_all, take-append-le, take-append-drop}
use Rattle.std.proofs.Math.Seq.{take-append-add}
use Rattle.basil_types.specs.declared.links.LinkFail.{LinkFail}
use Rattle.basil_types.specs.declared.links.LinkFail.TheVariants.{Failed, NoMemory}
use Rattle.basil_types.specs.declared.outbox.Envelope.{Envelope}
use Rattle.replica_core.specs.Replicas.{ReplicaSelf, BookValue, Done}
use Rattle.replica_core.specs.declared.parts.Parts.{Parts}
use Rattle.replica_core.specs.Nodes.{Shows, ShowsSame}
use Rattle.replica_core.specs.Telling.{Told, told, told_of}
use Rattle.node_steps.specs.Pens.{PenValue}
use Rattle.keyring.specs.declared.verifier.Verifier as verifiers
use Rattle.keyring.specs.declared.signer.Signer as signers
use Rattle.replica_core.specs.declared.replica.Replica.{Replica}
use Rattle.replica_core.specs.declared.refusal.Refusal.{Refusal}
use Rattle.node_link.specs.Answering.{answer_bytes}
use Rattle.node_link.specs.Serving.{Served, serves, serves_all, Begins, Carries, HasTicked, ServedSome, Handles}
use Rattle.replica_core.specs.Shown.{ShowsBook}

-- ---- one after the other

fold-append : {A B : Type 0} (f : B → A → B) (a : B) (xs ys : List A) → fold f a (xs ++ ys) ≡ fold f (fold f a xs) ys
fold-append f a [] ys = refl
fold-append f a (x ∷ xs) ys = fold-append f (f a x) xs ys

pub serves_then : (me : ReplicaSelf) (s : Served) (some more : List Envelope) →
    serves_all me s (some ++ more) ≡ serves_all me (serves_all me s some) more
unfolding serves_all
serves_then me s some more = fold-append (serves me) s some more

pub serves_none : (me : ReplicaSelf) (s : Served) → serves_all me s [] ≡ s
unfolding serves_all
serves_none me s = refl

pub serves_one : (me : ReplicaSelf) (s : Served) (e : Envelope) → serves_all me s (e ∷ []) ≡ serves me s e
unfolding serves_all
serves_one me s e = refl

-- ---- what was written stays written

pub begins_same : (text : List ℕ) → Begins text text
begins_same text = record { rest = []; is = sym (append-nil text) }

pub begins_on : (a b c : List ℕ) → Begins a b → Begins b c → Begins a c
begins_on a b c p q =
    record {
      rest = p.rest ++ q.rest;
      is = q.is ∙ ap (λ (text : List ℕ). text ++ q.rest) p.is ∙ append_assoc a p.rest q.rest;
    }

fold_begins : (me : ReplicaSelf) (s : Served) (envelopes : List Envelope) → Begins s.written (fold (serves me) s envelopes).written
fold_begins me s [] = begins_same s.written
fold_begins me s (e ∷ envelopes) =
    begins_on _ _ _ (record { rest = _; is = refl }) (fold_begins me (serves me s e) envelopes)

pub serves_begins : (me : ReplicaSelf) (s : Served) (envelopes : List Envelope) → Begins s.written (serves_all me s envelopes).written
unfolding serves_all
serves_begins me s envelopes = fold_begins me s envelopes

-- fewer envelopes, less written
pub fewer_begins : (me : ReplicaSelf) (s : Served) (some more : List Envelope) →
    Begins (serves_all me s some).written (serves_all me s (some ++ more)).written
fewer_begins me s some more = rw (serves_then me s some more) (serves_begins me (serves_all me s some) more)

-- ---- all of them

-- the first ones have less written
front_begins : (me : ReplicaSelf) (s : Served) (envelopes : List Envelope) (count : ℕ) →
    Begins (serves_all me s (take count envelopes)).written (serves_all me s envelopes).written
front_begins me s envelopes count =
    subst (λ (es : List Envelope). Begins (serves_all me s (take count envelopes)).written (serves_all me s es).written)
    (take-append-drop count envelopes) (fewer_begins me s (take count envelopes) (drop count envelopes))

-- the clock gave no more moments
pub none_more : (fail : LinkFail) (moments : List ℕ) → HasTicked fail moments moments
none_more Failed moments = refl
none_more NoMemory moments = inl refl

pub served_all : (me : ReplicaSelf) (s : Served) (envelopes : List Envelope) (fail : LinkFail) →
    ServedSome me s envelopes (length envelopes) fail (serves_all me s envelopes)
served_all me s envelopes fail =
    let whole : take (length envelopes) envelopes ≡ envelopes = take_all _ envelopes (omega arith) in
    record {
      within = omega arith;
      book = rw whole refl;
      moments = rw whole (none_more fail (serves_all me s envelopes).moments);
      least = front_begins me s envelopes (length envelopes - 1);
      most = rw whole (begins_same (serves_all me s envelopes).written);
    }

-- ---- some, behind those that were all answered

-- the handled ones behind others
least_behind : (me : ReplicaSelf) (s : Served) (some more : List Envelope) (handled : ℕ) (written : List ℕ) →
    Begins (serves_all me (serves_all me s some) (take (handled - 1) more)).written written →
    Begins (serves_all me s (take ((length some + handled) - 1) (some ++ more))).written written
least_behind me s some more zero written b =
    let few : length some - 1 ≤ length some = omega arith in
    let at : (length some + 0) - 1 ≡ length some - 1 = omega arith in
    let all = serves_none me (serves_all me s some) in
    let whole : Begins (serves_all me s some).written written =
    subst (λ (x : Served). Begins x.written written) all b in
    rw (at, take-append-le (length some - 1) some more few)
    (begins_on _ _ _ (front_begins me s some (length some - 1)) whole)
least_behind me s some more (suc handled) written b =
    let at : (length some + suc handled) - 1 ≡ length some + (suc handled - 1) = omega arith in
    rw (at, take-append-add some more (suc handled - 1), serves_then me s some (take (suc handled - 1) more)) b

pub served_behind : (me : ReplicaSelf) (s t : Served) (some more : List Envelope) (handled : ℕ) (fail : LinkFail) →
    ServedSome me (serves_all me s some) more handled fail t → ServedSome me s (some ++ more) (length some + handled) fail t
served_behind me s t some more handled fail p =
    let at = take-append-add some more handled in
    record {
      within = omega (arith, length-append some more, p.within);
      book = rw (at, serves_then me s some (take handled more)) p.book;
      moments = rw (at, serves_then me s some (take handled more)) p.moments;
      least = least_behind me s some more handled t.written p.least;
      most = rw (at, serves_then me s some (take handled more)) p.most;
    }

-- ---- with more envelopes that weren't handled

pub served_before : (me : ReplicaSelf) (s t : Served) (envelopes more : List Envelope) (handled : ℕ) (fail : LinkFail) →
    ServedSome me s envelopes handled fail t → ServedSome me s (envelopes ++ more) handled fail t
served_before me s t envelopes more handled fail p =
    let at = take-append-le handled envelopes more p.within in
    let before : handled - 1 ≤ length envelopes = omega (arith, p.within) in
    record {
      within = omega (arith, length-append envelopes more, p.within);
      book = rw at p.book;
      moments = rw at p.moments;
      least = rw (take-append-le (handled - 1) envelopes more before) p.least;
      most = rw at p.most;
    }

-- ---- a replica

-- what showed a book still shows it
pub shown_same : (old new : Parts) (pen : PenValue) (book : BookValue) → ShowsSame old new → Shows old pen book → Shows new pen book
shown_same old new pen book same s =
    record {
      same = rw (same.entries, same.logged, same.kept) s.same;
      noted = same.noted book.noted s.noted;
    }

-- a plan that was carried out did what is answered
pub carried_out : {V S : Type 0} {v : verifiers.Ghosts V} {g : signers.Ghosts S} (replica : Replica V S v g)
    (answered : Result Done Refusal)
    (before : BookValue) (t : Told) (bytes : List ℕ) → told_of answered ≡ Ok t → Carries replica t bytes →
    Handles answered before replica bytes
carried_out replica (Ok done) before t bytes e c =
    let same : told done ≡ t = cc in
    record {
      book = subst (λ (u : Told). ShowsBook replica u.book) (sym same) c.book;
      text = c.text ∙ ap (λ (u : Told). answer_bytes u.sent) (sym same);
    }
carried_out replica (Err refusal) before t bytes e c = absurd cc

-- a frame that is refused changes nothing, and nothing is sent
pub refused_by : {V S : Type 0} {v : verifiers.Ghosts V} {g : signers.Ghosts S} (replica : Replica V S v g) (answered : Result Done Refusal)
    (before : BookValue) (refusal : Refusal) (bytes : List ℕ) → answered ≡ Err refusal → ShowsBook replica before →
    bytes ≡ answer_bytes [] → Handles answered before replica bytes
refused_by replica answered before refusal bytes is shown text =
    subst (λ (a : Result Done Refusal). Handles a before replica bytes) (sym is) (record { book = shown; text = text })
