-- A connection is read, piece by piece, and what it says is answered.
use Rattle.std.proofs.Common.{◌≡◌, ℕ, suc, ◌+◌, ◌-◌, ◌≤◌, Bool, true, false, List, [], ◌++◌, length, drop, Option, Some, None, is_some, not}
use Rattle.std.proofs.Common.{refl, sym, ap, subst, ◌∙◌, append_assoc, arith}
use Rattle.std.specs.Prelude.{option_map}
use Rattle.std.specs.Io.KnownBytes.{Consumes, IsAtEnd}
use Rattle.std.proofs.lemmas.List.{append-nil, length-append, drop_at}
use Rattle.basil_types.specs.declared.links.LinkFail.{LinkFail}
use Rattle.basil_types.specs.declared.outbox.Envelope.{Envelope}
use Rattle.basil_types.specs.Links.{LinkState, reads, unread}
use Rattle.basil_types.specs.Setting.{Setting}
use Rattle.keyring.specs.declared.verifier.Verifier as verifiers
use Rattle.keyring.specs.declared.signer.Signer as signers
use Rattle.replica_core.specs.declared.replica.Replica.{Replica}
use Rattle.replica_core.specs.Replicas.{ReplicaSelf}
use Rattle.node_link.specs.declared.cause.EndCause.{EndCause}
use Rattle.node_link.specs.Dialogue.{Dialogue, dialogue_of, connection_limit}
use Rattle.node_link.specs.Standing.{Reading, Stands}
use Rattle.node_link.specs.Serving.{Served, serves_all, ServedSome, IsAt, HasServed, ServesAll, ServesSome}
use Rattle.replica_core.specs.Shown.{own}
use Rattle.node_link.proofs.ServingLaws.{serves_none, serves_then, served_all, served_behind, served_before}
use Rattle.node_link.proofs.StandingLaws.{Grows, envelopes_grow, few_envelopes, ended_stays, nothing, stands_emptied}

abbrev spoken : Setting → List ℕ → List Envelope
spoken cluster bytes = (dialogue_of cluster bytes).envelopes

-- the first bytes of a connection were read, and these envelopes were answered
abbrev pub Reaches : {V S : Type 0} {v : verifiers.Ghosts V} {g : signers.Ghosts S} → (first now : Replica V S v g) →
    (ticks later : Option (List ℕ)) → (told after : Option LinkState) → (bytes : List ℕ) → List Envelope → Type 0
Reaches first now ticks later told after bytes envelopes =
    (state : LinkState) (whole : List ℕ) (s : Served) → state.rest ≡ Some whole → IsAt first ticks told state s →
    (left : List ℕ) × (whole ≡ bytes ++ left) ×
    IsAt now later after (record state { rest = Some left }) (serves_all (own first) s envelopes)

-- ---- a piece is read

-- what the links tell after a read
pub record ReadSo (left : List ℕ) (after mid : Option LinkState) (state : LinkState) (piece : List ℕ) (s : Served) : Type 0 where
  pub rest : List ℕ
  pub split : left ≡ piece ++ rest
  pub links : mid ≡ Some (record state { rest = Some rest; written = s.written })

read_so : (count : ℕ) (left : List ℕ) (after mid : Option LinkState) (state : LinkState) (piece : List ℕ) (s : Served) →
    after ≡ Some (record state { rest = Some left; written = s.written }) → mid ≡ option_map (reads count) after →
    Consumes (unread after) (unread mid) piece → ReadSo left after mid state piece s
read_so count left after mid state piece s e m c =
    let here : mid ≡ Some (record state { rest = Some (drop count left); written = s.written }) =
    m ∙ ap (option_map (reads count)) e in
    record {
      rest = drop count left;
      split = subst (λ (t : Option LinkState). Consumes (unread t)
          (unread (Some (record state { rest = Some (drop count left); written = s.written }))) piece) e
          (subst (λ (t : Option LinkState). Consumes (unread after) (unread t) piece) here c);
      links = here;
    }

pub reaches_read : {V S : Type 0} {v : verifiers.Ghosts V} {g : signers.Ghosts S} (first now : Replica V S v g)
    (ticks later : Option (List ℕ)) (told after mid : Option LinkState) (bytes piece : List ℕ) (envelopes : List Envelope)
    (count : ℕ) → Reaches first now ticks later told after bytes envelopes → mid ≡ option_map (reads count) after →
    Consumes (unread after) (unread mid) piece → Reaches first now ticks later told mid (bytes ++ piece) envelopes
reaches_read first now ticks later told after mid bytes piece envelopes count r m c state whole s rest start =
    let at = r state whole s rest start in
    let so = read_so count at.0 after mid state piece (serves_all (own first) s envelopes) at.2.links m c in (
      so.rest,
      at.1 ∙ ap (λ (text : List ℕ). bytes ++ text) so.split ∙ sym (append_assoc bytes piece so.rest),
      record { book = at.2.book; moments = at.2.moments; links = so.links },
    )

-- ---- envelopes are answered

pub reaches_answered : {V S : Type 0} {v : verifiers.Ghosts V} {g : signers.Ghosts S} (first now next : Replica V S v g)
    (ticks later latest : Option (List ℕ)) (told after last : Option LinkState) (bytes : List ℕ) (some more : List Envelope) →
    Reaches first now ticks later told after bytes some → own now ≡ own first →
    ((state : LinkState) (s : Served) → IsAt now later after state s → IsAt next latest last state (serves_all (own now) s more)) →
    Reaches first next ticks latest told last bytes (some ++ more)
reaches_answered first now next ticks later latest told after last bytes some more r o h state whole s rest start =
    let at = r state whole s rest start in
    let then : serves_all (own now) (serves_all (own first) s some) more ≡ serves_all (own first) s (some ++ more) =
    ap (λ (me : ReplicaSelf). serves_all me (serves_all (own first) s some) more) o ∙ sym (serves_then (own first) s some more) in
    (at.0, at.1, rw (← then) (h (record state { rest = Some at.0 }) (serves_all (own first) s some) at.2))

-- ---- at the end

pub serves_whole : {V S : Type 0} {v : verifiers.Ghosts V} {g : signers.Ghosts S} (first now : Replica V S v g)
    (ticks later : Option (List ℕ)) (told after : Option LinkState) (cluster : Setting) (bytes : List ℕ)
    (state : LinkState) (whole : List ℕ) (s : Served) → state.rest ≡ Some whole → IsAt first ticks told state s →
    Reaches first now ticks later told after bytes (spoken cluster bytes) → spoken cluster whole ≡ spoken cluster bytes →
    ServesAll now later after (own first) state s (spoken cluster whole)
serves_whole first now ticks later told after cluster bytes state whole s rest start r e =
    let at = r state whole s rest start in
    rw e (at.0, at.2)

pub serves_part : {V S : Type 0} {v : verifiers.Ghosts V} {g : signers.Ghosts S} (first now : Replica V S v g)
    (ticks later : Option (List ℕ)) (told after : Option LinkState) (cluster : Setting) (read bytes : List ℕ)
    (state : LinkState) (whole : List ℕ) (s : Served) (handled : ℕ) (fail : LinkFail) → state.rest ≡ Some whole →
    IsAt first ticks told state s → Reaches first now ticks later told after read (spoken cluster bytes) →
    ((left : List ℕ) → whole ≡ read ++ left → Grows (spoken cluster bytes) (spoken cluster whole)) →
    handled ≡ length (spoken cluster bytes) →
    ServesSome now later after (own first) state s (spoken cluster whole) handled fail
serves_part first now ticks later told after cluster read bytes state whole s handled fail rest start r grows all =
    let at = r state whole s rest start in
    let more = grows at.0 at.1 in
    let t = serves_all (own first) s (spoken cluster bytes) in
    rw (more.is, all) (
      at.0,
      (
        t,
        at.2,
        served_before (own first) s t (spoken cluster bytes) more.later (length (spoken cluster bytes)) fail
            (served_all (own first) s (spoken cluster bytes) fail),
      ),
    )

pub serves_fails : {V S : Type 0} {v : verifiers.Ghosts V} {g : signers.Ghosts S} (first now next : Replica V S v g)
    (ticks later latest : Option (List ℕ)) (told after last : Option LinkState) (cluster : Setting) (read : List ℕ)
    (some more : List Envelope) (state : LinkState) (whole : List ℕ) (s : Served) (handled late : ℕ) (fail : LinkFail) →
    state.rest ≡ Some whole → IsAt first ticks told state s → Reaches first now ticks later told after read some → own now ≡ own first →
    ((state : LinkState) (s : Served) → IsAt now later after state s → HasServed next latest last (own now) state s more late fail) →
    ((left : List ℕ) → whole ≡ read ++ left → Grows (some ++ more) (spoken cluster whole)) → handled ≡ length some + late →
    ServesSome next latest last (own first) state s (spoken cluster whole) handled fail
serves_fails first now next ticks later latest told after last cluster read some more
    state whole s handled late fail rest start r o h grows all =
    let at = r state whole s rest start in
    let further = grows at.0 at.1 in
    let did = h (record state { rest = Some at.0 }) (serves_all (own first) s some) at.2 in
    let own-did : ServedSome (own first) (serves_all (own first) s some) more late fail did.0 =
    subst (λ (me : ReplicaSelf). ServedSome me (serves_all (own first) s some) more late fail did.0) o did.2 in
    rw (further.is, all) (
      at.0,
      (
        did.0,
        did.1,
        served_before (own first) s did.0 (some ++ more) further.later (length some + late) fail
            (served_behind (own first) s did.0 some more late fail own-did),
      ),
    )

-- ---- the loop

-- how many more bytes a reader takes before its connection ends
abbrev room_by : Option EndCause → ℕ → ℕ
room_by None left = suc left
room_by (Some cause) left = 0

abbrev pub room_of : Reading → ℕ
room_of r = room_by r.ended r.left

-- what was read so far was answered
pub record Talking {V S : Type 0} {v : verifiers.Ghosts V} {g : signers.Ghosts S} (first now : Replica V S v g)
    (ticks later : Option (List ℕ)) (told after : Option LinkState) (setting : Setting) (reader : Reading)
    (frames count faults fails : ℕ) : Type 0 where
  pub bytes : List ℕ
  pub cluster : reader.cluster ≡ setting
  pub stands : Stands reader bytes (length (spoken setting bytes))
  pub counted : count ≡ frames + length (spoken setting bytes)
  pub self : own now ≡ own first
  pub unfailed : fails ≡ faults
  pub at : Reaches first now ticks later told after bytes (spoken setting bytes)

pub talking_none : {V S : Type 0} {v : verifiers.Ghosts V} {g : signers.Ghosts S} (first : Replica V S v g)
    (ticks : Option (List ℕ)) (told : Option LinkState) (cluster : Setting) (reader : Reading) (frames faults : ℕ) →
    reader.cluster ≡ cluster → Stands reader [] 0 →
    Talking first first ticks ticks told told cluster reader frames frames faults faults
talking_none first ticks told cluster reader frames faults e s =
    let empty : spoken cluster [] ≡ [] = ap (λ (d : Dialogue). d.envelopes) (nothing cluster) in
    record {
      bytes = [];
      cluster = e;
      stands = rw empty s;
      counted = rw empty (omega arith);
      self = refl;
      unfailed = refl;
      at = rw empty
          (λ state whole s rest start. (
            whole,
            refl,
            rw (serves_none (own first) s)
                (record {
                  book = start.book;
                  moments = start.moments;
                  links = start.links ∙ ap (λ (r : Option (List ℕ)). Some (record state { rest = r; written = s.written })) rest;
                }),
          ));
    }

-- what waits after a piece are the envelopes that it brought
brought : (cluster : Setting) (bytes piece : List ℕ) (waiting : List Envelope) →
    waiting ≡ drop (length (spoken cluster bytes)) (spoken cluster (bytes ++ piece)) →
    spoken cluster (bytes ++ piece) ≡ spoken cluster bytes ++ waiting
brought cluster bytes piece waiting e =
    let more = envelopes_grow cluster bytes piece in
    let rest : waiting ≡ more.later =
    e ∙ ap (drop (length (spoken cluster bytes))) more.is ∙ drop_at (spoken cluster bytes) more.later _ refl in
    more.is ∙ ap (λ (es : List Envelope). spoken cluster bytes ++ es) (sym rest)

-- a reader after a piece, whose envelopes still wait
pub record Fed (setting : Setting) (bytes piece : List ℕ) (fed : Reading) : Type 0 where
  pub cluster : fed.cluster ≡ setting
  pub stands : Stands fed (bytes ++ piece) (length (spoken setting bytes))
  pub all : spoken setting (bytes ++ piece) ≡ spoken setting bytes ++ fed.waiting

pub fed_by : (setting : Setting) (bytes piece : List ℕ) (fed : Reading) → fed.cluster ≡ setting →
    Stands fed (bytes ++ piece) (length (spoken setting bytes)) → Fed setting bytes piece fed
fed_by setting bytes piece fed e s =
    record {
      cluster = e;
      stands = s;
      all = brought setting bytes piece fed.waiting
          (s.waiting ∙ ap (λ (c : Setting). drop (length (spoken setting bytes)) (spoken c (bytes ++ piece))) e);
    }

pub talking_more : {V S : Type 0} {v : verifiers.Ghosts V} {g : signers.Ghosts S} (first now next : Replica V S v g)
    (ticks later latest : Option (List ℕ)) (told after mid last : Option LinkState) (setting : Setting)
    (reader fed new : Reading) (frames count counted faults fails failed n : ℕ) (piece : List ℕ)
    (t : Talking first now ticks later told after setting reader frames count faults fails) →
    Fed setting t.bytes piece fed → mid ≡ option_map (reads n) after → Consumes (unread after) (unread mid) piece →
    new ≡ record fed { waiting = [] } → counted ≡ count + length fed.waiting → own next ≡ own now → failed ≡ fails →
    ((state : LinkState) (s : Served) → IsAt now later mid state s → IsAt next latest last state (serves_all (own now) s fed.waiting)) →
    Talking first next ticks latest told last setting new frames counted faults failed
talking_more first now next ticks later latest told after mid last setting reader fed new
    frames count counted faults fails failed n piece t f m c e k o u h =
    let emptied = stands_emptied fed (t.bytes ++ piece) _ f.stands in
    let number : length (spoken fed.cluster (t.bytes ++ piece)) ≡ length (spoken setting (t.bytes ++ piece)) =
    ap (λ (c : Setting). length (spoken c (t.bytes ++ piece))) f.cluster in
    record {
      bytes = t.bytes ++ piece;
      cluster = rw e f.cluster;
      stands = rw (e, ← number) emptied;
      counted = omega (arith, t.counted, ap length f.all, length-append (spoken setting t.bytes) fed.waiting);
      self = o ∙ t.self;
      unfailed = u ∙ t.unfailed;
      at = rw f.all
          (reaches_answered first now next ticks later latest told mid last (t.bytes ++ piece) (spoken setting t.bytes) fed.waiting
          (reaches_read first now ticks later told after mid t.bytes piece (spoken setting t.bytes) n t.at m c) t.self h);
    }

-- there is room for the envelopes of a piece
pub has_room : {V S : Type 0} {v : verifiers.Ghosts V} {g : signers.Ghosts S} (first now : Replica V S v g)
    (ticks later : Option (List ℕ)) (told after : Option LinkState) (setting : Setting) (reader fed : Reading)
    (frames count faults fails : ℕ) (piece : List ℕ)
    (t : Talking first now ticks later told after setting reader frames count faults fails) → Fed setting t.bytes piece fed →
    count + length fed.waiting ≤ frames + 16777216
unfolding connection_limit
has_room first now ticks later told after setting reader fed frames count faults fails piece t f =
    omega (arith, t.counted, ap length f.all, length-append (spoken setting t.bytes) fed.waiting, few_envelopes setting (t.bytes ++ piece))

-- ---- the ends of a connection

at_end : (mid : Option LinkState) (state : LinkState) (left written : List ℕ) →
    mid ≡ Some (record state { rest = Some left; written = written }) → IsAtEnd (unread mid) → left ≡ []
at_end mid state left written e h =
    subst (λ (t : Option LinkState). IsAtEnd (unread t)) e h

-- all was served
pub record TalkedAll {V S : Type 0} {v : verifiers.Ghosts V} {g : signers.Ghosts S} (first now : Replica V S v g)
    (later : Option (List ℕ)) (told : Option LinkState) (state : LinkState) (s : Served) (envelopes : List Envelope)
    (frames count : ℕ) : Type 0 where
  pub served : ServesAll now later told (own first) state s envelopes
  pub counted : count ≡ frames + length envelopes

-- the peer closed it
pub talked_to_end : {V S : Type 0} {v : verifiers.Ghosts V} {g : signers.Ghosts S} (first now : Replica V S v g)
    (ticks later : Option (List ℕ)) (told after mid : Option LinkState) (setting : Setting) (reader : Reading)
    (frames count faults fails n : ℕ) (piece : List ℕ) (state : LinkState) (whole : List ℕ) (s : Served) →
    state.rest ≡ Some whole → IsAt first ticks told state s →
    Talking first now ticks later told after setting reader frames count faults fails →
    mid ≡ option_map (reads n) after → Consumes (unread after) (unread mid) piece → IsAtEnd (unread mid) → piece ≡ [] →
    TalkedAll first now later mid state s (spoken setting whole) frames count
talked_to_end first now ticks later told after mid setting reader frames count faults fails n piece
    state whole s rest start t m c end none =
    let r = reaches_read first now ticks later told after mid t.bytes piece (spoken setting t.bytes) n t.at m c in
    let at = r state whole s rest start in
    let left : at.0 ≡ [] = at_end mid state at.0 (serves_all (own first) s (spoken setting t.bytes)).written at.2.links end in
    let bytes : whole ≡ t.bytes =
    at.1 ∙ ap (λ (text : List ℕ). (t.bytes ++ piece) ++ text) left ∙ append-nil (t.bytes ++ piece) ∙
    ap (λ (text : List ℕ). t.bytes ++ text) none ∙ append-nil t.bytes in
    let same : spoken setting whole ≡ spoken setting t.bytes = ap (spoken setting) bytes in
    record {
      served = rw same (at.0, at.2);
      counted = rw same t.counted;
    }

ended_by : (ended : Option EndCause) (b : Bool) → is_some ended ≡ not b → b ≡ false → (cause : EndCause) × (ended ≡ Some cause)
ended_by None true p q = absurd cc
ended_by None false p q = absurd cc
ended_by (Some cause) b p q = (cause, refl)

-- the rules ended it
pub talked_by_rules : {V S : Type 0} {v : verifiers.Ghosts V} {g : signers.Ghosts S} (first now : Replica V S v g)
    (ticks later : Option (List ℕ)) (told after : Option LinkState) (setting : Setting) (reader : Reading)
    (frames count faults fails : ℕ) (state : LinkState) (whole : List ℕ) (s : Served) (ended : Option EndCause) (b : Bool) →
    state.rest ≡ Some whole → IsAt first ticks told state s →
    Talking first now ticks later told after setting reader frames count faults fails →
    ((bytes : List ℕ) (taken : ℕ) → Stands reader bytes taken → ended ≡ (dialogue_of reader.cluster bytes).ended) →
    is_some ended ≡ not b → b ≡ false → TalkedAll first now later after state s (spoken setting whole) frames count
talked_by_rules first now ticks later told after setting reader frames count faults fails state whole s ended b rest start t tells p q =
    let at = t.at state whole s rest start in
    let cause = ended_by ended b p q in
    let here : (dialogue_of setting t.bytes).ended ≡ Some cause.0 =
    ap (λ (c : Setting). (dialogue_of c t.bytes).ended) (sym t.cluster) ∙ sym (tells t.bytes _ t.stands) ∙ cause.1 in
    let same : spoken setting whole ≡ spoken setting t.bytes =
    ap (spoken setting) at.1 ∙ ap (λ (d : Dialogue). d.envelopes) (ended_stays setting t.bytes at.0 cause.0 here) in
    record {
      served = rw same (at.0, at.2);
      counted = rw same t.counted;
    }

-- a read failed
pub talked_until_read : {V S : Type 0} {v : verifiers.Ghosts V} {g : signers.Ghosts S} (first now : Replica V S v g)
    (ticks later : Option (List ℕ)) (told after mid : Option LinkState) (setting : Setting) (reader : Reading)
    (frames count faults fails handled : ℕ) (fail : LinkFail) (state : LinkState) (whole : List ℕ) (s : Served) →
    state.rest ≡ Some whole → IsAt first ticks told state s →
    Talking first now ticks later told after setting reader frames count faults fails → mid ≡ after → handled ≡ count - frames →
    ServesSome now later mid (own first) state s (spoken setting whole) handled fail
talked_until_read first now ticks later told after mid setting reader frames count faults fails handled fail
    state whole s rest start t m h =
    rw m
    (serves_part first now ticks later told after setting t.bytes t.bytes state whole s handled fail rest start t.at
    (λ left e. rw e (envelopes_grow setting t.bytes left)) (omega (arith, t.counted)))

-- there was no memory for a piece
pub talked_until_fed : {V S : Type 0} {v : verifiers.Ghosts V} {g : signers.Ghosts S} (first now : Replica V S v g)
    (ticks later : Option (List ℕ)) (told after mid : Option LinkState) (setting : Setting) (reader : Reading)
    (frames count faults fails handled n : ℕ) (fail : LinkFail) (piece : List ℕ) (state : LinkState) (whole : List ℕ) (s : Served) →
    state.rest ≡ Some whole → IsAt first ticks told state s →
    Talking first now ticks later told after setting reader frames count faults fails → mid ≡ option_map (reads n) after →
    Consumes (unread after) (unread mid) piece → handled ≡ count - frames →
    ServesSome now later mid (own first) state s (spoken setting whole) handled fail
talked_until_fed first now ticks later told after mid setting reader frames count faults fails handled n fail piece
    state whole s rest start t m c h =
    serves_part first now ticks later told mid setting (t.bytes ++ piece) t.bytes state whole s handled fail rest start
    (reaches_read first now ticks later told after mid t.bytes piece (spoken setting t.bytes) n t.at m c)
    (λ left e. rw (e ∙ append_assoc t.bytes piece left) (envelopes_grow setting t.bytes (piece ++ left))) (omega (arith, t.counted))

-- an answer failed
pub talked_until_answered : {V S : Type 0} {v : verifiers.Ghosts V} {g : signers.Ghosts S} (first now next : Replica V S v g)
    (ticks later latest : Option (List ℕ)) (told after mid last : Option LinkState) (setting : Setting) (reader fed : Reading)
    (frames count counted faults fails handled n : ℕ) (fail : LinkFail) (piece : List ℕ) (state : LinkState) (whole : List ℕ)
    (s : Served) →
    state.rest ≡ Some whole → IsAt first ticks told state s →
    (t : Talking first now ticks later told after setting reader frames count faults fails) → Fed setting t.bytes piece fed →
    mid ≡ option_map (reads n) after → Consumes (unread after) (unread mid) piece → count ≤ counted → handled ≡ counted - frames →
    ((state : LinkState) (s : Served) → IsAt now later mid state s →
    HasServed next latest last (own now) state s fed.waiting (counted - count) fail) →
    ServesSome next latest last (own first) state s (spoken setting whole) handled fail
talked_until_answered first now next ticks later latest told after mid last setting reader fed
    frames count counted faults fails handled n fail piece state whole s rest start t f m c k h did =
    serves_fails first now next ticks later latest told mid last setting (t.bytes ++ piece) (spoken setting t.bytes) fed.waiting
    state whole s handled (counted - count) fail rest start
    (reaches_read first now ticks later told after mid t.bytes piece (spoken setting t.bytes) n t.at m c) t.self did
    (λ left e. rw (e, ← f.all) (envelopes_grow setting (t.bytes ++ piece) left)) (omega (arith, t.counted))

-- a connection has few frames
pub few_frames : {V S : Type 0} {v : verifiers.Ghosts V} {g : signers.Ghosts S} (first now : Replica V S v g)
    (ticks later : Option (List ℕ)) (told after : Option LinkState) (setting : Setting) (reader : Reading)
    (frames count faults fails : ℕ) → Talking first now ticks later told after setting reader frames count faults fails →
    count ≤ frames + 16777216
unfolding connection_limit
few_frames first now ticks later told after setting reader frames count faults fails t =
    omega (arith, t.counted, few_envelopes setting t.bytes)
