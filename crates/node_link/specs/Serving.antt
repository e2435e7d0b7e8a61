-- A replica that serves connections: what it writes, whatever pieces the bytes come in.
use Rattle.std.specs.Prelude.{◌≡◌, ◌⊎◌, ℕ, ◌-◌, ◌≤◌, List, [], ◌∷◌, ◌++◌, length, drop, take, map, fold, Option, Some}
use Rattle.std.specs.Prelude.{Result, Ok, Err}
use Rattle.basil_types.specs.declared.outbox.Envelope.{Envelope}
use Rattle.basil_types.specs.declared.links.LinkFail.{LinkFail}
use Rattle.basil_types.specs.declared.links.LinkFail.TheVariants.{Failed, NoMemory}
use Rattle.basil_types.specs.Links.{LinkState}
use Rattle.keyring.specs.declared.verifier.Verifier as verifiers
use Rattle.keyring.specs.declared.signer.Signer as signers
use Rattle.node_steps.specs.Framed.{framed}
use Rattle.replica_core.specs.declared.plan.Plan.{Plan}
use Rattle.replica_core.specs.declared.refusal.Refusal.{Refusal}
use Rattle.replica_core.specs.declared.replica.Replica.{Replica}
use Rattle.replica_core.specs.Answers.{answer}
use Rattle.replica_core.specs.Leads.{kept_next}
use Rattle.replica_core.specs.Nodes.{perform_plan}
use Rattle.replica_core.specs.Replicas.{ReplicaSelf, BookValue, Done}
use Rattle.replica_core.specs.Shown.{ShowsBook}
use Rattle.replica_core.specs.Telling.{Told, begun}
use Rattle.node_link.specs.Answering.{answer_bytes}

-- ---- envelopes

-- the book of a replica, the moments that its clock will give, and what was written to its links
pub record Served : Type 0 where
  pub book : BookValue
  pub moments : List ℕ
  pub written : List ℕ

-- the next moment of a clock, 0 after the last
abbrev pub next_moment : List ℕ → ℕ
next_moment [] = 0
next_moment (moment ∷ moments) = moment

-- what a replica sends: nothing where it refuses the frame
abbrev pub sent_by : Result Done Refusal → List Envelope
sent_by (Ok done) = map framed done.sent
sent_by (Err refusal) = []

abbrev pub book_after : BookValue → Result Done Refusal → BookValue
book_after book (Ok done) = done.book
book_after book (Err refusal) = book

-- the replica handles the frame of an envelope at the clock's next moment, and its answer is written
abbrev pub serves : ReplicaSelf → Served → Envelope → Served
serves me s e =
    let answered = answer me (next_moment s.moments) e.to s.book e.frame in
    record {
      book = book_after s.book answered;
      moments = drop 1 s.moments;
      written = s.written ++ answer_bytes (sent_by answered);
    }

-- one envelope after the other
unfoldable pub serves_all : ReplicaSelf → Served → List Envelope → Served
serves_all me s envelopes = fold (serves me) s envelopes

-- ---- where a call fails

-- a text begins with another
pub record Begins (front whole : List ℕ) : Type 0 where
  pub rest : List ℕ
  pub is : whole ≡ front ++ rest

-- the clock gave a moment for each frame that was handled, and, where memory was wanting, maybe one more
abbrev pub HasTicked : LinkFail → (behind moments : List ℕ) → Type 0
HasTicked Failed behind moments = moments ≡ behind
HasTicked NoMemory behind moments = (moments ≡ behind) ⊎ (moments ≡ drop 1 behind)

-- so many of the envelopes were handled before a call failed so, and their answers written but for the end of the last
pub record ServedSome (me : ReplicaSelf) (s : Served) (envelopes : List Envelope) (handled : ℕ) (fail : LinkFail)
    (t : Served) : Type 0 where
  pub within : handled ≤ length envelopes
  pub book : t.book ≡ (serves_all me s (take handled envelopes)).book
  pub moments : HasTicked fail (serves_all me s (take handled envelopes)).moments t.moments
  pub least : Begins (serves_all me s (take (handled - 1) envelopes)).written t.written
  pub most : Begins t.written (serves_all me s (take handled envelopes)).written

-- ---- code

-- the replica shows the book, the clock tells the moments, and the links tell what was written, and for the rest this
pub record IsAt {V S : Type 0} {v : verifiers.Ghosts V} {g : signers.Ghosts S} (replica : Replica V S v g)
    (ticks : Option (List ℕ)) (told : Option LinkState) (state : LinkState) (s : Served) : Type 0 where
  pub book : ShowsBook replica s.book
  pub moments : ticks ≡ Some s.moments
  pub links : told ≡ Some (record state { written = s.written })

-- the replica did what it answers, or is as before where it refuses, and these are the bytes of the messages that it
-- sends
pub record Handles {V S : Type 0} {v : verifiers.Ghosts V} {g : signers.Ghosts S} (answered : Result Done Refusal)
    (before : BookValue) (replica : Replica V S v g) (bytes : List ℕ) : Type 0 where
  pub book : ShowsBook replica (book_after before answered)
  pub text : bytes ≡ answer_bytes (sent_by answered)

-- what a plan does to a replica that shows this book
abbrev pub planned : {V S : Type 0} {v : verifiers.Ghosts V} {g : signers.Ghosts S} → Replica V S v g → BookValue →
    Plan → Told
planned {V} {S} {v} {g} replica book plan =
    perform_plan (g.fixed replica.pen) (kept_next replica.parts.leading) (begun book) plan

-- the replica shows what was done, and these are the bytes of what it sent
pub record Carries {V S : Type 0} {v : verifiers.Ghosts V} {g : signers.Ghosts S} (replica : Replica V S v g) (t : Told)
    (bytes : List ℕ) : Type 0 where
  pub book : ShowsBook replica t.book
  pub text : bytes ≡ answer_bytes t.sent

-- so many of the envelopes were handled before a call failed so, and their answers written but for the end of the last
abbrev pub HasServed : {V S : Type 0} {v : verifiers.Ghosts V} {g : signers.Ghosts S} → Replica V S v g →
    (ticks : Option (List ℕ)) → (told : Option LinkState) → ReplicaSelf → (state : LinkState) → (s : Served) →
    List Envelope → (handled : ℕ) → LinkFail → Type 0
HasServed replica ticks told me state s envelopes handled fail =
    (t : Served) × IsAt replica ticks told state t × ServedSome me s envelopes handled fail t

-- ---- a connection

-- all envelopes were answered, and this is left of the connection
abbrev pub ServesAll : {V S : Type 0} {v : verifiers.Ghosts V} {g : signers.Ghosts S} → Replica V S v g →
    (ticks : Option (List ℕ)) → (told : Option LinkState) → ReplicaSelf → (state : LinkState) → (s : Served) →
    List Envelope → Type 0
ServesAll replica ticks told me state s envelopes =
    (left : List ℕ) × IsAt replica ticks told (record state { rest = Some left }) (serves_all me s envelopes)

-- some were, before a call failed so
abbrev pub ServesSome : {V S : Type 0} {v : verifiers.Ghosts V} {g : signers.Ghosts S} → Replica V S v g →
    (ticks : Option (List ℕ)) → (told : Option LinkState) → ReplicaSelf → (state : LinkState) → (s : Served) →
    List Envelope → (handled : ℕ) → LinkFail → Type 0
ServesSome replica ticks told me state s envelopes handled fail =
    (left : List ℕ) × HasServed replica ticks told me (record state { rest = Some left }) s envelopes handled fail
