-- A connection is closed.
use Rattle.std.proofs.Common.{◌≡◌, ℕ, List, Option, Some, None, ap, ◌∙◌}
use Rattle.std.specs.Prelude.{option_map}
use Rattle.basil_types.specs.declared.links.LinkFail.{LinkFail}
use Rattle.basil_types.specs.declared.outbox.Envelope.{Envelope}
use Rattle.basil_types.specs.Links.{LinkState, closes}
use Rattle.keyring.specs.declared.verifier.Verifier as verifiers
use Rattle.keyring.specs.declared.signer.Signer as signers
use Rattle.replica_core.specs.declared.replica.Replica.{Replica}
use Rattle.replica_core.specs.Replicas.{ReplicaSelf}
use Rattle.node_link.specs.Serving.{Served, serves_all, IsAt, HasServed, ServesAll, ServesSome}

closed : (told after : Option LinkState) (state : LinkState) (left written : List ℕ) →
    told ≡ Some (record state { rest = Some left; written = written }) → after ≡ option_map closes told →
    after ≡ Some (record state { rest = None; written = written })
closed told after state left written e c = c ∙ ap (option_map closes) e

pub closed_all : {V S : Type 0} {v : verifiers.Ghosts V} {g : signers.Ghosts S} (replica : Replica V S v g)
    (ticks : Option (List ℕ)) (told after : Option LinkState) (me : ReplicaSelf) (state : LinkState) (s : Served)
    (envelopes : List Envelope) → after ≡ option_map closes told → ServesAll replica ticks told me state s envelopes →
    IsAt replica ticks after (closes state) (serves_all me s envelopes)
closed_all replica ticks told after me state s envelopes c h =
    record {
      book = h.1.book;
      moments = h.1.moments;
      links = closed told after state h.0 (serves_all me s envelopes).written h.1.links c;
    }

pub closed_some : {V S : Type 0} {v : verifiers.Ghosts V} {g : signers.Ghosts S} (replica : Replica V S v g)
    (ticks : Option (List ℕ)) (told after : Option LinkState) (me : ReplicaSelf) (state : LinkState) (s : Served)
    (envelopes : List Envelope) (handled : ℕ) (fail : LinkFail) → after ≡ option_map closes told →
    ServesSome replica ticks told me state s envelopes handled fail →
    HasServed replica ticks after me (closes state) s envelopes handled fail
closed_some replica ticks told after me state s envelopes handled fail c h = (
  h.1.0,
  record {
    book = h.1.1.book;
    moments = h.1.1.moments;
    links = closed told after state h.0 h.1.0.written h.1.1.links c;
  },
  h.1.2,
)
