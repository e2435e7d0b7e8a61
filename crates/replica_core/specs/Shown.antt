-- A replica as code holds it: what doesn't change of it, and the books that it shows.
use Rattle.keyring.specs.declared.verifier.Verifier as verifiers
use Rattle.keyring.specs.declared.signer.Signer as signers
use Rattle.node_steps.specs.Pens.{pen_value}
use Rattle.replica_core.specs.declared.replica.Replica.{Replica}
use Rattle.replica_core.specs.Nodes.{Shows}
use Rattle.replica_core.specs.Replicas.{BookValue, ReplicaSelf}
use Rattle.replica_core.specs.Seats.{self_at}

-- what doesn't change of a replica
abbrev pub own : {V S : Type 0} {v : verifiers.Ghosts V} {g : signers.Ghosts S} → Replica V S v g → ReplicaSelf
own {V} {S} {v} {g} replica = self_at replica.seat (v.accepted replica.keys) (g.fixed replica.pen)

-- it shows this book
abbrev pub ShowsBook : {V S : Type 0} {v : verifiers.Ghosts V} {g : signers.Ghosts S} → Replica V S v g → BookValue →
    Type 0
ShowsBook {V} {S} {v} {g} replica book =
    Shows replica.parts (pen_value (g.spent replica.pen) (g.left_of replica.pen)) book
