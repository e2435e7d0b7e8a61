-- A client as code holds it: what doesn't change of it, and the values that it shows.
use Rattle.keyring.specs.declared.verifier.Verifier as verifiers
use Rattle.keyring.specs.declared.signer.Signer as signers
use Rattle.node_steps.specs.Pens.{pen_value}
use Rattle.client_core.specs.declared.client.Client.{Client}
use Rattle.client_core.specs.Clients.{ClientSelf, ClientValue}
use Rattle.client_core.specs.Done.{Shows}
use Rattle.client_core.specs.Seats.{self_at}

-- what doesn't change of a client
abbrev pub own : {V S : Type 0} {v : verifiers.Ghosts V} {g : signers.Ghosts S} → Client V S v g → ClientSelf
own {V} {S} {v} {g} client = self_at client.seat (v.accepted client.keys) (g.fixed client.pen)

-- it shows this value
abbrev pub ShowsClient : {V S : Type 0} {v : verifiers.Ghosts V} {g : signers.Ghosts S} → Client V S v g → ClientValue →
    Type 0
ShowsClient {V} {S} {v} {g} client value =
    Shows client.held (pen_value (g.spent client.pen) (g.left_of client.pen)) value
