-- What a refusal of a replica is, once want of memory is told apart.
use Rattle.std.specs.Prelude.{◌≡◌, ◌≢◌, ⊤, Result, Ok, Err}
use Rattle.basil_types.specs.declared.memory.NoMemory.{NoMemory}
use Rattle.replica_core.specs.declared.refusal.Refusal.{Refusal}
use Rattle.replica_core.specs.declared.refusal.Refusal.TheVariants as refusals
use Rattle.cluster_nodes.specs.declared.handled.Handled.{Handled}
use Rattle.cluster_nodes.specs.declared.handled.Handled.TheVariants.{Refused, Full, Sent}

-- it is told as it is, unless memory was wanting
abbrev pub Refuses : Refusal → Result (Handled Refusal) NoMemory → Type 0
Refuses refusal (Ok (Refused same)) = (same ≡ refusal) × (refusal ≢ refusals.NoMemory)
Refuses refusal (Ok Full) = ⊥
Refuses refusal (Ok (Sent out)) = ⊥
Refuses refusal (Err wanting) = ⊤
