-- The calls behind the reads and writes, as the code names them.
use Rattle.std.specs.Prelude.{ℕ, List, [], ◌∷◌}
use Rattle.client_core.specs.Clients.{ClientSelf}
use Rattle.client_link.specs.declared.closing.Stage.{Stage}
use Rattle.client_link.specs.declared.closing.Stage.TheVariants.{Prepare, Settle, Recover, Invoke}
use Rattle.client_link.specs.Running.{Turn, invokes, prepares, recovers, settles}

abbrev pub stage_turn : ClientSelf → (slot : ℕ) → Stage → Turn
stage_turn me slot Prepare = prepares me slot
stage_turn me slot Settle = settles me slot
stage_turn me slot Recover = recovers me slot
stage_turn me slot Invoke = invokes me slot

abbrev pub stage_turns : ClientSelf → (slot : ℕ) → List Stage → List Turn
stage_turns me slot [] = []
stage_turns me slot (stage ∷ stages) = stage_turn me slot stage ∷ stage_turns me slot stages
