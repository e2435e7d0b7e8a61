-- Frames for parties.
use Rattle.std.specs.Prelude.{ℕ, List, [], Option, None, Some, map}
use Rattle.std.specs.List.{flat_map}
use Rattle.basil_types.specs.declared.outbox.Envelope.{Envelope}
use Rattle.basil_types.specs.declared.party.Party.{Party}
use Rattle.basil_types.specs.declared.party.Party.TheVariants.{Replica}
use Rattle.basil_types.specs.Setting.{Setting}
use Rattle.basil_types.specs.Transaction.{TransactionValue}
use Rattle.client_recover.specs.Counting.{all_replicas}
use Rattle.node_steps.specs.Pendings.{Front}
use Rattle.txn_meta.specs.Places.{involved}

abbrev pub parties_of : Setting → ℕ → List Party
parties_of c shard = map (λ r. Replica shard r) (all_replicas c)

abbrev pub parties_at : Setting → Option ℕ → List Party
parties_at c None = []
parties_at c (Some shard) = parties_of c shard

abbrev pub parties_in : Setting → TransactionValue → List Party
parties_in c t = flat_map (parties_of c) (involved c t)

abbrev pub enveloped : List ℕ → Party → Envelope
enveloped frame party = record { to = party; frame = frame }

abbrev pub fronted : List ℕ → Party → Front
fronted bytes party = record { to = party; bytes = bytes }
