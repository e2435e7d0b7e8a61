-- What a reader of a connection stands for: the bytes that it was fed, and how many envelopes were taken of it.
use Rattle.std.specs.Prelude.{◌≡◌, ℕ, ◌+◌, ◌≤◌, ◌++◌, List, length, drop, Option, Some, None}
use Rattle.basil_types.specs.declared.outbox.Envelope.{Envelope}
use Rattle.basil_types.specs.Setting.{Setting}
use Rattle.node_link.specs.declared.cause.EndCause.{EndCause}
use Rattle.node_link.specs.Dialogue.{Dialogue, connection_limit, dialogue_of}

-- the envelopes that weren't taken, the bytes of one that isn't whole yet, how many more bytes the connection may
-- have, and why it ended
pub record Reading : Type 0 where
  pub cluster : Setting
  pub waiting : List Envelope
  pub partial : List ℕ
  pub left : ℕ
  pub ended : Option EndCause

pub record Stands (r : Reading) (bytes : List ℕ) (taken : ℕ) : Type 0 where
  pub among : taken ≤ length (dialogue_of r.cluster bytes).envelopes
  pub waiting : r.waiting ≡ drop taken (dialogue_of r.cluster bytes).envelopes
  pub partial : r.partial ≡ (dialogue_of r.cluster bytes).partial
  pub ended : r.ended ≡ (dialogue_of r.cluster bytes).ended
  pub left : r.ended ≡ None → r.left + length bytes ≡ connection_limit

-- one more, where an envelope was taken
abbrev pub and_taken : Option Envelope → ℕ → ℕ
and_taken None taken = taken
and_taken (Some envelope) taken = taken + 1

-- the new reading has the cluster and the room of the old one, and behind what waited the envelopes of a dialogue
pub record Adds (old new : Reading) (d : Dialogue) : Type 0 where
  pub cluster : new.cluster ≡ old.cluster
  pub waiting : new.waiting ≡ old.waiting ++ d.envelopes
  pub partial : new.partial ≡ d.partial
  pub ended : new.ended ≡ d.ended
  pub left : new.left ≡ old.left
