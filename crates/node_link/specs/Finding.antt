-- What is found in bytes.
use Rattle.std.specs.Prelude.{◌≡◌, ℕ, ◌-◌, ◌≤◌, List, length, drop}
use Rattle.node_link.specs.declared.found.Found.{Found}
use Rattle.node_link.specs.Dialogue.{Dialogue}

-- a dialogue is found, of which so many bytes are left at the end of those that were looked at
pub record IsFound (d : Dialogue) (bytes : List ℕ) (found : Found) : Type 0 where
  pub envelopes : found.envelopes.items ≡ d.envelopes
  pub partial : drop (length bytes - found.left) bytes ≡ d.partial
  pub left : found.left ≤ length bytes
  pub ended : found.ended ≡ d.ended
