use Rattle.std.proofs.Common.{◌≡◌, ◌++◌, length}
use Rattle.audit_text.specs.Drafts.{read_parts}
use Rattle.audit_text.proofs.draft.read_parts.Given as goal

abbrev pub invariant-keys : goal.invariant-keys
invariant-keys l = read_parts l.fn.map.entries ≡ l.parts.items ++ read_parts l.rest.entries

abbrev pub decreases-keys : goal.decreases-keys
decreases-keys l = length l.rest.entries
