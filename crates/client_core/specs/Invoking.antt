-- What invoking the fallback sends.
use Rattle.std.specs.Prelude.{◌≡◌, [], true, false, Option, Some, None, map, length, ◌==◌}
use Rattle.basil_types.specs.declared.outbox.Outbox.{Outbox}
use Rattle.basil_types.specs.Setting.{Setting}
use Rattle.client_recover.specs.Counting.{replies_of}
use Rattle.client_recover.specs.Pursuits.{invoke_message, to_log_shard}
use Rattle.client_recover.specs.Taken.{PursuitValue}
use Rattle.node_steps.specs.Framed.{framed}

-- the invoke's messages, where a log reply is held
abbrev pub SendsInvoke : Setting → PursuitValue → Option Outbox → Type 0
SendsInvoke c p None = (length (replies_of p.taken) == 0) ≡ true
SendsInvoke c p (Some out) =
    ((length (replies_of p.taken) == 0) ≡ false)
    × (out.messages.items ≡ map framed (to_log_shard c p.transaction (invoke_message c p))) × (out.signed.items ≡ [])
