-- What is sent for a transaction that is pursued.
use Rattle.std.specs.Prelude.{◌≡◌, Bool, ◌||◌, [], Option, None, Some, map}
use Rattle.basil_types.specs.declared.outbox.Outbox.{Outbox}
use Rattle.basil_types.specs.Setting.{Setting}
use Rattle.client_recover.specs.Certifying.{settled}
use Rattle.client_recover.specs.Pursuits.{PursuitDone, second_stage, to_log_shard}
use Rattle.client_recover.specs.Taken.{PursuitValue, LogsValue}
use Rattle.client_steps.specs.declared.sending.Sending.{Sending}
use Rattle.node_steps.specs.Framed.{framed}

-- the second stage's messages, where the votes let it log something
abbrev pub SendsSecond : Setting → PursuitValue → Option Outbox → Type 0
SendsSecond c p None = settled c p.transaction p.taken ≡ None
SendsSecond c p (Some out) =
    (l : LogsValue) × (settled c p.transaction p.taken ≡ Some l)
    × (out.messages.items ≡ map framed (to_log_shard c p.transaction (second_stage p l))) × (out.signed.items ≡ [])

-- this is sent, and the second stage has started or starts where it then has
pub record IsSending (s : Sending) (second : Bool) (d : PursuitDone) : Type 0 where
  pub messages : s.out.messages.items ≡ map framed d.sent
  pub signed : s.out.signed.items ≡ []
  pub starts : (s.starts || second) ≡ d.pursuit.second
