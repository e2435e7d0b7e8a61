-- What is owned, as plain values.
use Rattle.std.specs.Prelude.{ℕ, List, [], false, map, filter_map}
use Rattle.std.specs.Borrow.{Bor}
use Rattle.basil_types.specs.declared.party.Decision.{Decision}
use Rattle.frame_values.specs.declared.owned.certificate.Certificate.{Certificate}
use Rattle.frame_values.specs.Owned.{tally_value, certificate_value}
use Rattle.client_recover.specs.declared.second.ToLog.{ToLog}
use Rattle.basil_types.specs.Setting.{Setting}
use Rattle.basil_types.specs.Transaction.{TransactionValue, id}
use Rattle.frame_values.specs.Owned.{reply_value}
use Rattle.frame_views.specs.Values.{MessageValue, Invoke}
use Rattle.txn_meta.specs.Places.{log_shard}
use Rattle.client_recover.specs.declared.logs.Logs.{Logs}
use Rattle.client_recover.specs.Counting.{all_replicas}
use Rattle.client_recover.specs.Replies.{latest_at}
use Rattle.client_recover.specs.Taken.{PursuitValue, LogsValue, DecidedValue}

abbrev pub logged_value : ToLog → LogsValue
logged_value l = record { decision = l.decision; tallies = map tally_value l.tallies.items }

abbrev pub shown_outcome : Decision × Bor Certificate → DecidedValue
shown_outcome d = record { decision = d.0; certificate = certificate_value d.1.now }

-- the pursuit of a transaction for which nothing was taken
abbrev pub unstarted : TransactionValue → List ℕ → PursuitValue
unstarted t signature = record { transaction = t; signature = signature; taken = []; second = false }

-- the message that invokes the fallback with the log replies that are kept
abbrev pub invoked : Setting → TransactionValue → Logs → MessageValue
invoked c t l =
    Invoke (record {
      id = id t;
      shard = log_shard c t;
      replies = map reply_value (filter_map (latest_at l) (all_replicas c));
    })
