-- What the log replies that a pursuit keeps decide.
use Rattle.std.specs.Prelude.{ℕ, List, Option, Some, None, filter_map, length, map, take, nat_le, if◌then◌else◌}
use Rattle.basil_types.specs.declared.party.Decision.{Decision}
use Rattle.basil_types.specs.Setting.{Setting}
use Rattle.basil_types.specs.Transaction.{TransactionValue}
use Rattle.frame_values.specs.Owned.{log_value}
use Rattle.frame_values.specs.declared.owned.parts.LogPart.{LogPart}
use Rattle.frame_views.specs.Values.{CertificateValue, Commits, Logged}
use Rattle.quorum_laws.specs.Numbers.{log_quorum}
use Rattle.txn_meta.specs.Places.{log_shard}
use Rattle.client_recover.specs.declared.logs.Logs.{Logs}
use Rattle.client_recover.specs.Counting.{all_replicas}
use Rattle.client_recover.specs.Certifying.{certificate_of}
use Rattle.client_recover.specs.Replies.{earliest_at}

-- the earliest of each replica for a decision in a view, ascending
abbrev pub earliest_by : Setting → Logs → Decision → ℕ → List LogPart
earliest_by c l d view = filter_map (earliest_at l d view) (all_replicas c)

-- a certificate where a log quorum has one
abbrev pub logged_as : Setting → TransactionValue → Logs → Decision → ℕ → Option CertificateValue
logged_as c t l d view =
    if nat_le (log_quorum c.f) (length (earliest_by c l d view))
    then Some (certificate_of t
    (Commits (Logged (record {
      shard = log_shard c t;
      decision = d;
      decided = view;
      logs = map log_value (take (log_quorum c.f) (earliest_by c l d view));
    })))) else None
