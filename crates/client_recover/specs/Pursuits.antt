-- What a client sends for a transaction that it pursues (Basil, stages 1 and 2, recovery).
use Rattle.std.specs.Prelude.{ℕ, List, [], ◌∷◌, ◌++◌, true, ◌||◌, Option, Some, None, is_some, map, nat_lt}
use Rattle.std.specs.Prelude.{if◌then◌else◌, ◌==◌, filter_map}
use Rattle.std.specs.List.{flat_map}
use Rattle.std.specs.Option.{option_map_or}
use Rattle.basil_types.specs.declared.party.Party.TheVariants.{Replica}
use Rattle.basil_types.specs.Setting.{Setting}
use Rattle.basil_types.specs.Transaction.{TransactionValue, id}
use Rattle.frame_views.specs.Values.{MessageValue, LogReplyValue, ReplyValue, SignedValue, CertificateValue, St2}
use Rattle.frame_views.specs.Values.{Invoke, Writeback}
use Rattle.node_steps.specs.Envelopes.{EnvelopeValue}
use Rattle.txn_meta.specs.Places.{involved, log_shard}
use Rattle.client_recover.specs.Taken.{TakenValue, PursuitValue, DecidedValue, LogsValue}
use Rattle.client_recover.specs.Counting.{all_replicas, replies_of}
use Rattle.client_recover.specs.Certifying.{decided, settled, all_voted}

-- ---- to whom

abbrev pub to_shard : Setting → MessageValue → ℕ → List EnvelopeValue
to_shard c m shard = map (λ r. record { to = Replica shard r; message = m }) (all_replicas c)

abbrev pub to_involved : Setting → TransactionValue → MessageValue → List EnvelopeValue
to_involved c t m = flat_map (to_shard c m) (involved c t)

abbrev pub to_log_shard : Setting → TransactionValue → MessageValue → List EnvelopeValue
to_log_shard c t m = to_shard c m (log_shard c t)

-- ---- what

abbrev pub signed_part : PursuitValue → SignedValue
signed_part p = record { transaction = p.transaction; signature = p.signature }

abbrev pub writeback : PursuitValue → CertificateValue → MessageValue
writeback p c = Writeback (record { transaction = p.transaction; certificate = c })

abbrev pub second_stage : PursuitValue → LogsValue → MessageValue
second_stage p l =
    St2 (record { transaction = p.transaction; signature = p.signature; decision = l.decision; tallies = l.tallies })

-- the reply with the greater current view, the earlier one among equals
abbrev pub later_reply : LogReplyValue → Option LogReplyValue → LogReplyValue
later_reply r None = r
later_reply r (Some best) = if nat_lt r.current best.current then best else r

-- of one replica the held reply with the greatest current view, the earliest among equals
abbrev pub latest_by : List LogReplyValue → ℕ → Option LogReplyValue
latest_by [] replica = None
latest_by (r ∷ rs) replica =
    if r.replica == replica then Some (later_reply r (latest_by rs replica)) else latest_by rs replica

abbrev pub as_reply : LogReplyValue → ReplyValue
as_reply r =
    record {
      replica = r.replica;
      decision = r.decision;
      decided = r.decided;
      current = r.current;
      signature =
          r.signature;
    }

abbrev pub invoke_message : Setting → PursuitValue → MessageValue
invoke_message c p =
    Invoke (record {
      id = id p.transaction;
      shard = log_shard c p.transaction;
      replies = map as_reply (filter_map (latest_by (replies_of p.taken)) (all_replicas c));
    })

-- ---- the outcome, and the second stage, which starts once

abbrev pub outcome : Setting → PursuitValue → Option DecidedValue
outcome c p = decided c p.transaction p.taken

-- the pursuit, and what is sent
pub record PursuitDone : Type 0 where
  pub pursuit : PursuitValue
  pub sent : List EnvelopeValue

abbrev pub still : PursuitValue → PursuitDone
still p = record { pursuit = p; sent = [] }

abbrev pub start_second : Setting → PursuitValue → LogsValue → PursuitDone
start_second c p l =
    record { pursuit = record p { second = true }; sent = to_log_shard c p.transaction (second_stage p l) }

abbrev pub settle : Setting → PursuitValue → PursuitDone
settle c p =
    if is_some (outcome c p) || p.second then still p
    else option_map_or (start_second c p) (settled c p.transaction p.taken) (still p)

-- ---- a frame that is taken

-- once there is an outcome everybody is told
abbrev pub tell : Setting → PursuitValue → DecidedValue → PursuitDone
tell c p d = record { pursuit = p; sent = to_involved c p.transaction (writeback p d.certificate) }

-- with the votes of all replicas and no outcome the second stage starts by itself
abbrev pub go_on : Setting → PursuitValue → PursuitDone
go_on c p = if all_voted c p.transaction p.taken then settle c p else still p

abbrev pub took : PursuitValue → TakenValue → PursuitValue
took p x = record p { taken = p.taken ++ x ∷ [] }

-- after an outcome nothing changes any more
abbrev pub take_frame : Setting → PursuitValue → TakenValue → PursuitDone
take_frame c p x =
    if is_some (outcome c p) then still p
    else option_map_or (tell c (took p x)) (outcome c (took p x)) (go_on c (took p x))
