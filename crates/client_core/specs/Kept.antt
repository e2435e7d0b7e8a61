-- What a client keeps of a read that it asked for.
use Rattle.std.specs.Prelude.{ℕ, List, ◌++◌, Option, option_map, option_to_list, map}
use Rattle.std.specs.List.{flat_map}
use Rattle.basil_types.specs.Transaction.{TransactionValue, version_of}
use Rattle.client_reads.specs.Versions.{carried_versions}
use Rattle.client_reads.specs.declared.versions.ReplyVersions.{ReplyVersions}
use Rattle.frame_views.specs.Values.{ReadReplyValue, CommittedValue}
use Rattle.client_core.specs.declared.asking.Asking.{Asking}
use Rattle.client_core.specs.declared.replies.Carried.{Carried}
use Rattle.client_core.specs.declared.replies.KeptReply.{KeptReply}
use Rattle.client_core.specs.Clients.{AskedRead}
use Rattle.client_core.specs.Slots.{write_of}

-- ---- of a reply

-- the version of a transaction, and its write to the key
abbrev pub carried_of : List ℕ → TransactionValue → Carried
carried_of key t = record { version = version_of t; write = write_of key t }

abbrev pub committed_in : List ℕ → ReadReplyValue → Option Carried
committed_in key r = option_map (λ (p : CommittedValue). carried_of key p.transaction) r.committed

abbrev pub prepared_in : List ℕ → ReadReplyValue → Option Carried
prepared_in key r = option_map (carried_of key) r.prepared

abbrev pub reply_kept : List ℕ → ReadReplyValue → KeptReply
reply_kept key r =
    record {
      replica = r.replica;
      versions = carried_versions r;
      committed = committed_in key r;
      prepared = prepared_in key r;
    }

-- the committed one comes first
abbrev pub carried_of_two : Option Carried → Option Carried → List Carried
carried_of_two committed prepared = option_to_list committed ++ option_to_list prepared

abbrev pub carried_in : KeptReply → List Carried
carried_in k = carried_of_two k.committed k.prepared

-- ---- of a read

-- the key, and of the replies, in order, the replicas, the versions and the transactions that they carried
pub record KeptRead : Type 0 where
  pub key : List ℕ
  pub replied : List ℕ
  pub versions : List ReplyVersions
  pub carried : List Carried

abbrev pub kept_read : AskedRead → KeptRead
kept_read r =
    record {
      key = r.key;
      replied = map (λ (m : ReadReplyValue). m.replica) r.replies;
      versions = map carried_versions r.replies;
      carried = flat_map (λ m. carried_in (reply_kept r.key m)) r.replies;
    }

abbrev pub shown_read : Asking → KeptRead
shown_read a =
    record {
      key = a.key;
      replied = a.replied.items;
      versions = a.versions.items;
      carried = a.carried.items;
    }
