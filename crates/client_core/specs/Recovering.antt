-- What recovering a transaction does, where it is held and where it isn't.
use Rattle.std.specs.Prelude.{ℕ, List, [], Some, option_and_then, slice_get}
use Rattle.basil_types.specs.Transaction.{TransactionValue}
use Rattle.client_recover.specs.Owned.{unstarted}
use Rattle.client_recover.specs.Pursuits.{to_involved}
use Rattle.frame_views.specs.Values.{Recover}
use Rattle.client_core.specs.Calls.{recover_held, with_recovered}
use Rattle.client_core.specs.Clients.{ClientDone, ClientSelf, ClientValue, SlotValue}

-- every replica of every involved shard is asked
abbrev pub question_done : ClientSelf → ClientValue → TransactionValue → List ℕ → ClientDone
question_done me client t signature =
    record {
      client = client;
      signed = [];
      sent = to_involved me.cluster t (Recover (record { transaction = t; signature = signature }));
    }

abbrev pub again_done : ClientSelf → ClientValue → ℕ → ClientDone
again_done me client place =
    recover_held me client (option_and_then (λ (s : SlotValue). s.pursuit) (slice_get client.slots place))

abbrev pub hold_done : ClientSelf → ClientValue → TransactionValue → List ℕ → ClientDone
hold_done me client t signature =
    recover_held me (with_recovered client t signature) (Some (unstarted t signature))
