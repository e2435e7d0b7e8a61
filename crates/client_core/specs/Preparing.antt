-- What pursuing a formed transaction does.
use Rattle.std.specs.Prelude.{ℕ, [], ◌∷◌, Bool, Option}
use Rattle.basil_types.specs.Built.{or_else}
use Rattle.basil_types.specs.Transaction.{TransactionValue, id}
use Rattle.basil_types.specs.Words.{TransactionWords, words_of}
use Rattle.client_recover.specs.Owned.{unstarted}
use Rattle.client_recover.specs.Pursuits.{to_involved, signed_part}
use Rattle.frame_views.specs.Values.{St1}
use Rattle.node_steps.specs.Pens.{after_one}
use Rattle.node_steps.specs.Refusing.{when}
use Rattle.client_steps.specs.declared.fault.CallFault.{CallFault}
use Rattle.client_steps.specs.declared.fault.CallFault.TheVariants.{Empty, Exhausted}
use Rattle.client_core.specs.Clients.{ClientSelf, ClientValue, SlotValue, ClientDone}
use Rattle.client_core.specs.Slots.{with_slot, with_pursuit}

-- its id is signed, and it goes to every replica of every involved shard
abbrev pub pursue_done : ClientSelf → ClientValue → ℕ → SlotValue → TransactionValue → ClientDone
pursue_done me client place s t =
    let words = TransactionWords (id t) in
    let p = unstarted t (me.signing.gives client.pen.spent (words_of words)) in
    record {
      client = record (with_slot client place (with_pursuit s p)) { pen = after_one client.pen };
      signed = words ∷ [];
      sent = to_involved me.cluster t (St1 (signed_part p));
    }

-- the refusals behind those of what was read
abbrev pub rest_fault : Bool → Bool → Option CallFault
rest_fault nothing spent = or_else (when nothing Empty) (when spent Exhausted)
