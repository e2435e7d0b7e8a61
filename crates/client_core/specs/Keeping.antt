-- What a read tells, by what is kept of it.
use Rattle.std.specs.Prelude.{◌≤◌, ◌<◌, ◌++◌, ◌∷◌, [], not, Option, option_and_then}
use Rattle.std.specs.Prelude.{find, nat_le, length, Bool, if◌then◌else◌}
use Rattle.basil_types.specs.declared.transaction.parts.ReadPart.{ReadPart}
use Rattle.basil_types.specs.declared.transaction.parts.WritePart.{WritePart}
use Rattle.basil_types.specs.declared.version.Version.{Version}
use Rattle.basil_types.specs.Setting.{Setting}
use Rattle.basil_types.specs.Version.{genesis, same_version}
use Rattle.client_reads.specs.Choosing.{choice}
use Rattle.client_reads.specs.declared.choice.Choice.{Choice}
use Rattle.client_core.specs.declared.asking.Asking.{Asking}
use Rattle.client_core.specs.declared.replies.Carried.{Carried}
use Rattle.client_core.specs.declared.replies.KeptReply.{KeptReply}
use Rattle.client_core.specs.declared.state.ReadState.{ReadState}
use Rattle.client_core.specs.declared.state.ReadState.TheVariants as states
use Rattle.client_core.specs.Kept.{KeptRead, carried_in}
use Rattle.client_core.specs.Slots.{ReadStateValue, NotRead, Pending, Absent, Found, Deleted, Own, OwnDeleted, found_by}

abbrev pub told_state : ReadState → ReadStateValue
told_state states.NotRead = NotRead
told_state states.Pending = Pending
told_state states.Absent = Absent
told_state (states.Found writer value) = Found writer value.now
told_state (states.Deleted writer) = Deleted writer
told_state (states.Own value) = Own value.now
told_state states.OwnDeleted = OwnDeleted

abbrev pub is_chosen_kept : Setting → KeptRead → Bool
is_chosen_kept c k = nat_le c.reads (length k.versions)

abbrev pub choice_kept : Setting → KeptRead → Choice
choice_kept c k = choice c k.versions

-- the first of this version that was carried
abbrev pub carrier_kept : Version → KeptRead → Option Carried
carrier_kept v k = find (λ (c : Carried). same_version c.version v) k.carried

abbrev pub write_kept : Setting → KeptRead → Option WritePart
write_kept c k = option_and_then (λ (x : Carried). x.write) (carrier_kept (choice_kept c k).version k)

abbrev pub state_kept : Setting → KeptRead → ReadStateValue
state_kept c k =
    if not (is_chosen_kept c k) then Pending
    else if same_version (choice_kept c k).version genesis then Absent
    else found_by (choice_kept c k).version (write_kept c k)

-- ---- one more reply

abbrev pub with_kept : KeptRead → KeptReply → KeptRead
with_kept k reply =
    record k {
      replied = k.replied ++ reply.replica ∷ [];
      versions = k.versions ++ reply.versions ∷ [];
      carried = k.carried ++ carried_in reply;
    }

pub record HasReplyRoom (a : Asking) : Type 0 where
  pub replied : 0 < a.replied.room
  pub versions : 0 < a.versions.room
  pub carried : 2 ≤ a.carried.room

-- ---- the read of the transaction

abbrev pub part_kept : Setting → KeptRead → ReadPart
part_kept c k =
    record { key = k.key; version = (choice_kept c k).version; dependency = (choice_kept c k).dependency }
