-- Why a line is refused before its events, where its own tokens are in the grammar.
use Rattle.std.specs.Prelude.{◌≡◌, ◌<◌, ◌⊎◌, ◌==◌, ℕ, ⊤, Bool, true, false, not}
use Rattle.std.specs.Prelude.{◌&&◌, ◌||◌, Option, Some, None, is_none, List, length, nat_le, nat_lt}
use Rattle.basil_types.specs.Built.{or_else}
use Rattle.basil_types.specs.Setting.{Setting}
use Rattle.basil_types.specs.declared.party.Party.TheVariants.{Replica, Client}
use Rattle.cluster_run.specs.States.{State, is_faulty}
use Rattle.keyring_lms.specs.Replay.{is_party_of}
use Rattle.node_steps.specs.Refusing.{when}
use Rattle.quorum_laws.specs.Numbers.{replicas}
use Rattle.run_journals.specs.Journals.{JournalValue, journal_at}
use Rattle.schedule_text.specs.declared.line.Line.{Line}
use Rattle.schedule_text.specs.declared.line.Line.TheVariants.{Header, Faulty, Begin, Read, Write, Delete}
use Rattle.schedule_text.specs.declared.line.Line.TheVariants.{Claim, Prepare, Settle, Recover, Invoke}
use Rattle.schedule_text.specs.declared.line.Line.TheVariants.{Deliver, Lose, Divert, Clock, Vote}
use Rattle.schedule_text.specs.declared.line.Line.TheVariants.{Second, Logged, Elect, Decide, Raw, Stop}
use Rattle.line_fields.specs.declared.reason.Reason.{Reason}
use Rattle.line_fields.specs.declared.reason.Reason.TheVariants.{Misspelt, OutOfRange, WrongName, CannotBeFaulty}
use Rattle.line_fields.specs.declared.reason.Reason.TheVariants.{WrongParty, NoMessage, NoJournal}
use Rattle.schedule_replay.specs.Names.{is_begun, is_formed, is_by_faulty}
use Rattle.schedule_replay.specs.Replays.{ReplayValue}

-- reason 2: a header that isn't the first
abbrev pub is_late_header : Line → Bool
is_late_header (Header cluster clock keys journal) = true
is_late_header _ = false

-- a disk stops within one of the two writes of a record, and leaves some bytes there
abbrev pub is_stop : (write : ℕ) → (bytes : List ℕ) → Bool
is_stop write bytes = ((write == 1) || (write == 2)) && nat_lt 0 (length bytes)

-- where a line stops a disk, it does so
abbrev pub CanStop : Line → Type 0
CanStop (Stop shard replica message write bytes) = ((write ≡ 1) ⊎ (write ≡ 2)) × (0 < length bytes)
CanStop _ = ⊤

-- reason 3: the cluster has no such replica, or no disk stops so
abbrev pub is_outside : Setting → Line → Bool
is_outside c (Faulty party) = not (is_party_of c party)
is_outside c (Divert message to) = not (is_party_of c to)
is_outside c (Clock shard replica moment) = not (is_party_of c (Replica shard replica))
is_outside c (Vote shard replica name decision client) = not (is_party_of c (Replica shard replica))
is_outside c (Second name decision replica) = not (nat_lt replica (replicas c.f))
is_outside c (Logged shard replica name decision decided current client) =
    not (is_party_of c (Replica shard replica))
is_outside c (Elect shard replica name decision view) = not (is_party_of c (Replica shard replica))
is_outside c (Decide shard replica name decision view to) =
    not (is_party_of c (Replica shard replica)) || not (is_party_of c (Replica shard to))
is_outside c (Raw from to frame) = not (is_party_of c from) || not (is_party_of c to)
is_outside c (Stop shard replica message write bytes) =
    not (is_party_of c (Replica shard replica)) || not (is_stop write bytes)
is_outside c _ = false

-- reason 4: a name that isn't begun, is begun twice, or isn't formed where it must be
abbrev pub misnames : ReplayValue → Line → Bool
misnames r (Begin name client time) = is_begun r.names name
misnames r (Read name key) = not (is_begun r.names name)
misnames r (Write name key value) = not (is_begun r.names name)
misnames r (Delete name key) = not (is_begun r.names name)
misnames r (Claim name key None) = not (is_begun r.names name)
misnames r (Claim name key (Some writer)) = not (is_begun r.names name) || not (is_formed r writer)
misnames r (Prepare name) = not (is_begun r.names name)
misnames r (Settle name client) = not (is_formed r name)
misnames r (Recover name client) = not (is_formed r name)
misnames r (Invoke name client) = not (is_formed r name)
misnames r (Vote shard replica name decision client) = not (is_formed r name)
misnames r (Second name decision replica) = not (is_formed r name)
misnames r (Logged shard replica name decision decided current client) = not (is_formed r name)
misnames r (Elect shard replica name decision view) = not (is_formed r name)
misnames r (Decide shard replica name decision view to) = not (is_formed r name)
misnames r _ = false

-- reason 5: a faulty party that is named behind another line
abbrev pub is_late_faulty : Line → Bool
is_late_faulty (Faulty party) = true
is_late_faulty _ = false

-- reason 6: a line for a faulty party names a correct one, or the other way round
abbrev pub is_of_others : ReplayValue → Line → Bool
is_of_others r (Read name key) = is_by_faulty r name
is_of_others r (Claim name key writer) = not (is_by_faulty r name)
is_of_others r (Settle name client) = is_faulty r.setup (Client client)
is_of_others r (Recover name client) = is_faulty r.setup (Client client)
is_of_others r (Invoke name client) = is_faulty r.setup (Client client)
is_of_others r (Vote shard replica name decision client) = not (is_faulty r.setup (Replica shard replica))
is_of_others r (Second name decision replica) = not (is_by_faulty r name)
is_of_others r (Logged shard replica name decision decided current client) =
    not (is_faulty r.setup (Replica shard replica))
is_of_others r (Elect shard replica name decision view) = not (is_faulty r.setup (Replica shard replica))
is_of_others r (Decide shard replica name decision view to) = not (is_faulty r.setup (Replica shard replica))
is_of_others r (Stop shard replica message write bytes) = is_faulty r.setup (Replica shard replica)
is_of_others r _ = false

-- messages are numbered from 1
abbrev pub is_message : State → ℕ → Bool
is_message st message = nat_le 1 message && nat_le message (length st.pool)

-- reason 7: a message that isn't there
abbrev pub misses : State → Line → Bool
misses st (Deliver message) = not (is_message st message)
misses st (Lose message) = not (is_message st message)
misses st (Divert message to) = not (is_message st message)
misses st (Stop shard replica message write bytes) = not (is_message st message)
misses st _ = false

-- reason 11: a disk is stopped of a replica that keeps no journal
abbrev pub lacks_journal : List JournalValue → Line → Bool
lacks_journal journals (Stop shard replica message write bytes) = is_none (journal_at journals shard replica)
lacks_journal journals _ = false

-- the first reason that holds
abbrev pub reason_of : ReplayValue → Line → Option Reason
reason_of r line =
    or_else (when (is_late_header line) Misspelt)
    (or_else (when (is_outside r.setup.cluster line) OutOfRange)
    (or_else (when (misnames r line) WrongName)
    (or_else (when (is_late_faulty line) CannotBeFaulty)
    (or_else (when (is_of_others r line) WrongParty)
    (or_else (when (misses r.state line) NoMessage) (when (lacks_journal r.journals line) NoJournal))))))
