-- What planned work of every kind gives, and what it needs.
use Rattle.std.specs.Prelude.{ℕ, List, length}
use Rattle.fallback_leader.specs.declared.words.KeptWord.{KeptWord}
use Rattle.keyring.specs.Signing.{Signing}
use Rattle.node_steps.specs.Pendings.{bytes_in}
use Rattle.replica_core.specs.declared.parts.Parts.{Parts}
use Rattle.replica_core.specs.declared.plan.Work.{Work}
use Rattle.replica_core.specs.declared.plan.Work.TheVariants.{Known, Read, Log, Lead}
use Rattle.replica_core.specs.KnownWorks as known
use Rattle.replica_core.specs.LeadWorks as lead
use Rattle.replica_core.specs.LogWorks as log
use Rattle.replica_core.specs.ReadWorks as read
use Rattle.replica_core.specs.Telling.{Told}

-- where these are the words that are kept once the one that is held back is taken
abbrev pub perform_work : Signing → List KeptWord → Told → Work → Told
perform_work signing kept t (Known w) = known.perform_known signing t w
perform_work signing kept t (Read w) = read.perform_read signing t w
perform_work signing kept t (Log w) = log.perform_log signing t w
perform_work signing kept t (Lead w) = lead.perform_lead signing kept t w

-- ---- how much is sent and signed

abbrev pub message_count : Work → ℕ
message_count (Known w) = known.message_count w
message_count (Read w) = length w.pending.frames.items
message_count (Log w) = log.said_messages w.said
message_count (Lead w) = lead.lead_messages w

abbrev pub word_count : Work → ℕ
word_count (Known w) = known.word_count w
word_count (Read w) = 1
word_count (Log w) = log.said_words w.said
word_count (Lead w) = lead.lead_words w

-- the bytes of the frames, with signatures of this size
abbrev pub byte_count : ℕ → Work → ℕ
byte_count size (Known w) = known.byte_count size w
byte_count size (Read w) = bytes_in size w.pending.frames.items
byte_count size (Log w) = log.said_bytes size w.said
byte_count size (Lead w) = lead.lead_bytes size w

-- ---- what it needs

-- by a pen with signatures of this size, of which so many are left
abbrev pub CanPerform : (size left : ℕ) → Parts → Work → Type 0
CanPerform size left parts (Known w) = known.CanPerform size left parts.known w
CanPerform size left parts (Read w) = read.CanRead size left parts.known w
CanPerform size left parts (Log w) = log.CanLog size left parts.known parts.logged w
CanPerform size left parts (Lead w) = lead.CanLead size left w
