-- Words and frames that wait for the signature of a faulty party.
use Rattle.std.specs.Prelude.{◌≡◌, ◌≤◌, ◌<◌, ℕ, List, [], length, map}
use Rattle.basil_types.specs.declared.outbox.Envelope.{Envelope}
use Rattle.basil_types.specs.Words.{words_of}
use Rattle.node_steps.specs.declared.pending.Pending.{Pending}
use Rattle.node_steps.specs.Framed.{framed}
use Rattle.node_steps.specs.Pendings.{IsReady, bytes_in, bytes_sent, sealed_all}
use Rattle.faulty_parties.specs.declared.lie.Lie.{Lie}
use Rattle.faulty_parties.specs.Unsaid.{Unsaid}

-- it can be signed by a pen of this size, has an outbox with room, and tells the bytes of its frames
pub record CanBeSaid (size : ℕ) (lie : Lie) : Type 0 where
  pub ready : IsReady size lie.pending
  pub sent : lie.out.messages.items ≡ []
  pub signed : lie.out.signed.items ≡ []
  pub messages : length lie.pending.frames.items ≤ lie.out.messages.room
  pub words : 0 < lie.out.signed.room
  pub bytes : lie.bytes ≡ bytes_in size lie.pending.frames.items

-- so many messages, with so many bytes, are sent once it is signed
pub record Tells (lie : Lie) (messages : List Envelope) : Type 0 where
  pub count : length messages ≡ length lie.pending.frames.items
  pub bytes : bytes_sent messages ≡ lie.bytes

-- these words wait, and with any signature the frames are what is said with that
pub record Waits (u : Unsaid) (p : Pending) : Type 0 where
  pub words : p.words ≡ words_of u.words
  pub frames : (signature : List ℕ) → sealed_all signature p ≡ map framed (u.sent signature)

abbrev pub Says : Unsaid → Lie → Type 0
Says u lie = Waits u lie.pending
