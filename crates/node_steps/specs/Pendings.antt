-- Frames that wait for their signature.
use Rattle.std.specs.Prelude.{◌≡◌, ℕ, ◌+◌, ◌<◌, ◌≤◌, List, [], ◌∷◌, ◌++◌, All, map, vec_len, vec_capacity, length}
use Rattle.basil_types.specs.declared.outbox.Envelope.{Envelope}
use Rattle.basil_types.specs.declared.outbox.Outbox.{Outbox}
use Rattle.basil_types.specs.declared.party.Party.{Party}
use Rattle.basil_types.specs.Limits.{signature_limit}
use Rattle.basil_types.specs.Transaction.{long_text}
use Rattle.node_steps.specs.declared.pending.Unsigned.{Unsigned}
use Rattle.node_steps.specs.declared.pending.Pending.{Pending}

-- ---- frames

-- a frame for a party, without its signature
pub record Front : Type 0 where
  pub to : Party
  pub bytes : List ℕ

abbrev pub front_of : Unsigned → Front
front_of u = record { to = u.to; bytes = u.frame.items }

abbrev pub fronts_of : Pending → List Front
fronts_of p = map front_of p.frames.items

-- the frame with this signature
abbrev pub seal_front : List ℕ → Front → Envelope
seal_front signature f = record { to = f.to; frame = f.bytes ++ long_text signature }

abbrev pub sealed : List ℕ → Unsigned → Envelope
sealed signature u = seal_front signature (front_of u)

-- all frames with this signature
abbrev pub sealed_all : List ℕ → Pending → List Envelope
sealed_all signature p = map (sealed signature) p.frames.items

-- ---- bytes

-- the bytes of frames, once each has a signature of this size behind its length of two bytes
abbrev pub bytes_in : ℕ → List Unsigned → ℕ
bytes_in size [] = 0
bytes_in size (u ∷ us) = (length u.frame.items + (2 + size)) + bytes_in size us

-- the bytes of what is sent
abbrev pub bytes_sent : List Envelope → ℕ
bytes_sent [] = 0
bytes_sent (e ∷ es) = length e.frame + bytes_sent es

-- so many more messages are sent, with so many more bytes
pub record Sends (old new : Outbox) (count size : ℕ) : Type 0 where
  pub messages : length new.messages.items ≡ length old.messages.items + count
  pub bytes : bytes_sent new.messages.items ≡ bytes_sent old.messages.items + size

-- ---- room

-- there is room for a signature of this size
abbrev pub HasRoomFor : ℕ → Unsigned → Type 0
HasRoomFor size u = vec_len u.frame + (2 + size) ≤ vec_capacity u.frame

-- a signature of this size can be made and put into the frames
pub record IsReady (size : ℕ) (p : Pending) : Type 0 where
  pub stored : vec_len p.stored ≡ size
  pub some : 1 ≤ size
  pub short : size ≤ signature_limit
  pub rooms : All (HasRoomFor size) p.frames.items

-- the words can be signed, by a pen with this many signatures left, and the frames sent
pub record CanSign (size signatures : ℕ) (out : Outbox) (p : Pending) : Type 0 where
  pub left : 0 < signatures
  pub ready : IsReady size p
  pub messages : length p.frames.items ≤ out.messages.room
  pub signed : 0 < out.signed.room
