-- What a client holds of its slots, and what it keeps and signs at a call or a frame.
use Rattle.basil_types.specs.Limits.{IsU64, most_keys}
use Rattle.basil_types.specs.Texts.{IsBytes, IsKey, IsValue}
use Rattle.std.specs.Prelude.{◌≡◌, ℕ, ◌+◌, length, ◌≤◌, List, [], ◌∷◌, true, false}
use Rattle.std.specs.Prelude.{Option, Some, None, Contains, Ok, is_some, Bool, slice_get}
use Rattle.std.specs.declared.cmp.Ordering.TheVariants.{Less}
use Rattle.std.specs.Ordering.{nat_cmp}
use Rattle.std.specs.Cmp.Lexicographic.{slice_cmp}
use Rattle.basil_types.specs.declared.transaction.parts.WritePart.{WritePart}
use Rattle.basil_types.specs.Transaction.{TransactionValue, id, key_of_write}
use Rattle.basil_types.specs.Words.{SignedWords, TransactionWords}
use Rattle.client_reads.specs.Replies.{reply_fault}
use Rattle.frame_views.specs.Values.{MessageValue, ReadValue, ReadReplyValue, ReadReply}
use Rattle.client_core.specs.Answers.{on_message}
use Rattle.client_core.specs.Calls.{formed, call_begin, call_read, call_write}
use Rattle.client_core.specs.Calls.{call_prepare, call_settle, call_recover, call_invoke}
use Rattle.client_core.specs.Clients.{ClientSelf, AskedRead, SlotValue, ClientValue, ClientDone}
use Rattle.client_recover.specs.Taken.{PursuitValue}
use Rattle.client_core.specs.Slots.{key_asked, is_chosen}

-- what holds of each reply that was taken for a read
abbrev pub Takes : Type 1
Takes = ReadValue → ReadReplyValue → Type 0

-- items above a key, and items that ascend by key
abbrev pub AreAbove : {A : Type 0} → (A → List ℕ) → List ℕ → List A → Type 0
AreAbove key k [] = Unit {0}
AreAbove key k (x ∷ xs) = (slice_cmp nat_cmp k (key x) ≡ Less) × AreAbove key k xs

abbrev pub AscendBy : {A : Type 0} → (A → List ℕ) → List A → Type 0
AscendBy key [] = Unit {0}
AscendBy key (x ∷ xs) = AreAbove key (key x) xs × AscendBy key xs

pub record IsWrite (w : WritePart) : Type 0 where
  pub key : IsKey w.key
  pub value : IsValue w.value
  pub deletes : w.deletes ≡ true → w.value ≡ []

-- what a slot holds has the sizes of a transaction's parts
pub record AreSized (slot : SlotValue) : Type 0 where
  pub time : slot.begun ≡ true → IsU64 slot.time
  pub few_reads : length slot.reads ≤ most_keys
  pub keys : (r : AskedRead) → Contains slot.reads r → IsKey r.key
  pub few_writes : length slot.writes ≤ most_keys
  pub rise : AscendBy key_of_write slot.writes
  pub writes : (w : WritePart) → Contains slot.writes w → IsWrite w

-- the transaction that a begun slot formed: by its own reads, of which each has its choice
pub record IsFormed (me : ClientSelf) (slot : SlotValue) (p : PursuitValue) : Type 0 where
  pub made : p.transaction ≡ formed me slot
  pub chosen : (r : AskedRead) → Contains slot.reads r → is_chosen me.cluster r ≡ true

abbrev pub read_asked : ClientSelf → SlotValue → AskedRead → ReadValue
read_asked me slot r = record { key = r.key; time = slot.time; client = me.number }

pub record IsSlot (me : ClientSelf) (Took : Takes) (slot : SlotValue) : Type 0 where
  -- one that wasn't begun pursues a recovered transaction
  pub recovered : slot.begun ≡ false → is_some slot.pursuit ≡ true
  pub ascend : AscendBy key_asked slot.reads
  pub sizes : AreSized slot
  pub took : (r : AskedRead) → Contains slot.reads r → (m : ReadReplyValue) → Contains r.replies m →
      Took (read_asked me slot r) m
  pub forms : slot.begun ≡ true → (p : PursuitValue) → slot.pursuit ≡ Some p → IsFormed me slot p

pub record IsHeld (me : ClientSelf) (Took : Takes) (c : ClientValue) : Type 0 where
  pub slots : (place : ℕ) (slot : SlotValue) → slice_get c.slots place ≡ Some slot → IsSlot me Took slot
  pub under : (place : ℕ) (slot : SlotValue) → slice_get c.slots place ≡ Some slot → slot.begun ≡ true →
      slot.time ≤ c.last
  -- of one time one slot was begun
  pub apart : (p q : ℕ) (a b : SlotValue) → slice_get c.slots p ≡ Some a → slice_get c.slots q ≡ Some b → a.begun
      ≡ true → b.begun ≡ true → a.time ≡ b.time → p ≡ q

-- a slot stays, and so does the transaction that it pursues
pub record IsKept (o : Option SlotValue) (was : SlotValue) : Type 0 where
  pub slot : SlotValue
  pub stands : o ≡ Some slot
  pub begun : slot.begun ≡ was.begun
  pub time : slot.time ≡ was.time
  pub pursues : (p : PursuitValue) → was.pursuit ≡ Some p → (q : PursuitValue) × (slot.pursuit ≡ Some q)
      × (q.transaction ≡ p.transaction)

-- a begun slot pursues the transaction of this id
pub record HasFormed (c : ClientValue) (x : List ℕ) : Type 0 where
  pub place : ℕ
  pub slot : SlotValue
  pub stands : slice_get c.slots place ≡ Some slot
  pub begun : slot.begun ≡ true
  pub pursuit : PursuitValue
  pub pursues : slot.pursuit ≡ Some pursuit
  pub named : id pursuit.transaction ≡ x

-- transactions of some kind
abbrev pub OfKind : Type 1
OfKind = TransactionValue → Type 0

-- what is signed is the words of a transaction that a begun slot formed, and of this kind
pub record Signs (E : OfKind) (c : ClientValue) (w : SignedWords) : Type 0 where
  pub named : List ℕ
  pub words : w ≡ TransactionWords named
  pub formed : HasFormed c named
  pub kind : E formed.pursuit.transaction

pub record Went (me : ClientSelf) (Took : Takes) (E : OfKind) (c : ClientValue) (d : ClientDone) : Type 0 where
  pub held : IsHeld me Took d.client
  -- its pen gives no more than it had
  pub pen : d.client.pen.spent + d.client.pen.left ≡ c.pen.spent + c.pen.left
  pub keeps : (place : ℕ) (slot : SlotValue) → slice_get c.slots place ≡ Some slot →
      IsKept (slice_get d.client.slots place) slot
  pub signs : (w : SignedWords) → Contains d.signed w → Signs E d.client w

-- each call keeps this, and each frame whose read reply is so where it is valid
pub record ClientsGo (me : ClientSelf) (Took : Takes) (E : OfKind) : Type 0 where
  pub at_message : (c : ClientValue) (m : MessageValue) (d : ClientDone) → IsHeld me Took c →
      ((r : ReadReplyValue) → m ≡ ReadReply r → (read : ReadValue) → reply_fault me.accepts me.cluster read r ≡ None →
      Took read r) →
      on_message me c m ≡ Ok d → Went me Took E c d
  pub at_begin : (c : ClientValue) (time : ℕ) (d : ClientDone) → IsU64 time → IsHeld me Took c → call_begin c time
      ≡ Ok d → Went me Took E c d
  pub at_read : (c : ClientValue) (place : ℕ) (key : List ℕ) (d : ClientDone) → IsBytes key → IsHeld me Took c →
      call_read me c place key ≡ Ok d → Went me Took E c d
  pub at_write : (c : ClientValue) (place : ℕ) (w : WritePart) (d : ClientDone) → IsBytes w.key → IsBytes w.value →
      IsHeld me Took c → call_write c place w ≡ Ok d → Went me Took E c d
  pub at_prepare : (c : ClientValue) (place : ℕ) (d : ClientDone) → IsHeld me Took c →
      ((slot : SlotValue) → slice_get c.slots place ≡ Some slot → E (formed me slot)) → call_prepare me c place ≡ Ok d →
      Went me Took E c d
  pub at_settle : (c : ClientValue) (place : ℕ) (d : ClientDone) → IsHeld me Took c → call_settle me c place ≡ Ok d →
      Went me Took E c d
  pub at_recover : (c : ClientValue) (t : TransactionValue) (signature : List ℕ) (d : ClientDone) → IsHeld me Took c →
      call_recover me c t signature ≡ Ok d → Went me Took E c d
  pub at_invoke : (c : ClientValue) (place : ℕ) (d : ClientDone) → IsHeld me Took c → call_invoke me c place ≡ Ok d →
      Went me Took E c d

-- so do all clients, whatever test the replies that are taken have passed
abbrev pub ClientsHold : Type 0
ClientsHold =
    (me : ClientSelf) (test : ReadValue → ReadReplyValue → Bool) →
    ClientsGo me (λ read m. test read m ≡ true) (λ t. Unit {0})
