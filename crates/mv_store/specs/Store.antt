-- What a store stands for.
use Rattle.std.specs.Prelude.{◌≡◌, ℕ, Bool, true, List, Some, IsSome, All, Contains, ◌↔◌}
use Rattle.basil_types.specs.declared.version.Version.{Version}
use Rattle.basil_types.specs.declared.transaction.parts.ReadPart.{ReadPart}
use Rattle.basil_types.specs.Transaction.{TransactionValue, version_of, writes_key}
use Rattle.mv_store.specs.declared.index.Entered.{Entered}
use Rattle.mv_store.specs.declared.index.Reader.{Reader}
use Rattle.mv_store.specs.declared.store.Store.{Store}
use Rattle.mv_store.specs.Held.{Held, NotedRead, version, read_above, entered, removed, NoOther, greatest_noted}
use Rattle.mv_store.specs.Keys.{HasKey, writer_slot, reader_slot, writer_at, reader_at, noted_of}
use Rattle.mv_store.specs.Noted.{is_above}

-- what an index tells of an entered transaction that writes its key
abbrev pub entry : Held → Entered
entry h = record { place = h.place; committed = h.committed }

-- and of one that reads it
abbrev pub read_entry : Held → ReadPart → Reader
read_entry h r = record { read = r.version; entered = entry h }

-- an entered transaction of this version writes the key
pub record IsWriter (held : List Held) (key : List ℕ) (v : Version) (e : Entered) : Type 0 where
  pub by : Held
  pub among : Contains held by
  pub writes : writes_key by.transaction key ≡ true
  pub at : version by ≡ v
  pub told : entry by ≡ e

-- an entered transaction of this version reads the key
pub record IsReader (held : List Held) (key : List ℕ) (v : Version) (e : Reader) : Type 0 where
  pub by : Held
  pub among : Contains held by
  pub read : ReadPart
  pub reads : Contains by.transaction.reads read
  pub of_key : read.key ≡ key
  pub at : version by ≡ v
  pub told : read_entry by read ≡ e

-- the store tells of exactly these transactions and noted reads, in any order
pub record Stands (store : Store) (held : List Held) (noted : List NotedRead) : Type 0 where
  -- a transaction stands at its version among the writers of each key that it writes
  pub written : (h : Held) (key : List ℕ) → Contains held h → writes_key h.transaction key ≡ true
      → writer_at store.keys key (version h) ≡ Some (entry h)
  pub writers : (key : List ℕ) (v : Version) (e : Entered) → writer_at store.keys key v ≡ Some e
      → IsWriter held key v e
  -- and among the readers of each key that it reads
  pub read : (h : Held) (r : ReadPart) → Contains held h → Contains h.transaction.reads r
      → reader_at store.keys r.key (version h) ≡ Some (read_entry h r)
  pub readers : (key : List ℕ) (v : Version) (e : Reader) → reader_at store.keys key v ≡ Some e
      → IsReader held key v e
  -- a read is noted behind another exactly where the greatest one is
  pub behind : (key : List ℕ) (time client : ℕ)
      → is_above (noted_of store.keys key) (time, client) ≡ read_above key time client noted

-- what the one stood for the other stands for
abbrev pub KeepsStanding : (old new : Store) → Type 0
KeepsStanding old new = (held : List Held) (noted : List NotedRead) → Stands old held noted → Stands new held noted

-- the other stands for this transaction too, at this place and in this state, where no other of its version is entered
abbrev pub Enters : (old new : Store) → TransactionValue → ℕ → Bool → Type 0
Enters old new t place committed = (held : List Held) (noted : List NotedRead) → Stands old held noted → NoOther held t
    → Stands new (entered held t place committed) noted

-- the other doesn't stand for this transaction
abbrev pub TakesOut : (old new : Store) → TransactionValue → Type 0
TakesOut old new t = (held : List Held) (noted : List NotedRead) → Stands old held noted → NoOther held t
    → Stands new (removed held t) noted

-- there is room to enter this transaction
pub record HasRoom (store : Store) (t : TransactionValue) : Type 0 where
  pub writes : All (λ w. IsSome (writer_slot store.keys w.key (version_of t))) t.writes
  pub reads : All (λ r. IsSome (reader_slot store.keys r.key (version_of t))) t.reads

-- there is room to note a read of this key
abbrev pub HasReadRoom : Store → List ℕ → Type 0
HasReadRoom store key = HasKey store.keys key

-- two lists with the same elements
abbrev pub HaveSame : {A : Type 0} → List A → List A → Type 0
HaveSame {A} xs ys = (x : A) → Contains xs x ↔ Contains ys x

-- ---- noted reads

-- two lists of noted reads that answer alike
abbrev pub AnswerAlike : (noted others : List NotedRead) → Type 0
AnswerAlike noted others = (key : List ℕ) (time client : ℕ)
    → read_above key time client noted ≡ read_above key time client others

-- the greatest noted read of a key answers for all of them
abbrev pub GreatestAnswers : Type 0
GreatestAnswers = (key : List ℕ) (time client : ℕ) (noted : List NotedRead)
    → read_above key time client noted ≡ is_above (greatest_noted key noted) (time, client)

-- a store that stands for noted reads stands for others that answer alike: those with the same greatest read of each
-- key
pub record GreatestDecide : Type 0 where
  pub alike : (store : Store) (held : List Held) (noted others : List NotedRead) → Stands store held noted
      → AnswerAlike noted others → Stands store held others
  pub greatest : (store : Store) (held : List Held) (noted others : List NotedRead) → Stands store held noted
      → ((key : List ℕ) → greatest_noted key noted ≡ greatest_noted key others) → Stands store held others
