-- What a store stands for, of a table, and after a change of one entry.
use Rattle.std.specs.Prelude.{◌≡◌, ℕ, List, [], ◌∷◌, ◌++◌, true, false, Option, Some, None, slice_get, Contains}
use Rattle.std.specs.List.{IsDistinct}
use Rattle.std.specs.Str.{bytes_eq}
use Rattle.basil_types.specs.declared.party.Party.{Party}
use Rattle.basil_types.specs.declared.party.Decision.TheVariants.{Commit, Abort}
use Rattle.basil_types.specs.Transaction.{TransactionValue}
use Rattle.txn_table.specs.Entries.{EntryValue, Unvoted, arrived, asked, voted}
use Rattle.txn_table.specs.Entries.{decided, is_voted, is_waiting, decision_of}
use Rattle.txn_table.specs.Tables.{ids_of, changed}
use Rattle.mv_store.specs.declared.store.Store.{Store}
use Rattle.mv_store.specs.Held.{Held, NotedRead, version, entered, removed, NoOther}
use Rattle.mv_store.specs.Store.{Stands, HaveSame, Enters, TakesOut}
use Rattle.mvtso_check.specs.Book.{held_in}

-- the store stands for the prepared and the committed transactions of a table, and for these noted reads
abbrev pub StandsFor : Store → List EntryValue → List NotedRead → Type 0
StandsFor store entries noted = Stands store (held_in entries) noted

-- where the one stood for the table before, the other stands for the table after, with the same noted reads
abbrev pub StandsAfter : (old : Store) → (before : List EntryValue) → (new : Store) → (after : List EntryValue) → Type 0
StandsAfter old before new after = (noted : List NotedRead) → StandsFor old before noted → StandsFor new after noted

-- the entry at a place, of a table whose ids differ
pub record IsEntry (entries : List EntryValue) (place : ℕ) (e : EntryValue) : Type 0 where
  pub distinct : IsDistinct bytes_eq (ids_of entries)
  pub at : slice_get entries place ≡ Some e

-- it has no outcome
abbrev pub IsOpen : EntryValue → Type 0
IsOpen e = decision_of e ≡ None

-- ---- which transactions are held, up to their order

pub record HeldOnes : Type 0 where
  -- no two of them have one version
  pub apart : (entries : List EntryValue) (g h : Held) → IsDistinct bytes_eq (ids_of entries)
      → Contains (held_in entries) g
      → Contains (held_in entries) h → version g ≡ version h → g ≡ h
  pub alone : (entries : List EntryValue) (place : ℕ) (e : EntryValue) → IsEntry entries place e
      → NoOther (held_in entries) e.transaction
  -- one that arrives isn't held
  pub arrives : (entries : List EntryValue) (t : TransactionValue)
      → held_in (entries ++ arrived t ∷ []) ≡ held_in entries
  -- one that waits, or has voted to commit, is held as prepared
  pub asks : (entries : List EntryValue) (place : ℕ) (e : EntryValue) (asker : Party) → IsEntry entries place e
      → IsOpen e
      → is_voted e.vote ≡ false
      → HaveSame (entered (held_in entries) e.transaction place false) (held_in (changed (asked asker) place entries))
  pub votes_commit : (entries : List EntryValue) (place : ℕ) (e : EntryValue) (signature : List ℕ) (proof : Option ℕ)
      → IsEntry entries place e → IsOpen e
      → HaveSame (entered (held_in entries) e.transaction place false)
      (held_in (changed (voted Commit signature proof) place entries))
  -- one that has voted to abort isn't
  pub votes_abort : (entries : List EntryValue) (place : ℕ) (e : EntryValue) (signature : List ℕ) (proof : Option ℕ)
      → IsEntry entries place e → IsOpen e
      → held_in (changed (voted Abort signature proof) place entries) ≡ removed (held_in entries) e.transaction
  -- one that ends is held as committed, or no more
  pub commits : (entries : List EntryValue) (place : ℕ) (e : EntryValue) (certificate : List ℕ)
      → IsEntry entries place e
      → HaveSame (entered (held_in entries) e.transaction place true)
      (held_in (changed (decided Commit certificate) place entries))
  pub aborts : (entries : List EntryValue) (place : ℕ) (e : EntryValue) (certificate : List ℕ) → IsEntry entries place e
      → held_in (changed (decided Abort certificate) place entries) ≡ removed (held_in entries) e.transaction
  -- a commit of one that waited, and an abort of one for which nobody waited, change nothing
  pub waited : (entries : List EntryValue) (place : ℕ) (e : EntryValue) (signature : List ℕ) (proof : Option ℕ)
      → IsEntry entries place e → IsOpen e → is_waiting e.vote ≡ true
      → held_in (changed (voted Commit signature proof) place entries) ≡ held_in entries
  pub unasked : (entries : List EntryValue) (place : ℕ) (e : EntryValue) (signature : List ℕ) (proof : Option ℕ)
      → IsEntry entries place e → IsOpen e → e.vote ≡ Unvoted
      → held_in (changed (voted Abort signature proof) place entries) ≡ held_in entries

-- ---- a store that stood for a table still does after one entry's change

pub record StoresFollow : Type 0 where
  pub arrives : (store : Store) (entries : List EntryValue) (t : TransactionValue)
      → StandsAfter store entries store (entries ++ arrived t ∷ [])
  pub asks : (old new : Store) (entries : List EntryValue) (place : ℕ) (e : EntryValue) (asker : Party)
      → IsEntry entries place e → IsOpen e → is_voted e.vote ≡ false → Enters old new e.transaction place false
      → StandsAfter old entries new (changed (asked asker) place entries)
  pub votes_commit : (old new : Store) (entries : List EntryValue) (place : ℕ) (e : EntryValue)
      (signature : List ℕ) (proof : Option ℕ) → IsEntry entries place e → IsOpen e
      → Enters old new e.transaction place false
      → StandsAfter old entries new (changed (voted Commit signature proof) place entries)
  pub votes_abort : (old new : Store) (entries : List EntryValue) (place : ℕ) (e : EntryValue)
      (signature : List ℕ) (proof : Option ℕ) → IsEntry entries place e → IsOpen e → TakesOut old new e.transaction
      → StandsAfter old entries new (changed (voted Abort signature proof) place entries)
  pub commits : (old new : Store) (entries : List EntryValue) (place : ℕ) (e : EntryValue) (certificate : List ℕ)
      → IsEntry entries place e → Enters old new e.transaction place true
      → StandsAfter old entries new (changed (decided Commit certificate) place entries)
  pub aborts : (old new : Store) (entries : List EntryValue) (place : ℕ) (e : EntryValue) (certificate : List ℕ)
      → IsEntry entries place e → TakesOut old new e.transaction
      → StandsAfter old entries new (changed (decided Abort certificate) place entries)
  -- what changes nothing of which ones are held needs no call of the store
  pub waited : (store : Store) (entries : List EntryValue) (place : ℕ) (e : EntryValue)
      (signature : List ℕ) (proof : Option ℕ) → IsEntry entries place e → IsOpen e → is_waiting e.vote ≡ true
      → StandsAfter store entries store (changed (voted Commit signature proof) place entries)
  pub unasked : (store : Store) (entries : List EntryValue) (place : ℕ) (e : EntryValue)
      (signature : List ℕ) (proof : Option ℕ) → IsEntry entries place e → IsOpen e → e.vote ≡ Unvoted
      → StandsAfter store entries store (changed (voted Abort signature proof) place entries)
