-- What a watch stands for.
use Rattle.std.specs.Prelude.{◌≡◌, ℕ, List, [], ◌∷◌, ◌++◌, None, take}
use Rattle.basil_types.specs.declared.party.Party.{Party}
use Rattle.basil_types.specs.Transaction.{TransactionValue}
use Rattle.basil_types.specs.Words.{SignedWords, words_of}
use Rattle.certificates.specs.Accepted.{Accepted}
use Rattle.premise_watch.specs.declared.broken.WatchFault.{WatchFault}
use Rattle.premise_watch.specs.declared.watch.Watch.{Watch}
use Rattle.premise_watch.specs.Breaches.{WatchValue, first_breach, after_marks}
use Rattle.premise_watch.specs.Looks.{Holds}
use Rattle.premise_watch.specs.Marks.{MarkValue}
use Rattle.premise_watch.specs.Telling.{Tells}
use Rattle.premise_watch.specs.Texts.{AreTexts, entries_of}

-- the watch tells of exactly these signed words and seen transactions; `undo` goes back to the earlier ones
pub record Watches (watch : Watch) (w : WatchValue) (earlier : List TransactionValue) : Type 0 where
  pub now : Holds watch w
  pub before : AreTexts (take watch.before (entries_of watch.texts)) earlier

abbrev pub with_noted : Party → SignedWords → WatchValue → WatchValue
with_noted p words w = record w { signed = w.signed ++ record { party = p; words = words } ∷ [] }

module _ (old new : Watch) where
  -- what the one stood for the other stands for
  abbrev pub KeepsWatching : Type 0
  KeepsWatching = (w : WatchValue) (earlier : List TransactionValue) → Watches old w earlier → Watches new w earlier

  -- the party has signed these words too
  abbrev pub Notes : Party → List ℕ → Type 0
  Notes p words =
      (w : WatchValue) (earlier : List TransactionValue) (x : SignedWords) → words_of x ≡ words →
      Watches old w earlier → Watches new (with_noted p x w) earlier

  -- the transactions of a message are seen, and `undo` would take them back
  abbrev pub Sees : List Party → List MarkValue → Type 0
  Sees faulty ms =
      (w : WatchValue) (earlier : List TransactionValue) → w.faulty ≡ faulty → Watches old w earlier →
      Watches new (after_marks w ms) w.texts

  -- the transactions that were seen are the earlier ones
  abbrev pub GoesBack : Type 0
  GoesBack =
      (w : WatchValue) (earlier : List TransactionValue) → Watches old w earlier →
      Watches new (record w { texts = earlier }) earlier

module _ (A : Accepted) (faulty : List Party) (watch : Watch) (ms : List MarkValue) where
  -- a message breaks nothing
  abbrev pub IsSound : Type 0
  IsSound =
      (w : WatchValue) (earlier : List TransactionValue) → w.faulty ≡ faulty → Watches watch w earlier →
      first_breach A w ms ≡ None

  -- the fault is the first breach of a message, or want of memory
  abbrev pub IsFirstBreach : WatchFault → Type 0
  IsFirstBreach fault =
      (w : WatchValue) (earlier : List TransactionValue) → w.faulty ≡ faulty → Watches watch w earlier →
      Tells (first_breach A w ms) fault
