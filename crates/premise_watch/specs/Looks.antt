-- What looking at the parts of a frame tells, and what it does to a watch.
use Rattle.std.specs.Prelude.{◌≡◌, List, None, length, take}
use Rattle.basil_types.specs.declared.party.Party.{Party}
use Rattle.certificates.specs.Accepted.{Accepted}
use Rattle.premise_watch.specs.declared.broken.WatchFault.{WatchFault}
use Rattle.premise_watch.specs.declared.watch.Watch.{Watch}
use Rattle.premise_watch.specs.Breaches.{WatchValue, first_breach, after_marks}
use Rattle.premise_watch.specs.Marks.{MarkValue}
use Rattle.premise_watch.specs.Signers.{AreSigners}
use Rattle.premise_watch.specs.Telling.{Tells}
use Rattle.premise_watch.specs.Texts.{AreTexts, entries_of}

-- what the watch keeps is what was signed, and the first text of each id
pub record Holds (watch : Watch) (w : WatchValue) : Type 0 where
  pub signed : AreSigners watch.noted w.signed
  pub texts : AreTexts (entries_of watch.texts) w.texts

-- the watch holds at least what it held, in the order in which it came
pub record Grown (old new : Watch) : Type 0 where
  pub noted : new.noted ≡ old.noted
  pub before : new.before ≡ old.before
  pub texts : take (length (entries_of old.texts)) (entries_of new.texts) ≡ entries_of old.texts

module _ (A : Accepted) (faulty : List Party) (watch : Watch) (ms : List MarkValue) where
  -- there is no breach, and the other watch holds what is seen
  abbrev pub Passes : Watch → Type 0
  Passes new =
      (w : WatchValue) → w.faulty ≡ faulty → Holds watch w →
      (first_breach A w ms ≡ None) × Holds new (after_marks w ms)

  -- the fault is the first breach, or want of memory
  abbrev pub Breaks : WatchFault → Type 0
  Breaks fault = (w : WatchValue) → w.faulty ≡ faulty → Holds watch w → Tells (first_breach A w ms) fault
