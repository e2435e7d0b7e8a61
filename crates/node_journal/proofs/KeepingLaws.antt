-- What a disk holds of some frames, and of one more.
use Rattle.std.proofs.Common.{◌≡◌, ℕ, ◌<◌, List, [], ◌∷◌, ◌++◌, length, refl, sym, ap, subst, ◌∙◌, inl, inr}
use Rattle.std.proofs.Common.{Bool, true, false, ◌&&◌, ◌==◌, Option, Some, None, length-append, arith}
use Rattle.std.proofs.lemmas.List.{map-append, nil_from_length}
use Rattle.journal_disk.specs.Disk.{BothTold, Change, DiskState, Kept, MayLeave, MightLeave, OnTold}
use Rattle.journal_disk.specs.Foreseen.{Foreseen, OnStopped, StopState}
use Rattle.journal_records.specs.declared.limits.TheConstants.{JOURNAL_LIMIT}
use Rattle.journal_records.specs.Journal.{EndsAt, Holds, HoldsForGood, last_gate}
use Rattle.journal_records.specs.Journal as records
use Rattle.journal_records.specs.Stopping.{after_stop, and_if, leaves_open}
use Rattle.node_steps.specs.Pens.{PenValue}
use Rattle.replica_core.specs.Replicas.{ReplicaSelf, empty_book}
use Rattle.replica_laws.specs.Steps.{Handed}
use Rattle.node_journal.specs.Entries.{entry_of}
use Rattle.node_journal.specs.Journals.{AcceptsAll, Keeps, KeepsEither, LosesNone, entries_of}

pub entries-push : (hs : List Handed) (h : Handed) → entries_of (hs ++ h ∷ []) ≡ entries_of hs ++ entry_of h ∷ []
entries-push hs h = map-append entry_of hs (h ∷ [])

module _ (me : ReplicaSelf) (begun : PenValue) (hs : List Handed) (near : last_gate (entries_of hs) < JOURNAL_LIMIT)
    (accepted : AcceptsAll me (empty_book begun) hs) where
  keeps : (bytes : List ℕ) → Holds (entries_of hs) bytes → Keeps me begun hs bytes
  keeps bytes h = record { holds = h; near = near; accepted = accepted }

  -- where nothing was done since
  might-none : (past : List Change) (left : List ℕ) → MightLeave past past left → MayLeave past left
  might-none past left m =
      let long = ap length m.since ∙ length-append m.later (m.sooner ++ past) in
      let none : length m.sooner ≡ 0 = omega (arith, long, length-append m.sooner past) in
      subst (λ (s : List Change). MayLeave (s ++ past) left) (nil_from_length m.sooner none) m.leaves

  same-loses : (h : Handed) (s : DiskState) → HoldsForGood (entries_of hs) s → LosesNone me begun hs h s.past s
  same-loses h s good =
      record {
        follows = ([], refl);
        now = inl (keeps s.contents good.holds);
        stopped = λ left m.
            let may : MayLeave (Kept s.contents ∷ good.kept.0) left =
            subst (λ (p : List Change). MayLeave p left) good.kept.1 (might-none s.past left m) in
            inl (keeps left (subst (Holds (entries_of hs)) (sym may) good.holds));
      }

  same-told : (h : Handed) (end : ℕ) (t : Option DiskState) → EndsAt (entries_of hs) end t →
      BothTold (λ old new. LosesNone me begun hs h old.past new) t t
  same-told h end (Some s) at = same-loses h s at.disk
  same-told h end None at = tt

  -- nothing was written
  pub unwritten-loses : (h : Handed) (end : ℕ) (t0 t1 : Option DiskState) → EndsAt (entries_of hs) end t0 → t1 ≡ t0 →
      BothTold (λ old new. LosesNone me begun hs h old.past new) t0 t1
  unwritten-loses h end t0 t1 at e =
      subst (BothTold (λ old new. LosesNone me begun hs h old.past new) t0) (sym e) (same-told h end t0 at)

  -- a record was written, or might have been
  module _ (h : Handed) (near_more : last_gate (entries_of (hs ++ h ∷ [])) < JOURNAL_LIMIT)
      (accepted_more : AcceptsAll me (empty_book begun) (hs ++ h ∷ [])) where
    keeps-more : (bytes : List ℕ) → Holds (entries_of hs ++ entry_of h ∷ []) bytes → Keeps me begun (hs ++ h ∷ []) bytes
    keeps-more bytes holds =
        record {
          holds = subst (λ (es : List (List ℕ)). Holds es bytes) (sym (entries-push hs h)) holds;
          near = near_more;
          accepted = accepted_more;
        }

    keeps-either : (bytes : List ℕ) → records.HoldsEither (entries_of hs) (entry_of h) bytes → KeepsEither me begun hs h bytes
    keeps-either bytes (inl holds) = inl (keeps bytes holds)
    keeps-either bytes (inr holds) = inr (keeps-more bytes holds)

    keeps-if : (counts : Bool) (bytes : List ℕ) → Holds (and_if counts (entries_of hs) (entry_of h)) bytes →
        Keeps me begun (and_if counts hs h) bytes
    keeps-if true bytes holds = keeps-more bytes holds
    keeps-if false bytes holds = keeps bytes holds

    -- a stop came in the write of the record, or in that of the gate
    left-keeps : (stop : Foreseen) (told : Option DiskState) →
        OnTold (λ s. Holds (after_stop stop (entries_of hs) (entry_of h)) s.contents) told →
        OnTold (λ s. Keeps me begun (after_stop stop hs h) s.contents) told
    left-keeps stop (Some s) holds = keeps-if ((stop.left == 2) && leaves_open stop) s.contents holds
    left-keeps stop None holds = tt

    pub stopped-keeps : (stop : Foreseen) (s0 s1 : StopState) (told : Option DiskState) →
        OnStopped (Holds (after_stop stop (entries_of hs) (entry_of h))) stop.stop s0 s1 told →
        OnStopped (Keeps me begun (after_stop stop hs h)) stop.stop s0 s1 told
    stopped-keeps stop s0 s1 told (inl come) = inl (record { stops = come.stops; leaves = left-keeps stop told come.leaves })
    stopped-keeps stop s0 s1 told (inr waits) = inr waits

    more-loses : (past : List Change) (s : DiskState) → records.LosesNone (entries_of hs) (entry_of h) past s →
        LosesNone me begun hs h past s
    more-loses past s l =
        record {
          follows = l.follows;
          now = keeps-either s.contents l.now;
          stopped = λ left m. keeps-either left (l.stopped left m);
        }

    pub written-loses : (t0 t1 : Option DiskState) →
        BothTold (λ old new. records.LosesNone (entries_of hs) (entry_of h) old.past new) t0 t1 →
        BothTold (λ old new. LosesNone me begun hs h old.past new) t0 t1
    written-loses (Some s0) (Some s1) l = more-loses s0.past s1 l
    written-loses (Some s0) None l = l
    written-loses None (Some s1) l = l
    written-loses None None l = l
