-- What a disk in memory has, a write, a sync and a revival later; and that a stop may leave it.
use Rattle.std.proofs.Common.{◌≡◌, ℕ, ◌+◌, List, [], ◌∷◌, ◌++◌, Option, Some, None, length, take, drop}
use Rattle.std.specs.List.{fold}
use Rattle.std.proofs.Common.{arith, refl, sym, subst, ap, ◌∙◌, length-append}
use Rattle.std.proofs.lemmas.List.Sums.{fold-append}
use Rattle.std.proofs.lemmas.List.{drop-append-le, drop_all, take-append-drop, take-append-le, take_all}
use Rattle.journal_disk.specs.declared.memory.held.Done.{Done}
use Rattle.journal_disk.specs.declared.memory.held.Done.TheVariants.{Write, Sync}
use Rattle.journal_disk.specs.Disk.{Change, DiskState, IsSameOutside, IsTorn, MayLeave}
use Rattle.journal_disk.specs.Disk.Change.{Wrote, Kept}
use Rattle.journal_disk.specs.Contents.{begins, blank, padded, put_over}
use Rattle.journal_disk.specs.Held.{IsWithin, after, disk_of}
use Rattle.journal_disk.proofs.ContentsLaws.{same_outside}

-- ---- one more is done

pub done_more : (revived : Option ℕ) (done : List Done) (d : Done) → IsWithin revived done →
    disk_of revived (done ++ d ∷ []) ≡ after (disk_of revived done) d
done_more None done d h = fold-append after blank done (d ∷ [])
done_more (Some count) done d h =
    ap (λ ys. fold after (begins (fold after blank ys).contents) (drop count (done ++ d ∷ []))) (take-append-le count done (d ∷ []) h)
    ∙ ap (λ ys. fold after (begins (fold after blank (take count done)).contents) ys) (drop-append-le count done (d ∷ []) h)
    ∙ fold-append after (begins (fold after blank (take count done)).contents) (drop count done) (d ∷ [])

pub within_more : (revived : Option ℕ) (done : List Done) (d : Done) → IsWithin revived done → IsWithin revived (done ++ d ∷ [])
within_more None done d h = h
within_more (Some count) done d h = let more = length-append done (d ∷ []) in omega arith

-- ---- it is revived

after_same : (d : Done) (s t : DiskState) → s.contents ≡ t.contents → (after s d).contents ≡ (after t d).contents
after_same (Write at bytes) s t e = ap (λ xs. put_over at bytes (padded (at + length bytes) xs)) e
after_same Sync s t e = e

fold_same : (done : List Done) (s t : DiskState) → s.contents ≡ t.contents → (fold after s done).contents ≡ (fold after t done).contents
fold_same [] s t e = e
fold_same (d ∷ done) s t e = fold_same done (after s d) (after t d) (after_same d s t e)

all_contents : (revived : Option ℕ) (done : List Done) → (fold after blank done).contents ≡ (disk_of revived done).contents
all_contents None done = refl
all_contents (Some count) done =
    ap (λ ys. (fold after blank ys).contents) (sym (take-append-drop count done))
    ∙ ap (λ (s : DiskState). s.contents) (fold-append after blank (take count done) (drop count done))
    ∙ fold_same (drop count done) (fold after blank (take count done)) (begins (fold after blank (take count done)).contents) refl

pub begun_anew : (revived : Option ℕ) (done : List Done) → disk_of (Some (length done)) done ≡ begins (disk_of revived done).contents
begun_anew revived done =
    ap (λ ys. fold after (begins (fold after blank ys).contents) (drop (length done) done)) (take_all (length done) done (omega arith))
    ∙ ap (λ ys. fold after (begins (fold after blank done).contents) ys) (drop_all (length done) done (omega arith))
    ∙ ap begins (all_contents revived done)

-- ---- a stop may leave it

record IsSound (s : DiskState) : Type 0 where
  torn : IsTorn s.past s.contents
  left : MayLeave s.past s.contents

torn_of_nothing : (xs : List ℕ) → IsTorn [] xs
torn_of_nothing xs = record { as_long = omega arith; stays = λ place h u. absurd (omega (arith, h)) }

torn_of_kept : (xs : List ℕ) (past : List Change) → IsTorn (Kept xs ∷ past) xs
torn_of_kept xs past = record { as_long = omega arith; stays = λ place h u. refl }

torn_more : (at count : ℕ) (past : List Change) (old new : List ℕ) → IsSameOutside at count old new → IsTorn past old →
    IsTorn (Wrote at count ∷ past) new
torn_more at count past old new same torn = record {
  as_long = let longer = same.as_long in let long = torn.as_long in omega arith;
  stays = λ place h u.
      let long = torn.as_long in
      same.same place (omega (arith, h, long)) u.0 ∙ torn.stays place h u.1;
}

sound_after : (s : DiskState) (d : Done) → IsSound s → IsSound (after s d)
sound_after s (Write at bytes) sound =
    let torn = torn_more at (length bytes) s.past s.contents _ (same_outside at bytes s.contents) sound.torn in
    record { torn = torn; left = torn }
sound_after s Sync sound = record { torn = torn_of_kept s.contents s.past; left = refl }

sound_all : (done : List Done) (s : DiskState) → IsSound s → IsSound (fold after s done)
sound_all [] s sound = sound
sound_all (d ∷ done) s sound = sound_all done (after s d) (sound_after s d sound)

sound_of : (revived : Option ℕ) (done : List Done) → IsSound (disk_of revived done)
sound_of None done = sound_all done blank (record { torn = torn_of_nothing []; left = tt })
sound_of (Some count) done =
    let contents = (fold after blank (take count done)).contents in
    sound_all (drop count done) (begins contents) (record { torn = torn_of_kept contents []; left = refl })

-- where the disk is this
pub may_be_left : (revived : Option ℕ) (done : List Done) (s : DiskState) → disk_of revived done ≡ s → MayLeave s.past s.contents
may_be_left revived done s e = subst (λ (t : DiskState). MayLeave t.past t.contents) e (sound_of revived done).left
