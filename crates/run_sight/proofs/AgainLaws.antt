-- A frame that was seen, seen again.
use Rattle.std.proofs.Common.{◌≡◌, Bool, true, false, List, ℕ, Ok, Err, map, refl, sym, ap, subst, ◌∙◌}
use Rattle.std.specs.Prelude.{Result, option_map}
use Rattle.frame_views.specs.declared.fault.BadFrame.{BadFrame}
use Rattle.frame_views.specs.Values.{MessageValue}
use Rattle.keyring.specs.declared.verifier.Verifier as verifiers
use Rattle.premise_watch.specs.Breaches.{after_marks}
use Rattle.premise_watch.specs.Marks.{marks}
use Rattle.premise_watch.specs.Signers.{AreSigners}
use Rattle.premise_watch.specs.Texts.{entries_of}
use Rattle.premise_watch.specs.Watches.{Watches}
use Rattle.cluster_run.specs.Parts.{read_frame, saw, see_message, unless_broken}
use Rattle.cluster_run.specs.States.{Setup, State}
use Rattle.sight_laws.specs.Seen.{IsSeenFrame, SeenShowsNothing, ShowsNothing}
use Rattle.run_sight.specs.declared.sight.Sight.{Sight}
use Rattle.run_sight.specs.Keeping.{by_id}
use Rattle.run_sight.specs.Sights.{GoesTo, Sees, sight_of}
use Rattle.run_sight.proofs.BackLaws.{unmarked}
use Rattle.run_sight.proofs.KeepLaws.{named_by}
use Rattle.run_sight.proofs.SightLaws.{faulty_after, signed_after}

module _ {V : Type 0} (v : verifiers.Ghosts V) (sight : Sight V) (s : Setup) (st : State)
    (h : Sees v sight s (sight_of st) (sight_of st)) where
  -- the run goes on from what was read
  abbrev Again : Result MessageValue BadFrame → Type 0
  Again r = (after : State) × (see_message s r st ≡ Ok after) × Sees v sight s (sight_of after) (sight_of st)

  still : (shown : Bool) (m : MessageValue) → GoesTo shown sight.watch st.watch h.back st.watch.texts →
      GoesTo shown sight.watch (after_marks st.watch (marks m)) h.back st.watch.texts
  still true m e = e
  still false m e = subst (λ w. Watches sight.watch w h.back) (sym (unmarked st.watch (marks m) st.watch.texts)) e

  -- a message that shows nothing new
  message_again : (m : MessageValue) → ShowsNothing s st.watch st.certified m → Again (Ok m)
  message_again m shows = (
    saw s m st,
    ap (λ b. unless_broken b (saw s m st)) shows.unbroken,
    record {
      own = h.own;
      faulty = h.faulty;
      same = faulty_after st.watch (marks m) ∙ h.same;
      back = h.back;
      watch = record {
        now = record {
          signed = subst (AreSigners sight.watch.noted) (sym (signed_after st.watch (marks m))) h.watch.now.signed;
          texts = shows.texts (entries_of sight.watch.texts) h.watch.now.texts;
        };
        before = h.watch.before;
      };
      texts = still sight.shown m h.texts;
      kept = record {
        decided = λ named. h.kept.decided named ∙ ap (option_map named_by) (sym (shows.decided named));
        committed = h.kept.committed ∙ ap (map by_id) (sym shows.committed);
      };
      before = h.before;
    },
  )

  as_read : (frame : List ℕ) (r : Result MessageValue BadFrame) → read_frame s frame ≡ r → SeenShowsNothing →
      IsSeenFrame s st.watch st.certified frame → Again r
  as_read frame (Ok m) e law was = message_again m (law s st.watch st.certified m h.watch.now.texts.apart (was m e))
  as_read frame (Err f) e law was = (st, refl, h)

  pub sees_again : (frame : List ℕ) → SeenShowsNothing → IsSeenFrame s st.watch st.certified frame → Again (read_frame s frame)
  sees_again frame law was = as_read frame (read_frame s frame) refl law was
