-- Of what a sight is one, as it sees frames and goes back.
use Rattle.std.proofs.Common.{◌≡◌, ℕ, zero, suc, Bool, true, false, cond, List, [], ◌∷◌, length}
use Rattle.std.proofs.Common.{map, take, Option, None, Ok, Err, refl, sym, ap, subst, ◌∙◌}
use Rattle.std.specs.Prelude.{Result, IfOk, IfErr, OnOk, OnErr, ◌&&◌}
use Rattle.std.specs.Map.{lookup}
use Rattle.std.specs.Str.{bytes_eq}
use Rattle.std.proofs.Math.Seq.{take-length}
use Rattle.std.proofs.lemmas.Bool.{lt-ltb}
use Rattle.sight_laws.specs.Seen.{committed_in}
use Rattle.basil_types.specs.Replayed.{by_version}
use Rattle.basil_types.specs.Texts.{IsBytes}
use Rattle.basil_types.specs.Transaction.{TransactionValue}
use Rattle.frame_views.specs.declared.fault.BadFrame.{BadFrame}
use Rattle.frame_views.specs.declared.fault.BadFrame.TheVariants.{Kind}
use Rattle.frame_views.specs.Carried.{pairs_in}
use Rattle.frame_views.specs.Fitting.{bounds_of}
use Rattle.frame_views.specs.Frames.{frame_in}
use Rattle.frame_views.specs.Values.{MessageValue, PairValue}
use Rattle.keyring.specs.declared.verifier.Verifier as verifiers
use Rattle.premise_watch.specs.declared.broken.Broken.{Broken}
use Rattle.premise_watch.specs.declared.broken.WatchFault.{WatchFault}
use Rattle.premise_watch.specs.declared.broken.WatchFault.TheVariants as watches
use Rattle.premise_watch.specs.declared.watch.Watch.{Watch}
use Rattle.premise_watch.specs.Breaches.{WatchValue, after_marks, first_breach, seen_text}
use Rattle.premise_watch.specs.Marks.{MarkValue, Signature, Text, marks}
use Rattle.premise_watch.specs.Telling.{Tells}
use Rattle.premise_watch.specs.Watches as watching
use Rattle.premise_watch.specs.Watches.{IsFirstBreach, IsSound, KeepsWatching, Watches}
use Rattle.cluster_run.specs.declared.fault.WorldFault.{WorldFault}
use Rattle.cluster_run.specs.Parts.{are_bytes, read_frame, saw, see_message, unless_broken}
use Rattle.cluster_run.specs.States.{Setup, State, start}
use Rattle.cluster_run.specs.Telling.{committed_by_version}
use Rattle.run_sight.specs.declared.certified.Certified.{Certified}
use Rattle.run_sight.specs.declared.certified.Lengths.{Lengths}
use Rattle.run_sight.specs.declared.sight.Sight.{Sight}
use Rattle.run_sight.specs.Keeping.{AddsProven, AreKept, AreOf, Commits, Decisions, Keeps, KeepsFirst}
use Rattle.run_sight.specs.Keeping.{SameKept, by_id, commits_of, decisions_of}
use Rattle.run_sight.specs.Sights.{BreaksBy, BreaksByFrame, BreaksByMessage, Ends, Follows, GoesBack, GoesTo}
use Rattle.run_sight.specs.Sights.{KeepsSight, Sees, SeesFrame, SeesMessage, SeesNothing, SightValue, sight_of}

-- ---- lists

take_none : {X : Type 0} (n : ℕ) (xs : List X) → xs ≡ [] → take n xs ≡ []
take_none zero xs e = refl
take_none (suc n) [] e = refl
take_none (suc n) (x ∷ xs) e = absurd cc

take_again : {X : Type 0} (n : ℕ) (xs : List X) → take n (take n xs) ≡ take n xs
take_again zero xs = refl
take_again (suc n) [] = refl
take_again (suc n) (x ∷ xs) = ap (λ ys. x ∷ ys) (take_again n xs)

values_by_id : (ts : List TransactionValue) → map (λ (e : List ℕ × TransactionValue). e.1) (map by_id ts) ≡ ts
values_by_id [] = refl
values_by_id (t ∷ ts) = ap (λ us. t ∷ us) (values_by_id ts)

bytes_from : (xs : List ℕ) → IsBytes xs → are_bytes xs ≡ true
bytes_from [] h = refl
bytes_from (x ∷ xs) h = ap (λ b. b && are_bytes xs) (lt-ltb x 256 (h 0)) ∙ bytes_from xs (λ i. h (suc i))

-- ---- what is kept

pub kept_nothing : (ds : Decisions) (cs : Commits) → ds ≡ [] → cs ≡ [] → AreKept ds cs []
kept_nothing ds cs d c = record { decided = λ named. ap (lookup (bytes_eq named)) d; committed = c }

pub first_of_none : (kept : Certified) (n : Lengths) → decisions_of kept ≡ [] → commits_of kept ≡ [] → KeepsFirst kept n []
first_of_none kept n d c =
    kept_nothing (take n.decisions (decisions_of kept)) (take n.commits (commits_of kept))
    (take_none n.decisions (decisions_of kept) d) (take_none n.commits (commits_of kept) c)

kept_as : (ds es : Decisions) (cs bs : Commits) (pairs : List PairValue) → es ≡ ds → bs ≡ cs → AreKept ds cs pairs → AreKept es bs pairs
kept_as ds es cs bs pairs d c h =
    subst (λ es. AreKept es bs pairs) (sym d) (subst (λ bs. AreKept ds bs pairs) (sym c) h)

pub still_keeps : (old new : Certified) (pairs : List PairValue) → SameKept old new → Keeps old pairs → Keeps new pairs
still_keeps old new pairs same h =
    kept_as (decisions_of old) (decisions_of new) (commits_of old) (commits_of new) pairs same.decisions same.commits h

pub still_keeps_first : (old new : Certified) (n : Lengths) (pairs : List PairValue) → SameKept old new → KeepsFirst old n pairs →
    KeepsFirst new n pairs
still_keeps_first old new n pairs same h =
    kept_as (take n.decisions (decisions_of old)) (take n.decisions (decisions_of new)) (take n.commits (commits_of old))
    (take n.commits (commits_of new)) pairs (ap (take n.decisions) same.decisions) (ap (take n.commits) same.commits) h

-- ---- what the watch keeps

pub faulty_after : (w : WatchValue) (ms : List MarkValue) → (after_marks w ms).faulty ≡ w.faulty
faulty_after w [] = refl
faulty_after w (Signature g ∷ ms) = faulty_after w ms
faulty_after w (Text t ∷ ms) = faulty_after (seen_text w t) ms

pub signed_after : (w : WatchValue) (ms : List MarkValue) → (after_marks w ms).signed ≡ w.signed
signed_after w [] = refl
signed_after w (Signature g ∷ ms) = signed_after w ms
signed_after w (Text t ∷ ms) = signed_after (seen_text w t) ms

-- ---- results

pub if_ok : {A E : Type 0} (P Q : A → Type 0) (r : Result A E) → ((a : A) → P a → Q a) → IfOk r P → IfOk r Q
if_ok P Q (Ok a) f h = f a h
if_ok P Q (Err e) f h = h

pub on_ok : {A E : Type 0} (P Q : Type 0) (r : Result A E) → (P → Q) → OnOk r P → OnOk r Q
on_ok P Q (Ok a) f h = f h
on_ok P Q (Err e) f h = h

pub if_err : {A E : Type 0} (P Q : E → Type 0) (r : Result A E) → ((e : E) → P e → Q e) → IfErr r P → IfErr r Q
if_err P Q (Ok a) f h = h
if_err P Q (Err e) f h = f e h

pub on_err : {A E : Type 0} (P : Type 0) (r : Result A E) → P → OnErr r P
on_err P (Ok a) h = tt
on_err P (Err e) h = h

module _ {V : Type 0} (v : verifiers.Ghosts V) where
  -- ---- the beginning

  pub begins : (sight : Sight V) (s : Setup) → AreOf (v.accepted sight.keys) sight.cluster s → sight.faulty ≡ s.faulty →
      sight.shown ≡ false → Watches sight.watch (record { faulty = s.faulty; signed = []; texts = [] }) [] →
      decisions_of sight.certified ≡ [] → commits_of sight.certified ≡ [] → Sees v sight s (sight_of (start s)) (sight_of (start s))
  begins sight s own faulty shown watch d c = record {
    own = own;
    faulty = faulty;
    same = refl;
    back = [];
    watch = watch;
    texts = subst (λ b. GoesTo b sight.watch (record { faulty = s.faulty; signed = []; texts = [] }) [] []) (sym shown) watch;
    kept = kept_nothing (decisions_of sight.certified) (commits_of sight.certified) d c;
    before = first_of_none sight.certified sight.before d c;
  }

  -- ---- a message

  module _ (old : Sight V) (m : MessageValue) where
    -- no breach, the watch has seen it, and its proven pairs are kept
    pub sees_message : (watch : Watch) (certified : Certified) (before : Lengths) →
        AddsProven (v.accepted old.keys) old.cluster (pairs_in m) old.certified certified →
        take before.decisions (decisions_of certified) ≡ decisions_of old.certified →
        take before.commits (commits_of certified) ≡ commits_of old.certified →
        IsSound (v.accepted old.keys) old.faulty old.watch (marks m) → watching.Sees old.watch watch old.faulty (marks m) →
        SeesMessage v old (record old { watch = watch; certified = certified; shown = true; before = before }) m
    sees_message watch certified before adds d c sound seen s st earlier h =
        let held : st.watch.faulty ≡ old.faulty = h.same ∙ sym h.faulty in
        let fine : first_breach s.kit.accepts st.watch (marks m) ≡ None =
        subst (λ A. first_breach A st.watch (marks m) ≡ None) h.own.accepts (sound st.watch h.back held h.watch) in (
          saw s m st,
          ap (λ b. unless_broken b (saw s m st)) fine,
          record {
            own = h.own;
            faulty = h.faulty;
            same = faulty_after st.watch (marks m) ∙ h.same;
            back = st.watch.texts;
            watch = seen st.watch h.back held h.watch;
            texts = refl;
            kept = adds s st.certified h.own h.kept;
            before = kept_as (decisions_of old.certified) (take before.decisions (decisions_of certified)) (commits_of old.certified)
                (take before.commits (commits_of certified)) st.certified d c h.kept;
          },
        )

    told : (b : Option Broken) (st : State) (f : WatchFault) → Tells b f → Ends (unless_broken b st) f
    told b st (watches.Broken x) e = ap (λ b. unless_broken b st) e
    told b st watches.NoMemory e = e

    pub breaks_message : (f : WatchFault) → IsFirstBreach (v.accepted old.keys) old.faulty old.watch (marks m) f → BreaksByMessage v old m f
    breaks_message f broken s st earlier h =
        told (first_breach s.kit.accepts st.watch (marks m)) (saw s m st) f
        (subst (λ A. Tells (first_breach A st.watch (marks m)) f) h.own.accepts
        (broken st.watch h.back (h.same ∙ sym h.faulty) h.watch))

  module _ (old : Sight V) where
    -- want of memory is no breach
    pub breaks_nothing : (seen : Setup → State → Result State WorldFault) → BreaksBy v old seen watches.NoMemory
    breaks_nothing seen s st earlier h = tt

    goes_as : (shown : Bool) (watch : Watch) (now : WatchValue) (back texts : List TransactionValue) → KeepsWatching old.watch watch →
        GoesTo shown old.watch now back texts → GoesTo shown watch now back texts
    goes_as true watch now back texts same h = h
    goes_as false watch now back texts same h = same (record now { texts = texts }) back h

    -- as before
    pub keeps : (watch : Watch) (certified : Certified) → KeepsWatching old.watch watch → SameKept old.certified certified →
        KeepsSight v old (record old { watch = watch; certified = certified })
    keeps watch certified same kept s now earlier h = record {
      own = h.own;
      faulty = h.faulty;
      same = h.same;
      back = h.back;
      watch = same now.watch h.back h.watch;
      texts = goes_as old.shown watch now.watch h.back earlier.watch.texts same h.texts;
      kept = still_keeps old.certified certified now.certified kept h.kept;
      before = still_keeps_first old.certified certified old.before earlier.certified kept h.before;
    }

    -- nothing is seen
    pub sees_nothing : (before : Lengths) → before.decisions ≡ length (decisions_of old.certified) →
        before.commits ≡ length (commits_of old.certified) → SeesNothing v old (record old { shown = false; before = before })
    sees_nothing before d c s now earlier h = record {
      own = h.own;
      faulty = h.faulty;
      same = h.same;
      back = h.back;
      watch = h.watch;
      texts = h.watch;
      kept = h.kept;
      before =
          let ds = decisions_of old.certified in
          let cs = commits_of old.certified in
          kept_as ds (take before.decisions ds) cs (take before.commits cs) now.certified
          (ap (λ n. take n ds) d ∙ take-length ds) (ap (λ n. take n cs) c ∙ take-length cs) h.kept;
    }

    -- ---- a frame

    reads : (s : Setup) (frame : List ℕ) (r : Result MessageValue BadFrame) → AreOf (v.accepted old.keys) old.cluster s → IsBytes frame →
        frame_in (bounds_of old.cluster) frame ≡ r → read_frame s frame ≡ r
    reads s frame r own bytes e =
        ap (λ b. cond b (frame_in (bounds_of s.cluster) frame) (Err Kind)) (bytes_from frame bytes)
        ∙ ap (λ c. frame_in (bounds_of c) frame) (sym own.cluster) ∙ e

    -- as the frame reads
    pub sees_frame : (new : Sight V) (frame : List ℕ) (r : Result MessageValue BadFrame) → IsBytes frame →
        frame_in (bounds_of old.cluster) frame ≡ r → Follows v old new (λ s. see_message s r) → SeesFrame v old new frame
    sees_frame new frame r bytes e follows s st earlier h =
        subst (λ r. (after : State) × (see_message s r st ≡ Ok after) × Sees v new s (sight_of after) (sight_of st))
        (sym (reads s frame r h.own bytes e)) (follows s st earlier h)

    pub breaks_frame : (frame : List ℕ) (r : Result MessageValue BadFrame) (f : WatchFault) → IsBytes frame →
        frame_in (bounds_of old.cluster) frame ≡ r → BreaksBy v old (λ s. see_message s r) f → BreaksByFrame v old frame f
    breaks_frame frame r f bytes e broken s st earlier h =
        subst (λ r. Ends (see_message s r st) f) (sym (reads s frame r h.own bytes e)) (broken s st earlier h)

    -- no frame shows nothing
    pub passes_over : (new : Sight V) (e : BadFrame) →
        SeesNothing v old new → Follows v old new (λ s. see_message s (Err e))
    passes_over new e h s st earlier k = (st, refl, h s (sight_of st) earlier k)

    -- ---- going back

    backed : (shown : Bool) (watch : Watch) (now : WatchValue) (back texts : List TransactionValue) →
        GoesTo shown old.watch now back texts → (shown ≡ true → watching.GoesBack old.watch watch) → (shown ≡ false → watch ≡ old.watch) →
        Watches old.watch now back → Watches watch (record now { texts = texts }) back
    backed true watch now back texts goes back_by same h =
        subst (λ ts. Watches watch (record now { texts = ts }) back) (sym goes) (back_by refl now back h)
    backed false watch now back texts goes back_by same h =
        subst (λ w. Watches w (record now { texts = texts }) back) (sym (same refl)) goes

    again : (shown : Bool) (watch : Watch) (now : WatchValue) (back texts : List TransactionValue) → GoesTo shown old.watch now back texts →
        Watches watch (record now { texts = texts }) back → GoesTo shown watch (record now { texts = texts }) back texts
    again true watch now back texts goes h = goes
    again false watch now back texts goes h = h

    pub goes_back : (watch : Watch) (certified : Certified) →
        (old.shown ≡ true → watching.GoesBack old.watch watch) → (old.shown ≡ false → watch ≡ old.watch) →
        decisions_of certified ≡ take old.before.decisions (decisions_of old.certified) →
        commits_of certified ≡ take old.before.commits (commits_of old.certified) →
        GoesBack v old (record old { watch = watch; certified = certified })
    goes_back watch certified back_by same d c s now earlier h =
        let back = backed old.shown watch now.watch h.back earlier.watch.texts h.texts back_by same h.watch in
        record {
          own = h.own;
          faulty = h.faulty;
          same = h.same;
          back = h.back;
          watch = back;
          texts = again old.shown watch now.watch h.back earlier.watch.texts h.texts back;
          kept = kept_as _ (decisions_of certified) _ (commits_of certified) earlier.certified d c h.before;
          before = kept_as _ (take old.before.decisions (decisions_of certified)) _ (take old.before.commits (commits_of certified))
              earlier.certified
              (ap (take old.before.decisions) d ∙ take_again old.before.decisions (decisions_of old.certified))
              (ap (take old.before.commits) c ∙ take_again old.before.commits (commits_of old.certified)) h.before;
        }

    -- ---- what is told

    pub tells_committed : (s : Setup) (st : State) (earlier : SightValue) → Sees v old s (sight_of st) earlier →
        by_version (map (λ (e : List ℕ × TransactionValue). e.1) (commits_of old.certified)) ≡ committed_by_version st
    tells_committed s st earlier h =
        ap (λ (es : Commits). by_version (map (λ (e : List ℕ × TransactionValue). e.1) es)) h.kept.committed
        ∙ ap by_version (values_by_id (committed_in st.certified))
