-- What a frame changes, taken back.
use Rattle.std.proofs.Common.{◌≡◌, List, [], ◌∷◌, Option, Some, None, Ok, Err, refl, ap, subst}
use Rattle.std.specs.Prelude.{Result}
use Rattle.basil_types.specs.Transaction.{TransactionValue}
use Rattle.frame_views.specs.declared.fault.BadFrame.{BadFrame}
use Rattle.frame_views.specs.Values.{MessageValue}
use Rattle.premise_watch.specs.declared.broken.Broken.{Broken}
use Rattle.premise_watch.specs.Breaches.{WatchValue, after_marks, first_breach, seen_text}
use Rattle.premise_watch.specs.Marks.{MarkValue, Signature, Text, marks}
use Rattle.cluster_run.specs.declared.fault.WorldFault.{WorldFault}
use Rattle.cluster_run.specs.Parts.{read_frame, saw, see_message, unless_broken}
use Rattle.cluster_run.specs.States.{Setup, State}
use Rattle.run_sight.specs.Sights.{FramesAreTakenBack, sight_of, taken_back}

pub unmarked : (w : WatchValue) (ms : List MarkValue) (ts : List TransactionValue) →
    record (after_marks w ms) { texts = ts } ≡ record w { texts = ts }
unmarked w [] ts = refl
unmarked w (Signature g ∷ ms) ts = unmarked w ms ts
unmarked w (Text t ∷ ms) ts = unmarked (seen_text w t) ms ts

abbrev state_of : State → Result State WorldFault → State
state_of st (Ok x) = x
state_of st (Err e) = st

saw_back : (s : Setup) (m : MessageValue) (st : State) → taken_back (sight_of (saw s m st)) (sight_of st) ≡ sight_of st
saw_back s m st =
    ap (λ (w : WatchValue). record (sight_of st) { watch = w }) (unmarked st.watch (marks m) st.watch.texts)

unbroken : (b : Option Broken) (st x after : State) → taken_back (sight_of x) (sight_of st) ≡ sight_of st → unless_broken b x ≡ Ok after →
    taken_back (sight_of after) (sight_of st) ≡ sight_of st
unbroken None st x after h e =
    subst (λ (y : State). taken_back (sight_of y) (sight_of st) ≡ sight_of st) (ap (state_of st) e) h
unbroken (Some b) st x after h e = absurd cc

read_back : (s : Setup) (r : Result MessageValue BadFrame) (st after : State) → see_message s r st ≡ Ok after →
    taken_back (sight_of after) (sight_of st) ≡ sight_of st
read_back s (Ok m) st after e = unbroken (first_breach s.kit.accepts st.watch (marks m)) st (saw s m st) after (saw_back s m st) e
read_back s (Err f) st after e =
    subst (λ (y : State). taken_back (sight_of y) (sight_of st) ≡ sight_of st) (ap (state_of st) e) refl

pub taken : FramesAreTakenBack
taken s frame st after e = read_back s (read_frame s frame) st after e
