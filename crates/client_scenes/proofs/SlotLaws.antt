-- No call and no frame takes a slot away.
use Rattle.std.proofs.Common.{◌≡◌, ◌∙◌, ℕ, zero, suc, ◌+◌, ◌≤◌, ◌<◌, Bool, true, false}
use Rattle.std.proofs.Common.{cond, List, [], ◌∷◌, ◌++◌, length, refl, sym, ap, subst, arith}
use Rattle.std.specs.Prelude.{◌||◌, Option, Some, None, Result, Ok, Err, OnErr, option_and_then, option_map}
use Rattle.std.specs.Prelude.{slice_get, slice_set, position, is_some, if◌then◌else◌, ◌==◌, not, nat_lt, nat_le, ◌&&◌}
use Rattle.std.proofs.lemmas.Bool.{leb-true, ltb-true}
use Rattle.std.proofs.lemmas.Option.{same_Some}
use Rattle.std.specs.Option.{option_map_or}
use Rattle.basil_types.specs.declared.transaction.parts.WritePart.{WritePart}
use Rattle.basil_types.specs.Transaction.{TransactionValue, id}
use Rattle.basil_types.proofs.Walks.{position-cons}
use Rattle.certificates.specs.declared.fault.FrameFault.{FrameFault}
use Rattle.certificates.specs.declared.fault.FrameFault.TheVariants.{NotMine}
use Rattle.client_reads.specs.Replies.{reply_fault}
use Rattle.client_recover.specs.Faults.{vote_fault, log_fault, writeback_fault}
use Rattle.client_core.specs.declared.ask.Ask.{Ask}
use Rattle.client_core.specs.declared.ask.Ask.TheVariants as asks
use Rattle.client_steps.specs.declared.fault.CallFault.{CallFault}
use Rattle.client_steps.specs.declared.fault.CallFault.TheVariants.{NotOpen, BadTransaction, TimeNotAbove}
use Rattle.client_core.specs.declared.held.Held.{Held}
use Rattle.client_core.specs.Answers.{on_frame, on_message, on_read_frame}
use Rattle.client_core.specs.Asks.{CanBeAsked, answer_to, by_call, by_frame, slot_of}
use Rattle.client_core.specs.Calls as calls
use Rattle.client_core.specs.Clients.{AskedRead, ClientDone, ClientSelf, ClientValue, SlotValue, quiet}
use Rattle.client_core.specs.Done.{Calls, Shows}
use Rattle.client_core.specs.Frames as frames
use Rattle.client_core.specs.Receiving.{AnswersFrame}
use Rattle.client_core.specs.Slots.{asked, slot_of_id, slot_of_time, is_named, is_chosen, with_slot}
use Rattle.client_recover.specs.Pursuits.{settle, outcome, take_frame}
use Rattle.client_recover.specs.Taken.{PursuitValue, TakenValue, TakenVote, TakenLog, TakenCertificate}
use Rattle.frame_views.specs.declared.fault.BadFrame.{BadFrame}
use Rattle.frame_views.specs.Fitting.{bounds_of, IsSignature}
use Rattle.frame_views.specs.Frames.{frame_in}
use Rattle.frame_views.specs.Values.{MessageValue, Read, ReadReply, St1, Vote, St2, LogReply}
use Rattle.frame_views.specs.Values.{Writeback, Recover, Invoke, Elect, Decide, ReadReplyValue}
use Rattle.node_steps.specs.Pens.{PenValue}
use Rattle.node_steps.specs.Refusing.{unless, when}
use Rattle.txn_meta.specs.Form.{form_fault}
use Rattle.std.proofs.Math.Logic.{∥∥₁_elim}
use Rattle.std.proofs.Math.Bridge.{le_prop}
use Rattle.client_core.specs.declared.held.Slot.{Slot}
use Rattle.client_core.specs.Showing.{ShowsSlots}
use Rattle.client_scenes.specs.Guests.{HoldsSlots, can_ask}

-- ---- lists

set_count : {A : Type 0} (xs : List A) (i : ℕ) (x : A) → length (slice_set xs i x) ≡ length xs
set_count [] i x = refl
set_count (y ∷ ys) zero x = refl
set_count (y ∷ ys) (suc i) x = ap suc (set_count ys i x)

push_count : {A : Type 0} (xs : List A) (x : A) → length (xs ++ x ∷ []) ≡ suc (length xs)
push_count [] x = refl
push_count (y ∷ ys) x = ap suc (push_count ys x)

least : (m n : ℕ) → n ≡ suc m → m < n
least m n e = omega arith

same_count : (m n : ℕ) → n ≡ m → m ≤ n
same_count m n e = omega arith

more_count : (m n : ℕ) → n ≡ suc m → m ≤ n
more_count m n e = omega arith

place_within : {A : Type 0} (xs : List A) (b : Bool) (o : Option ℕ) (place : ℕ) → ((k : ℕ) → o ≡ Some k → k < length xs)
    → cond b (Some 0) (option_map (λ k. k + 1) o) ≡ Some place → place < suc (length xs)
place_within xs true o place each e = subst (λ (n : ℕ). n < suc (length xs)) (same_Some 0 place e) (omega arith)
place_within xs false None place each e = absurd cc
place_within xs false (Some k) place each e =
    let h = each k refl in
    subst (λ (n : ℕ). n < suc (length xs)) (same_Some (k + 1) place e) (omega arith)

position_within : {A : Type 0} (test : A → Bool) (xs : List A) (place : ℕ) → position test xs ≡ Some place → place < length xs
position_within test [] place e = absurd cc
position_within test (x ∷ xs) place e =
    place_within xs (test x) (position test xs) place (position_within test xs) (sym (position-cons test x xs) ∙ e)

-- ---- clients

abbrev pub Keeps : ClientValue → ClientValue → Type 0
Keeps v w = length v.slots ≤ length w.slots

kept : (v : ClientValue) → Keeps v v
kept v = same_count (length v.slots) (length v.slots) refl

set_keeps : (v : ClientValue) (i : ℕ) (s : SlotValue) → Keeps v (with_slot v i s)
set_keeps v i s = same_count (length v.slots) (length (slice_set v.slots i s)) (set_count v.slots i s)

push_keeps : (v : ClientValue) (s : SlotValue) → length v.slots ≤ length (v.slots ++ s ∷ [])
push_keeps v s = more_count (length v.slots) (length (v.slots ++ s ∷ [])) (push_count v.slots s)

-- ---- results

abbrev done_or : {E : Type 0} → ClientDone → Result ClientDone E → ClientDone
done_or d (Ok x) = x
done_or d (Err e) = d

-- the answer is that this is done
abbrev Does : (E : Type 0) → ClientDone → Result ClientDone E → Type 0
Does E d answer = answer ≡ Ok d

ok_keeps : {E : Type 0} (v : ClientValue) (x d : ClientDone) → Keeps v x.client → Does E d (Ok x) → Keeps v d.client
ok_keeps v x d k e = subst (λ (y : ClientDone). Keeps v y.client) (ap (done_or d) e) k

unless_keeps : {E : Type 0} (v : ClientValue) (f : Option E) (x d : ClientDone) → Keeps v x.client → unless f x ≡ Ok d
    → Keeps v d.client
unless_keeps v None x d k e = ok_keeps v x d k e
unless_keeps v (Some f) x d k e = absurd cc

slot_keeps : (v : ClientValue) (answer : SlotValue → Result ClientDone CallFault)
    → ((s : SlotValue) (d : ClientDone) → answer s ≡ Ok d → Keeps v d.client)
    → (o : Option SlotValue) (d : ClientDone) → calls.by_slot v answer o ≡ Ok d → Keeps v d.client
slot_keeps v answer each None d e = ok_keeps v (quiet v) d (kept v) e
slot_keeps v answer each (Some s) d e = each s d e

-- ---- calls

pub begin_keeps : (v : ClientValue) (time : ℕ) (d : ClientDone) → calls.call_begin v time ≡ Ok d
    → suc (length v.slots) ≤ length d.client.slots
begin_keeps v time d e = by (when (not (nat_lt v.last time)) (TimeNotAbove v.last)) e
  where
    by : (f : Option CallFault) → unless f (calls.begin_done v time) ≡ Ok d → suc (length v.slots) ≤ length d.client.slots
    by None e =
        subst (λ (y : ClientDone). suc (length v.slots) ≤ length y.client.slots) (ap (done_or d) e)
        (same_count (suc (length v.slots)) (length (v.slots ++ calls.begun_slot time ∷ []))
        (push_count v.slots (calls.begun_slot time)))
    by (Some f) e = absurd cc

read_by : (v : ClientValue) (x d : ClientDone) (formed known : Bool) (f : Option CallFault) → Keeps v x.client
    → (if formed then Err NotOpen else if known then Ok (quiet v) else unless f x) ≡ Ok d → Keeps v d.client
read_by v x d true known f k e = absurd cc
read_by v x d false true f k e = ok_keeps v (quiet v) d (kept v) e
read_by v x d false false f k e = unless_keeps v f x d k e

pub read_keeps : (me : ClientSelf) (v : ClientValue) (place : ℕ) (key : List ℕ) (d : ClientDone)
    → calls.call_read me v place key ≡ Ok d → Keeps v d.client
read_keeps me v place key d e = slot_keeps v (calls.read_at me v place key) each (slice_get v.slots place) d e
  where
    each : (s : SlotValue) (d : ClientDone) → calls.read_at me v place key s ≡ Ok d → Keeps v d.client
    each s d e =
        read_by v (calls.read_done me v place s key) d (is_some s.pursuit)
        (calls.is_written key s || is_some (asked key s)) (calls.read_fault s key) (set_keeps v place _) e

pub write_keeps : (v : ClientValue) (place : ℕ) (w : WritePart) (d : ClientDone)
    → calls.call_write v place w ≡ Ok d → Keeps v d.client
write_keeps v place w d e =
    slot_keeps v (λ s. unless (calls.write_fault s w) (calls.write_done v place w s)) each (slice_get v.slots place) d e
  where
    each : (s : SlotValue) (d : ClientDone) → unless (calls.write_fault s w) (calls.write_done v place w s) ≡ Ok d → Keeps v d.client
    each s d e = unless_keeps v (calls.write_fault s w) (calls.write_done v place w s) d (set_keeps v place _) e

pub prepare_keeps : (me : ClientSelf) (v : ClientValue) (place : ℕ) (d : ClientDone)
    → calls.call_prepare me v place ≡ Ok d → Keeps v d.client
prepare_keeps me v place d e =
    slot_keeps v (λ s. unless (calls.prepare_fault me v s) (calls.prepare_done me v place s)) each (slice_get v.slots place) d e
  where
    each : (s : SlotValue) (d : ClientDone) → unless (calls.prepare_fault me v s) (calls.prepare_done me v place s) ≡ Ok d
        → Keeps v d.client
    each s d e = unless_keeps v (calls.prepare_fault me v s) (calls.prepare_done me v place s) d (set_keeps v place _) e

pub settle_keeps : (me : ClientSelf) (v : ClientValue) (place : ℕ) (d : ClientDone)
    → calls.call_settle me v place ≡ Ok d → Keeps v d.client
settle_keeps me v place d e = slot_keeps v (λ s. calls.settle_by me v place s s.pursuit) each (slice_get v.slots place) d e
  where
    by : (s : SlotValue) (p : Option PursuitValue) (d : ClientDone) → calls.settle_by me v place s p ≡ Ok d → Keeps v d.client
    by s None d e = absurd cc
    by s (Some p) d e = ok_keeps v (calls.pursuit_done v place s (settle me.cluster p)) d (set_keeps v place _) e

    each : (s : SlotValue) (d : ClientDone) → calls.settle_by me v place s s.pursuit ≡ Ok d → Keeps v d.client
    each s d e = by s s.pursuit d e

pub invoke_keeps : (me : ClientSelf) (v : ClientValue) (place : ℕ) (d : ClientDone)
    → calls.call_invoke me v place ≡ Ok d → Keeps v d.client
invoke_keeps me v place d e = slot_keeps v (λ s. calls.invoke_by me v s.pursuit) each (slice_get v.slots place) d e
  where
    unless_over : (p : PursuitValue) (over : Bool) (f : Option CallFault) (d : ClientDone)
        → (if over then Ok (quiet v) else unless f (calls.invoke_done me v p)) ≡ Ok d → Keeps v d.client
    unless_over p true f d e = ok_keeps v (quiet v) d (kept v) e
    unless_over p false f d e = unless_keeps v f (calls.invoke_done me v p) d (kept v) e

    by : (p : Option PursuitValue) (d : ClientDone) → calls.invoke_by me v p ≡ Ok d → Keeps v d.client
    by None d e = absurd cc
    by (Some p) d e = unless_over p (is_some (outcome me.cluster p)) (calls.invoke_fault me p) d e

    each : (s : SlotValue) (d : ClientDone) → calls.invoke_by me v s.pursuit ≡ Ok d → Keeps v d.client
    each s d e = by s.pursuit d e

-- the slot that a recovery answers is held then
pub recover_holds : (me : ClientSelf) (v : ClientValue) (t : TransactionValue) (signature : List ℕ) (d : ClientDone)
    → calls.call_recover me v t signature ≡ Ok d
    → Keeps v d.client × (calls.recovered_at v t < length d.client.slots)
recover_holds me v t signature d e =
    by (option_map BadTransaction (form_fault t)) (slot_of_id v (id t)) refl e
  where
    IsHeld : ℕ → ClientDone → Type 0
    IsHeld slot d = Keeps v d.client × (slot < length d.client.slots)

    same : (p : Option PursuitValue) → (calls.recover_held me v p).client ≡ v
    same None = refl
    same (Some p) = refl

    done : (o : Option ℕ) → slot_of_id v (id t) ≡ o
        → IsHeld (option_map_or (λ (place : ℕ). place) o (length v.slots)) (calls.recover_by me v t signature o)
    done None at =
        (push_keeps v (calls.recovered_slot t signature), least (length v.slots) _ (push_count v.slots (calls.recovered_slot t signature)))
    done (Some place) at =
        let p = option_and_then (λ (s : SlotValue). s.pursuit) (slice_get v.slots place) in
        subst (λ (w : ClientValue). Keeps v w × (place < length w.slots)) (sym (same p))
        (kept v, position_within (is_named (id t)) v.slots place at)

    by : (f : Option CallFault) (o : Option ℕ) → slot_of_id v (id t) ≡ o
        → unless f (calls.recover_by me v t signature (slot_of_id v (id t))) ≡ Ok d
        → IsHeld (calls.recovered_at v t) d
    by (Some f) o at e = absurd cc
    by None o at e =
        subst (IsHeld (calls.recovered_at v t)) (ap (done_or d) e) (done (slot_of_id v (id t)) refl)

-- ---- frames

taken_keeps : (me : ClientSelf) (v : ClientValue) (fault : TransactionValue → Option FrameFault) (x : TakenValue)
    (o : Option frames.HeldValue) (d : ClientDone) → frames.taken_by me v fault x o ≡ Ok d → Keeps v d.client
taken_keeps me v fault x None d e = absurd cc
taken_keeps me v fault x (Some h) d e =
    unless_keeps v (fault h.pursuit.transaction)
    (calls.pursuit_done v h.place h.slot (take_frame me.cluster h.pursuit x)) d (set_keeps v h.place _) e

reply_by_keeps : (me : ClientSelf) (v : ClientValue) (place : ℕ) (s : SlotValue) (m : ReadReplyValue) (o : Option AskedRead)
    (d : ClientDone) → frames.reply_by me v place s m o ≡ Ok d → Keeps v d.client
reply_by_keeps me v place s m None d e = absurd cc
reply_by_keeps me v place s m (Some r) d e =
    by (is_chosen me.cluster r) (reply_fault me.accepts me.cluster (frames.read_asked me s r) m) e
  where
    by : (chosen : Bool) (f : Option FrameFault)
        → (if chosen then Err NotMine else unless f (frames.reply_taken v place s m r)) ≡ Ok d → Keeps v d.client
    by true f e = absurd cc
    by false f e = unless_keeps v f (frames.reply_taken v place s m r) d (set_keeps v place _) e

reply_at_keeps : (me : ClientSelf) (v : ClientValue) (m : ReadReplyValue) (place : ℕ) (o : Option SlotValue) (d : ClientDone)
    → frames.reply_at me v m place o ≡ Ok d → Keeps v d.client
reply_at_keeps me v m place None d e = absurd cc
reply_at_keeps me v m place (Some s) d e = reply_by_keeps me v place s m (asked m.key s) d e

reply_time_keeps : (me : ClientSelf) (v : ClientValue) (m : ReadReplyValue) (o : Option ℕ) (d : ClientDone)
    → frames.reply_to_time me v m o ≡ Ok d → Keeps v d.client
reply_time_keeps me v m None d e = absurd cc
reply_time_keeps me v m (Some place) d e = reply_at_keeps me v m place (slice_get v.slots place) d e

reply_keeps : (me : ClientSelf) (v : ClientValue) (m : ReadReplyValue) (d : ClientDone)
    → frames.on_read_reply me v m ≡ Ok d → Keeps v d.client
reply_keeps me v m d e = by (m.client == me.number) e
  where
    by : (own : Bool) → (if own then frames.reply_to_time me v m (slot_of_time v m.time) else Err NotMine) ≡ Ok d
        → Keeps v d.client
    by true e = reply_time_keeps me v m (slot_of_time v m.time) d e
    by false e = absurd cc

message_keeps : (me : ClientSelf) (v : ClientValue) (m : MessageValue) (d : ClientDone)
    → on_message me v m ≡ Ok d → Keeps v d.client
message_keeps me v (Read m) d e = absurd cc
message_keeps me v (ReadReply m) d e = reply_keeps me v m d e
message_keeps me v (St1 m) d e = absurd cc
message_keeps me v (Vote m) d e =
    taken_keeps me v (λ t. vote_fault me.accepts me.cluster t m) (TakenVote m) (frames.held_with v m.id) d e
message_keeps me v (St2 m) d e = absurd cc
message_keeps me v (LogReply m) d e =
    taken_keeps me v (λ t. log_fault me.accepts me.cluster t m) (TakenLog m) (frames.held_with v m.id) d e
message_keeps me v (Writeback m) d e =
    taken_keeps me v (λ t. writeback_fault me.accepts me.cluster t m) (TakenCertificate m.certificate)
    (frames.held_with v (id m.transaction)) d e
message_keeps me v (Recover m) d e = absurd cc
message_keeps me v (Invoke m) d e = absurd cc
message_keeps me v (Elect m) d e = absurd cc
message_keeps me v (Decide m) d e = absurd cc

pub frame_keeps : (me : ClientSelf) (v : ClientValue) (frame : List ℕ) (d : ClientDone)
    → on_frame me v frame ≡ Ok d → Keeps v d.client
frame_keeps me v frame d e = by (frame_in (bounds_of me.cluster) frame) e
  where
    by : (r : Result MessageValue BadFrame) → on_read_frame me v r ≡ Ok d → Keeps v d.client
    by (Ok m) e = message_keeps me v m d e
    by (Err fault) e = absurd cc

pub ask_keeps : (me : ClientSelf) (v : ClientValue) (ask : Ask) (d : ClientDone) → answer_to me v ask ≡ Ok d → Keeps v d.client
ask_keeps me v ask d e = by ask e
  where
    by_calls : (r : Result ClientDone CallFault) → ((x : ClientDone) → r ≡ Ok x → Keeps v x.client) → by_call r ≡ Ok d → Keeps v d.client
    by_calls (Ok x) each e = ok_keeps v x d (each x refl) e
    by_calls (Err fault) each e = absurd cc

    by_frames : (r : Result ClientDone FrameFault) → ((x : ClientDone) → r ≡ Ok x → Keeps v x.client) → by_frame r ≡ Ok d → Keeps v d.client
    by_frames (Ok x) each e = ok_keeps v x d (each x refl) e
    by_frames (Err fault) each e = absurd cc

    by : (ask : Ask) → answer_to me v ask ≡ Ok d → Keeps v d.client
    by (asks.Read slot key) e = by_calls (calls.call_read me v slot key.now) (read_keeps me v slot key.now) e
    by (asks.Prepare slot) e = by_calls (calls.call_prepare me v slot) (prepare_keeps me v slot) e
    by (asks.Settle slot) e = by_calls (calls.call_settle me v slot) (settle_keeps me v slot) e
    by (asks.Recover t signature) e =
        by_calls (calls.call_recover me v t.now signature.now)
        (λ x is. (recover_holds me v t.now signature.now x is).0) e
    by (asks.Invoke slot) e = by_calls (calls.call_invoke me v slot) (invoke_keeps me v slot) e
    by (asks.Frame frame) e = by_frames (on_frame me v frame.now) (frame_keeps me v frame.now) e

-- ---- what a client holds

slots_count : (slots : List Slot) (ss : List SlotValue) → ShowsSlots slots ss → length slots ≡ length ss
slots_count [] [] h = refl
slots_count [] (s ∷ ss) h = absurd h
slots_count (x ∷ xs) [] h = absurd h
slots_count (x ∷ xs) (s ∷ ss) h = ap suc (slots_count xs ss h.1)

within : (slot slots m n : ℕ) → slot < slots → slots ≤ m → n ≡ m → slot < n
within slot slots m n a b e = omega arith

pub enough : (slots m n : ℕ) → slots ≤ m → m ≤ n → slots ≤ n
enough slots m n a b = omega arith

pub holds_slot : (held : Held) (pen : PenValue) (slots slot : ℕ) → ∥ HoldsSlots held pen slots ∥₁ → slot < slots
    → slot < length held.slots.items
holds_slot held pen slots slot shown below =
    ∥∥₁_elim shown le_prop
    (λ (h : HoldsSlots held pen slots). within slot slots (length (h.0).slots) (length held.slots.items) below h.2
    (slots_count held.slots.items (h.0).slots (h.1).shows.slots))

nat_lt_of : (m n : ℕ) → nat_lt m n ≡ true → m < n
nat_lt_of m n e = ltb-true m n e

both : (a b : Bool) → (a && b) ≡ true → (a ≡ true) × (b ≡ true)
both true b e = (refl, e)
both false b e = absurd cc

fits_signature : (s : List ℕ) → (nat_le 1 (length s) && nat_le (length s) 8192) ≡ true → IsSignature s
fits_signature s e =
    let h = both (nat_le 1 (length s)) (nat_le (length s) 8192) e in
    record { some = leb-true 1 (length s) h.0; short = leb-true (length s) 8192 h.1 }

module _ (new : Held) (after : PenValue) (v : ClientValue) (slots : ℕ) (some : slots ≤ length v.slots) where
  pub called : {A : Type 0} (r : Result A CallFault) (answer : Result ClientDone CallFault) (Sent : ClientDone → Type 0)
      → ((d : ClientDone) → answer ≡ Ok d → Keeps v d.client)
      → Calls r answer (λ d. Shows new after d.client × Sent d) → OnErr r (Shows new after v) → HoldsSlots new after slots
  called (Ok x) answer Sent keeps done same =
      ((done.0).client, (done.2).0, enough slots (length v.slots) (length (done.0).client.slots) some (keeps done.0 done.1))
  called (Err e) answer Sent keeps done same = (v, same, some)

  pub wrote : {A : Type 0} (r : Result A CallFault) (answer : Result ClientDone CallFault)
      → ((d : ClientDone) → answer ≡ Ok d → Keeps v d.client)
      → Calls r answer (λ d. Shows new after d.client) → OnErr r (Shows new after v) → HoldsSlots new after slots
  wrote (Ok x) answer keeps done same =
      ((done.0).client, done.2, enough slots (length v.slots) (length (done.0).client.slots) some (keeps done.0 done.1))
  wrote (Err e) answer keeps done same = (v, same, some)

  pub framed : (r : Result (Unit {0}) FrameFault) (answer : Result ClientDone FrameFault) (Sent : ClientDone → Type 0)
      → ((d : ClientDone) → answer ≡ Ok d → Keeps v d.client)
      → AnswersFrame r answer (λ d. Shows new after d.client × Sent d) → OnErr r (Shows new after v)
      → HoldsSlots new after slots
  framed (Ok x) answer Sent keeps done same =
      ((done.0).client, (done.2).0, enough slots (length v.slots) (length (done.0).client.slots) some (keeps done.0 done.1))
  framed (Err e) answer Sent keeps done same = (v, same, some)

  pub raised : (total : ℕ) (o : Option ℕ) → ((m : ℕ) → slots ≤ m → ((s : ℕ) → o ≡ Some s → s < m) → total ≤ m)
      → (d : ClientDone) → Keeps v d.client → ((s : ℕ) → o ≡ Some s → s < length d.client.slots) → Shows new after d.client
      → HoldsSlots new after total
  raised total o counts d keeps below shows =
      (d.client, shows, counts (length d.client.slots) (enough slots (length v.slots) (length d.client.slots) some keeps) below)

-- what is asked of one of so many slots can be asked
pub can_be_asked : (held : Held) (pen : PenValue) (slots : ℕ) (ask : Ask) → ∥ HoldsSlots held pen slots ∥₁ → can_ask slots ask ≡ true
    → CanBeAsked held ask
can_be_asked held pen slots (asks.Read slot key) shown e = holds_slot held pen slots slot shown (nat_lt_of slot slots e)
can_be_asked held pen slots (asks.Prepare slot) shown e = holds_slot held pen slots slot shown (nat_lt_of slot slots e)
can_be_asked held pen slots (asks.Settle slot) shown e = holds_slot held pen slots slot shown (nat_lt_of slot slots e)
can_be_asked held pen slots (asks.Recover t signature) shown e =
    fits_signature signature.now e
can_be_asked held pen slots (asks.Invoke slot) shown e = holds_slot held pen slots slot shown (nat_lt_of slot slots e)
can_be_asked held pen slots (asks.Frame frame) shown e = tt

-- the slot that is answered is below what is held
pub below_by : (m slot known : ℕ) → slot ≡ known → known < m → (s : ℕ) → Some slot ≡ Some s → s < m
below_by m slot known is below s e = subst (λ (n : ℕ). n < m) (sym is ∙ same_Some slot s e) below

pub begun_below : (v : ClientValue) (time slot : ℕ) (d : ClientDone) → calls.call_begin v time ≡ Ok d → slot ≡ length v.slots
    → (s : ℕ) → Some slot ≡ Some s → s < length d.client.slots
begun_below v time slot d e is =
    below_by (length d.client.slots) slot (length v.slots) is (begin_keeps v time d e)

pub begun_keeps : (v : ClientValue) (time : ℕ) (d : ClientDone) → calls.call_begin v time ≡ Ok d → Keeps v d.client
begun_keeps v time d e = let h = begin_keeps v time d e in less (length v.slots) (length d.client.slots) h
  where
    less : (m n : ℕ) → suc m ≤ n → m ≤ n
    less m n h = omega arith

pub ask_below : (me : ClientSelf) (v : ClientValue) (ask : Ask) (d : ClientDone) → answer_to me v ask ≡ Ok d → (s : ℕ)
    → slot_of v ask ≡ Some s → s < length d.client.slots
ask_below me v (asks.Read slot key) d e s at = absurd cc
ask_below me v (asks.Prepare slot) d e s at = absurd cc
ask_below me v (asks.Settle slot) d e s at = absurd cc
ask_below me v (asks.Recover t signature) d e s at = by (calls.call_recover me v t.now signature.now) refl e
  where
    by : (r : Result ClientDone CallFault) → calls.call_recover me v t.now signature.now ≡ r → by_call r ≡ Ok d
        → s < length d.client.slots
    by (Ok x) is e =
        subst (λ (n : ℕ). n < length d.client.slots) (same_Some (calls.recovered_at v t.now) s at)
        (subst (λ (y : ClientDone). calls.recovered_at v t.now < length y.client.slots) (ap (done_or d) e)
        (recover_holds me v t.now signature.now x is).1)
    by (Err fault) is e = absurd cc
ask_below me v (asks.Invoke slot) d e s at = absurd cc
ask_below me v (asks.Frame frame) d e s at = absurd cc
