-- What a client signs is the words of its transactions.
use Rattle.cluster_run.proofs.Finding.{ok_is}
use Rattle.cluster_run.proofs.Members.{in_cases}
use Rattle.node_steps.specs.Refusing as refusing
use Rattle.std.proofs.Common.{◌≡◌, ℕ, Bool, true, false, cond, List, [], ◌∷◌, Option, Some, None, refl, subst, inl, inr}
use Rattle.std.specs.Prelude.{Result, Ok, Err, slice_get, is_some, ◌||◌, ◌==◌}
use Rattle.basil_types.specs.Transaction.{TransactionValue, id}
use Rattle.basil_types.specs.Words.{AreWords, TransactionWords}
use Rattle.client_core.specs.Answers.{on_message, on_read_frame}
use Rattle.client_core.specs.Calls as calls
use Rattle.client_core.specs.Calls.{by_slot, read_at, read_done, prepare_fault}
use Rattle.client_core.specs.Calls.{prepare_done, settle_by, recover_held, recover_by, invoke_by}
use Rattle.client_core.specs.Calls.{formed}
use Rattle.client_core.specs.Clients.{ClientSelf, ClientValue, ClientDone, SlotValue, AskedRead, quiet}
use Rattle.client_recover.specs.Taken.{PursuitValue, TakenValue}
use Rattle.client_steps.specs.declared.fault.CallFault.{CallFault}
use Rattle.client_core.specs.Frames as frames
use Rattle.client_core.specs.Frames.{HeldValue, taken_by, reply_by, reply_at, reply_to_time, on_read_reply, reply_taken}
use Rattle.certificates.specs.declared.fault.FrameFault.{FrameFault}
use Rattle.frame_views.specs.declared.fault.BadFrame.{BadFrame}
use Rattle.frame_views.specs.Fitting.{bounds_of}
use Rattle.frame_views.specs.Frames.{frame_in}
use Rattle.frame_views.specs.Values.{MessageValue, ReadReplyValue, Read, ReadReply, St1, Vote, St2, LogReply, Writeback, Recover, Invoke}
use Rattle.frame_views.specs.Values.{Elect, Decide}
use Rattle.cluster_run.specs.Answering.{AllWords}
use Rattle.cluster_run.specs.Layers.{ClientsSignWords}
use Rattle.cluster_run.proofs.Decides.{length_id}
use Rattle.cluster_run.proofs.Marking.{none_in}

abbrev W : ClientDone → Type 0
W d = AllWords d.signed

no_words : AllWords []
no_words w i = absurd (none_in w i)

done_is : {E : Type 0} (a d : ClientDone) (the : Result ClientDone E) → the ≡ Ok a → the ≡ Ok d → W a → W d
done_is a d the e h w = subst W (ok_is a d the e h) w

call_unless : (o : Option CallFault) (a d : ClientDone) → W a → refusing.unless o a ≡ Ok d → W d
call_unless None a d w h = done_is a d (refusing.unless None a) refl h w
call_unless (Some f) a d w h = absurd cc

frame_unless : (o : Option FrameFault) (a d : ClientDone) → W a → refusing.unless o a ≡ Ok d → W d
frame_unless None a d w h = done_is a d (refusing.unless None a) refl h w
frame_unless (Some f) a d w h = absurd cc

slot_words : (client : ClientValue) (answer : SlotValue → Result ClientDone CallFault) (o : Option SlotValue) (d : ClientDone) →
    ((s : SlotValue) → answer s ≡ Ok d → W d) → by_slot client answer o ≡ Ok d → W d
slot_words client answer None d f h = done_is (quiet client) d (by_slot client answer None) refl h no_words
slot_words client answer (Some s) d f h = f s h

-- ---- frames

taken_words : (me : ClientSelf) (client : ClientValue) (fault : TransactionValue → Option FrameFault) (x : TakenValue)
    (o : Option HeldValue) (d : ClientDone) → taken_by me client fault x o ≡ Ok d → W d
taken_words me client fault x None d h = absurd cc
taken_words me client fault x (Some k) d h = frame_unless (fault k.pursuit.transaction) _ d no_words h

reply_words : (me : ClientSelf) (client : ClientValue) (place : ℕ) (s : SlotValue) (m : ReadReplyValue) (o : Option AskedRead)
    (d : ClientDone) → reply_by me client place s m o ≡ Ok d → W d
reply_words me client place s m None d h = absurd cc
reply_words me client place s m (Some r) d h = by (Rattle.client_core.specs.Slots.is_chosen me.cluster r) h
  where
    by : (b : Bool) → cond b (Err Rattle.certificates.specs.declared.fault.FrameFault.TheVariants.NotMine)
        (refusing.unless (Rattle.client_reads.specs.Replies.reply_fault me.accepts me.cluster
        (record { key = r.key; time = s.time; client = me.number }) m) (reply_taken client place s m r)) ≡ Ok d → W d
    by true h = absurd cc
    by false h = frame_unless _ (reply_taken client place s m r) d no_words h

reply_at_words : (me : ClientSelf) (client : ClientValue) (m : ReadReplyValue) (place : ℕ) (o : Option SlotValue) (d : ClientDone) →
    reply_at me client m place o ≡ Ok d → W d
reply_at_words me client m place None d h = absurd cc
reply_at_words me client m place (Some s) d h = reply_words me client place s m (Rattle.client_core.specs.Slots.asked m.key s) d h

reply_time_words : (me : ClientSelf) (client : ClientValue) (m : ReadReplyValue) (o : Option ℕ) (d : ClientDone) →
    reply_to_time me client m o ≡ Ok d → W d
reply_time_words me client m None d h = absurd cc
reply_time_words me client m (Some place) d h = reply_at_words me client m place (slice_get client.slots place) d h

read_reply_words : (me : ClientSelf) (client : ClientValue) (m : ReadReplyValue) (d : ClientDone) → on_read_reply me client m ≡ Ok d → W d
read_reply_words me client m d h = by (m.client == me.number) h
  where
    by : (b : Bool) → cond b (reply_to_time me client m (Rattle.client_core.specs.Slots.slot_of_time client m.time))
        (Err Rattle.certificates.specs.declared.fault.FrameFault.TheVariants.NotMine) ≡ Ok d → W d
    by true h = reply_time_words me client m (Rattle.client_core.specs.Slots.slot_of_time client m.time) d h
    by false h = absurd cc

pub message_words : (me : ClientSelf) (c : ClientValue) (m : MessageValue) (d : ClientDone) → on_message me c m ≡ Ok d → W d
message_words me c (Read m) d h = absurd cc
message_words me c (ReadReply m) d h = read_reply_words me c m d h
message_words me c (St1 m) d h = absurd cc
message_words me c (Vote m) d h = taken_words me c _ _ (frames.held_with c m.id) d h
message_words me c (St2 m) d h = absurd cc
message_words me c (LogReply m) d h = taken_words me c _ _ (frames.held_with c m.id) d h
message_words me c (Writeback m) d h = taken_words me c _ _ (frames.held_with c (id m.transaction)) d h
message_words me c (Recover m) d h = absurd cc
message_words me c (Invoke m) d h = absurd cc
message_words me c (Elect m) d h = absurd cc
message_words me c (Decide m) d h = absurd cc

frame_words : (me : ClientSelf) (c : ClientValue) (r : Result MessageValue BadFrame) (d : ClientDone) → on_read_frame me c r ≡ Ok d → W d
frame_words me c (Ok m) d h = message_words me c m d h
frame_words me c (Err e) d h = absurd cc

-- ---- calls

read_words : (me : ClientSelf) (c : ClientValue) (place : ℕ) (key : List ℕ) (s : SlotValue) (d : ClientDone) → read_at me c place key s
    ≡ Ok d → W d
read_words me c place key s d h = by (is_some s.pursuit) (calls.is_written key s || is_some (Rattle.client_core.specs.Slots.asked key s)) h
  where
    by : (a b : Bool) → cond a (Err Rattle.client_steps.specs.declared.fault.CallFault.TheVariants.NotOpen)
        (cond b (Ok (quiet c)) (refusing.unless (calls.read_fault s key) (read_done me c place s key))) ≡ Ok d → W d
    by true b h = absurd cc
    by false true h = done_is {E = CallFault} (quiet c) d (Ok (quiet c)) refl h no_words
    by false false h = call_unless (calls.read_fault s key) (read_done me c place s key) d no_words h

one_word : (t : TransactionValue) → AllWords (TransactionWords (id t) ∷ [])
one_word t w i = elim (in_cases w (TransactionWords (id t)) [] i) [ inl e ↦ subst AreWords e (length_id t) | inr n ↦ absurd (none_in w n) ]

settle_words : (me : ClientSelf) (c : ClientValue) (place : ℕ) (s : SlotValue) (o : Option PursuitValue) (d : ClientDone) →
    settle_by me c place s o ≡ Ok d → W d
settle_words me c place s None d h = absurd cc
settle_words me c place s (Some p) d h = done_is _ d (settle_by me c place s (Some p)) refl h no_words

held_words : (me : ClientSelf) (c : ClientValue) (o : Option PursuitValue) → W (recover_held me c o)
held_words me c None = no_words
held_words me c (Some p) = no_words

recover_words : (me : ClientSelf) (c : ClientValue) (t : TransactionValue) (signature : List ℕ) (o : Option ℕ) →
    W (recover_by me c t signature o)
recover_words me c t signature (Some place) = held_words me c _
recover_words me c t signature None = no_words

invoke_words : (me : ClientSelf) (c : ClientValue) (o : Option PursuitValue) (d : ClientDone) → invoke_by me c o ≡ Ok d → W d
invoke_words me c None d h = absurd cc
invoke_words me c (Some p) d h = by (is_some (Rattle.client_recover.specs.Pursuits.outcome me.cluster p)) h
  where
    by : (b : Bool) → cond b (Ok (quiet c)) (refusing.unless (calls.invoke_fault me p)
        (record {
          client = c;
          signed = [];
          sent = Rattle.client_recover.specs.Pursuits.to_shard me.cluster
              (Rattle.client_recover.specs.Pursuits.invoke_message me.cluster p)
              (Rattle.txn_meta.specs.Places.log_shard me.cluster p.transaction);
        })) ≡ Ok d → W d
    by true h = done_is {E = CallFault} (quiet c) d (Ok (quiet c)) refl h no_words
    by false h = call_unless (calls.invoke_fault me p) _ d no_words h

pub clients_sign_words : ClientsSignWords
clients_sign_words = record {
  at_frame = λ me c frame d h. frame_words me c (frame_in (bounds_of me.cluster) frame) d h;
  at_begin = λ c time d h. call_unless _ _ d no_words h;
  at_read = λ me c slot key d h. slot_words c (read_at me c slot key) (slice_get c.slots slot) d (λ s k. read_words me c slot key s d k) h;
  at_write =
      λ c slot w d h. slot_words c (λ s. refusing.unless (calls.write_fault s w)
      (quiet (Rattle.client_core.specs.Slots.with_slot c slot (record s { writes = Rattle.client_core.specs.Slots.put_write w s.writes }))))
      (slice_get c.slots slot) d (λ s k. call_unless (calls.write_fault s w) _ d no_words k) h;
  at_prepare =
      λ me c slot d h. slot_words c (λ s. refusing.unless (prepare_fault me c s) (prepare_done me c slot s)) (slice_get c.slots slot) d
      (λ s k. call_unless (prepare_fault me c s) (prepare_done me c slot s) d (one_word (formed me s)) k) h;
  at_settle =
      λ me c slot d h. slot_words c (λ s. settle_by me c slot s s.pursuit) (slice_get c.slots slot) d
      (λ s k. settle_words me c slot s s.pursuit d k) h;
  at_recover =
      λ me c t signature d h. call_unless _ _ d (recover_words me c t signature (Rattle.client_core.specs.Slots.slot_of_id c (id t))) h;
  at_invoke =
      λ me c slot d h. slot_words c (λ s. invoke_by me c s.pursuit) (slice_get c.slots slot) d (λ s k. invoke_words me c s.pursuit d k) h;
}
