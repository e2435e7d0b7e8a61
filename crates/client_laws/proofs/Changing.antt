-- What each call and each frame changes.
use Rattle.std.proofs.Common.{◌≡◌, ℕ, ◌<◌, Bool, true, false, cond, List, [], ◌∷◌, Option, Some, None, refl, sym, ap, subst, ◌∙◌, ◌⊎◌, inl}
use Rattle.std.proofs.Common.{inr}
use Rattle.std.specs.Prelude.{Result, Ok, Err, slice_get, find, is_some, not, ◌||◌, ◌==◌, nat_lt, option_map, option_and_then, Contains}
use Rattle.std.specs.Prelude.{if◌then◌else◌}
use Rattle.std.specs.List.{flat_map}
use Rattle.std.specs.Ordering.{match_ordering}
use Rattle.std.specs.declared.cmp.Ordering.{Ordering}
use Rattle.std.specs.declared.cmp.Ordering.TheVariants.{Less, Equal, Greater}
use Rattle.std.proofs.lemmas.Bool.{ltb-true}
use Rattle.std.proofs.lemmas.List.Elements.{Contains-append_cases}
use Rattle.std.proofs.lemmas.Option.{same_Some}
use Rattle.basil_types.proofs.MemberLaws.{in_none, in_head, in_tail, in_cases, in_map}
use Rattle.basil_types.specs.declared.transaction.parts.WritePart.{WritePart}
use Rattle.basil_types.specs.Setting.{Setting}
use Rattle.basil_types.specs.Transaction.{TransactionValue, id}
use Rattle.certificates.specs.declared.fault.FrameFault.{FrameFault}
use Rattle.certificates.specs.declared.fault.FrameFault.TheVariants.{NotMine}
use Rattle.client_reads.specs.Replies.{reply_fault}
use Rattle.client_recover.specs.Counting.{all_replicas}
use Rattle.client_recover.specs.Pursuits.{PursuitDone, outcome, settle, take_frame, to_involved, to_shard}
use Rattle.client_recover.specs.Taken.{PursuitValue, TakenValue, TakenVote, TakenLog, TakenCertificate}
use Rattle.client_recover.specs.Faults.{vote_fault, log_fault, writeback_fault}
use Rattle.frame_views.specs.declared.fault.BadFrame as faults
use Rattle.frame_views.specs.Fitting.{bounds_of}
use Rattle.frame_views.specs.Frames.{frame_in}
use Rattle.frame_views.specs.Values as values
use Rattle.frame_views.specs.Values.{MessageValue, ReadReplyValue}
use Rattle.node_steps.specs.Envelopes.{EnvelopeValue}
use Rattle.node_steps.specs.Lists.{by_key, put}
use Rattle.node_steps.specs.Refusing.{unless, when}
use Rattle.txn_meta.specs.Form.{form_fault}
use Rattle.txn_meta.specs.Places.{involved}
use Rattle.client_steps.specs.declared.fault.CallFault.TheVariants.{BadTransaction, NotOpen, TimeNotAbove}
use Rattle.client_core.specs.Answers.{on_message, on_read_frame}
use Rattle.client_core.specs.Calls.{begin_done, by_slot, invoke_by, invoke_done, invoke_fault, is_written, prepare_done, prepare_fault}
use Rattle.client_core.specs.Calls.{pursuit_done}
use Rattle.client_core.specs.Calls.{read_at, read_done, read_fault, recover_by, recover_held, settle_by, with_recovered, write_done}
use Rattle.client_core.specs.Calls.{write_fault}
use Rattle.client_core.specs.Clients.{AskedRead, ClientDone, ClientSelf, ClientValue, SlotValue, quiet}
use Rattle.client_core.specs.Frames.{HeldValue, held_at, held_at_slot, read_asked, reply_at, reply_by, reply_taken, reply_to_time, taken_by}
use Rattle.client_core.specs.Frames.{with_reply}
use Rattle.client_core.specs.Slots.{asked, is_chosen, is_of, key_asked, put_read, put_write, slot_of_id, slot_of_time, with_slot}
use Rattle.client_laws.specs.Steps.{Step, Begin, Read, Write, Prepare, Settle, Recover, Invoke, Frame, left_by, step}
use Rattle.client_laws.specs.Deciding.{second_of}

-- ---- what may change

-- no message of a second stage is among these
abbrev pub NoSecond : List EnvelopeValue → Type 0
NoSecond sent = (e : EnvelopeValue) → Contains sent e → second_of e.message ≡ None

pub record IsCalm (d : ClientDone) : Type 0 where
  pub signed : d.signed ≡ []
  pub second : NoSecond d.sent

-- the frame of the step is a valid reply to this read of a slot
pub record IsReplyIn (me : ClientSelf) (s : Step) (x : SlotValue) (old : AskedRead) (m : ReadReplyValue) : Type 0 where
  pub frame : List ℕ
  pub is : s ≡ Frame frame
  pub read : frame_in (bounds_of me.cluster) frame ≡ Ok (values.ReadReply m)
  pub valid : reply_fault me.accepts me.cluster (read_asked me x old) m ≡ None

-- a read of a slot: it was there, is asked anew, or has one more reply
pub data ReadFrom (me : ClientSelf) (s : Step) (x : SlotValue) (r : AskedRead) : Type 0 where
  Was : Contains x.reads r → ReadFrom me s x r
  New : r.replies ≡ [] → ReadFrom me s x r
  More : (old : AskedRead) (m : ReadReplyValue) → Contains x.reads old → with_reply m old ≡ r → IsReplyIn me s x old m → ReadFrom me s x r

-- the reads and the writes of a slot
pub record Edited (me : ClientSelf) (client : ClientValue) (s : Step) (d : ClientDone) : Type 0 where
  pub slot : ℕ
  pub x : SlotValue
  pub at : slice_get client.slots slot ≡ Some x
  pub reads : List AskedRead
  pub writes : List WritePart
  pub is : d.client ≡ with_slot client slot (record x { reads = reads; writes = writes })
  pub each : (r : AskedRead) → Contains reads r → ReadFrom me s x r
  pub calm : IsCalm d

-- a slot is formed
pub record Formed (me : ClientSelf) (client : ClientValue) (d : ClientDone) : Type 0 where
  pub slot : ℕ
  pub x : SlotValue
  pub at : slice_get client.slots slot ≡ Some x
  pub fault : prepare_fault me client x ≡ None
  pub is : d ≡ prepare_done me client slot x

-- the transaction in a slot is settled, or takes a frame
pub record Pursued (me : ClientSelf) (client : ClientValue) (d : ClientDone) : Type 0 where
  pub slot : ℕ
  pub x : SlotValue
  pub p : PursuitValue
  pub at : slice_get client.slots slot ≡ Some x
  pub formed : x.pursuit ≡ Some p
  pub e : PursuitDone
  pub is : d ≡ pursuit_done client slot x e
  pub goes : (e ≡ settle me.cluster p) ⊎ ((y : TakenValue) × (e ≡ take_frame me.cluster p y))

pub data Change (me : ClientSelf) (client : ClientValue) (s : Step) (d : ClientDone) : Type 0 where
  Keeps : d.client ≡ client → IsCalm d → Change me client s d
  Begins : (time : ℕ) → client.last < time → d ≡ begin_done client time → Change me client s d
  Edits : Edited me client s d → Change me client s d
  Forms : Formed me client d → Change me client s d
  Pursues : Pursued me client d → Change me client s d
  Recovers : (t : TransactionValue) (signature : List ℕ) → d.client ≡ with_recovered client t signature → IsCalm d →
      Change me client s d

-- ---- lists

pub put_in : {A : Type 0} (cmp : A → A → Ordering) (a : A) (xs : List A) (y : A) → Contains (put cmp a xs) y → (a ≡ y) ⊎ Contains xs y
put_in cmp a [] y h = in_cases a [] y h
put_in cmp a (x ∷ xs) y h = by (cmp a x) (put_in cmp a xs y) h
  where
    by : (o : Ordering) → (Contains (put cmp a xs) y → (a ≡ y) ⊎ Contains xs y) →
        Contains (match_ordering o (a ∷ x ∷ xs) (a ∷ xs) (x ∷ put cmp a xs)) y → (a ≡ y) ⊎ Contains (x ∷ xs) y
    by Less f h = in_cases a (x ∷ xs) y h
    by Equal f h = elim (in_cases a xs y h) [ inl e ↦ inl e | inr i ↦ inr (in_tail x xs y i) ]
    by Greater f h = elim (in_cases x (put cmp a xs) y h) [
      | inl e ↦ inr (subst (λ z. Contains (x ∷ xs) z) e (in_head x xs))
      | inr i ↦ elim (f i) [ inl e ↦ inl e | inr j ↦ inr (in_tail x xs y j) ]
    ]

pub find_in : {A : Type 0} (p : A → Bool) (xs : List A) (x : A) → find p xs ≡ Some x → Contains xs x
find_in p [] x h = absurd cc
find_in p (y ∷ ys) x h = by (p y) (find_in p ys x) h
  where
    by : (b : Bool) → (find p ys ≡ Some x → Contains ys x) → cond b (Some y) (find p ys) ≡ Some x → Contains (y ∷ ys) x
    by true f h = subst (λ z. Contains (y ∷ ys) z) (same_Some y x h) (in_head y ys)
    by false f h = in_tail y ys x (f h)

flat_all : {A B : Type 0} (P : B → Type 0) (f : A → List B) → ((a : A) (b : B) → Contains (f a) b → P b) → (xs : List A) (b : B) →
    Contains (flat_map f xs) b → P b
flat_all P f each [] b h = absurd (in_none b h)
flat_all P f each (x ∷ xs) b h = elim (Contains-append_cases (f x) (flat_map f xs) b h) [
  | inl i ↦ each x b i
  | inr i ↦ flat_all P f each xs b i
]

-- ---- messages

-- each of these is this message
pub sent_shard : (c : Setting) (m : MessageValue) (shard : ℕ) (e : EnvelopeValue) → Contains (to_shard c m shard) e → m ≡ e.message
sent_shard c m shard e h = ap (λ (x : EnvelopeValue). x.message) (in_map _ (all_replicas c) e h).2

pub sent_involved : (c : Setting) (t : TransactionValue) (m : MessageValue) (e : EnvelopeValue) → Contains (to_involved c t m) e →
    m ≡ e.message
sent_involved c t m e h = flat_all (λ (x : EnvelopeValue). m ≡ x.message) (to_shard c m) (sent_shard c m) (involved c t) e h

none_shard : (c : Setting) (m : MessageValue) (shard : ℕ) → second_of m ≡ None → NoSecond (to_shard c m shard)
none_shard c m shard none e h = ap second_of (sym (sent_shard c m shard e h)) ∙ none

pub none_involved : (c : Setting) (t : TransactionValue) (m : MessageValue) → second_of m ≡ None → NoSecond (to_involved c t m)
none_involved c t m none e h = ap second_of (sym (sent_involved c t m e h)) ∙ none

pub none_sent : NoSecond []
none_sent e h = absurd (in_none e h)

-- ---- steps

module _ (me : ClientSelf) (client : ClientValue) where
  kept : (s : Step) → Change me client s (quiet client)
  kept s = Keeps refl (record { signed = refl; second = none_sent })

  unless_left : {E : Type 0} (s : Step) (o : Option E) (d : ClientDone) → (o ≡ None → Change me client s d) →
      Change me client s (left_by client (unless o d))
  unless_left s None d f = f refl
  unless_left s (Some fault) d f = kept s

  begun : (time : ℕ) → Change me client (Begin time) (step me client (Begin time))
  begun time = by (nat_lt client.last time) refl
    where
      by : (b : Bool) → nat_lt client.last time ≡ b →
          Change me client (Begin time) (left_by client (unless (when (not b) (TimeNotAbove client.last)) (begin_done client time)))
      by true e = Begins time (ltb-true client.last time e) refl
      by false e = kept (Begin time)

  read_edits : (slot : ℕ) (key : List ℕ) (x : SlotValue) → slice_get client.slots slot ≡ Some x →
      Edited me client (Read slot key) (read_done me client slot x key)
  read_edits slot key x at =
      let r : AskedRead = record { key = key; replies = [] } in
      let asks = values.Read (record { key = key; time = x.time; client = me.number }) in
      record {
        slot = slot;
        x = x;
        at = at;
        reads = put_read r x.reads;
        writes = x.writes;
        is = refl;
        each = λ q i. elim (put_in (by_key key_asked) r x.reads q i) [
          | inl e ↦ New (ap (λ (y : AskedRead). y.replies) (sym e))
          | inr j ↦ Was j
        ];
        calm = record { signed = refl; second = none_shard me.cluster asks _ refl };
      }

  reads : (slot : ℕ) (key : List ℕ) (o : Option SlotValue) → slice_get client.slots slot ≡ o →
      Change me client (Read slot key) (left_by client (by_slot client (read_at me client slot key) o))
  reads slot key None at = kept (Read slot key)
  reads slot key (Some x) at = by (is_some x.pursuit) (is_written key x || is_some (asked key x))
    where
      by : (a b : Bool) → Change me client (Read slot key) (left_by client
          (if a then Err NotOpen else if b then Ok (quiet client) else unless (read_fault x key) (read_done me client slot x key)))
      by true b = kept (Read slot key)
      by false true = kept (Read slot key)
      by false false =
          unless_left (Read slot key) (read_fault x key) (read_done me client slot x key) (λ none. Edits (read_edits slot key x at))

  writes : (slot : ℕ) (w : WritePart) (o : Option SlotValue) → slice_get client.slots slot ≡ o →
      Change me client (Write slot w)
      (left_by client (by_slot client (λ (x : SlotValue). unless (write_fault x w) (write_done client slot w x)) o))
  writes slot w None at = kept (Write slot w)
  writes slot w (Some x) at = unless_left (Write slot w) (write_fault x w) (write_done client slot w x) (λ none. Edits (record {
    slot = slot;
    x = x;
    at = at;
    reads = x.reads;
    writes = put_write w x.writes;
    is = refl;
    each = λ q i. Was i;
    calm = record { signed = refl; second = none_sent };
  }))

  prepares : (slot : ℕ) (o : Option SlotValue) → slice_get client.slots slot ≡ o →
      Change me client (Prepare slot)
      (left_by client (by_slot client (λ (x : SlotValue). unless (prepare_fault me client x) (prepare_done me client slot x)) o))
  prepares slot None at = kept (Prepare slot)
  prepares slot (Some x) at = unless_left (Prepare slot) (prepare_fault me client x) (prepare_done me client slot x)
      (λ none. Forms (record { slot = slot; x = x; at = at; fault = none; is = refl }))

  settles : (slot : ℕ) (o : Option SlotValue) → slice_get client.slots slot ≡ o →
      Change me client (Settle slot)
      (left_by client (by_slot client (λ (x : SlotValue). settle_by me client slot x x.pursuit) o))
  settles slot None at = kept (Settle slot)
  settles slot (Some x) at = by x.pursuit refl
    where
      by : (o : Option PursuitValue) → x.pursuit ≡ o → Change me client (Settle slot) (left_by client (settle_by me client slot x o))
      by None formed = kept (Settle slot)
      by (Some p) formed = Pursues (record {
        slot = slot;
        x = x;
        p = p;
        at = at;
        formed = formed;
        e = settle me.cluster p;
        is = refl;
        goes = inl refl;
      })

  held : (s : Step) (o : Option PursuitValue) → Change me client s (recover_held me client o)
  held s None = kept s
  held s (Some p) = Keeps refl (record { signed = refl; second = none_involved me.cluster p.transaction _ refl })

  recovers : (t : TransactionValue) (signature : List ℕ) (o : Option ℕ) →
      Change me client (Recover t signature) (recover_by me client t signature o)
  recovers t signature (Some place) =
      held (Recover t signature) (option_and_then (λ (x : SlotValue). x.pursuit) (slice_get client.slots place))
  recovers t signature None =
      Recovers t signature refl (record { signed = refl; second = none_involved me.cluster t _ refl })

  invokes : (slot : ℕ) (o : Option SlotValue) →
      Change me client (Invoke slot) (left_by client (by_slot client (λ (x : SlotValue). invoke_by me client x.pursuit) o))
  invokes slot None = kept (Invoke slot)
  invokes slot (Some x) = by x.pursuit
    where
      by_outcome : (p : PursuitValue) (b : Bool) → Change me client (Invoke slot) (left_by client
          (if b then Ok (quiet client) else unless (invoke_fault me p) (invoke_done me client p)))
      by_outcome p true = kept (Invoke slot)
      by_outcome p false = unless_left (Invoke slot) (invoke_fault me p) (invoke_done me client p)
          (λ none. Keeps refl (record { signed = refl; second = none_shard me.cluster _ _ refl }))

      by : (o : Option PursuitValue) → Change me client (Invoke slot) (left_by client (invoke_by me client o))
      by None = kept (Invoke slot)
      by (Some p) = by_outcome p (is_some (outcome me.cluster p))

  -- ---- frames

  takes : (s : Step) (fault : TransactionValue → Option FrameFault) (y : TakenValue) (o : Option ℕ) →
      Change me client s (left_by client (taken_by me client fault y (option_and_then (held_at client) o)))
  takes s fault y None = kept s
  takes s fault y (Some place) = by_place (slice_get client.slots place) refl
    where
      by_formed : (x : SlotValue) → slice_get client.slots place ≡ Some x → (o : Option PursuitValue) → x.pursuit ≡ o →
          Change me client s (left_by client (taken_by me client fault y
          (option_map (λ (p : PursuitValue). let h : HeldValue = record { place = place; slot = x; pursuit = p } in h) o)))
      by_formed x at None formed = kept s
      by_formed x at (Some p) formed =
          unless_left s (fault p.transaction) (pursuit_done client place x (take_frame me.cluster p y)) (λ none. Pursues (record {
            slot = place;
            x = x;
            p = p;
            at = at;
            formed = formed;
            e = take_frame me.cluster p y;
            is = refl;
            goes = inr (y, refl);
          }))

      by_place : (o : Option SlotValue) → slice_get client.slots place ≡ o →
          Change me client s (left_by client (taken_by me client fault y (option_and_then (held_at_slot place) o)))
      by_place None at = kept s
      by_place (Some x) at = by_formed x at x.pursuit refl

  module _ (frame : List ℕ) (m : ReadReplyValue) (read : frame_in (bounds_of me.cluster) frame ≡ Ok (values.ReadReply m)) where
    reply_edits : (slot : ℕ) (x : SlotValue) (r : AskedRead) → slice_get client.slots slot ≡ Some x → Contains x.reads r →
        reply_fault me.accepts me.cluster (read_asked me x r) m ≡ None →
        Edited me client (Frame frame) (reply_taken client slot x m r)
    reply_edits slot x r at among none = record {
      slot = slot;
      x = x;
      at = at;
      reads = put_read (with_reply m r) x.reads;
      writes = x.writes;
      is = refl;
      each = λ q i. elim (put_in (by_key key_asked) (with_reply m r) x.reads q i) [
        | inl e ↦ More r m among e (record { frame = frame; is = refl; read = read; valid = none })
        | inr j ↦ Was j
      ];
      calm = record { signed = refl; second = none_sent };
    }

    replied : (slot : ℕ) (x : SlotValue) → slice_get client.slots slot ≡ Some x → (o : Option AskedRead) → asked m.key x ≡ o →
        Change me client (Frame frame) (left_by client (reply_by me client slot x m o))
    replied slot x at None is = kept (Frame frame)
    replied slot x at (Some r) is = by (is_chosen me.cluster r)
      where
        by : (b : Bool) → Change me client (Frame frame) (left_by client
            (if b then Err NotMine
            else unless (reply_fault me.accepts me.cluster (read_asked me x r) m) (reply_taken client slot x m r)))
        by true = kept (Frame frame)
        by false = unless_left (Frame frame) (reply_fault me.accepts me.cluster (read_asked me x r) m) (reply_taken client slot x m r)
            (λ none. Edits (reply_edits slot x r at (find_in (is_of m.key) x.reads r is) none))

    replied_at : (slot : ℕ) (o : Option SlotValue) → slice_get client.slots slot ≡ o →
        Change me client (Frame frame) (left_by client (reply_at me client m slot o))
    replied_at slot None at = kept (Frame frame)
    replied_at slot (Some x) at = replied slot x at (asked m.key x) refl

    replied_to : (o : Option ℕ) → Change me client (Frame frame) (left_by client (reply_to_time me client m o))
    replied_to None = kept (Frame frame)
    replied_to (Some slot) = replied_at slot (slice_get client.slots slot) refl

    replies : Change me client (Frame frame) (left_by client (on_message me client (values.ReadReply m)))
    replies = by (m.client == me.number)
      where
        by : (b : Bool) → Change me client (Frame frame) (left_by client
            (if b then reply_to_time me client m (slot_of_time client m.time) else Err NotMine))
        by true = replied_to (slot_of_time client m.time)
        by false = kept (Frame frame)

  framed : (frame : List ℕ) (r : Result MessageValue faults.BadFrame) → frame_in (bounds_of me.cluster) frame ≡ r →
      Change me client (Frame frame) (left_by client (on_read_frame me client r))
  framed frame (Err fault) is = kept (Frame frame)
  framed frame (Ok (values.Read m)) is = kept (Frame frame)
  framed frame (Ok (values.ReadReply m)) is = replies frame m is
  framed frame (Ok (values.St1 m)) is = kept (Frame frame)
  framed frame (Ok (values.Vote m)) is =
      takes (Frame frame) (λ t. vote_fault me.accepts me.cluster t m) (TakenVote m) (slot_of_id client m.id)
  framed frame (Ok (values.St2 m)) is = kept (Frame frame)
  framed frame (Ok (values.LogReply m)) is =
      takes (Frame frame) (λ t. log_fault me.accepts me.cluster t m) (TakenLog m) (slot_of_id client m.id)
  framed frame (Ok (values.Writeback m)) is =
      takes (Frame frame) (λ t. writeback_fault me.accepts me.cluster t m) (TakenCertificate m.certificate)
      (slot_of_id client (id m.transaction))
  framed frame (Ok (values.Recover m)) is = kept (Frame frame)
  framed frame (Ok (values.Invoke m)) is = kept (Frame frame)
  framed frame (Ok (values.Elect m)) is = kept (Frame frame)
  framed frame (Ok (values.Decide m)) is = kept (Frame frame)

  pub changes : (s : Step) → Change me client s (step me client s)
  changes (Begin time) = begun time
  changes (Read slot key) = reads slot key (slice_get client.slots slot) refl
  changes (Write slot w) = writes slot w (slice_get client.slots slot) refl
  changes (Prepare slot) = prepares slot (slice_get client.slots slot) refl
  changes (Settle slot) = settles slot (slice_get client.slots slot) refl
  changes (Recover t signature) =
      unless_left (Recover t signature) (option_map BadTransaction (form_fault t))
      (recover_by me client t signature (slot_of_id client (id t))) (λ none. recovers t signature (slot_of_id client (id t)))
  changes (Invoke slot) = invokes slot (slice_get client.slots slot)
  changes (Frame frame) = framed frame (frame_in (bounds_of me.cluster) frame) refl
