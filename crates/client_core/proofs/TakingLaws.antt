-- What a frame does to a transaction that is pursued.
use Rattle.std.proofs.Common.{◌≡◌, ◌∙◌, ◌<◌, ℕ, zero, suc, length, Bool, true, false, cond, List, [], ◌∷◌, ◌++◌, refl, sym, ap, subst}
use Rattle.std.specs.Prelude.{Option, Some, None, Result, Ok, Err, IfOk, IfErr, option_map, option_and_then, slice_get, slice_set}
use Rattle.std.specs.Option.{option_map_or}
use Rattle.std.specs.Str.{bytes_eq}
use Rattle.std.proofs.lemmas.List.{append-nil}
use Rattle.std.proofs.lemmas.Option.{same_Some}
use Rattle.basil_types.specs.declared.outbox.Outbox.{Outbox}
use Rattle.basil_types.specs.Setting.{Setting}
use Rattle.basil_types.specs.Transaction.{TransactionValue, id}
use Rattle.certificates.specs.Accepted.{Accepted}
use Rattle.certificates.specs.declared.fault.FrameFault.{FrameFault}
use Rattle.certificates.specs.declared.fault.FrameFault.TheVariants.{NotMine, NoMemory}
use Rattle.client_recover.specs.declared.pursuit.Pursuit.{Pursuit}
use Rattle.client_recover.specs.Faults.{vote_fault, log_fault, writeback_fault}
use Rattle.client_recover.specs.Frames.{if_mine}
use Rattle.client_recover.specs.Pursuits.{PursuitDone, take_frame}
use Rattle.client_recover.specs.Standing.{IsAsBefore, StandsFor, Takes, TakesOf}
use Rattle.client_recover.specs.Taken.{PursuitValue, TakenValue, TakenVote, TakenLog, TakenCertificate}
use Rattle.frame_views.specs.Values.{MessageValue, VotedValue, LogReplyValue, WritebackValue, Vote, LogReply, Writeback}
use Rattle.keyring.specs.Signing.{Signing}
use Rattle.node_steps.specs.Refusing.{unless}
use Rattle.client_core.specs.declared.held.Formed.{Formed}
use Rattle.client_core.specs.declared.held.Held.{Held}
use Rattle.client_core.specs.declared.held.Slot.{Slot}
use Rattle.client_steps.specs.declared.sending.Sending.{Sending}
use Rattle.client_core.specs.declared.work.ClientPlan.{ClientPlan}
use Rattle.client_core.specs.declared.work.Work.TheVariants.{Take}
use Rattle.client_core.specs.Calls.{pursuit_done}
use Rattle.client_core.specs.Clients.{ClientSelf, SlotValue, ClientValue}
use Rattle.client_core.specs.Frames.{HeldValue, held_at, held_at_slot, held_with, on_vote, on_log_reply, on_writeback, taken_by}
use Rattle.client_core.specs.Receiving.{HoldsBack, IsPlannedFrame, IsTake}
use Rattle.client_steps.specs.Sending.{IsSending}
use Rattle.client_core.specs.Showing.{ShowsFormed, ShowsHeld, ShowsPursuit, ShowsSlot, slot_value, KeepsReads}
use Rattle.client_core.specs.Slots.{is_named, slot_of_id}
use Rattle.client_core.specs.Taking.{by_taken, on_named, on_pursuit, taken_of, WillStand}
use Rattle.client_core.specs.Works.{CanPerform, IsPlanOf, Leaves, WillDo, sealed_by, words_by}
use Rattle.client_core.proofs.PlanLaws.{ready_at}
use Rattle.client_core.proofs.FoundLaws.{position_passes}
use Rattle.client_core.proofs.HeldLaws.{held_same}
use Rattle.client_core.proofs.ReadingLaws.{shown_at}

-- ---- the slot of an id

is_the_named : (named : List ℕ) (i : ℕ) (s : SlotValue) (h : HeldValue) →
    is_named named s ≡ true → (o : Option PursuitValue) → s.pursuit ≡ o
    → option_map (λ (p : PursuitValue). let x : HeldValue = record { place = i; slot = s; pursuit = p } in x) o ≡ Some h
    → bytes_eq named (id h.pursuit.transaction) ≡ true
is_the_named named i s h passes None is e = absurd cc
is_the_named named i s h passes (Some p) is e =
    let x : HeldValue = record { place = i; slot = s; pursuit = p } in
    ap (λ (y : HeldValue). bytes_eq named (id y.pursuit.transaction)) (sym (same_Some x h e))
    ∙ sym (ap (λ o. option_map_or (λ (q : PursuitValue). bytes_eq named (id q.transaction)) o false) is)
    ∙ passes

named_at : (v : ClientValue) (named : List ℕ) (i : ℕ) (h : HeldValue) →
    slot_of_id v named ≡ Some i → (o : Option SlotValue) → slice_get v.slots i ≡ o
    → option_and_then (held_at_slot i) o ≡ Some h → bytes_eq named (id h.pursuit.transaction) ≡ true
named_at v named i h found None at e = absurd cc
named_at v named i h found (Some s) at e =
    is_the_named named i s h (position_passes (is_named named) v.slots i s found at) s.pursuit refl e

named_in : (v : ClientValue) (named : List ℕ) (h : HeldValue) (o : Option ℕ) →
    slot_of_id v named ≡ o → option_and_then (held_at v) o ≡ Some h
    → bytes_eq named (id h.pursuit.transaction) ≡ true
named_in v named h None found e = absurd cc
named_in v named h (Some i) found e = named_at v named i h found (slice_get v.slots i) refl e

pub held_named : (v : ClientValue) (named : List ℕ) (h : HeldValue) →
    held_with v named ≡ Some h → bytes_eq named (id h.pursuit.transaction) ≡ true
held_named v named h e = named_in v named h (slot_of_id v named) refl e

pub named_found : (me : ClientSelf) (v : ClientValue) (named : List ℕ) (m : MessageValue) (i : ℕ) (s : SlotValue) →
    slot_of_id v named ≡ Some i
    → slice_get v.slots i ≡ Some s → on_named me v named m ≡ on_pursuit me v m (held_at_slot i s)
named_found me v named m i s found at =
    ap (λ o. on_pursuit me v m (option_and_then (held_at v) o)) found ∙ ap (λ o. on_pursuit me v m (option_and_then (held_at_slot i) o)) at

pub named_missing : (me : ClientSelf) (v : ClientValue) (named : List ℕ) (m : MessageValue) →
    slot_of_id v named ≡ None → on_named me v named m ≡ Err NotMine
named_missing me v named m found = ap (λ o. on_pursuit me v m (option_and_then (held_at v) o)) found

-- ---- the kinds

module _ (me : ClientSelf) (v : ClientValue) where
  by_fault : (h : HeldValue) (x : TakenValue) (f : Option FrameFault)
      → unless f (pursuit_done v h.place h.slot (take_frame me.cluster h.pursuit x)) ≡ by_taken me v h (unless f x)
  by_fault h x None = refl
  by_fault h x (Some fault) = refl

  pub kind_law : (fault : TransactionValue → Option FrameFault) (x : TakenValue) (m : MessageValue) (named : List ℕ)
      → ((t : TransactionValue) → taken_of me.accepts me.cluster t m ≡ if_mine named t (fault t) x)
      → on_named me v named m ≡ taken_by me v fault x (held_with v named)
  kind_law fault x m named each = by (held_with v named) refl
    where
      by : (o : Option HeldValue) → held_with v named ≡ o → on_pursuit me v m o ≡ taken_by me v fault x o
      by None e = refl
      by (Some h) e =
          let t = h.pursuit.transaction in
          let mine : Bool → Result TakenValue FrameFault = λ b. cond b (unless (fault t) x) (Err NotMine) in
          ap (by_taken me v h) (each t ∙ ap mine (held_named v named h e)) ∙ sym (by_fault h x (fault t))

  pub vote_law : (w : VotedValue) → on_named me v w.id (Vote w) ≡ on_vote me v w
  vote_law w = kind_law (λ t. vote_fault me.accepts me.cluster t w) (TakenVote w) (Vote w) w.id (λ t. refl)

  pub log_law : (w : LogReplyValue) → on_named me v w.id (LogReply w) ≡ on_log_reply me v w
  log_law w = kind_law (λ t. log_fault me.accepts me.cluster t w) (TakenLog w) (LogReply w) w.id (λ t. refl)

  pub writeback_law : (w : WritebackValue) → on_named me v (id w.transaction) (Writeback w) ≡ on_writeback me v w
  writeback_law w =
      kind_law (λ t. writeback_fault me.accepts me.cluster t w)
      (TakenCertificate w.certificate) (Writeback w) (id w.transaction) (λ t. refl)

-- ---- a pursuit

pub taken_ok : (r : Result TakenValue FrameFault) (old new : Pursuit) → TakesOf r old new → (x : TakenValue) × (r ≡ Ok x) × Takes old new x
taken_ok (Ok x) old new h = (x, refl, h)
taken_ok (Err fault) old new h = absurd h

pub unchanged : (u : Pursuit) → IsAsBefore u u
unchanged u = record { now = λ p h. h; back = λ p h. h }

pub pursuit_in : (f : Formed) (o : Option PursuitValue) → ShowsFormed (Some f) o → (p : PursuitValue) × (o ≡ Some p) × ShowsPursuit f p
pursuit_in f None h = absurd h
pursuit_in f (Some p) h = (p, refl, h)

pub formed_shows : (f g : Formed) → ((p : PursuitValue) → ShowsPursuit f p → ShowsPursuit g p) →
    (o : Option PursuitValue) → ShowsFormed (Some f) o
    → ShowsFormed (Some g) o
formed_shows f g each None h = absurd h
formed_shows f g each (Some p) h = each p h

pub slot_formed : (slot new : Slot) (s : SlotValue) →
    ShowsSlot slot s → new ≡ record slot { formed = new.formed } → ShowsFormed new.formed s.pursuit
    → ShowsSlot new s
slot_formed slot new s h same formed =
    record {
      value = h.value ∙ ap (λ (x : Slot). slot_value x s.reads s.pursuit) (sym same);
      reads = subst (λ (x : Slot). KeepsReads x.reads.items s.reads) (sym same) h.reads;
      formed = formed;
    }

-- ---- plans

pub got_set : {A : Type 0} (xs : List A) (i : ℕ) (x y : A) → slice_get xs i ≡ Some x → slice_get (slice_set xs i y) i ≡ Some y
got_set [] i x y e = absurd cc
got_set (z ∷ zs) zero x y e = refl
got_set (z ∷ zs) (suc i) x y e = got_set zs i x y e

pub holds_taken : (A : Accepted) (c before now : Setting)
    (p : PursuitValue) (m : MessageValue) (x : TakenValue) (f : Formed) (plan : ClientPlan)
    (slot : ℕ) (s : Sending) → before ≡ c → now ≡ before → taken_of A before p.transaction m ≡ Ok x
    → StandsFor f.pursuit (take_frame before p x).pursuit → IsSending s f.second (take_frame now p x) → plan.work ≡ Take slot s.starts
    → plan.out ≡ s.out → (taken_of A c p.transaction m ≡ Ok x) × HoldsBack f plan slot (take_frame c p x)
holds_taken A c before now p m x f plan slot s is same took stands sends work out =
    let sent : IsSending s f.second (take_frame c p x) =
    subst (λ (k : Setting). IsSending s f.second (take_frame k p x)) (same ∙ is) sends in (
      ap (λ (k : Setting). taken_of A k p.transaction m) (sym is) ∙ took,
      record {
        starts = s.starts;
        work = work;
        stands = subst (λ (k : Setting). StandsFor f.pursuit (take_frame k p x).pursuit) is stands;
        second = sent.starts;
        messages = ap (λ (o : Outbox). o.messages.items) out ∙ sent.messages;
        signed = ap (λ (o : Outbox). o.signed.items) out ∙ sent.signed;
      },
    )

-- where the messages can't be counted, memory is wanting
pub sent_taken : (A : Accepted) (c before now : Setting) (p : PursuitValue) (m : MessageValue) (x : TakenValue) (f : Formed) (slot : ℕ)
    (s : Sending) (r : Result ClientPlan FrameFault) → IfOk r (IsPlanOf 0 (Take slot s.starts) s.out) → IfErr r (λ e. e ≡ NoMemory)
    → before ≡ c → now ≡ before → taken_of A before p.transaction m ≡ Ok x → StandsFor f.pursuit (take_frame before p x).pursuit
    → IsSending s f.second (take_frame now p x) → IsTake c f p slot r (taken_of A c p.transaction m)
sent_taken A c before now p m x f slot s (Ok plan) ok err is same took stands sends =
    let both = holds_taken A c before now p m x f plan slot s is same took stands sends ok.does ok.sends in (x, both.0, both.1)
sent_taken A c before now p m x f slot s (Err e) ok err is same took stands sends = λ wanting. absurd (wanting err)

pub sent_ready : (size left slot : ℕ) (held : Held) (s : Sending) (r : Result ClientPlan FrameFault)
    → IfOk r (IsPlanOf 0 (Take slot s.starts) s.out) → slot < length held.slots.items → s.out.signed.items ≡ []
    → IfOk r (CanPerform size left held)
sent_ready size left slot held s (Ok plan) ok within none = ready_at 0 (Take slot s.starts) s.out plan ok size left held refl within none
sent_ready size left slot held s (Err e) ok within none = ok

pub take_done : (signing : Signing) (held : Held)
    (me : ClientSelf) (v : ClientValue) (i : ℕ) (s : SlotValue) (p : PursuitValue) (f : Formed) (x : Slot)
    (plan : ClientPlan) (d : PursuitDone)
    → ShowsHeld held v → slice_get v.slots i ≡ Some s → slice_get held.slots.items i ≡ Some x → x.formed ≡ Some f → HoldsBack f plan i d
    → WillDo signing held v plan (pursuit_done v i s d)
take_done signing held me v i s p f x plan d h at there is holds =
    let stands : WillStand holds.starts d.pursuit (Some f) = (holds.stands, holds.second) in
    let each = λ (y : Slot) (e : slice_get held.slots.items i ≡ Some y). subst (λ (z : Slot). WillStand holds.starts d.pursuit z.formed)
    (same_Some x y (sym there ∙ e)) (subst (WillStand holds.starts d.pursuit) (sym is) stands) in
    record {
      leaves =
          subst (λ w. Leaves signing held v w (pursuit_done v i s d).client) (sym holds.work)
          (h, (s, d.pursuit, at, refl, each));
      words = ap words_by holds.work;
      messages =
          ap (λ w. plan.out.messages.items ++ sealed_by signing v.pen w) holds.work
          ∙ append-nil plan.out.messages.items ∙ holds.messages;
    }

pub takes_planned : (signing : Signing) (held : Held)
    (me : ClientSelf) (v : ClientValue) (i : ℕ) (s : SlotValue) (p : PursuitValue) (f : Formed) (x : Slot)
    (result : Result ClientPlan FrameFault) (taken : Result TakenValue FrameFault)
    → ShowsHeld held v → slice_get v.slots i ≡ Some s →
    slice_get held.slots.items i ≡ Some x → x.formed ≡ Some f → IsTake me.cluster f p i result taken
    → IsPlannedFrame signing held v result (by_taken me v (record { place = i; slot = s; pursuit = p }) taken)
takes_planned signing held me v i s p f x (Ok plan) taken h at there is (y, took, holds) =
    let k : HeldValue = record { place = i; slot = s; pursuit = p } in (
      pursuit_done v i s (take_frame me.cluster p y),
      ap (by_taken me v k) took,
      take_done signing held me v i s p f x plan (take_frame me.cluster p y) h at there is holds,
    )
takes_planned signing held me v i s p f x (Err e) taken h at there is refused =
    λ wanting. ap (by_taken me v (let k : HeldValue = record { place = i; slot = s; pursuit = p } in k)) (refused wanting)

-- ---- the pursuit in a slot

module _ (old new : Held) (i : ℕ) (x changed : Slot) (f g : Formed) (at : slice_get old.slots.items i ≡ Some x) (is : x.formed ≡ Some f)
    (last : new.last ≡ old.last) (set : new.slots.items ≡ slice_set old.slots.items i changed)
    (same : changed ≡ record x { formed = Some g })
    (each : (p : PursuitValue) → ShowsPursuit f p → ShowsPursuit g p) where
  formed_now : (s : SlotValue) → ShowsSlot x s → ShowsFormed (Some f) s.pursuit
  formed_now s h = subst (λ (o : Option Formed). ShowsFormed o s.pursuit) is h.formed

  changed_formed : changed.formed ≡ Some g
  changed_formed = ap (λ (y : Slot). y.formed) same

  changed_shows : (s : SlotValue) → ShowsSlot x s → ShowsSlot changed s
  changed_shows s h =
      slot_formed x changed s h (same ∙ ap (λ (o : Option Formed). let y : Slot = record x { formed = o } in y) (sym changed_formed))
      (subst (λ (o : Option Formed). ShowsFormed o s.pursuit) (sym changed_formed) (formed_shows f g each s.pursuit (formed_now s h)))

  pub taken_shows : (v : ClientValue) → ShowsHeld old v → ShowsHeld new v
  taken_shows v h = held_same old new i x changed at last set changed_shows v h

  pub taken_planned : (signing : Signing)
      (me : ClientSelf) (v : ClientValue) (s : SlotValue) (m : MessageValue) (result : Result ClientPlan FrameFault)
      → ((p : PursuitValue) → ShowsPursuit f p → IsTake me.cluster g p i result (taken_of me.accepts me.cluster p.transaction m))
      → ShowsHeld old v → slice_get v.slots i ≡ Some s → IsPlannedFrame signing new v result (on_pursuit me v m (held_at_slot i s))
  taken_planned signing me v s m result take h at_s =
      let found = pursuit_in f s.pursuit (formed_now s (shown_at old v i x s h at at_s)) in
      let p = found.0 in
      let there : slice_get new.slots.items i ≡ Some changed =
      ap (λ (l : List Slot). slice_get l i) set ∙ got_set old.slots.items i x changed at in
      subst (λ (o : Option PursuitValue). IsPlannedFrame signing new v result
      (on_pursuit me v m (option_map (λ (q : PursuitValue). let k : HeldValue = record { place = i; slot = s; pursuit = q } in k) o)))
      (sym found.1)
      (takes_planned signing new me v i s p g changed result
      (taken_of me.accepts me.cluster p.transaction m) (taken_shows v h) at_s there changed_formed
      (take p found.2))

pub not_formed : (me : ClientSelf) (v : ClientValue) (m : MessageValue) (i : ℕ) (x : Slot) (s : SlotValue) → ShowsSlot x s → x.formed ≡ None
    → on_pursuit me v m (held_at_slot i s) ≡ Err NotMine
not_formed me v m i x s h is = by s.pursuit (subst (λ (o : Option Formed). ShowsFormed o s.pursuit) is h.formed)
  where
    by : (o : Option PursuitValue) → ShowsFormed None o
        → on_pursuit me v m
        (option_map (λ (q : PursuitValue). let k : HeldValue = record { place = i; slot = s; pursuit = q } in k) o) ≡ Err NotMine
    by None none = refl
    by (Some p) none = absurd none
