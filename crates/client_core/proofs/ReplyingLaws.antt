-- What a reply does to a read that was asked for.
use Rattle.std.proofs.Common.{◌≡◌, ◌∙◌, ℕ, zero, suc, Bool, true, false, cond, List, [], ◌∷◌, ◌++◌, map, refl, sym, ap, subst}
use Rattle.std.specs.Prelude.{Some, None, option_map, Err, ◌||◌, ◌==◌, slice_get, slice_set}
use Rattle.std.specs.List.{list_any, flat_map}
use Rattle.std.proofs.lemmas.Grind.{flat_map-append}
use Rattle.std.proofs.lemmas.List.{map-append, append-nil}
use Rattle.std.proofs.lemmas.Option.{same_Some, slice_get-map}
use Rattle.basil_types.specs.Built.{or_else}
use Rattle.basil_types.specs.Setting.{Setting}
use Rattle.certificates.specs.Accepted.{Accepted}
use Rattle.certificates.specs.declared.fault.FrameFault.TheVariants.{NotMine}
use Rattle.client_reads.specs.Replies.{reply_fault}
use Rattle.client_reads.specs.Versions.{carried_versions}
use Rattle.client_reads.specs.declared.versions.ReplyVersions.{ReplyVersions}
use Rattle.frame_views.specs.Values.{ReadReplyValue}
use Rattle.keyring.specs.Signing.{Signing}
use Rattle.node_steps.specs.Refusing.{when, unless}
use Rattle.client_core.specs.declared.asking.Asking.{Asking}
use Rattle.client_core.specs.declared.held.Held.{Held}
use Rattle.client_core.specs.declared.held.Slot.{Slot}
use Rattle.client_core.specs.declared.replies.Carried.{Carried}
use Rattle.client_core.specs.declared.replies.KeptReply.{KeptReply}
use Rattle.client_core.specs.declared.work.ClientPlan.{ClientPlan}
use Rattle.client_core.specs.declared.work.Work.TheVariants.{Nothing}
use Rattle.client_core.specs.Clients.{AskedRead, SlotValue, ClientSelf, ClientValue, quiet}
use Rattle.client_core.specs.Frames.{on_read_reply, read_asked, reply_at, reply_by, reply_taken, reply_to_time, with_reply}
use Rattle.client_core.specs.Keeping.{with_kept}
use Rattle.client_core.specs.Kept.{KeptRead, carried_in, kept_read, reply_kept, shown_read}
use Rattle.client_core.specs.Replying.{asked_fault, kept_with, IsPlaceOf}
use Rattle.client_core.specs.Showing.{KeepsReads, ShowsHeld, ShowsSlot, ShowsSlots}
use Rattle.client_core.specs.Slots.{asked, is_chosen, put_read, slot_of_time, with_slot}
use Rattle.client_core.specs.Works.{Leaves, WillDo, sealed_by, words_by}
use Rattle.client_core.proofs.HeldLaws.{put_keeps, set_own, slot_reads}
use Rattle.client_core.proofs.ShowingLaws.{slots_set}

-- ---- what is kept

any_map : {A B : Type 0} (f : A → B) (p : B → Bool) (xs : List A) → list_any p (map f xs) ≡ list_any (λ x. p (f x)) xs
any_map f p [] = refl
any_map f p (x ∷ xs) = ap (λ b. p (f x) || b) (any_map f p xs)

abbrev replied : ReadReplyValue → AskedRead → Bool
replied m r = list_any (λ (x : ReadReplyValue). x.replica == m.replica) r.replies

abbrev with_more : ReadReplyValue → AskedRead → AskedRead
with_more m r = record r { replies = r.replies ++ m ∷ [] }

pub replied_law : (k : KeptRead) (r : AskedRead) (m : ReadReplyValue) →
    k ≡ kept_read r → list_any (λ (n : ℕ). n == m.replica) k.replied ≡ replied m r
replied_law k r m same =
    ap (λ (j : KeptRead). list_any (λ (n : ℕ). n == m.replica) j.replied) same
    ∙ any_map (λ (x : ReadReplyValue). x.replica) (λ (n : ℕ). n == m.replica) r.replies

abbrev kept_parts : List ℕ → List ℕ → List ReplyVersions → List Carried → KeptRead
kept_parts key ns vs cs = record { key = key; replied = ns; versions = vs; carried = cs }

more_kept : (r : AskedRead) (m : ReadReplyValue) → with_kept (kept_read r) (reply_kept r.key m) ≡ kept_read (with_more m r)
more_kept r m =
    let rs = r.replies in
    let replica : ReadReplyValue → ℕ = λ x. x.replica in
    let carries : ReadReplyValue → List Carried = λ x. carried_in (reply_kept r.key x) in
    ap (λ l. kept_parts r.key l (map carried_versions rs ++ carried_versions m ∷ []) (flat_map carries rs ++ carries m))
    (sym (map-append replica rs (m ∷ [])))
    ∙ ap (λ l. kept_parts r.key (map replica (rs ++ m ∷ [])) l (flat_map carries rs ++ carries m))
    (sym (map-append carried_versions rs (m ∷ [])))
    ∙ ap (kept_parts r.key (map replica (rs ++ m ∷ [])) (map carried_versions (rs ++ m ∷ [])))
    (sym (flat_map-append carries rs (m ∷ []) ∙ ap (λ l. flat_map carries rs ++ l) (append-nil (carries m))))

pub keeps_reply : (k : KeptRead) (r : AskedRead) (m : ReadReplyValue) (reply : KeptReply) → k ≡ kept_read r → reply ≡ reply_kept k.key m
    → list_any (λ (n : ℕ). n == m.replica) k.replied ≡ false → kept_with k (Some reply) ≡ kept_read (with_reply m r)
keeps_reply k r m reply same is new =
    ap (with_kept k) is
    ∙ ap (λ (j : KeptRead). with_kept j (reply_kept j.key m)) same
    ∙ more_kept r m
    ∙ sym (ap (λ b. kept_read (cond b r (with_more m r))) (sym (replied_law k r m same) ∙ new))

pub keeps_nothing : (k : KeptRead) (r : AskedRead) (m : ReadReplyValue) → k ≡ kept_read r
    → list_any (λ (n : ℕ). n == m.replica) k.replied ≡ true → kept_with k None ≡ kept_read (with_reply m r)
keeps_nothing k r m same old =
    same ∙ sym (ap (λ b. kept_read (cond b r (with_more m r))) (sym (replied_law k r m same) ∙ old))

-- ---- refusals

pub chosen_fault : (A : Accepted) (c : Setting) (number time : ℕ) (m : ReadReplyValue) (r : AskedRead) → is_chosen c r ≡ true
    → asked_fault A c number time m r ≡ Some NotMine
chosen_fault A c number time m r e =
    ap (λ b. or_else (when b NotMine) (reply_fault A c (record { key = r.key; time = time; client = number }) m)) e

pub open_fault : (A : Accepted) (c : Setting) (number time : ℕ) (m : ReadReplyValue) (r : AskedRead) → is_chosen c r ≡ false
    → asked_fault A c number time m r ≡ reply_fault A c (record { key = r.key; time = time; client = number }) m
open_fault A c number time m r e =
    ap (λ b. or_else (when b NotMine) (reply_fault A c (record { key = r.key; time = time; client = number }) m)) e

pub reply_by_law : (me : ClientSelf) (v : ClientValue) (place : ℕ) (s : SlotValue) (m : ReadReplyValue) (r : AskedRead)
    → reply_by me v place s m (Some r) ≡ unless (asked_fault me.accepts me.cluster me.number s.time m r) (reply_taken v place s m r)
reply_by_law me v place s m r = by (is_chosen me.cluster r)
  where
    by : (b : Bool)
        → cond b (Err NotMine) (unless (reply_fault me.accepts me.cluster (read_asked me s r) m) (reply_taken v place s m r))
        ≡ unless (or_else (when b NotMine) (reply_fault me.accepts me.cluster (read_asked me s r) m)) (reply_taken v place s m r)
    by true = refl
    by false = refl

-- ---- the reads of a slot

map_set : {A B : Type 0} (f : A → B) (xs : List A) (i : ℕ) (x y : A) →
    slice_get xs i ≡ Some x → f y ≡ f x → map f (slice_set xs i y) ≡ map f xs
map_set f [] i x y at e = refl
map_set f (z ∷ zs) zero x y at e = ap (λ w. w ∷ map f zs) (e ∙ ap f (sym (same_Some z x at)))
map_set f (z ∷ zs) (suc i) x y at e = ap (λ l. f z ∷ l) (map_set f zs i x y at e)

pub read_at : (asked : List Asking) (reads : List AskedRead) (i : ℕ) (a : Asking) (r : AskedRead) →
    KeepsReads asked reads → slice_get asked i ≡ Some a
    → slice_get reads i ≡ Some r → shown_read a ≡ kept_read r
read_at asked reads i a r keeps at_a at_r =
    same_Some (shown_read a) (kept_read r)
    (sym (ap (option_map shown_read) at_a) ∙ sym (slice_get-map shown_read asked i) ∙ ap (λ l. slice_get l i) keeps
    ∙ slice_get-map kept_read reads i ∙ ap (option_map kept_read) at_r)

pub same_reads : (asked : List Asking) (reads : List AskedRead) (i : ℕ) (a b : Asking) → KeepsReads asked reads → slice_get asked i ≡ Some a
    → shown_read b ≡ shown_read a → KeepsReads (slice_set asked i b) reads
same_reads asked reads i a b keeps at same = map_set shown_read asked i a b at same ∙ keeps

pub replied_reads : (asked : List Asking) (reads : List AskedRead) (i : ℕ) (a b : Asking) (r : AskedRead) → KeepsReads asked reads
    → b.key ≡ a.key → shown_read b ≡ kept_read r → IsPlaceOf a.key i asked → KeepsReads (slice_set asked i b) (put_read r reads)
replied_reads asked reads i a b r keeps key same place =
    subst (λ l. KeepsReads l (put_read r reads)) (place b key) (put_keeps asked reads b r keeps same)

pub slot_tells : (x : Slot) (s : SlotValue) (i : ℕ) (a : Asking) (r : AskedRead) → ShowsSlot x s → slice_get x.reads.items i ≡ Some a
    → shown_read a ≡ kept_read r → IsPlaceOf a.key i x.reads.items → ShowsSlot x (record s { reads = put_read r s.reads })
slot_tells x s i a r h at same place =
    slot_reads x x s (put_read r s.reads) h refl
    (subst (λ l. KeepsReads l (put_read r s.reads))
    (place a refl ∙ set_own x.reads.items i a at) (put_keeps x.reads.items s.reads a r h.reads same))

-- ---- plans

pub held_tells : (held : Held) (v : ClientValue) (i : ℕ) (x : Slot) (s : SlotValue) →
    ShowsHeld held v → slice_get held.slots.items i ≡ Some x
    → ShowsSlot x s → ShowsHeld held (with_slot v i s)
held_tells held v i x s h at one =
    record {
      last = h.last;
      slots =
          subst (λ l. ShowsSlots l (slice_set v.slots i s)) (set_own held.slots.items i x at)
          (slots_set held.slots.items v.slots i x s h.slots one);
    }

pub nothing_kept : (signing : Signing) (held : Held) (v after : ClientValue) (plan : ClientPlan) →
    plan.work ≡ Nothing → plan.out.messages.items ≡ []
    → ShowsHeld held after → after.pen ≡ v.pen → WillDo signing held v plan (quiet after)
nothing_kept signing held v after plan work none h pen =
    record {
      leaves = subst (λ w. Leaves signing held v w after) (sym work) (h, pen);
      words = ap words_by work;
      messages = ap (λ l. l ++ sealed_by signing v.pen plan.work) none ∙ ap (sealed_by signing v.pen) work;
    }

-- ---- the slot of a reply

pub reply_foreign : (me : ClientSelf) (v : ClientValue) (m : ReadReplyValue) →
    (m.client == me.number) ≡ false → on_read_reply me v m ≡ Err NotMine
reply_foreign me v m e = ap (λ b. cond b (reply_to_time me v m (slot_of_time v m.time)) (Err NotMine)) e

pub reply_unknown : (me : ClientSelf) (v : ClientValue) (m : ReadReplyValue) → (m.client == me.number) ≡ true → slot_of_time v m.time ≡ None
    → on_read_reply me v m ≡ Err NotMine
reply_unknown me v m e none =
    ap (λ b. cond b (reply_to_time me v m (slot_of_time v m.time)) (Err NotMine)) e ∙ ap (reply_to_time me v m) none

pub reply_in_slot : (me : ClientSelf) (v : ClientValue) (m : ReadReplyValue) (i : ℕ) (s : SlotValue) → (m.client == me.number) ≡ true
    → slot_of_time v m.time ≡ Some i → slice_get v.slots i ≡ Some s → on_read_reply me v m ≡ reply_by me v i s m (asked m.key s)
reply_in_slot me v m i s e found at =
    ap (λ b. cond b (reply_to_time me v m (slot_of_time v m.time)) (Err NotMine)) e
    ∙ ap (reply_to_time me v m) found
    ∙ ap (reply_at me v m i) at
