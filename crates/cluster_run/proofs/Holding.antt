-- Each call and each frame keeps what a client holds.
use Rattle.cluster_run.proofs.Ascending.{ascend_put, in_put, put_longer, put_same, above_not}
use Rattle.basil_types.specs.Transaction.{key_of_write}
use Rattle.std.specs.Option.{option_map_or}
use Rattle.cluster_run.proofs.Members.{in_cases, in_head, in_rest}
use Rattle.node_steps.specs.Refusing as refusing
use Rattle.std.proofs.Common.{◌≡◌, ℕ, zero, suc, ◌+◌, ◌<◌, ◌≤◌, ◌==◌, Bool, true, false, cond, not, ◌&&◌, ◌||◌, List, [], ◌∷◌, ◌++◌, length}
use Rattle.std.proofs.Common.{Option, Some, None, refl, sym, ap, subst, ◌∙◌, ◌⊎◌, inl, inr, arith}
use Rattle.std.specs.Prelude.{Contains, Result, Ok, Err, slice_get, slice_set, is_some, find, nat_lt, nat_le, ◌^◌, option_map}
use Rattle.std.specs.Prelude.{option_and_then}
use Rattle.std.specs.List.{list_any}
use Rattle.std.specs.Str.{bytes_eq}
use Rattle.std.proofs.lemmas.Bool.{cases_Bool, cases_eq, ltb-true, or_cases, and_parts, leb-true, leb-false, eqb-true, eqb-false}
use Rattle.basil_types.specs.declared.transaction.parts.WritePart.{WritePart}
use Rattle.basil_types.specs.Transaction.{TransactionValue, id}
use Rattle.basil_types.specs.Words.{SignedWords, TransactionWords}
use Rattle.client_core.specs.Answers.{on_message}
use Rattle.node_steps.specs.Pens.{PenValue, after_one}
use Rattle.client_core.specs.Calls as calls
use Rattle.client_core.specs.Calls.{at_slot, by_slot, begun_slot, call_begin, is_written, read_fault, read_at, read_done}
use Rattle.client_core.specs.Calls.{write_fault, pending, prepare_fault, prepare_done}
use Rattle.client_core.specs.Calls.{settle_by, recovered_slot, recover_held, recover_by, invoke_by, pursuit_done}
use Rattle.client_core.specs.Calls.{formed}
use Rattle.client_core.specs.Clients.{ClientSelf, ClientValue, ClientDone, SlotValue, AskedRead, quiet}
use Rattle.client_recover.specs.Owned.{unstarted}
use Rattle.client_recover.specs.Taken.{PursuitValue, TakenValue}
use Rattle.client_steps.specs.declared.fault.CallFault.{CallFault}
use Rattle.client_steps.specs.declared.fault.CallFault.TheVariants as callfault
use Rattle.client_core.specs.Frames.{HeldValue, held_at, held_with, taken_by, with_reply, reply_by, reply_at, reply_to_time, on_read_reply}
use Rattle.client_core.specs.Frames.{reply_taken, held_at_slot, read_asked}
use Rattle.client_recover.specs.Pursuits.{PursuitDone, start_second, still, settle, tell, go_on, took, take_frame, outcome}
use Rattle.basil_types.specs.Built.{key_fits, value_fits, write_fits}
use Rattle.basil_types.specs.Texts.{IsBytes, IsKey}
use Rattle.client_core.specs.Slots.{key_asked, is_of, asked, put_read, put_write, is_chosen}
use Rattle.client_core.specs.Slots.{slot_of_id, slot_of_time, with_slot, with_pursuit}
use Rattle.certificates.specs.declared.fault.FrameFault.{FrameFault}
use Rattle.certificates.specs.declared.fault.FrameFault.TheVariants.{NotMine}
use Rattle.client_reads.specs.Replies.{reply_fault}
use Rattle.frame_views.specs.Values.{MessageValue, ReadValue, ReadReplyValue, Read, ReadReply, St1, Vote, St2, LogReply, Writeback, Recover}
use Rattle.frame_views.specs.Values.{Invoke, Elect, Decide}
use Rattle.cluster_run.specs.Holding.{Takes, AscendBy, IsSlot, IsHeld, IsKept, IsWrite, AreSized}
use Rattle.cluster_run.specs.Holding.{OfKind, Signs, Went, ClientsGo}
use Rattle.cluster_run.proofs.Decides.{or_parts_none}
use Rattle.cluster_run.proofs.Seeing.{find_none, find_some}
use Rattle.cluster_run.proofs.Finding.{same_true, same_self, true_false, mapped_none, none_is, not_not, ok_is, some_is}
use Rattle.cluster_run.proofs.Marking.{none_in}

-- ---- lists by place

pub set_same : {X : Type 0} (xs : List X) (p : ℕ) (e x : X) → slice_get xs p ≡ Some e → slice_get (slice_set xs p x) p ≡ Some x
set_same [] p e x h = absurd cc
set_same (d ∷ es) zero e x h = refl
set_same (d ∷ es) (suc p) e x h = set_same es p e x h

pub set_other : {X : Type 0} (xs : List X) (p q : ℕ) (x : X) → (q ≡ p → ⊥) → slice_get (slice_set xs p x) q ≡ slice_get xs q
set_other [] p q x n = refl
set_other (d ∷ es) zero zero x n = absurd (n refl)
set_other (d ∷ es) zero (suc q) x n = refl
set_other (d ∷ es) (suc p) zero x n = refl
set_other (d ∷ es) (suc p) (suc q) x n = set_other es p q x (λ e. n (ap suc e))

get_pushed : {X : Type 0} (xs : List X) (p : ℕ) (a x : X) → slice_get xs p ≡ Some a → slice_get (xs ++ x ∷ []) p ≡ Some a
get_pushed [] p a x h = absurd cc
get_pushed (y ∷ ys) zero a x h = h
get_pushed (y ∷ ys) (suc p) a x h = get_pushed ys p a x h

pushed_cases : {X : Type 0} (xs : List X) (p : ℕ) (a x : X) → slice_get (xs ++ x ∷ []) p ≡ Some a → (slice_get xs p ≡ Some a)
    ⊎ ((p ≡ length xs) × (x ≡ a))
pushed_cases [] zero a x h = inr (refl, (let is : x ≡ a = cc in is))
pushed_cases [] (suc p) a x h = absurd cc
pushed_cases (y ∷ ys) zero a x h = inl h
pushed_cases (y ∷ ys) (suc p) a x h = elim (pushed_cases ys p a x h) [ inl i ↦ inl i | inr j ↦ inr (ap suc j.0, j.1) ]

-- ---- reads in order

-- the read of a key is the one that is found
pub asked_in : (rs : List AskedRead) (r : AskedRead) → AscendBy key_asked rs → Contains rs r → find (is_of r.key) rs ≡ Some r
asked_in [] r a i = absurd (none_in r i)
asked_in (x ∷ xs) r a i = elim (in_cases r x xs i) [
  | inl e ↦ ap (λ b. cond b (Some x) (find (is_of r.key) xs)) (ap (λ (z : AskedRead). bytes_eq z.key r.key) e ∙ same_self r.key)
      ∙ ap (λ (z : AskedRead). Some z) e
  | inr j ↦ ap (λ b. cond b (Some x) (find (is_of r.key) xs)) (above_not key_asked x.key xs r a.0 j) ∙ asked_in xs r a.1 j
]

-- ---- answers without a fault

pub call_ok : {A : Type 0} (o : Option CallFault) (a d : A) → refusing.unless o a ≡ Ok d → (o ≡ None) × (a ≡ d)
call_ok None a d h = (refl, ok_is a d (refusing.unless None a) refl h)
call_ok (Some f) a d h = absurd cc

frame_ok : {A : Type 0} (o : Option FrameFault) (a d : A) → refusing.unless o a ≡ Ok d → (o ≡ None) × (a ≡ d)
frame_ok None a d h = (refl, ok_is a d (refusing.unless None a) refl h)
frame_ok (Some f) a d h = absurd cc

when_not : (b : Bool) (f : CallFault) → refusing.when (not b) f ≡ None → b ≡ true
when_not true f h = refl
when_not false f h = absurd cc

pub not_some : {X : Type 0} (o : Option X) (f : CallFault) → refusing.when (is_some o) f ≡ None → o ≡ None
not_some None f h = refl
not_some (Some x) f h = absurd cc

-- a written key has a write
written_in : (key : List ℕ) (ws : List WritePart) → list_any (λ (w : WritePart). bytes_eq w.key key) ws ≡ true → (w : WritePart)
    × Contains ws w × (w.key ≡ key)
written_in key [] h = absurd cc
written_in key (w ∷ ws) h = elim (or_cases (bytes_eq w.key key) (list_any (λ (w : WritePart). bytes_eq w.key key) ws) h) [
  | inl e ↦ (w, in_head w ws, same_true w.key key e)
  | inr j ↦ let z = written_in key ws j in (z.0, in_rest w z.0 ws z.1, z.2)
]

pub not_true : (b : Bool) (f : CallFault) → refusing.when b f ≡ None → b ≡ false
not_true true f h = absurd cc
not_true false f h = refl

spent_one : (pen : PenValue) → (pen.left == 0) ≡ false → (after_one pen).spent + (after_one pen).left ≡ pen.spent + pen.left
spent_one pen h = (let n = eqb-false pen.left 0 h in omega (arith, n))

not_many : (n : ℕ) → nat_le 32 n ≡ false → n < 32
not_many n h = leb-false 32 n h

key_sized : (key : List ℕ) → key_fits key ≡ true → IsBytes key → IsKey key
key_sized key h b =
    let p = and_parts (nat_le 1 (length key)) (nat_le (length key) 64) h
    in record { some = leb-true 1 (length key) p.0; short = leb-true (length key) 64 p.1; bytes = b }

no_bytes : (v : List ℕ) → (length v == 0) ≡ true → v ≡ []
no_bytes [] h = refl
no_bytes (b ∷ bs) h = (let e = eqb-true (length (b ∷ bs)) 0 h in absurd (omega (arith, e)))

write_sized : (w : WritePart) → write_fits w ≡ true → IsBytes w.key → IsBytes w.value → IsWrite w
write_sized w h k v =
    let p = and_parts (key_fits w.key) (value_fits w) h in
    let z = by w.deletes refl p.1 in
    record { key = key_sized w.key p.0 k; value = record { short = z.0; bytes = v }; deletes = z.1 }
  where
    by : (b : Bool) → w.deletes ≡ b → cond b (length w.value == 0) (nat_le (length w.value) 256) ≡ true → (length w.value ≤ 256)
        × (w.deletes ≡ true → w.value ≡ [])
    by true e h = (let z = eqb-true (length w.value) 0 h in (omega (arith, z), λ _. no_bytes w.value h))
    by false e h = (leb-true (length w.value) 256 h, λ d. (let q : true ≡ false = sym d ∙ e in absurd cc))

module _ (me : ClientSelf) (Took : Takes) (E : OfKind) (c : ClientValue) (held : IsHeld me Took c) where
  abbrev W : ClientDone → Type 0
  W d = Went me Took E c d

  to : (a d : ClientDone) → a ≡ d → W a → W d
  to a d e w = subst W e w

  kept_self : (o : Option SlotValue) (slot : SlotValue) → o ≡ Some slot → IsKept o slot
  kept_self o slot e = record { slot = slot; stands = e; begun = refl; time = refl; pursues = λ p h. (p, h, refl) }

  -- nothing but the pen or what is sent
  pub quiet_went : (d : ClientDone) → d.client ≡ c → d.signed ≡ [] → W d
  quiet_went d e n = record {
    held = subst (IsHeld me Took) (sym e) held;
    pen = ap (λ (z : ClientValue). z.pen.spent + z.pen.left) e;
    keeps = λ place slot h. kept_self (slice_get d.client.slots place) slot (ap (λ (z : ClientValue). slice_get z.slots place) e ∙ h);
    signs = λ w i. absurd (none_in w (subst (λ l. Contains l w) n i));
  }

  -- ---- a slot that comes

  push_went : (d : ClientDone) (s : SlotValue) → IsSlot me Took s → d.client.slots ≡ c.slots ++ s ∷ [] → c.last ≤ d.client.last →
      (s.begun ≡ true → (c.last < s.time) × (s.time ≤ d.client.last)) → d.client.pen ≡ c.pen → d.signed ≡ [] → W d
  push_went d s is e up new pen n = record {
    pen = ap (λ (z : PenValue). z.spent + z.left) pen;
    held = record {
      slots = λ p a h. elim (cases p a h) [ inl i ↦ held.slots p a i | inr j ↦ subst (IsSlot me Took) j.1 is ];
      under = λ p a h b. elim (cases p a h) [
        | inl i ↦ (let l = held.under p a i b in omega (arith, l, up))
        | inr j ↦ subst (λ (z : SlotValue). z.time ≤ d.client.last) j.1 (new (ap (λ (z : SlotValue). z.begun) j.1 ∙ b)).1
      ];
      apart = λ p q a b h k x y t. elim (cases p a h) [
        | inl i ↦ elim (cases q b k) [
          | inl j ↦ held.apart p q a b i j x y t
          | inr j ↦ absurd (let l = held.under p a i x in let m = subst (λ (z : SlotValue). c.last < z.time) j.1
              (new (ap (λ (z : SlotValue). z.begun) j.1 ∙ y)).0 in omega (arith, l, m, t))
        ]
        | inr i ↦ elim (cases q b k) [
          | inl j ↦ absurd (let l = held.under q b j y in let m = subst (λ (z : SlotValue). c.last < z.time) i.1
              (new (ap (λ (z : SlotValue). z.begun) i.1 ∙ x)).0 in omega (arith, l, m, t))
          | inr j ↦ i.0 ∙ sym j.0
        ]
      ];
    };
    keeps = λ place slot h. kept_self (slice_get d.client.slots place) slot
        (ap (λ (z : List SlotValue). slice_get z place) e ∙ get_pushed c.slots place slot s h);
    signs = λ w i. absurd (none_in w (subst (λ l. Contains l w) n i));
  }
    where
      cases : (p : ℕ) (a : SlotValue) → slice_get d.client.slots p ≡ Some a → (slice_get c.slots p ≡ Some a)
          ⊎ ((p ≡ length c.slots) × (s ≡ a))
      cases p a h = pushed_cases c.slots p a s (ap (λ (z : List SlotValue). slice_get z p) (sym e) ∙ h)

  -- ---- a slot that changes

  module _ (place : ℕ) (was : SlotValue) (at : slice_get c.slots place ≡ Some was) where
    set_went : (d : ClientDone) (s : SlotValue) → IsSlot me Took s → s.begun ≡ was.begun → s.time ≡ was.time →
        ((p : PursuitValue) → was.pursuit ≡ Some p → (q : PursuitValue) × (s.pursuit ≡ Some q) × (q.transaction ≡ p.transaction)) →
        d.client.slots ≡ slice_set c.slots place s → d.client.last ≡ c.last → d.client.pen.spent + d.client.pen.left
        ≡ c.pen.spent + c.pen.left → ((w : SignedWords) → Contains d.signed w → Signs E d.client w) → W d
    set_went d s is same_begun same_time pursues e l pen signs = record {
      pen = pen;
      held = record {
        slots = λ p a h. elim (cases p a h) [ inl i ↦ subst (IsSlot me Took) i.1 is | inr j ↦ held.slots p a j ];
        under = λ p a h b. (let z = was_so p a h in let u = held.under p z.0 z.1 (z.2 ∙ b) in subst (λ (n : ℕ). a.time ≤ n) (sym l)
            (subst (λ (n : ℕ). n ≤ c.last) z.3 u));
        apart = λ p q a b h k x y t. let z = was_so p a h in let v = was_so q b k in held.apart p q z.0 v.0 z.1 v.1 (z.2 ∙ x) (v.2 ∙ y)
            (z.3 ∙ t ∙ sym v.3);
      };
      keeps = λ p a h. elim (cases_eq p place) [
        | inl i ↦
            let is_was : was ≡ a = some_is was a (slice_get c.slots place) at (ap (slice_get c.slots) (sym i) ∙ h) in
            subst (λ (z : SlotValue). IsKept (slice_get d.client.slots p) z) is_was
            (record {
              slot = s;
              stands = ap (λ (z : List SlotValue). slice_get z p) e ∙ ap (slice_get (slice_set c.slots place s)) i
                  ∙ set_same c.slots place was s at;
              begun = same_begun;
              time = same_time;
              pursues = pursues;
            })
        | inr n ↦ kept_self (slice_get d.client.slots p) a
            (ap (λ (z : List SlotValue). slice_get z p) e ∙ set_other c.slots place p s n ∙ h)
      ];
      signs = signs;
    }
      where
        cases : (p : ℕ) (a : SlotValue) → slice_get d.client.slots p ≡ Some a → ((p ≡ place) × (s ≡ a)) ⊎ (slice_get c.slots p ≡ Some a)
        cases p a h = elim (cases_eq p place) [
          | inl i ↦ inl (
            i,
            some_is s a (slice_get d.client.slots p)
                (ap (λ (z : List SlotValue). slice_get z p) e ∙ ap (slice_get (slice_set c.slots place s)) i
                ∙ set_same c.slots place was s at) h,
          )
          | inr n ↦ inr (sym (set_other c.slots place p s n) ∙ ap (λ (z : List SlotValue). slice_get z p) (sym e) ∙ h)
        ]

        -- the slot that was there
        was_so : (p : ℕ) (a : SlotValue) → slice_get d.client.slots p ≡ Some a → (z : SlotValue) × (slice_get c.slots p ≡ Some z)
            × (z.begun ≡ a.begun) × (z.time ≡ a.time)
        was_so p a h = elim (cases p a h) [
          | inl i ↦ (
            was,
            ap (slice_get c.slots) i.0 ∙ at,
            sym same_begun ∙ ap (λ (z : SlotValue). z.begun) i.1,
            sym same_time
                ∙ ap (λ (z : SlotValue). z.time) i.1,
          )
          | inr j ↦ (a, j, refl, refl)
        ]

    none_signed : (client : ClientValue) (w : SignedWords) → Contains [] w → Signs E client w
    none_signed client w i = absurd (none_in w i)

    is_was : IsSlot me Took was
    is_was = held.slots place was at

    -- a slot of the same parts
    same_sizes : (s : SlotValue) → s.begun ≡ was.begun → s.time ≡ was.time → s.reads ≡ was.reads → s.writes ≡ was.writes → AreSized s
    same_sizes s b t r w =
        let z = is_was.sizes in
        record {
          time = λ h. subst (λ (n : ℕ). n < 2 ^ 64) (sym t) (z.time (sym b ∙ h));
          few_reads = subst (λ (l : List AskedRead). length l ≤ 32) (sym r) z.few_reads;
          keys = λ q i. z.keys q (subst (λ (l : List AskedRead). Contains l q) r i);
          few_writes = subst (λ (l : List WritePart). length l ≤ 32) (sym w) z.few_writes;
          rise = subst (AscendBy key_of_write) (sym w) z.rise;
          writes = λ q i. z.writes q (subst (λ (l : List WritePart). Contains l q) w i);
        }

    -- its pursuit goes on
    pursuit_went : (p : PursuitValue) (d : PursuitDone) → was.pursuit ≡ Some p → d.pursuit.transaction ≡ p.transaction →
        W (pursuit_done c place was d)
    pursuit_went p d h same =
        set_went (pursuit_done c place was d) (with_pursuit was d.pursuit)
        (record {
          recovered = λ b. refl;
          ascend = is_was.ascend;
          sizes = same_sizes (with_pursuit was d.pursuit) refl refl refl refl;
          took = is_was.took;
          forms = λ b q k.
              let f = is_was.forms b p h in
              let is : d.pursuit ≡ q = some_is d.pursuit q (Some d.pursuit) refl k in
              record { made = ap (λ (z : PursuitValue). z.transaction) (sym is) ∙ same ∙ f.made; chosen = f.chosen };
        })
        refl refl (λ q k. (d.pursuit, refl, same ∙ ap (λ (z : PursuitValue). z.transaction) (some_is p q was.pursuit h k))) refl refl refl
        (none_signed _)

    -- a slot that pursues nothing yet was begun
    open_begun : was.pursuit ≡ None → was.begun ≡ true
    open_begun n = elim (cases_Bool was.begun) [
      | inl b ↦ b
      | inr b ↦ (let q : false ≡ true = sym (ap is_some n) ∙ is_was.recovered b in absurd cc)
    ]

    -- its reads change while it pursues nothing, or its writes do
    open_went : (d : ClientDone) (s : SlotValue) → was.pursuit ≡ None → s.pursuit ≡ was.pursuit → s.begun ≡ was.begun → s.time ≡ was.time →
        AscendBy key_asked s.reads → AreSized s → ((r : AskedRead) → Contains s.reads r → (m : ReadReplyValue) → Contains r.replies m →
        Took (read_asked me s r) m) →
        d.client ≡ with_slot c place s → d.signed ≡ [] → W d
    open_went d s n same sb st asc sized took e z =
        let none : s.pursuit ≡ None = same ∙ n in
        set_went d s
        (record {
          recovered = λ b. (let q : true ≡ false = sym (open_begun n) ∙ sym sb ∙ b in absurd cc);
          ascend = asc;
          sizes = sized;
          took = took;
          forms = λ b p k. (let q : None ≡ Some p = sym none ∙ k in absurd cc);
        })
        sb st (λ p k. (let q : None ≡ Some p = sym n ∙ k in absurd cc)) (ap (λ (v : ClientValue). v.slots) e)
        (ap (λ (v : ClientValue). v.last) e) (ap (λ (v : ClientValue). v.pen.spent + v.pen.left) e)
        (λ w i. absurd (none_in w (subst (λ l. Contains l w) z i)))

    -- a reply of a read that has no choice yet
    reply_went : (m : ReadReplyValue) (r : AskedRead) → Contains was.reads r → is_chosen me.cluster r ≡ false →
        Took (read_asked me was r) m → W (reply_taken c place was m r)
    reply_went m r i n t =
        let s : SlotValue = record was { reads = put_read (with_reply m r) was.reads } in
        set_went (reply_taken c place was m r) s
        (record {
          recovered = is_was.recovered;
          ascend = ascend_put key_asked (with_reply m r) was.reads is_was.ascend;
          sizes = (let z = is_was.sizes in record {
            time = z.time;
            few_reads =
                (let l = put_same key_asked (with_reply m r) r was.reads
                (reply_key (list_any (λ (x : ReadReplyValue). x.replica == m.replica) r.replies)) is_was.ascend i in subst
                (λ (n : ℕ). n ≤ 32) (sym l) z.few_reads);
            keys = λ q j. elim (in_put key_asked (with_reply m r) was.reads q j) [
              | inl e ↦ subst (λ (v : AskedRead). IsKey v.key) e
                  (subst IsKey (sym (reply_key (list_any (λ (x : ReadReplyValue). x.replica == m.replica) r.replies))) (z.keys r i))
              | inr o ↦ z.keys q o
            ];
            few_writes = z.few_writes;
            rise = z.rise;
            writes = z.writes;
          });
          took = λ q j k l. elim (in_put key_asked (with_reply m r) was.reads q j) [
            | inl e ↦ subst (λ (z : AskedRead). (k : ReadReplyValue) → Contains z.replies k → Took (read_asked me was z) k) e
                (new (list_any (λ (x : ReadReplyValue). x.replica == m.replica) r.replies)) k l
            | inr o ↦ is_was.took q o k l
          ];
          forms = λ b p k. (let q = (is_was.forms b p k).chosen r i in true_false (is_chosen me.cluster r) q n);
        })
        refl refl (λ p h. (p, h, refl)) refl refl refl (none_signed _)
      where
        reply_key : (b : Bool) → (cond b r (record r { replies = r.replies ++ m ∷ [] })).key ≡ r.key
        reply_key true = refl
        reply_key false = refl

        new : (b : Bool) → (k : ReadReplyValue) → Contains (cond b r (record r { replies = r.replies ++ m ∷ [] })).replies k →
            Took (read_asked me was (cond b r (record r { replies = r.replies ++ m ∷ [] }))) k
        new true k l = is_was.took r i k l
        new false k l = elim (Rattle.std.proofs.lemmas.List.Elements.Contains-append_cases r.replies (m ∷ []) k l) [
          | inl j ↦ is_was.took r i k j
          | inr j ↦ elim (in_cases k m [] j) [ inl e ↦ subst (Took (read_asked me was r)) e t | inr o ↦ absurd (none_in k o) ]
        ]

    -- ---- calls on the slot

    read_went : (key : List ℕ) (d : ClientDone) → IsBytes key → read_at me c place key was ≡ Ok d → W d
    read_went key d bytes h = by (is_some was.pursuit) (is_written key was || is_some (asked key was)) refl h
      where
        by : (a b : Bool) → is_some was.pursuit ≡ a → cond a (Err callfault.NotOpen)
            (cond b (Ok (quiet c)) (refusing.unless (read_fault was key) (read_done me c place was key))) ≡ Ok d → W d
        by true b e h = absurd cc
        by false true e h = to (quiet c) d (ok_is {E = CallFault} (quiet c) d (Ok (quiet c)) refl h) (quiet_went (quiet c) refl refl)
        by false false e h =
            let o = call_ok (read_fault was key) (read_done me c place was key) d h in
            let new : AskedRead = record { key = key; replies = [] } in
            to (read_done me c place was key) d o.1
            (open_went (read_done me c place was key) (record was { reads = put_read new was.reads }) (none_is was.pursuit e) refl refl refl
            (ascend_put key_asked new was.reads is_was.ascend)
            (let z = is_was.sizes in
            let a = or_parts_none (refusing.when (nat_le 32 (length was.reads)) callfault.TooMany)
            (refusing.when (not (key_fits key)) callfault.SizeOut) o.0 in
            let few = not_many (length was.reads) (not_true (nat_le 32 (length was.reads)) callfault.TooMany a.0) in
            let fits = key_sized key (when_not (key_fits key) callfault.SizeOut a.1) bytes in
            record {
              time = z.time;
              few_reads = (let l = put_longer key_asked new was.reads in omega (arith, l, few));
              keys = λ q j. elim (in_put key_asked new was.reads q j)
                  [ inl k ↦ subst (λ (v : AskedRead). IsKey v.key) k fits | inr k ↦ z.keys q k ];
              few_writes = z.few_writes;
              rise = z.rise;
              writes = z.writes;
            })
            (λ r i m j. elim (in_put key_asked new was.reads r i) [
              | inl k ↦ absurd
                  (none_in m (subst (λ (z : AskedRead). Contains z.replies m) (sym k) j))
              | inr k ↦ is_was.took r k m j
            ]) refl refl)

    write_went : (w : WritePart) (d : ClientDone) → IsBytes w.key → IsBytes w.value →
        refusing.unless (write_fault was w) (quiet (with_slot c place
        (record was { writes = Rattle.client_core.specs.Slots.put_write w was.writes }))) ≡ Ok d → W d
    write_went w d kb vb h =
        let s : SlotValue = record was { writes = Rattle.client_core.specs.Slots.put_write w was.writes } in
        let o = call_ok (write_fault was w) (quiet (with_slot c place s)) d h in
        let a = or_parts_none (refusing.when (is_some was.pursuit) callfault.NotOpen) _ o.0 in
        let b = or_parts_none (refusing.when (not (is_written w.key was) && nat_le 32 (length was.writes)) callfault.TooMany)
        (refusing.when (not (write_fits w)) callfault.SizeOut) a.1 in
        let free = not_some was.pursuit callfault.NotOpen a.0 in
        let z = is_was.sizes in
        let fits = write_sized w (when_not (write_fits w) callfault.SizeOut b.1) kb vb in
        to (quiet (with_slot c place s)) d o.1 (open_went (quiet (with_slot c place s)) s free refl refl refl is_was.ascend
        (record {
          time = z.time;
          few_reads = z.few_reads;
          keys = z.keys;
          few_writes = few (is_written w.key was) refl (not_true _ callfault.TooMany b.0);
          rise = ascend_put key_of_write w was.writes z.rise;
          writes = λ q j. elim (in_put key_of_write w was.writes q j) [ inl k ↦ subst IsWrite k fits | inr k ↦ z.writes q k ];
        })
        is_was.took refl refl)
      where
        few : (g : Bool) → is_written w.key was ≡ g → (not g && nat_le 32 (length was.writes)) ≡ false →
            length (Rattle.client_core.specs.Slots.put_write w was.writes) ≤ 32
        few true e n =
            let z = written_in w.key was.writes e in
            let l = put_same key_of_write w z.0 was.writes (sym z.2) is_was.sizes.rise z.1 in
            subst (λ (n : ℕ). n ≤ 32) (sym l) is_was.sizes.few_writes
        few false e n = (let l = put_longer key_of_write w was.writes in let m = not_many (length was.writes) n in omega (arith, l, m))

    all_chosen : (rs : List AskedRead) → option_map (λ (r : AskedRead). callfault.ReadPending r.key)
        (find (λ r. not (is_chosen me.cluster r)) rs) ≡ None → (r : AskedRead) → Contains rs r → is_chosen me.cluster r ≡ true
    all_chosen rs h r i =
        let n = find_none (λ r. not (is_chosen me.cluster r)) rs
        (mapped_none _ _ h) r i in
        not_not (is_chosen me.cluster r) n

    prepare_went : E (formed me was) → (d : ClientDone) → refusing.unless (prepare_fault me c was) (prepare_done me c place was) ≡ Ok d →
        W d
    prepare_went kind d h =
        let o = call_ok (prepare_fault me c was) (prepare_done me c place was) d h in
        let a = or_parts_none (refusing.when (is_some was.pursuit) callfault.NotOpen) _ o.0 in
        let b = or_parts_none (pending me.cluster was) _ a.1 in
        let e = or_parts_none (refusing.when ((length was.reads == 0) && (length was.writes == 0)) callfault.Empty) _ b.1 in
        let free = not_some was.pursuit callfault.NotOpen a.0 in
        let t : TransactionValue = formed me was in
        let p : PursuitValue =
        unstarted t (me.signing.gives c.pen.spent (Rattle.basil_types.specs.Words.words_of (TransactionWords (id t)))) in
        let s : SlotValue = with_pursuit was p in
        let done : ClientDone = prepare_done me c place was in
        to done d o.1
        (set_went done s
        (record {
          recovered = λ b. refl;
          ascend = is_was.ascend;
          sizes = same_sizes s refl refl refl refl;
          took = is_was.took;
          forms = λ _ q k.
              let is : p ≡ q = some_is p q (Some p) refl k in
              record { made = ap (λ (z : PursuitValue). z.transaction) (sym is); chosen = λ r i. all_chosen was.reads b.0 r i };
        })
        refl refl (λ q k. (let z : None ≡ Some q = sym free ∙ k in absurd cc)) refl refl
        (spent_one c.pen (not_true (c.pen.left == 0) callfault.Exhausted e.1))
        (λ w i. elim (in_cases w (TransactionWords (id t)) [] i) [
          | inl e ↦ record {
            named = id t;
            words = sym e;
            formed = record {
              place = place;
              slot = s;
              stands = set_same c.slots place was s at;
              begun = open_begun free;
              pursuit = p;
              pursues = refl;
              named = refl;
            };
            kind = kind;
          }
          | inr n ↦ absurd (none_in w n)
        ]))

    started : (p : PursuitValue) (o : Option Rattle.client_recover.specs.Taken.LogsValue) →
        (option_map_or (start_second me.cluster p) o (still p)).pursuit.transaction ≡ p.transaction
    started p None = refl
    started p (Some l) = refl

    settled : (p : PursuitValue) → (settle me.cluster p).pursuit.transaction ≡ p.transaction
    settled p = by (is_some (outcome me.cluster p) || p.second)
      where
        by : (b : Bool) → (cond b (still p) (option_map_or (start_second me.cluster p)
            (Rattle.client_recover.specs.Certifying.settled me.cluster p.transaction p.taken) (still p))).pursuit.transaction
            ≡ p.transaction
        by true = refl
        by false = started p _

    went_on : (p : PursuitValue) (o : Option Rattle.client_recover.specs.Taken.DecidedValue) →
        (option_map_or (tell me.cluster p) o (go_on me.cluster p)).pursuit.transaction ≡ p.transaction
    went_on p (Some d) = refl
    went_on p None = by (Rattle.client_recover.specs.Certifying.all_voted me.cluster p.transaction p.taken)
      where
        by : (b : Bool) → (cond b (settle me.cluster p) (still p)).pursuit.transaction ≡ p.transaction
        by true = settled p
        by false = refl

    taken : (p : PursuitValue) (x : TakenValue) → (take_frame me.cluster p x).pursuit.transaction ≡ p.transaction
    taken p x = by (is_some (outcome me.cluster p))
      where
        by : (b : Bool) → (cond b (still p) (option_map_or (tell me.cluster (took p x)) (outcome me.cluster (took p x))
            (go_on me.cluster (took p x)))).pursuit.transaction ≡ p.transaction
        by true = refl
        by false = went_on (took p x) _

    settle_went : (o : Option PursuitValue) → was.pursuit ≡ o → (d : ClientDone) → settle_by me c place was o ≡ Ok d → W d
    settle_went None e d h = absurd cc
    settle_went (Some p) e d h =
        to (pursuit_done c place was (settle me.cluster p)) d
        (ok_is (pursuit_done c place was (settle me.cluster p)) d (settle_by me c place was (Some p)) refl h)
        (pursuit_went p (settle me.cluster p) e (settled p))

  -- ---- calls

  slot_went : (place : ℕ) (answer : SlotValue → Result ClientDone CallFault) (o : Option SlotValue) (d : ClientDone) →
      slice_get c.slots place ≡ o → ((s : SlotValue) → slice_get c.slots place ≡ Some s → answer s ≡ Ok d → W d) → by_slot c answer o
      ≡ Ok d → W d
  slot_went place answer None d e f h = to (quiet c) d (ok_is (quiet c) d (by_slot c answer None) refl h) (quiet_went (quiet c) refl refl)
  slot_went place answer (Some s) d e f h = f s e h

  begin_went : (time : ℕ) (d : ClientDone) → time < 2 ^ 64 → call_begin c time ≡ Ok d → W d
  begin_went time d small h =
      let done : ClientDone = quiet (record c { last = time; slots = c.slots ++ begun_slot time ∷ [] }) in
      let o = call_ok (refusing.when (not (nat_lt c.last time)) (callfault.TimeNotAbove c.last)) done d h in
      let l : c.last < time = ltb-true c.last time (when_not (nat_lt c.last time) (callfault.TimeNotAbove c.last) o.0) in
      to done d o.1
      (push_went done (begun_slot time)
      (record {
        recovered = λ b. absurd cc;
        ascend = tt;
        sizes =
            record {
              time = λ b. small;
              few_reads = omega arith;
              keys = λ r i. absurd
                  (none_in r i);
              few_writes =
                  omega arith;
              rise = tt;
              writes = λ w i. absurd (none_in w i);
            };
        took = λ r i. absurd (none_in r i);
        forms = λ b p k. absurd cc;
      })
      refl (omega (arith, l)) (λ b. (l, omega arith)) refl refl)

  held_went : (o : Option PursuitValue) → W (recover_held me c o)
  held_went None = quiet_went (quiet c) refl refl
  held_went (Some p) = quiet_went (recover_held me c (Some p)) refl refl

  recover_went : (t : TransactionValue) (signature : List ℕ) (o : Option ℕ) → W (recover_by me c t signature o)
  recover_went t signature (Some place) = held_went _
  recover_went t signature None =
      push_went (recover_by me c t signature None) (recovered_slot t signature)
      (record {
        recovered = λ b. refl;
        ascend = tt;
        sizes =
            record {
              time = λ b. absurd cc;
              few_reads = omega arith;
              keys = λ r i. absurd
                  (none_in r i);
              few_writes =
                  omega arith;
              rise = tt;
              writes = λ w i. absurd (none_in w i);
            };
        took = λ r i. absurd (none_in r i);
        forms = λ b p k. absurd cc;
      })
      refl (omega arith) (λ b. absurd cc) refl refl

  invoke_went : (o : Option PursuitValue) (d : ClientDone) → invoke_by me c o ≡ Ok d → W d
  invoke_went None d h = absurd cc
  invoke_went (Some p) d h = by (is_some (outcome me.cluster p)) h
    where
      by : (b : Bool) → cond b (Ok (quiet c)) (refusing.unless (calls.invoke_fault me p)
          (record {
            client = c;
            signed = [];
            sent = Rattle.client_recover.specs.Pursuits.to_shard me.cluster
                (Rattle.client_recover.specs.Pursuits.invoke_message me.cluster p)
                (Rattle.txn_meta.specs.Places.log_shard me.cluster p.transaction);
          })) ≡ Ok d → W d
      by true h = to (quiet c) d (ok_is {E = CallFault} (quiet c) d (Ok (quiet c)) refl h) (quiet_went (quiet c) refl refl)
      by false h =
          let done : ClientDone = record {
            client = c;
            signed = [];
            sent = Rattle.client_recover.specs.Pursuits.to_shard me.cluster
                (Rattle.client_recover.specs.Pursuits.invoke_message me.cluster p)
                (Rattle.txn_meta.specs.Places.log_shard me.cluster p.transaction);
          } in
          to done d (call_ok (calls.invoke_fault me p) done d h).1 (quiet_went done refl refl)

  -- ---- frames

  record IsHeldAt (k : HeldValue) : Type 0 where
    at : slice_get c.slots k.place ≡ Some k.slot
    pursues : k.slot.pursuit ≡ Some k.pursuit

  in_slot : (place : ℕ) (s : SlotValue) (o : Option PursuitValue) (k : HeldValue) → slice_get c.slots place ≡ Some s → s.pursuit ≡ o →
      option_map (λ p. record { place = place; slot = s; pursuit = p }) o ≡ Some k → IsHeldAt k
  in_slot place s None k e f h = absurd cc
  in_slot place s (Some p) k e f h =
      subst IsHeldAt (some_is (record { place = place; slot = s; pursuit = p }) k
      (Some (record { place = place; slot = s; pursuit = p })) refl h) (record { at = e; pursues = f })

  in_place : (place : ℕ) (o : Option SlotValue) (k : HeldValue) → slice_get c.slots place ≡ o → option_and_then (held_at_slot place) o
      ≡ Some k → IsHeldAt k
  in_place place None k e h = absurd cc
  in_place place (Some s) k e h = in_slot place s s.pursuit k e refl h

  is_held : (o : Option ℕ) (k : HeldValue) → option_and_then (held_at c) o ≡ Some k → IsHeldAt k
  is_held None k h = absurd cc
  is_held (Some place) k h = in_place place (slice_get c.slots place) k refl h

  taken_went : (fault : TransactionValue → Option FrameFault) (x : TakenValue) (named : List ℕ) (o : Option HeldValue) (d : ClientDone) →
      held_with c named ≡ o → taken_by me c fault x o ≡ Ok d → W d
  taken_went fault x named None d e h = absurd cc
  taken_went fault x named (Some k) d e h =
      let at = is_held (slot_of_id c named) k e in
      let done = pursuit_done c k.place k.slot (take_frame me.cluster k.pursuit x) in
      to done d (frame_ok (fault k.pursuit.transaction) done d h).1
      (pursuit_went k.place k.slot at.at k.pursuit (take_frame me.cluster k.pursuit x) at.pursues (taken k.place k.slot at.at k.pursuit x))

  module _ (m : ReadReplyValue) (took : (read : ReadValue) → reply_fault me.accepts me.cluster read m ≡ None → Took read m) where
    replied : (place : ℕ) (s : SlotValue) (o : Option AskedRead) (d : ClientDone) → slice_get c.slots place ≡ Some s → asked m.key s ≡ o →
        reply_by me c place s m o ≡ Ok d → W d
    replied place s None d e f h = absurd cc
    replied place s (Some r) d e f h = by (is_chosen me.cluster r) refl h
      where
        by : (b : Bool) → is_chosen me.cluster r ≡ b → cond b (Err NotMine)
            (refusing.unless (reply_fault me.accepts me.cluster (record { key = r.key; time = s.time; client = me.number }) m)
            (reply_taken c place s m r)) ≡ Ok d → W d
        by true g h = absurd cc
        by false g h =
            let o = frame_ok (reply_fault me.accepts me.cluster (record { key = r.key; time = s.time; client = me.number }) m)
            (reply_taken c place s m r) d h in
            to (reply_taken c place s m r) d o.1 (reply_went place s e m r (find_some (is_of m.key) s.reads r f).0 g
            (took (read_asked me s r) o.0))

    replied_at : (place : ℕ) (o : Option SlotValue) (d : ClientDone) → slice_get c.slots place ≡ o → reply_at me c m place o ≡ Ok d → W d
    replied_at place None d e h = absurd cc
    replied_at place (Some s) d e h = replied place s (asked m.key s) d e refl h

    replied_time : (o : Option ℕ) (d : ClientDone) → reply_to_time me c m o ≡ Ok d → W d
    replied_time None d h = absurd cc
    replied_time (Some place) d h = replied_at place (slice_get c.slots place) d refl h

    read_reply_went : (d : ClientDone) → on_read_reply me c m ≡ Ok d → W d
    read_reply_went d h = by (m.client == me.number) h
      where
        by : (b : Bool) → cond b (reply_to_time me c m (slot_of_time c m.time)) (Err NotMine) ≡ Ok d → W d
        by true h = replied_time (slot_of_time c m.time) d h
        by false h = absurd cc

  message_went : (m : MessageValue) (d : ClientDone) →
      ((r : ReadReplyValue) → m ≡ ReadReply r → (read : ReadValue) → reply_fault me.accepts me.cluster read r ≡ None → Took read r) →
      on_message me c m ≡ Ok d → W d
  message_went (Read m) d f h = absurd cc
  message_went (ReadReply m) d f h = read_reply_went m (f m refl) d h
  message_went (St1 m) d f h = absurd cc
  message_went (Vote m) d f h = taken_went _ _ m.id (held_with c m.id) d refl h
  message_went (St2 m) d f h = absurd cc
  message_went (LogReply m) d f h = taken_went _ _ m.id (held_with c m.id) d refl h
  message_went (Writeback m) d f h = taken_went _ _ (id m.transaction) (held_with c (id m.transaction)) d refl h
  message_went (Recover m) d f h = absurd cc
  message_went (Invoke m) d f h = absurd cc
  message_went (Elect m) d f h = absurd cc
  message_went (Decide m) d f h = absurd cc

  slots_went : (place : ℕ) (answer : SlotValue → Result ClientDone CallFault) (d : ClientDone) →
      ((s : SlotValue) → slice_get c.slots place ≡ Some s → answer s ≡ Ok d → W d) → at_slot c place answer ≡ Ok d → W d
  slots_went place answer d f h = slot_went place answer (slice_get c.slots place) d refl f h

pub clients_go : (me : ClientSelf) (Took : Takes) (E : OfKind) → ClientsGo me Took E
clients_go me Took E = record {
  at_message = λ c m d k f h. message_went me Took E c k m d f h;
  at_begin = λ c time d small k h. begin_went me Took E c k time d small h;
  at_read =
      λ c place key d bytes k h. slots_went me Took E c k place (read_at me c place key) d
      (λ s e j. read_went me Took E c k place s e key d bytes j) h;
  at_write =
      λ c place w d kb vb k h. slots_went me Took E c k place
      (λ s. refusing.unless (write_fault s w) (quiet (with_slot c place
      (record s { writes = Rattle.client_core.specs.Slots.put_write w s.writes })))) d
      (λ s e j. write_went me Took E c k place s e w d kb vb j) h;
  at_prepare =
      λ c place d k kind h. slots_went me Took E c k place (λ s. refusing.unless (prepare_fault me c s) (prepare_done me c place s)) d
      (λ s e j. prepare_went me Took E c k place s e (kind s e) d j) h;
  at_settle =
      λ c place d k h. slots_went me Took E c k place (λ s. settle_by me c place s s.pursuit) d
      (λ s e j. settle_went me Took E c k place s e s.pursuit refl d j) h;
  at_recover =
      λ c t signature d k h. (let o = call_ok _ (recover_by me c t signature (slot_of_id c (id t))) d h in to me Took E c k _ d o.1
      (recover_went me Took E c k t signature (slot_of_id c (id t))));
  at_invoke =
      λ c place d k h. slots_went me Took E c k place (λ s. invoke_by me c s.pursuit) d
      (λ s e j. invoke_went me Took E c k s.pursuit d j) h;
}
