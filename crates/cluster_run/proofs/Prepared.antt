-- What a correct client prepares is a transaction, and its first stage is seen.
use Rattle.cluster_run.proofs.Finding.{ok_is}
use Rattle.cluster_run.proofs.Members.{in_cases, in_head, in_rest}
use Rattle.node_steps.specs.Refusing as refusing
use Rattle.std.proofs.Common.{◌≡◌, ℕ, zero, suc, ◌+◌, ◌*◌, ◌<◌, ◌≤◌, ◌==◌, Bool, true, false, cond, ◌&&◌, List, [], ◌∷◌, ◌++◌, length, map}
use Rattle.std.proofs.Common.{Some, None, refl, sym, ap, subst, ◌∙◌, inl, inr, arith}
use Rattle.std.specs.Prelude.{Contains, Result, Ok, Err, slice_get, is_some, ◌-◌, nat_le, sum}
use Rattle.std.specs.List.{flat_map, list_any, range_with_len}
use Rattle.std.specs.Ordering.{nat_cmp, is_lt}
use Rattle.std.specs.Cmp.Lexicographic.{slice_cmp}
use Rattle.std.specs.declared.cmp.Ordering.TheVariants.{Less}
use Rattle.std.proofs.lemmas.Bool.{cases_Bool, cases_eq, or_left, or_right, eq-eqb, leb-true}
use Rattle.std.proofs.lemmas.Nat.{mod_below}
use Rattle.basil_types.specs.Built.{format_of}
use Rattle.basil_types.specs.declared.party.Party.TheVariants.{Replica, Client}
use Rattle.basil_types.specs.declared.transaction.parts.ReadPart.{ReadPart}
use Rattle.basil_types.specs.declared.transaction.parts.WritePart.{WritePart}
use Rattle.basil_types.specs.Lists.{AreItems}
use Rattle.basil_types.specs.Setting.{Setting, IsSetting}
use Rattle.basil_types.specs.Texts.{IsBytes, IsKey, IsVersion, key_below}
use Rattle.basil_types.specs.Transaction.{TransactionValue, IsTransaction, FitsRead, FitsWrite, key_of_read, key_of_write, id}
use Rattle.basil_types.specs.Version.{genesis}
use Rattle.basil_types.specs.Words.{TransactionWords, words_of}
use Rattle.client_core.specs.Calls.{by_slot, pending, prepare_fault, prepare_done, formed}
use Rattle.client_core.specs.Clients.{ClientSelf, ClientValue, ClientDone, SlotValue, AskedRead}
use Rattle.client_steps.specs.declared.fault.CallFault.TheVariants as callfault
use Rattle.client_recover.specs.Pursuits.{to_shard, to_involved}
use Rattle.client_recover.specs.Counting.{all_replicas}
use Rattle.client_core.specs.Slots.{key_asked, as_read, choice_of}
use Rattle.frame_views.specs.declared.fault.BadFrame.{BadFrame}
use Rattle.frame_views.specs.Spelling.{spelling}
use Rattle.frame_views.specs.Values.{MessageValue, St1}
use Rattle.law_joins.specs.Choices.{ChoicesAreTaken}
use Rattle.premise_watch.specs.Breaches.{first_breach}
use Rattle.premise_watch.specs.Marks.{marks}
use Rattle.node_steps.specs.Envelopes.{EnvelopeValue}
use Rattle.serial_laws.specs.Bases.{Basis}
use Rattle.txn_meta.specs.Places.{shard_of, involves, members_from, involved}
use Rattle.cluster_run.specs.declared.fault.WorldFault.TheVariants as fault
use Rattle.cluster_run.specs.Holding.{AreAbove, AscendBy, IsWrite, IsSlot}
use Rattle.client_core.specs.Frames.{read_asked}
use Rattle.cluster_run.specs.Parts.{read_frame, saw, see_message, see, Mail, posted, has_room, enter_all, enter, mail_of}
use Rattle.cluster_run.specs.Parts.{client_self}
use Rattle.cluster_run.specs.Safety.{AreSigned}
use Rattle.cluster_run.specs.States.{Setup, IsSetup, is_faulty, client_at, State}
use Rattle.frame_views.specs.Carried.{transactions_in}
use Rattle.cluster_run.proofs.Agreeing.{look_up, looked}
use Rattle.cluster_run.proofs.Decides.{or_parts_none}
use Rattle.cluster_run.proofs.Happening.{N, PreparesSeen}
use Rattle.cluster_run.proofs.Holding.{call_ok, not_true, not_some}
use Rattle.cluster_run.proofs.Marking.{none_in, texts_marked}
use Rattle.cluster_run.proofs.Parting.{between, broken_ok}
use Rattle.cluster_run.proofs.Seeing.{texts_stay, texts_come}
use Rattle.cluster_run.proofs.Spelled.{version_fits, first_read}
use Rattle.cluster_run.proofs.Whole.{committed_in, IsTook, Whole}

-- ---- what is formed is a transaction

less_below : (a b : List ℕ) → slice_cmp nat_cmp a b ≡ Less → key_below a b ≡ true
less_below a b h = ap is_lt h

first_below : (key : List ℕ) → 1 ≤ length key → key_below [] key ≡ true
first_below [] h = absurd (omega (arith, h))
first_below (b ∷ bs) h = refl

length_map : {X Y : Type 0} (f : X → Y) (xs : List X) → length (map f xs) ≡ length xs
length_map f [] = refl
length_map f (x ∷ xs) = ap suc (length_map f xs)

read_items : (c : Setting) (floor : List ℕ) (rs : List AskedRead) →
    ((r : AskedRead) → Contains rs r → IsKey r.key × IsVersion (choice_of c r).version × (key_below floor r.key ≡ true)) →
    AscendBy key_asked rs →
    AreItems FitsRead key_of_read floor (map (as_read c) rs)
read_items c floor [] h a = tt
read_items c floor (r ∷ rs) h a =
    let k = h r (in_head r rs) in (
      record { key = k.0; above = k.2; version = k.1 },
      read_items c r.key rs
          (λ q i. (let z = h q (in_rest r q rs i) in (z.0, z.1, less_below r.key q.key (above_of rs q a.0 i)))) a.1,
    )
  where
    above_of : (qs : List AskedRead) (q : AskedRead) → AreAbove key_asked r.key qs → Contains qs q → slice_cmp nat_cmp r.key q.key ≡ Less
    above_of [] q b i = absurd (none_in q i)
    above_of (x ∷ xs) q b i =
        elim (in_cases q x xs i) [
          | inl e ↦ ap (λ (z : AskedRead). slice_cmp nat_cmp r.key z.key) (sym e) ∙ b.0
          | inr j ↦ above_of xs q b.1 j
        ]

write_items : (format : ℕ) (floor : List ℕ) (ws : List WritePart) →
    ((w : WritePart) → Contains ws w → IsWrite w × (format ≡ 1 → w.deletes ≡ false) × (key_below floor w.key ≡ true)) →
    AscendBy key_of_write ws →
    AreItems (FitsWrite format) key_of_write floor ws
write_items format floor [] h a = tt
write_items format floor (w ∷ ws) h a =
    let k = h w (in_head w ws) in (
      record { key = (k.0).key; above = k.2; value = (k.0).value; gives = k.1; deletes = (k.0).deletes },
      write_items format w.key ws
          (λ q i. (let z = h q (in_rest w q ws i) in (z.0, z.1, less_below w.key q.key (above_of ws q a.0 i)))) a.1,
    )
  where
    above_of : (qs : List WritePart) (q : WritePart) → AreAbove key_of_write w.key qs → Contains qs q → slice_cmp nat_cmp w.key q.key ≡ Less
    above_of [] q b i = absurd (none_in q i)
    above_of (x ∷ xs) q b i =
        elim (in_cases q x xs i) [
          | inl e ↦ ap (λ (z : WritePart). slice_cmp nat_cmp w.key z.key) (sym e) ∙ b.0
          | inr j ↦ above_of xs q b.1 j
        ]

format_small : (ws : List WritePart) → (1 ≤ format_of ws) × (format_of ws ≤ 2)
format_small ws = by (list_any (λ (w : WritePart). w.deletes) ws)
  where
    by : (b : Bool) → (1 ≤ cond b 2 1) × (cond b 2 1 ≤ 2)
    by true = (omega arith, omega arith)
    by false = (omega arith, omega arith)

format_gives : (ws : List WritePart) → format_of ws ≡ 1 → (w : WritePart) → Contains ws w → w.deletes ≡ false
format_gives ws h w i = elim (cases_Bool w.deletes) [
  | inl d ↦
      let any = Rattle.cluster_run.proofs.Members.any_of (λ (w : WritePart). w.deletes) ws w i d in
      let e : 2 ≡ 1 = sym (ap (λ b. cond b 2 1) any) ∙ h in
      absurd (omega (arith, e))
  | inr n ↦ n
]

genesis_fits : IsVersion genesis
genesis_fits = record { time = omega arith; client = omega arith; id = refl; bytes = zeros }
  where
    all : (n i : ℕ) → Rattle.std.specs.Prelude.slice_index (Rattle.std.specs.Prelude.replicate n 0) i < 256
    all zero i = omega arith
    all (suc n) zero = omega arith
    all (suc n) (suc i) = all n i

    zeros : IsBytes (Rattle.std.specs.Prelude.replicate 32 0)
    zeros i = all 32 i

module _ (choices : ChoicesAreTaken) (s : Setup) (ok : IsSetup s) (st : State) (w : Whole s N st) (n : ℕ) (c : ClientValue)
    (at : client_at st n ≡ Some c) (place : ℕ) (slot : SlotValue) (stands : slice_get c.slots place ≡ Some slot) where
  abbrev me : ClientSelf
  me = client_self s n

  is_slot : IsSlot me (IsTook s st) slot
  is_slot = (w.held n c at).slots place slot stands

  abbrev basis : Basis
  basis = record {
    numbers = s.cluster;
    faulty = λ a b. is_faulty s (Replica a b);
    faulty_client = λ k. is_faulty s
        (Client k);
    text = look_up st.watch.texts;
  }

  chosen_fits : (r : AskedRead) → Contains slot.reads r → IsVersion (choice_of s.cluster r).version
  chosen_fits r i =
      let well = choices s.kit.accepts basis (committed_in st) (read_asked me slot r) r.replies
      (λ m k. (let z = is_slot.took r i m k in (
        z.valid,
        record { texts = λ t q. looked st.watch.texts w.inv.unique t (z.texts t q); certified = λ part e. z.certified part e },
      ))) in
      elim well.some [
        | inl g ↦ subst IsVersion (sym g) genesis_fits
        | inr o ↦ subst IsVersion (o.1).version (version_fits o.0
            (w.inv.spelled o.0 ((is_slot.took r i (o.1).reply (o.1).given).texts o.0 (o.1).carries)))
      ]

  someone : 1 ≤ n
  someone = by (nat_le 1 n) refl at
    where
      by : (b : Bool) → nat_le 1 n ≡ b → cond b (slice_get st.clients (n - 1)) None ≡ Some c → 1 ≤ n
      by true e h = leb-true 1 n e
      by false e h = absurd cc

  pub formed_fits : slot.begun ≡ true → IsTransaction (formed me slot)
  formed_fits begun =
      let z = is_slot.sizes in
      let f = format_small slot.writes in
      record {
        known = f.0;
        format = f.1;
        time = z.time begun;
        someone = someone;
        client = w.few n c at;
        few_reads = subst (λ (k : ℕ). k ≤ 32) (sym (length_map (as_read s.cluster) slot.reads)) z.few_reads;
        reads = read_items s.cluster [] slot.reads (λ r i. (z.keys r i, chosen_fits r i, first_below r.key (z.keys r i).some))
            is_slot.ascend;
        few_writes = z.few_writes;
        writes = write_items (format_of slot.writes) [] slot.writes
            (λ v i. (z.writes v i, λ e. format_gives slot.writes e v i, first_below v.key (z.writes v i).key.some)) z.rise;
      }

-- ---- where it is sent

in_members : (g : ℕ → Bool) (from len a : ℕ) → from ≤ a → a < from + len → g a ≡ true →
    Contains (members_from from (map g (range_with_len from len))) a
in_members g from zero a l h t = absurd (omega (arith, l, h))
in_members g from (suc len) a l h t = by (g from) refl (λ n. in_members g (from + 1) len a (omega (arith, l, n)) (omega (arith, h)) t)
  where
    by : (b : Bool) → g from ≡ b → ((from ≡ a → ⊥) → Contains (members_from (from + 1) (map g (range_with_len (from + 1) len))) a) →
        Contains (cond b (from ∷ members_from (from + 1) (map g (range_with_len (from + 1) len)))
        (members_from (from + 1) (map g (range_with_len (from + 1) len)))) a
    by true e rec = elim (cases_eq from a) [
      | inl s ↦ subst (λ (k : ℕ). Contains (from ∷ members_from (from + 1) (map g (range_with_len (from + 1) len))) k) s (in_head from _)
      | inr n ↦ in_rest from a _ (rec n)
    ]
    by false e rec = rec (λ s. (let q : true ≡ false = sym t ∙ ap g (sym s) ∙ e in absurd cc))

in_involved : (c : Setting) (t : TransactionValue) (a : ℕ) → a < 8 → involves c t a ≡ true → Contains (involved c t) a
in_involved c t a l h = in_members (involves c t) 0 8 a (omega arith) (omega (arith, l)) h

in_flat : {X Y : Type 0} (f : X → List Y) (xs : List X) (x : X) (y : Y) → Contains xs x → Contains (f x) y → Contains (flat_map f xs) y
in_flat f [] x y i j = absurd (none_in x i)
in_flat f (z ∷ zs) x y i j = elim (in_cases x z zs i) [
  | inl e ↦ Rattle.std.proofs.lemmas.List.Elements.Contains-append_left (f z) (flat_map f zs) y (subst (λ v. Contains (f v) y) (sym e) j)
  | inr k ↦ Rattle.std.proofs.lemmas.List.Elements.Contains-append_right (f z) (flat_map f zs) y (in_flat f zs x y k j)
]

in_map : {X Y : Type 0} (f : X → Y) (xs : List X) (x : X) → Contains xs x → Contains (map f xs) (f x)
in_map f [] x i = absurd (none_in x i)
in_map f (z ∷ zs) x i =
    elim (in_cases x z zs i) [
      | inl e ↦ subst (λ v. Contains (f z ∷ map f zs) (f v)) e (in_head (f z) (map f zs))
      | inr k ↦ in_rest (f z) (f x) (map f zs) (in_map f zs x k)
    ]

first_replica : (c : Setting) → Contains (all_replicas c) 0
first_replica c = (let e : suc (5 * c.f) ≡ 5 * c.f + 1 = omega arith in subst (λ (k : ℕ). Contains (range_with_len 0 k) 0) e (in_head 0 _))

pub some_sent : (c : Setting) → IsSetting c → (t : TransactionValue) (m : MessageValue) → ((length t.reads == 0) && (length t.writes == 0))
    ≡ false → (to : EnvelopeValue) × Contains (to_involved c t m) to × (to.message ≡ m)
some_sent c ok t m h =
    let a = some_shard t.reads refl t.writes refl in
    let sent : EnvelopeValue = record { to = Replica a.0 0; message = m } in (
      sent,
      in_flat (to_shard c m) (involved c t) a.0 sent (in_involved c t a.0 a.1 a.2)
          (in_map (λ r. record { to = Replica a.0 r; message = m }) (all_replicas c) 0 (first_replica c)),
      refl,
    )
  where
    small : (key : List ℕ) → shard_of c key < 8
    small key = (let s = ok.some in let f = ok.few in let l = mod_below (sum key) c.shards (omega (arith, s)) in omega (arith, f, l))

    some_shard : (rs : List ReadPart) → t.reads ≡ rs → (ws : List WritePart) → t.writes ≡ ws → (a : ℕ) × (a < 8) × (involves c t a ≡ true)
    some_shard (r ∷ rs) e ws f = (
      shard_of c r.key,
      small r.key,
      or_left (list_any (λ q. shard_of c q.key == shard_of c r.key) t.reads) (list_any (λ v. shard_of c v.key == shard_of c r.key) t.writes)
          (ap (λ (l : List ReadPart). list_any (λ q. shard_of c q.key == shard_of c r.key) l) e
          ∙ or_left (shard_of c r.key == shard_of c r.key) _ (eq-eqb (shard_of c r.key) (shard_of c r.key) refl)),
    )
    some_shard [] e (w ∷ ws) f = (
      shard_of c w.key,
      small w.key,
      or_right (list_any (λ q. shard_of c q.key == shard_of c w.key) t.reads)
          (list_any (λ v. shard_of c v.key == shard_of c w.key) t.writes)
          (ap (λ (l : List WritePart). list_any (λ v. shard_of c v.key == shard_of c w.key) l) f
          ∙ or_left (shard_of c w.key == shard_of c w.key) _ (eq-eqb (shard_of c w.key) (shard_of c w.key) refl)),
    )
    some_shard [] e [] f =
        (let q : true ≡ false = sym (ap (λ (l : List ReadPart). (length l == 0) && (length t.writes == 0)) e
        ∙ ap (λ (l : List WritePart). length l == 0) f) ∙ h in absurd cc)

-- ---- what enters is seen

module _ (s : Setup) (u : TransactionValue) where
  abbrev Has : State → Type 0
  Has st = Contains st.watch.texts u

  message_stays : (r : Result MessageValue BadFrame) (st t : State) → see_message s r st ≡ Ok t → Has st → Has t
  message_stays (Err e) st t h i = subst Has (ok_is st t (see_message s (Err e) st) refl h) i
  message_stays (Ok m) st t h i =
      subst Has (broken_ok (first_breach s.kit.accepts st.watch (marks m)) (saw s m st) t h) (texts_stay st.watch (marks m) u i)

  message_comes : (r : Result MessageValue BadFrame) (m : MessageValue) (st t : State) → r ≡ Ok m → Contains (transactions_in m) u →
      see_message s r st ≡ Ok t → Has t
  message_comes (Err e) m st t f i h = absurd cc
  message_comes (Ok k) m st t f i h =
      let is : m ≡ k = ok_is m k (Ok k) f refl in
      subst Has (broken_ok (first_breach s.kit.accepts st.watch (marks k)) (saw s k st) t h)
      (texts_come st.watch (marks k) u (texts_marked k u (subst (λ (z : MessageValue). Contains (transactions_in z) u) is i)))

  all_stays : (mail : List Mail) (st t : State) → enter_all s mail st ≡ Ok t → Has st → Has t
  all_stays [] st t h i = subst Has (ok_is st t (enter_all s [] st) refl h) i
  all_stays (m ∷ mail) st t h i =
      let start : State = record st { pool = st.pool ++ posted m ∷ [] } in
      let b = between (see s m.frame start) (enter_all s mail) t h in
      all_stays mail b.start t b.second (message_stays (read_frame s m.frame) start b.start b.first i)

  all_comes : (mail : List Mail) (x : Mail) (m : MessageValue) (st t : State) → Contains mail x → read_frame s x.frame ≡ Ok m →
      Contains (transactions_in m) u → enter_all s mail st ≡ Ok t → Has t
  all_comes [] x m st t i f j h = absurd (none_in x i)
  all_comes (y ∷ mail) x m st t i f j h =
      let start : State = record st { pool = st.pool ++ posted y ∷ [] } in
      let b = between (see s y.frame start) (enter_all s mail) t h in
      elim (in_cases x y mail i) [
        | inl e ↦ all_stays mail b.start t b.second (message_comes (read_frame s y.frame) m start b.start
            (ap (λ (z : Mail). read_frame s z.frame) e ∙ f) j b.first)
        | inr k ↦ all_comes mail x m b.start t k f j b.second
      ]

  pub enter_comes : (mail : List Mail) (x : Mail) (m : MessageValue) (st t : State) → Contains mail x → read_frame s x.frame ≡ Ok m →
      Contains (transactions_in m) u → enter s mail st ≡ Ok t → Has t
  enter_comes mail x m st t i f j h = by (has_room s st mail) h
    where
      by : (b : Bool) → cond b (enter_all s mail st) (Err
          (fault.PoolFull (length st.pool) (Rattle.cluster_run.specs.Parts.pool_bytes st.pool))) ≡ Ok t → Has t
      by true h = all_comes mail x m st t i f j h
      by false h = absurd cc

-- ---- a prepare

pub prepares_seen : ChoicesAreTaken → (s : Setup) → IsSetup s → AreSigned s.kit → PreparesSeen s
prepares_seen choices s ok signs client c place d st t w at did slot stands h =
    let me = client_self s client in
    let o = call_ok (prepare_fault me c slot) (prepare_done me c place slot) d
    (sym (ap (by_slot c (λ z. refusing.unless (prepare_fault me c z) (prepare_done me c place z))) stands) ∙ did) in
    let a = or_parts_none (refusing.when (is_some slot.pursuit) callfault.NotOpen) _ o.0 in
    let b = or_parts_none (pending s.cluster slot) _ a.1 in
    let e = or_parts_none (refusing.when ((length slot.reads == 0) && (length slot.writes == 0)) callfault.Empty) _ b.1 in
    let free = not_some slot.pursuit callfault.NotOpen a.0 in
    let full = not_true ((length slot.reads == 0) && (length slot.writes == 0)) callfault.Empty e.0 in
    let is = is_slot choices s ok st w client c at place slot stands in
    let begun : slot.begun ≡ true =
    elim (cases_Bool slot.begun) [ inl y ↦ y | inr z ↦ (let q : false ≡ true = sym (ap is_some free) ∙ is.recovered z in absurd cc) ] in
    let v : TransactionValue = formed me slot in
    let signature = me.signing.gives c.pen.spent (words_of (TransactionWords (id v))) in
    let some = Rattle.std.proofs.lemmas.Bool.eqb-false c.pen.left 0 (not_true (c.pen.left == 0) callfault.Exhausted e.1) in
    let pens = w.pens client c at in
    let pen = signs client c.pen.spent (words_of (TransactionWords (id v))) (omega (arith, some, pens)) in
    let m : MessageValue = St1 (record { transaction = v; signature = signature }) in
    let read = first_read v (formed_fits choices s ok st w client c at place slot stands begun) s signature pen.fits pen.bytes in
    let to = some_sent s.cluster ok.setting v m (ap (λ (k : ℕ). (k == 0) && (length slot.writes == 0))
    (length_map (as_read s.cluster) slot.reads) ∙ full) in
    let mail = mail_of (Client client) to.0 in
    let sent : Contains d.sent to.0 = subst (λ (z : ClientDone). Contains z.sent to.0) o.1 to.1 in
    enter_comes s v (map (mail_of (Client client)) d.sent) mail m _ t (in_map (mail_of (Client client)) d.sent to.0 sent)
    (ap (λ (z : MessageValue). read_frame s (spelling z)) to.2 ∙ read) (in_head v []) h
