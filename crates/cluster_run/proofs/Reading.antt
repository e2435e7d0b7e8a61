-- What a client's read gave it.
use Rattle.cluster_run.proofs.Members.{in_cases, in_head, in_rest}
use Rattle.std.proofs.Common.{◌≡◌, ℕ, Bool, true, false, cond, not, ◌⊎◌, inl, inr, List, [], ◌∷◌, Option, Some, None, refl, ap, sym, ◌∙◌}
use Rattle.std.proofs.Common.{subst}
use Rattle.std.specs.Prelude.{Contains, find, is_some, option_map, option_and_then}
use Rattle.std.specs.declared.cmp.Ordering.{Ordering}
use Rattle.std.specs.declared.cmp.Ordering.TheVariants.{Less, Equal, Greater}
use Rattle.std.specs.Ordering.{nat_cmp, is_lt}
use Rattle.std.specs.Cmp.Lexicographic.{slice_cmp}
use Rattle.std.specs.Str.{bytes_eq}
use Rattle.std.proofs.lemmas.Bool.{cases_Bool}
use Rattle.std.proofs.lemmas.Cmp.{nat_list_cmp_total, tied_itself}
use Rattle.basil_types.specs.Built.{or_else}
use Rattle.basil_types.specs.Lists.{AreItems}
use Rattle.basil_types.specs.declared.replayed.Latest.{Latest}
use Rattle.basil_types.specs.declared.transaction.parts.WritePart.{WritePart}
use Rattle.basil_types.specs.declared.version.Version.{Version}
use Rattle.basil_types.specs.Replayed.{latest_of}
use Rattle.basil_types.specs.Transaction.{TransactionValue, IsTransaction, FitsWrite, key_of_write, version_of}
use Rattle.basil_types.specs.Version.{genesis, same_version, AreToldApart}
use Rattle.certificates.specs.Accepted.{Accepted}
use Rattle.client_reads.specs.Replies.{IsValidReply}
use Rattle.frame_views.specs.Values.{CommittedValue, ReadReplyValue, ReadValue}
use Rattle.client_core.specs.Clients.{AskedRead}
use Rattle.client_core.specs.Slots.{is_chosen, choice_of, read_state, of_version, carried_of, carrier, write_of, found_by, Pending, Absent}
use Rattle.client_core.specs.Slots.{Found, Deleted}
use Rattle.agreement_laws.specs.Words.{Id}
use Rattle.serial_laws.specs.Bases.{Basis}
use Rattle.basil_types.specs.Latest.{leaves, left_by}
use Rattle.law_joins.specs.Choices.{Carries, IsSeenReply, ChoicesAreTaken}
use Rattle.cluster_run.specs.Headline.{state_in, written}
use Rattle.cluster_run.specs.Reading.{IsReadWell, ReadsAreTaken}
use Rattle.cluster_run.proofs.Finding.{same_true, true_false}
use Rattle.cluster_run.proofs.Marking.{none_in}

-- ---- a transaction's write of a key

lt : (o : Ordering) → is_lt o ≡ true → o ≡ Less
lt Less h = refl
lt Equal h = absurd cc
lt Greater h = absurd cc

not_here : (k j : List ℕ) → slice_cmp nat_cmp k j ≡ Less → bytes_eq j k ≡ false
not_here k j h = elim (cases_Bool (bytes_eq j k)) [
  | inl s ↦
      let same : Equal ≡ Less = sym (tied_itself nat_list_cmp_total k) ∙ ap (slice_cmp nat_cmp k) (sym (same_true j k s)) ∙ h in
      absurd cc
  | inr n ↦ n
]

module _ (v : Version) (format : ℕ) (key : List ℕ) where
  abbrev Items : List ℕ → List WritePart → Type 0
  Items floor ws = AreItems (FitsWrite format) key_of_write floor ws

  -- no write above the key is of it
  above : (floor : List ℕ) (ws : List WritePart) (old : Option Latest) → (key ≡ floor) ⊎ (slice_cmp nat_cmp key floor ≡ Less) →
      Items floor ws → left_by v ws key old ≡ old
  above floor [] old h a = refl
  above floor (w ∷ ws) old h a =
      let up : slice_cmp nat_cmp floor w.key ≡ Less = lt (slice_cmp nat_cmp floor w.key) (a.0).above in
      let less : slice_cmp nat_cmp key w.key ≡ Less = elim h [
        | inl e ↦ ap (λ (k : List ℕ). slice_cmp nat_cmp k w.key) e ∙ up
        | inr l ↦ nat_list_cmp_total.trans key floor w.key l up
      ] in
      ap (λ b. left_by v ws key (cond b (Some (latest_of v w)) old)) (not_here key w.key less) ∙ above w.key ws old (inr less) a.1

  abbrev is_it : WritePart → Bool
  is_it w = bytes_eq w.key key

  found_or : Option WritePart → Option Latest → Option Latest
  found_or None old = old
  found_or (Some w) old = Some (latest_of v w)

  left_found : (floor : List ℕ) (ws : List WritePart) (old : Option Latest) → Items floor ws → left_by v ws key old
      ≡ found_or (find is_it ws) old
  unfolding found_or
  left_found floor [] old a = refl
  left_found floor (w ∷ ws) old a = by (is_it w) refl (left_found w.key ws old a.1)
    where
      by : (b : Bool) → is_it w ≡ b → left_by v ws key old ≡ found_or (find is_it ws) old →
          left_by v ws key (cond b (Some (latest_of v w)) old) ≡ found_or (cond b (Some w) (find is_it ws)) old
      by true e rec = above w.key ws (Some (latest_of v w)) (inl (sym (same_true w.key key e))) a.1
      by false e rec = rec

  found_maps : (o : Option WritePart) → found_or o None ≡ option_map (latest_of v) o
  unfolding found_or
  found_maps None = refl
  found_maps (Some w) = refl

left_by_write : (t : TransactionValue) (key : List ℕ) → IsTransaction t → leaves t key
    ≡ option_map (latest_of (version_of t)) (write_of key t)
left_by_write t key is =
    left_found (version_of t) t.format key [] t.writes None is.writes
    ∙ found_maps (version_of t) t.format key (find (is_it (version_of t) t.format key) t.writes)

-- what is told of it
told_of : (v : Version) (o : Option WritePart) → found_by v o ≡ state_in (option_map (latest_of v) o)
told_of v None = refl
told_of v (Some w) = by w.deletes
  where
    by : (b : Bool) → cond b (Deleted v) (Found v w.value) ≡ written v (cond b None (Some w.value))
    by true = refl
    by false = refl

-- ---- what replies carry at a version

record IsOf (v : Version) (o : Option TransactionValue) (u : TransactionValue) : Type 0 where
  is : o ≡ Some u
  same : same_version (version_of u) v ≡ true

of_some : (v : Version) (o : Option TransactionValue) (u : TransactionValue) → of_version v o ≡ Some u → IsOf v o u
of_some v None u h = absurd cc
of_some v (Some t) u h = by (same_version (version_of t) v) refl h
  where
    by : (b : Bool) → same_version (version_of t) v ≡ b → cond b (Some t) None ≡ Some u → IsOf v (Some t) u
    by true e k = record {
      is = k;
      same = (let is : t
          ≡ u = cc in subst (λ (z : TransactionValue). same_version (version_of z) v ≡ true) is e);
    }
    by false e k = absurd cc

some_of : (v : Version) (t : TransactionValue) → same_version (version_of t) v ≡ true → (o : Option TransactionValue) → o ≡ Some t →
    of_version v o ≡ Some t
some_of v t e o h = ap (of_version v) h ∙ ap (λ b. cond b (Some t) None) e

record IsCarried (v : Version) (r : ReadReplyValue) (u : TransactionValue) : Type 0 where
  carries : Carries r u
  same : same_version (version_of u) v ≡ true

committed_part : (o : Option CommittedValue) (u : TransactionValue) → option_map (λ (p : CommittedValue). p.transaction) o ≡ Some u →
    (part : CommittedValue) × (o ≡ Some part) × (part.transaction ≡ u)
committed_part None u h = absurd cc
committed_part (Some part) u h = (part, refl, (let is : part.transaction ≡ u = cc in is))

carried_sound : (v : Version) (r : ReadReplyValue) (u : TransactionValue) → carried_of v r ≡ Some u → IsCarried v r u
carried_sound v r u h = by (of_version v (option_map (λ (p : CommittedValue). p.transaction) r.committed)) refl h
  where
    by : (o : Option TransactionValue) → of_version v (option_map (λ (p : CommittedValue). p.transaction) r.committed) ≡ o →
        or_else o (of_version v r.prepared) ≡ Some u → IsCarried v r u
    by (Some t) e k =
        let is : t ≡ u = cc in
        let f = of_some v (option_map (λ (p : CommittedValue). p.transaction) r.committed) u
        (e ∙ ap (λ (z : TransactionValue). Some z) is) in
        record { carries = inl (committed_part r.committed u f.is); same = f.same }
    by None e k = let f = of_some v r.prepared u k in record { carries = inr f.is; same = f.same }

or_some : {X : Type 0} (a b : Option X) → is_some b ≡ true → is_some (or_else a b) ≡ true
or_some None b h = h
or_some (Some x) b h = refl

some_or : {X : Type 0} (a b : Option X) → is_some a ≡ true → is_some (or_else a b) ≡ true
some_or None b h = absurd cc
some_or (Some x) b h = refl

carried_some : (v : Version) (r : ReadReplyValue) (t : TransactionValue) → Carries r t → same_version (version_of t) v ≡ true →
    is_some (carried_of v r) ≡ true
carried_some v r t (inl h) e =
    some_or (of_version v (option_map (λ (p : CommittedValue). p.transaction) r.committed)) (of_version v r.prepared)
    (ap is_some (some_of v t e (option_map (λ (p : CommittedValue). p.transaction) r.committed)
    (ap (option_map (λ (p : CommittedValue). p.transaction)) h.1 ∙ ap (λ (z : TransactionValue). Some z) h.2)))
carried_some v r t (inr h) e =
    or_some (of_version v (option_map (λ (p : CommittedValue). p.transaction) r.committed)) (of_version v r.prepared)
    (ap is_some (some_of v t e r.prepared h))

record IsCarrier (v : Version) (rs : List ReadReplyValue) (u : TransactionValue) : Type 0 where
  reply : ReadReplyValue
  among : Contains rs reply
  carried : IsCarried v reply u

carrier_sound : (v : Version) (rs : List ReadReplyValue) (u : TransactionValue) → carrier v rs ≡ Some u → IsCarrier v rs u
carrier_sound v [] u h = absurd cc
carrier_sound v (r ∷ rs) u h = by (carried_of v r) refl h (carrier_sound v rs u)
  where
    by : (o : Option TransactionValue) → carried_of v r ≡ o → or_else o (carrier v rs) ≡ Some u →
        (carrier v rs ≡ Some u → IsCarrier v rs u) → IsCarrier v (r ∷ rs) u
    by (Some t) e k f = record { reply = r; among = in_head r rs; carried = carried_sound v r u (e ∙ k) }
    by None e k f = let c = f k in record { reply = c.reply; among = in_rest r c.reply rs c.among; carried = c.carried }

carrier_some : (v : Version) (rs : List ReadReplyValue) (r : ReadReplyValue) (t : TransactionValue) → Contains rs r → Carries r t →
    same_version (version_of t) v ≡ true → is_some (carrier v rs) ≡ true
carrier_some v [] r t i k e = absurd (none_in r i)
carrier_some v (x ∷ xs) r t i k e = elim (in_cases r x xs i) [
  | inl s ↦ some_or (carried_of v x) (carrier v xs)
      (subst (λ (z : ReadReplyValue). is_some (carried_of v z) ≡ true) (sym s) (carried_some v r t k e))
  | inr j ↦ or_some (carried_of v x) (carrier v xs) (carrier_some v xs r t j k e)
]

-- ---- a read

module _ (same : AreToldApart) (choices : ChoicesAreTaken) (A : Accepted) (b : Basis) (shown : Id → Bool) (time client : ℕ) (r : AskedRead)
    (chosen : is_chosen b.numbers r ≡ true)
    (valid : (reply : ReadReplyValue) → Contains r.replies reply →
    IsValidReply A b.numbers (record { key = r.key; time = time; client = client }) reply × IsSeenReply b shown reply)
    (spelled : (reply : ReadReplyValue) (t : TransactionValue) → Contains r.replies reply → Carries reply t → IsTransaction t) where
  abbrev V : Version
  V = (choice_of b.numbers r).version

  abbrev read : ReadValue
  read = record { key = r.key; time = time; client = client }

  state_by : (g : Bool) → same_version V genesis ≡ g → read_state b.numbers r
      ≡ cond g Absent (found_by V (option_and_then (write_of r.key) (carrier V r.replies)))
  state_by g e =
      ap (λ c. cond (not c) Pending (cond (same_version V genesis) Absent
      (found_by V (option_and_then (write_of r.key) (carrier V r.replies))))) chosen
      ∙ ap (λ c. cond c Absent (found_by V (option_and_then (write_of r.key) (carrier V r.replies)))) e

  pub well : IsReadWell b shown r
  well =
      let w = choices A b shown read r.replies valid in
      elim (cases_Bool (same_version V genesis)) [
        | inl g ↦ record { gave = None; told = state_by true g; taken = w.absent ((same V genesis).0 g) }
        | inr n ↦ elim w.some [
          | inl g ↦ true_false (same_version V genesis) ((same V genesis).1 g) n
          | inr o ↦ by n (carrier V r.replies) refl (carrier_some V r.replies (o.1).reply o.0 (o.1).given (o.1).carries
              ((same (version_of o.0) V).1 (o.1).version))
        ]
      ]
    where
      by : same_version V genesis ≡ false → (o : Option TransactionValue) → carrier V r.replies ≡ o → is_some (carrier V r.replies) ≡ true →
          IsReadWell b shown r
      by n None e s = (let q : false ≡ true = sym (ap is_some e) ∙ s in absurd cc)
      by n (Some u) e s =
          let c = carrier_sound V r.replies u e in
          let at : version_of u ≡ V = (same (version_of u) V).0 (c.carried).same in
          let is = spelled c.reply u c.among (c.carried).carries in
          record {
            gave = leaves u r.key;
            told = state_by false n ∙ ap (λ (z : Option TransactionValue). found_by V (option_and_then (write_of r.key) z)) e
                ∙ told_of V (write_of r.key u)
                ∙ ap (λ (z : Version). state_in (option_map (latest_of z) (write_of r.key u))) (sym at)
                ∙ ap state_in (sym (left_by_write u r.key is));
            taken = (choices A b shown read r.replies valid).found u
                (record { reply = c.reply; given = c.among; carries = (c.carried).carries; version = at });
          }

pub reads_are_taken : AreToldApart → ChoicesAreTaken → ReadsAreTaken
reads_are_taken same choices A b shown time client r chosen valid spelled = well same choices A b shown time client r chosen valid spelled
