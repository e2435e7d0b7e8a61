-- One entry that changes is one slot that changes.
use Rattle.std.proofs.Common.{◌≡◌, ℕ, Bool, true, false, cond, List, Option, Some, None, refl, sym, ap, ◌∙◌, inl, inr}
use Rattle.std.specs.Prelude.{option_map}
use Rattle.std.specs.Str.{bytes_eq}
use Rattle.std.proofs.lemmas.Bool.{cases_Bool}
use Rattle.basil_types.specs.Transaction.{TransactionValue, id}
use Rattle.txn_table.specs.Entries.{EntryValue, arrived}
use Rattle.replica_core.specs.Replicas.{LoggedEntry}
use Rattle.replica_core.specs.Known.{changed_at, logged_with, put_logged, with_known}
use Rattle.txn_table.specs.Tables.{entry_with}
use Rattle.agreement_laws.specs.Replicas.{Slot, Book}
use Rattle.agreement_laws.specs.Runs.{put_id}
use Rattle.cluster_run.specs.Acting.{slot_with, slots}
use Rattle.cluster_run.proofs.Finding.{found, entry_found, changed_altered, found_same, found_other, found_or, found_known, logged_same}
use Rattle.cluster_run.proofs.Finding.{logged_other, same_true, same_self}

pub ext : {A B : Type 0} (f g : A → B) → ((x : A) → f x ≡ g x) → f ≡ g
ext f g h = λ i x. h x i

-- a transaction that becomes known has an empty slot
blank : (t : TransactionValue) (x : List ℕ) (l : Option LoggedEntry) (o : Option EntryValue) → slot_with (found_or t x o) l ≡ slot_with o l
blank t x l None = by (bytes_eq x (id t))
  where
    by : (b : Bool) → slot_with (cond b (Some (arrived t)) None) l ≡ slot_with None l
    by true = refl
    by false = refl
blank t x l (Some e) = refl

slot_known : (t : TransactionValue) (es : List EntryValue) (ls : List LoggedEntry) (x : List ℕ) → slots (with_known es t) ls x
    ≡ slots es ls x
slot_known t es ls x =
    ap (λ (o : Option EntryValue). slot_with o (logged_with ls x)) (entry_found x (with_known es t) ∙ found_known t x es)
    ∙ blank t x (logged_with ls x) (found x es)
    ∙ ap (λ (o : Option EntryValue). slot_with o (logged_with ls x)) (sym (entry_found x es))

pub slots_known : (t : TransactionValue) (es : List EntryValue) (ls : List LoggedEntry) → slots (with_known es t) ls ≡ slots es ls
slots_known t es ls = ext _ _ (slot_known t es ls)

-- the known transaction has an entry
pub known_found : (t : TransactionValue) (es : List EntryValue) → (e : EntryValue) × (found (id t) (with_known es t) ≡ Some e)
known_found t es = by (found (id t) es) refl
  where
    by : (o : Option EntryValue) → found (id t) es ≡ o → (e : EntryValue) × (found (id t) (with_known es t) ≡ Some e)
    by None h =
        (arrived t, found_known t (id t) es ∙ ap (found_or t (id t)) h ∙ ap (λ b. cond b (Some (arrived t)) None) (same_self (id t)))
    by (Some e) h = (e, found_known t (id t) es ∙ ap (found_or t (id t)) h)

-- a change of the entry of an id that is held is a change of its slot
module _ (f : EntryValue → EntryValue) (g : Slot → Slot) (keeps : (e : EntryValue) → (f e).transaction ≡ e.transaction)
    (acts : (e : EntryValue) (l : Option LoggedEntry) → slot_with (Some (f e)) l ≡ g (slot_with (Some e) l)) where
  slot_changed : (es : List EntryValue) (ls : List LoggedEntry) (x : List ℕ) (e : EntryValue) → found x es ≡ Some e → (y : List ℕ) →
      slots (changed_at f x es) ls y ≡ put_id (slots es ls) x (g (slots es ls x)) y
  slot_changed es ls x e h y = elim (cases_Bool (bytes_eq y x)) [
    | inl i ↦
        let is : y ≡ x = same_true y x i in
        let there : slots (changed_at f x es) ls x ≡ g (slots es ls x) =
        ap (λ (o : Option EntryValue). slot_with o (logged_with ls x))
        (entry_found x (changed_at f x es) ∙ ap (found x) (changed_altered f x es) ∙ found_same f keeps x es ∙ ap (option_map f) h)
        ∙ acts e (logged_with ls x)
        ∙ ap (λ (o : Option EntryValue). g (slot_with o (logged_with ls x))) (sym (entry_found x es ∙ h)) in
        ap (slots (changed_at f x es) ls) is ∙ there ∙ sym (ap (λ b. cond b (g (slots es ls x)) (slots es ls y)) i)
    | inr n ↦
        ap (λ (o : Option EntryValue). slot_with o (logged_with ls y))
        (entry_found y (changed_at f x es) ∙ ap (found y) (changed_altered f x es) ∙ found_other f keeps x y es n
        ∙ sym (entry_found y es))
        ∙ sym (ap (λ b. cond b (g (slots es ls x)) (slots es ls y)) n)
  ]

  pub slots_changed : (es : List EntryValue) (ls : List LoggedEntry) (x : List ℕ) (e : EntryValue) → found x es ≡ Some e →
      slots (changed_at f x es) ls ≡ put_id (slots es ls) x (g (slots es ls x))
  slots_changed es ls x e h = ext _ _ (slot_changed es ls x e h)

  -- of a transaction that becomes known, or is known
  pub slots_made : (es : List EntryValue) (ls : List LoggedEntry) (t : TransactionValue) → slots (changed_at f (id t) (with_known es t)) ls
      ≡ put_id (slots es ls) (id t) (g (slots es ls (id t)))
  slots_made es ls t =
      let k = known_found t es in
      slots_changed (with_known es t) ls (id t) k.0 k.1
      ∙ ap (λ (b : Book). put_id b (id t) (g (b (id t)))) (slots_known t es ls)

-- what is logged of an id is the cell of its slot
module _ (l : LoggedEntry) (es : List EntryValue) (ls : List LoggedEntry) where
  slot_logged : (y : List ℕ) → slots es (put_logged l ls) y ≡ put_id (slots es ls) l.id (slot_with (entry_with es l.id) (Some l)) y
  slot_logged y = elim (cases_Bool (bytes_eq y l.id)) [
    | inl i ↦
        let is : y ≡ l.id = same_true y l.id i in
        ap (slots es (put_logged l ls)) is ∙ ap (slot_with (entry_with es l.id)) (logged_same l ls)
        ∙ sym (ap (λ b. cond b (slot_with (entry_with es l.id) (Some l)) (slots es ls y)) i)
    | inr n ↦
        ap (slot_with (entry_with es y)) (logged_other l y ls n)
        ∙ sym (ap (λ b. cond b (slot_with (entry_with es l.id) (Some l)) (slots es ls y)) n)
  ]

  pub slots_logged : slots es (put_logged l ls) ≡ put_id (slots es ls) l.id (slot_with (entry_with es l.id) (Some l))
  slots_logged = ext _ _ slot_logged
