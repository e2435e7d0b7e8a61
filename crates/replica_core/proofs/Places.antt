-- Places of transactions, known or arriving.
use Rattle.std.proofs.Common.{◌≡◌, ℕ, zero, suc, ◌<◌, cond, List, [], ◌∷◌, ◌++◌, length, Option, Some, None, refl, sym, ap, subst}
use Rattle.std.proofs.Common.{◌∙◌, arith}
use Rattle.std.specs.Prelude.{option_map, option_and_then, slice_get, is_some, unwrap_or}
use Rattle.std.specs.Option.{option_map_or, ForSome}
use Rattle.basil_types.specs.Transaction.{TransactionValue, id}
use Rattle.mv_store.specs.Store.{HasRoom}
use Rattle.txn_table.specs.Entries.{EntryValue, arrived, decision_of}
use Rattle.txn_table.specs.Laws.{IdsTellPlaces}
use Rattle.txn_table.specs.Tables.{id_of, place_of, entry_with, changed}
use Rattle.replica_core.specs.declared.known.Known.{Known}
use Rattle.replica_core.specs.Holding.{arrived_in, HasStoreRoom}
use Rattle.replica_core.specs.Known.{with_known, known_of, changed_at}
use Rattle.replica_core.specs.KnownWorks.{CanArrive}
use Rattle.replica_core.specs.Placing.{IsOpen, IsPlace, ChangesAt, entry_now, arrival_at}

some_is : {A : Type 0} (x y : A) → Some x ≡ Some y → x ≡ y
some_is x y e = cc

-- ---- one that isn't known

got_last : (es : List EntryValue) (x : EntryValue) → slice_get (es ++ x ∷ []) (length es) ≡ Some x
got_last [] x = refl
got_last (e ∷ es) x = got_last es x

long_last : (es : List EntryValue) (x : EntryValue) → length es < length (es ++ x ∷ [])
long_last [] x = omega arith
long_last (e ∷ es) x = let i = long_last es x in omega (arith, i)

pub known_new : (es : List EntryValue) (t : TransactionValue) → place_of es (id t) ≡ None → known_of es t ≡ t
known_new es t none = ap (λ (o : Option EntryValue). option_map_or (λ (e : EntryValue). e.transaction) o t)
    (ap (option_and_then (slice_get es)) none)

pub with_new : (es : List EntryValue) (t : TransactionValue) → place_of es (id t) ≡ None → with_known es t ≡ es ++ arrived t ∷ []
with_new es t none = ap (λ (o : Option ℕ). cond (is_some o) es (es ++ arrived t ∷ [])) none

pub with_old : (es : List EntryValue) (t : TransactionValue) (p : ℕ) → place_of es (id t) ≡ Some p → with_known es t ≡ es
with_old es t p some = ap (λ (o : Option ℕ). cond (is_some o) es (es ++ arrived t ∷ [])) some

module _ (tells : IdsTellPlaces) (k : Known) (t : TransactionValue) (none : place_of k.table.entries (id t) ≡ None) where
  change_new : ChangesAt k.table.entries t (arrived_in k.table.entries (Some t)) (length k.table.entries)
  change_new f =
      ap (changed_at f (id t)) (with_new k.table.entries t none)
      ∙ ap (λ (o : Option ℕ). option_map_or (λ place. changed f place (k.table.entries ++ arrived t ∷ [])) o
      (k.table.entries ++ arrived t ∷ [])) (tells.arrives k.table.entries t none)

  now_new : entry_now k.table.entries t ≡ arrived t
  now_new = ap (λ (o : Option EntryValue). unwrap_or o (arrived t)) (ap (option_and_then (slice_get k.table.entries)) none)

  at_new : slice_get (k.table.entries ++ arrived t ∷ []) (length k.table.entries) ≡ Some (arrived t)
  at_new = got_last k.table.entries (arrived t)

  pub place_new : k.table.room ≡ Some (id t) → HasRoom k.store t →
      IsPlace k.table.entries t k (arrival_at (Some t) (length k.table.entries))
  place_new room store =
      record {
        arrives = λ u h. subst (λ (v : TransactionValue). (place_of k.table.entries (id v) ≡ None) × (k.table.room ≡ Some (id v)))
            (some_is t u h) (none, room);
        enters = record {
          held = long_last k.table.entries (arrived t);
          undecided = ap (option_and_then decision_of) at_new;
          room = λ e h. subst (HasStoreRoom k.store) (some_is (arrived t) e (sym at_new ∙ h)) store;
        };
        room = room ∙ sym (ap (option_map id_of) at_new);
        at = at_new ∙ ap Some (sym now_new);
        change = change_new;
        change_known = subst
            (λ (u : TransactionValue). ChangesAt k.table.entries u (arrived_in k.table.entries (Some t)) (length k.table.entries))
            (sym (known_new k.table.entries t none)) change_new;
        named = ap id (known_new k.table.entries t none);
      }

-- ---- a known one

got_within : (es : List EntryValue) (p : ℕ) → p < length es → (e : EntryValue) × (slice_get es p ≡ Some e)
got_within [] p h = absurd (omega (arith, h))
got_within (d ∷ es) zero h = (d, refl)
got_within (d ∷ es) (suc p) h = got_within es p (omega (arith, h))

pub known_at : (es : List EntryValue) (t : TransactionValue) (p : ℕ) (e : EntryValue) → place_of es (id t) ≡ Some p →
    slice_get es p ≡ Some e → known_of es t ≡ e.transaction
known_at es t p e at got = ap (λ (o : Option EntryValue). option_map_or (λ (e : EntryValue). e.transaction) o t)
    (ap (option_and_then (slice_get es)) at ∙ got)

change_old : (es : List EntryValue) (u : TransactionValue) (p : ℕ) → place_of es (id u) ≡ Some p → ChangesAt es u es p
change_old es u p some f =
    ap (changed_at f (id u)) (with_old es u p some)
    ∙ ap (λ (o : Option ℕ). option_map_or (λ place. changed f place es) o es) some

module _ (k : Known) (t : TransactionValue) (p : ℕ) (some : place_of k.table.entries (id t) ≡ Some p) (held : p < length k.table.entries)
    (found : option_map id_of (slice_get k.table.entries p) ≡ Some (id t)) where
  the : EntryValue
  the = (got_within k.table.entries p held).0

  got : slice_get k.table.entries p ≡ Some the
  unfolding the
  got = (got_within k.table.entries p held).1

  has_entry : entry_with k.table.entries (id t) ≡ Some the
  has_entry = ap (option_and_then (slice_get k.table.entries)) some ∙ got

  known_the : known_of k.table.entries t ≡ the.transaction
  known_the = known_at k.table.entries t p the some got

  the_id : id_of the ≡ id t
  the_id = some_is (id_of the) (id t) (sym (ap (option_map id_of) got) ∙ found)

  named_the : id (known_of k.table.entries t) ≡ id t
  named_the = ap id known_the ∙ the_id

  pub place_old : k.table.room ≡ Some (id t) → ForSome (entry_with k.table.entries (id t)) IsOpen →
      ForSome (slice_get k.table.entries p) (HasStoreRoom k.store) → IsPlace k.table.entries t k (arrival_at None p)
  place_old room undecided store =
      record {
        arrives = λ u h. absurd cc;
        enters = record {
          held = held;
          undecided = ap (option_and_then decision_of) got ∙ undecided the has_entry;
          room = store;
        };
        room = room ∙ sym (ap (option_map id_of) got ∙ ap Some the_id);
        at = got ∙ ap Some (sym (ap (λ (o : Option EntryValue). unwrap_or o (arrived t)) has_entry));
        change = change_old k.table.entries t p some;
        change_known = change_old k.table.entries (known_of k.table.entries t) p (ap (place_of k.table.entries) named_the ∙ some);
        named = named_the;
      }

-- ---- beside entries that stayed the same

pub place_new_in : (tells : IdsTellPlaces) (es : List EntryValue) (k : Known) (t u : TransactionValue) (p : ℕ) → k.table.entries ≡ es →
    place_of es (id t) ≡ None → u ≡ t → p ≡ length k.table.entries → k.table.room ≡ Some (id t) → HasRoom k.store t →
    IsPlace es t k (arrival_at (Some u) p)
place_new_in tells es k t u p same none is at room store =
    subst (λ (l : List EntryValue). IsPlace l t k (arrival_at (Some u) p)) same
    (subst (λ (v : TransactionValue). IsPlace k.table.entries t k (arrival_at (Some v) p)) (sym is)
    (subst (λ (n : ℕ). IsPlace k.table.entries t k (arrival_at (Some t) n)) (sym at)
    (place_new tells k t (ap (λ (l : List EntryValue). place_of l (id t)) same ∙ none) room store)))

pub place_old_in : (es : List EntryValue) (k : Known) (t : TransactionValue) (p : ℕ) → k.table.entries ≡ es →
    place_of es (id t) ≡ Some p → p < length es → option_map id_of (slice_get es p) ≡ Some (id t) → k.table.room ≡ Some (id t) →
    ForSome (entry_with es (id t)) IsOpen → ForSome (slice_get k.table.entries p) (HasStoreRoom k.store) →
    IsPlace es t k (arrival_at None p)
place_old_in es k t p same some held found room undecided store =
    subst (λ (l : List EntryValue). IsPlace l t k (arrival_at None p)) same
    (place_old k t p (ap (λ (l : List EntryValue). place_of l (id t)) same
    ∙ some) (subst (λ (l : List EntryValue). p < length l) (sym same) held)
    (ap (λ (l : List EntryValue). option_map id_of (slice_get l p)) same ∙ found) room
    (λ e h. undecided e (sym (ap (λ (l : List EntryValue). entry_with l (id t)) same) ∙ h)) store)

-- ---- newcomers

pub newcomer_arrives : (es : List EntryValue) (k : Known) (t u : TransactionValue) → k.table.entries ≡ es → place_of es (id t) ≡ None →
    u ≡ t → k.table.room ≡ Some (id t) → CanArrive k.table (Some u)
newcomer_arrives es k t u same none is room v h =
    subst (λ (w : TransactionValue). (place_of k.table.entries (id w) ≡ None) × (k.table.room ≡ Some (id w))) (sym is ∙ some_is u v h)
    (ap (λ (l : List EntryValue). place_of l (id t)) same ∙ none, room)

pub newcomer_with : (es ns : List EntryValue) (t u : TransactionValue) → ns ≡ es → place_of es (id t) ≡ None → u ≡ t →
    with_known es t ≡ arrived_in ns (Some u)
newcomer_with es ns t u same none is =
    with_new es t none ∙ ap (λ (l : List EntryValue). l ++ arrived t ∷ []) (sym same)
    ∙ ap (λ (w : TransactionValue). ns ++ arrived w ∷ []) (sym is)
