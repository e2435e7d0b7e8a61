-- What a table keeps, when an entry changes.
use Rattle.std.proofs.Common.{◌≡◌, ℕ, zero, suc, ◌+◌, ◌<◌, true, cond, List, [], ◌∷◌, length, get_or, set}
use Rattle.std.proofs.Common.{map, Option, Some, None, refl, sym, ap, subst, ◌∙◌, arith, ◌≢◌, ◌⊎◌, inl, inr}
use Rattle.std.specs.Prelude.{slice_get, position, option_map, All}
use Rattle.std.specs.Option.{ForSome, option_map_or}
use Rattle.std.specs.List.{IsDistinct}
use Rattle.std.specs.Str.{bytes_eq}
use Rattle.std.specs.Map.{values_of}
use Rattle.std.proofs.lemmas.Bool.{cases_eq}
use Rattle.std.proofs.lemmas.List.{map-set, length-set, get_or-set_same, get_or-set_other, set-get_or}
use Rattle.std.proofs.lemmas.List.Elements.{All-set}
use Rattle.std.proofs.lemmas.Option.{slice_get-map, slice_get_within, get_or_from_slice_get}
use Rattle.basil_types.specs.Spare.{Spare}
use Rattle.basil_types.specs.declared.party.Party.{Party}
use Rattle.basil_types.specs.Transaction as transactions
use Rattle.basil_types.specs.Transaction.{TransactionValue}
use Rattle.indexmap.specs.IndexMap.{IndexMap, values, with_value_at}
use Rattle.indexmap.specs.Layout.{set_value_at, length-set_value_at}
use Rattle.indexmap.proofs.CallerLemmas.{keys-with_value_at}
use Rattle.txn_table.specs.declared.entry.Entry.{Entry}
use Rattle.txn_table.specs.Entries.{EntryValue, VoteValue, Unvoted, Waiting, Voted, asked_vote, proof_of}
use Rattle.txn_table.specs.Shown.{entry_of, has_room}
use Rattle.txn_table.specs.Tables.{IsProofBelow, id_of, ids_of, place_of, changed}
use Rattle.txn_table.specs.declared.waiters.Waiters.{Waiters}
use Rattle.txn_table.specs.Waiters.{places_from, places_on, waits_on}
use Rattle.txn_table.specs.Kept.{shown, HasRoom, IsKept}
use Rattle.txn_table.proofs.Places.{one_place}
use Rattle.txn_table.proofs.Room.{id-at, length-ids}

values-set_value_at : {K X : Type 0} (es : List (K × X)) (i : ℕ) (w : X) → values_of (set_value_at es i w) ≡ set (values_of es) i w
values-set_value_at [] i w = refl
values-set_value_at (e ∷ es) zero w = refl
values-set_value_at (e ∷ es) (suc i) w = ap (λ l. e.1 ∷ l) (values-set_value_at es i w)

-- what is shown, with the entry at a place changed
shown_set : (es : List Entry) (i : ℕ) (e w : Entry) (f : EntryValue → EntryValue) → slice_get es i ≡ Some e → entry_of w ≡ f (entry_of e)
    → map entry_of (set es i w) ≡ changed f i (map entry_of es)
shown_set es i e w f at is =
    map-set entry_of es i w ∙ ap (set (map entry_of es) i) is
    ∙ sym (ap (λ o. option_map_or (λ e. set (map entry_of es) i (f e)) o (map entry_of es)) (slice_get-map entry_of es i
    ∙ ap (option_map entry_of) at))

ids_set : (es : List Entry) (i : ℕ) (e w : Entry) → slice_get es i ≡ Some e → w.transaction ≡ e.transaction
    → ids_of (map entry_of (set es i w)) ≡ ids_of (map entry_of es)
ids_set [] i e w at same = refl
ids_set (x ∷ es) zero e w at same =
    let is : x ≡ e = cc in
    ap (λ (t : TransactionValue). transactions.id t ∷ ids_of (map entry_of es)) (same ∙ sym (ap (λ (x : Entry). x.transaction) is))
ids_set (x ∷ es) (suc i) e w at same = ap (λ l. id_of (entry_of x) ∷ l) (ids_set es i e w at same)

-- a changed entry with the same transaction depends on the same ids
places_set : (id : List ℕ) (k : ℕ) (es : List Entry) (i : ℕ) (e w : Entry) → slice_get es i ≡ Some e → w.transaction ≡ e.transaction
    → places_from id k (map entry_of (set es i w)) ≡ places_from id k (map entry_of es)
places_set id k [] i e w at same = refl
places_set id k (x ∷ es) zero e w at same =
    let is : x ≡ e = cc in
    let rest : List ℕ = places_from id (k + 1) (map entry_of es) in
    ap (λ (t : TransactionValue). cond (waits_on t id) (k ∷ rest) rest) (same ∙ sym (ap (λ (x : Entry). x.transaction) is))
places_set id k (x ∷ es) (suc i) e w at same =
    ap (λ (l : List ℕ). cond (waits_on x.transaction id) (k ∷ l) l) (places_set id (k + 1) es i e w at same)

All-at : {X : Type 0} (P : X → Type 0) (xs : List X) (i : ℕ) (x : X) → slice_get xs i ≡ Some x → All P xs → P x
All-at P xs i x at all = subst P (get_or_from_slice_get xs i x x at) (all i x (slice_get_within xs i x at))

-- an entry at a place
module _ {S : Type 0} (m : IndexMap (List ℕ) Entry S)
    (askers : Spare Party) (room : Option (List ℕ)) (i : ℕ) (e : Entry) (at : slice_get (values m) i ≡ Some e) where
  pub shown-at : slice_get (shown m) i ≡ Some (entry_of e)
  shown-at = slice_get-map entry_of (values m) i ∙ ap (option_map entry_of) at

  pub proof-at : {ws : Waiters} → IsKept m askers ws room → IsProofBelow (length (shown m)) (entry_of e)
  proof-at h = All-at (IsProofBelow (length (shown m))) (shown m) i (entry_of e) shown-at h.proofs

  -- there is room for an asker where the room is for this transaction
  pub asker-at : {ws : Waiters} → IsKept m askers ws room → room ≡ Some (id_of (entry_of e)) → has_room e ≡ true
  asker-at h is =
      All-at (λ (x : Entry). id_of (entry_of x) ≡ id_of (entry_of e)
      → has_room x ≡ true) (values m) i e at (h.made (id_of (entry_of e)) is).asker refl

-- the entry e at a place becomes w, with the same transaction
module _ {S : Type 0} (m : IndexMap (List ℕ) Entry S) (askers : Spare Party) (i : ℕ) (e w : Entry) (at : slice_get (values m) i
    ≡ Some e) (same : w.transaction ≡ e.transaction) where
  pub shown-changed : (f : EntryValue → EntryValue) → entry_of w ≡ f (entry_of e) → shown (with_value_at m i w) ≡ changed f i (shown m)
  shown-changed f is = ap (map entry_of) (values-set_value_at m.entries i w) ∙ shown_set (values m) i e w f at is

  -- where the same is shown of it, the same is shown of all
  pub shown-kept : entry_of w ≡ entry_of e → shown (with_value_at m i w) ≡ shown m
  shown-kept is =
      ap (map entry_of) (values-set_value_at m.entries i w) ∙ map-set entry_of (values m) i w
      ∙ ap (set (shown m) i) (is
      ∙ sym (get_or_from_slice_get (shown m) i (entry_of e) (entry_of e) (slice_get-map entry_of (values m) i
      ∙ ap (option_map entry_of) at)))
      ∙ set-get_or (shown m) i (entry_of e)

  pub ids-changed : ids_of (shown (with_value_at m i w)) ≡ ids_of (shown m)
  ids-changed = ap (λ es. ids_of (map entry_of es)) (values-set_value_at m.entries i w) ∙ ids_set (values m) i e w at same

  pub room-changed : (id : List ℕ) → (has_room e ≡ true → has_room w ≡ true) → HasRoom m askers id → HasRoom (with_value_at m i w) askers id
  room-changed id more h =
      let P : Entry → Type 0 = λ (x : Entry). id_of (entry_of x) ≡ id → has_room x ≡ true in
      record {
        entry =
            λ none.
            let can = h.entry (ap (position (bytes_eq id)) (sym ids-changed) ∙ none) in
            record { few = omega (arith, can.few, length-set_value_at m.entries i w); entry = can.entry; asker = can.asker };
        asker =
            subst (All P) (sym (values-set_value_at m.entries i w))
            (All-set P (values m) i w (λ is.
            more (All-at P (values m) i e at h.asker (ap (λ (t : TransactionValue). transactions.id t) (sym same) ∙ is))) h.asker);
      }

  places-changed : (id : List ℕ) → places_on id (shown (with_value_at m i w)) ≡ places_on id (shown m)
  places-changed id =
      ap (λ es. places_on id (map entry_of es)) (values-set_value_at m.entries i w) ∙ places_set id 0 (values m) i e w at same

  pub kept-changed : {ws : Waiters} → (room room' : Option (List ℕ)) → IsProofBelow (length (shown m)) (entry_of w)
      → ForSome room' (HasRoom (with_value_at m i w) askers) → IsKept m askers ws room → IsKept (with_value_at m i w) askers ws room'
  kept-changed room room' proof made h =
      let after : shown (with_value_at m i w) ≡ set (shown m) i (entry_of w) = ap (map entry_of) (values-set_value_at m.entries i w)
      ∙ map-set entry_of (values m) i w in
      let n : length (shown (with_value_at m i w)) ≡ length (shown m) = ap length after ∙ length-set (shown m) i (entry_of w) in
      record {
        ids = keys-with_value_at m i w ∙ h.ids ∙ sym ids-changed;
        few = omega (arith, h.few, length-set_value_at m.entries i w);
        proofs =
            subst (λ k. All (IsProofBelow k) (shown (with_value_at m i w))) (sym n)
            (subst (All (IsProofBelow (length (shown m))))
            (sym after) (All-set (IsProofBelow (length (shown m))) (shown m) i (entry_of w) proof h.proofs));
        none = h.none;
        made = made;
        waits = λ whole id. h.waits whole id ∙ sym (places-changed id);
      }

-- room for one more asker at the one place of an id
pub room-placed : {S : Type 0} (m : IndexMap (List ℕ) Entry S) (askers : Spare Party) (i : ℕ) (id : List ℕ) (e w : Entry)
    → slice_get (values m) i ≡ Some e → IsDistinct bytes_eq (ids_of (shown m)) → place_of (shown m) id ≡ Some i
    → w.transaction ≡ e.transaction → has_room w ≡ true → HasRoom (with_value_at m i w) askers id
room-placed m askers i id e w at distinct place same room =
    record {
      entry =
          λ none.
          let none' : Some i ≡ None = sym place ∙ ap (position (bytes_eq id)) (sym (ids-changed m askers i e w at same)) ∙ none in
          absurd cc;
      asker =
          subst (All (λ (x : Entry). id_of (entry_of x) ≡ id → has_room x ≡ true)) (sym (values-set_value_at m.entries i w))
          (λ k d h is. by k d h is (cases_eq k i));
    }
  where
    by : (k : ℕ) (d : Entry) → k < length (set (values m) i w) → id_of (entry_of (get_or (set (values m) i w) k d)) ≡ id → (k ≡ i) ⊎ (k ≢ i)
        → has_room (get_or (set (values m) i w) k d) ≡ true
    by k d h is (inl q) =
        let within : i < length (values m) = slice_get_within (values m) i e at in
        ap has_room (ap (λ j. get_or (set (values m) i w) j d) q ∙ get_or-set_same (values m) i w d within) ∙ room
    by k d h is (inr q) =
        let here : get_or (set (values m) i w) k d ≡ get_or (values m) k d = get_or-set_other (values m) i k w d q in
        let within : k < length (ids_of (shown m)) = omega (arith, h, length-set (values m) i w, length-ids (values m)) in
        absurd (q (one_place (ids_of (shown m)) id i distinct place k (id_of (entry_of d)) within (id-at (values m) k d
        ∙ ap (λ (x : Entry). id_of (entry_of x)) (sym here) ∙ is)))

-- an asker leaves a proof as it is
pub asked-proof : (asker : Party) (v : VoteValue) → proof_of (asked_vote asker v) ≡ proof_of v
asked-proof asker Unvoted = refl
asked-proof asker (Waiting askers) = refl
asked-proof asker (Voted vote signature proof) = refl
