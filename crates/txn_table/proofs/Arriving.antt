-- What a table keeps, when a transaction arrives.
use Rattle.std.proofs.Common.{◌≡◌, ℕ, ◌+◌, true, cond, List, [], ◌∷◌, ◌++◌, length}
use Rattle.std.proofs.Common.{length-append, map, Option, Some, refl, sym, ap, subst, ◌∙◌, arith}
use Rattle.std.specs.Prelude.{All, position, slice_get}
use Rattle.std.specs.Str.{bytes_eq}
use Rattle.std.specs.Map.{keys_of, values_of}
use Rattle.std.proofs.lemmas.List.{map-append}
use Rattle.std.proofs.lemmas.List.Elements.{All-push}
use Rattle.std.proofs.lemmas.Option.{same_Some}
use Rattle.basil_types.specs.Spare.{Spare}
use Rattle.basil_types.specs.declared.party.Party.{Party}
use Rattle.indexmap.specs.IndexMap.{IndexMap, keys, values}
use Rattle.txn_table.specs.declared.entry.Entry.{Entry}
use Rattle.txn_table.specs.Shown.{entry_of, has_room}
use Rattle.txn_table.specs.Tables.{IsProofBelow, id_of, ids_of}
use Rattle.txn_table.specs.declared.waiters.Waiters.{Waiters}
use Rattle.txn_table.specs.Waiters.{places_on, waits_on, with_place, Adds}
use Rattle.txn_table.specs.Kept.{shown, CanInsert, HasRoom, IsKept}
use Rattle.txn_table.proofs.Listing.{one-more}
use Rattle.txn_table.proofs.Places.{last_placed}

pub last-at : {X : Type 0} (xs : List X) (x : X) → slice_get (xs ++ x ∷ []) (length xs) ≡ Some x
last-at [] x = refl
last-at (y ∷ xs) x = last-at xs x

All-weaker : {X : Type 0} (P Q : X → Type 0) (xs : List X) → ((x : X) → P x → Q x) → All P xs → All Q xs
All-weaker P Q xs weaker all k d h = weaker _ (all k d h)

module _ {S : Type 0} (m m' : IndexMap (List ℕ) Entry S) (e : Entry) (pushed : m'.entries ≡ m.entries ++ (id_of (entry_of e), e) ∷ []) where
  values-pushed : values m' ≡ values m ++ e ∷ []
  values-pushed = ap values_of pushed ∙ map-append (λ (x : List ℕ × Entry). x.1) m.entries ((id_of (entry_of e), e) ∷ [])

  keys-pushed : keys m' ≡ keys m ++ id_of (entry_of e) ∷ []
  keys-pushed = ap keys_of pushed ∙ map-append (λ (x : List ℕ × Entry). x.0) m.entries ((id_of (entry_of e), e) ∷ [])

  pub shown-pushed : shown m' ≡ shown m ++ entry_of e ∷ []
  shown-pushed = ap (map entry_of) values-pushed ∙ map-append entry_of (values m) (e ∷ [])

  ids-pushed : ids_of (shown m') ≡ ids_of (shown m) ++ id_of (entry_of e) ∷ []
  ids-pushed = ap ids_of shown-pushed ∙ map-append id_of (shown m) (entry_of e ∷ [])

  pub kept-pushed : (ws ws' : Waiters) → Adds (waits_on e.transaction) ws ws' (length (shown m)) →
      (askers askers' : Spare Party) (room : Option (List ℕ)) → askers'.items ≡ [] → has_room e ≡ true
      → ((n : ℕ) → IsProofBelow n (entry_of e)) → room ≡ Some (id_of (entry_of e)) → CanInsert m askers → IsKept m askers ws room
      → IsKept m' askers' ws' room
  kept-pushed ws ws' adds askers askers' room none asks unproved is can h =
      let n : length (shown m') ≡ length (shown m) + 1 = ap length shown-pushed ∙ length-append (shown m) (entry_of e ∷ []) in
      record {
        ids = keys-pushed ∙ ap (λ ids. ids ++ id_of (entry_of e) ∷ []) h.ids ∙ sym ids-pushed;
        few = omega (arith, can.few, ap length pushed, length-append m.entries ((id_of (entry_of e), e) ∷ []));
        proofs =
            subst (All (IsProofBelow (length (shown m')))) (sym shown-pushed)
            (All-push (IsProofBelow (length (shown m'))) (shown m) (entry_of e)
            (All-weaker (IsProofBelow (length (shown m)))
            (IsProofBelow (length (shown m'))) (shown m) (λ x below place at. omega (arith, below place at, n)) h.proofs)
            (unproved (length (shown m'))));
        none = none;
        made =
            λ id at.
            let same : id_of (entry_of e) ≡ id = same_Some _ id (sym is ∙ at) in
            subst (HasRoom m' askers') same
            (record {
              entry = λ absent. absurd (last_placed (ids_of (shown m))
                  (id_of (entry_of e)) (ap (position (bytes_eq (id_of (entry_of e)))) (sym ids-pushed) ∙ absent));
              asker =
                  subst (All (λ (x : Entry). id_of (entry_of x) ≡ id_of (entry_of e) → has_room x ≡ true)) (sym values-pushed)
                  (All-push (λ (x : Entry). id_of (entry_of x) ≡ id_of (entry_of e)
                  → has_room x ≡ true) (values m) e (h.made (id_of (entry_of e)) is).asker (λ _. asks));
            });
        waits =
            λ whole id.
            adds.places whole id
            ∙ ap (λ (l : List ℕ). cond (waits_on e.transaction id) (with_place (length (shown m)) l) l) (h.waits (adds.whole whole) id)
            ∙ one-more id (shown m) (entry_of e) ∙ sym (ap (places_on id) shown-pushed);
      }
