-- What a table keeps, when room is made.
use Rattle.std.proofs.Common.{◌≡◌, ℕ, zero, suc, ◌≤◌, true, List, [], ◌∷◌, length}
use Rattle.std.proofs.Common.{get_or, map, Option, None, refl, sym, ap, subst, ◌∙◌, arith}
use Rattle.std.specs.Prelude.{All}
use Rattle.std.specs.Option.{ForSome}
use Rattle.std.specs.Map.{keys_of, values_of}
use Rattle.basil_types.specs.Spare.{Spare}
use Rattle.basil_types.specs.declared.party.Party.{Party}
use Rattle.indexmap.specs.IndexMap.{IndexMap, values, spare}
use Rattle.txn_table.specs.declared.entry.Entry.{Entry}
use Rattle.txn_table.specs.Shown.{entry_of, has_room}
use Rattle.txn_table.specs.Tables.{IsProofBelow, id_of, ids_of, place_of}
use Rattle.txn_table.specs.declared.waiters.Waiters.{Waiters}
use Rattle.txn_table.specs.Waiters.{places_on, SamePlaces}
use Rattle.txn_table.specs.Kept.{shown, CanInsert, HasRoom, IsKept}
use Rattle.txn_table.proofs.Places.{absent}

pub id-at : (es : List Entry) (k : ℕ) (d : Entry)
    → get_or (ids_of (map entry_of es)) k (id_of (entry_of d)) ≡ id_of (entry_of (get_or es k d))
id-at [] k d = refl
id-at (e ∷ es) zero d = refl
id-at (e ∷ es) (suc k) d = id-at es k d

pub length-ids : (es : List Entry) → length (ids_of (map entry_of es)) ≡ length es
length-ids [] = refl
length-ids (e ∷ es) = ap suc (length-ids es)

-- the same entries, with more room
module _ {S : Type 0} (m m' : IndexMap (List ℕ) Entry S) (same : m'.entries ≡ m.entries) where
  pub kept-same : {ws : Waiters} (askers askers' : Spare Party) (room room' : Option (List ℕ)) → askers'.items ≡ askers.items
      → ForSome room' (HasRoom m' askers') → IsKept m askers ws room → IsKept m' askers' ws room'
  kept-same askers askers' room room' none made h =
      record {
        ids = ap keys_of same ∙ h.ids ∙ sym (ap (λ es. ids_of (map entry_of (values_of es))) same);
        few = omega (arith, h.few, ap length same);
        proofs = subst (λ es. All (IsProofBelow (length (map entry_of (values_of es)))) (map entry_of (values_of es))) (sym same) h.proofs;
        none = none ∙ h.none;
        made = made;
        waits = λ whole id. h.waits whole id ∙ sym (ap (λ es. places_on id (map entry_of (values_of es))) same);
      }

  pub room-same : (askers askers' : Spare Party) (id : List ℕ) → spare m ≤ spare m' → askers' ≡ askers → HasRoom m askers id
      → HasRoom m' askers' id
  room-same askers askers' id more same_askers h =
      record {
        entry =
            λ none.
            let can = h.entry (ap (λ es. place_of (map entry_of (values_of es)) id) (sym same) ∙ none) in
            record {
              few = omega (arith, can.few, ap length same);
              entry = omega (arith, can.entry, more);
              asker = omega (arith, can.asker, ap (λ (s : Spare Party). s.room) same_askers);
            };
        asker = subst (λ es. All (λ e. id_of (entry_of e) ≡ id → has_room e ≡ true) (values_of es)) (sym same) h.asker;
      }

-- room for the entry of an id that isn't held
pub room-new : {S : Type 0} (m : IndexMap (List ℕ) Entry S) (askers : Spare Party) (id : List ℕ) → CanInsert m askers
    → place_of (shown m) id ≡ None → HasRoom m askers id
room-new m askers id can none = record {
  entry = λ _. can;
  asker = λ k d h is. absurd
      (absent (ids_of (shown m)) id none k (id_of (entry_of d)) (omega (arith, h, length-ids (values m))) (id-at (values m) k d ∙ is));
}

-- room for places alone
pub kept-room : {S : Type 0} (m : IndexMap (List ℕ) Entry S) (askers : Spare Party) (ws ws' : Waiters) (room : Option (List ℕ))
    → SamePlaces ws ws' → IsKept m askers ws room → IsKept m askers ws' room
kept-room m askers ws ws' room same h =
    record {
      ids = h.ids;
      few = h.few;
      proofs = h.proofs;
      none = h.none;
      made = h.made;
      waits = λ whole id. same.places id ∙ h.waits (sym same.whole ∙ whole) id;
    }
