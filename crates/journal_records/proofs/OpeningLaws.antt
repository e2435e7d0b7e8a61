-- What a journal is as it begins, and begins again.
use Rattle.std.proofs.Common.{◌≡◌, ℕ, List, [], ◌∷◌, ◌++◌, take, drop, get_or, refl, sym, ap, subst, ◌∙◌, inl, inr}
use Rattle.std.proofs.Common.{Option, Some, None, Result, Ok, Err, append_assoc, arith}
use Rattle.std.specs.Prelude.{OnOk, OnErr, option_map}
use Rattle.std.specs.List.{All, flat_map}
use Rattle.std.proofs.lemmas.List.{take-append-drop}
use Rattle.std.proofs.lemmas.List.Elements.{All-nil, All-head, All-tail}
use Rattle.basil_types.specs.declared.source.Failed.{Failed}
use Rattle.journal_disk.specs.Disk.{Change, DiskState, Writes, BothTold, OnTold, keeps}
use Rattle.journal_records.specs.Journal.{EndsAt, Holds, HoldsForGood, IsEntry, LosesNone, opened, record_of}
use Rattle.journal_records.specs.Laws.{RecordsAreUnique, WhatIsKeptStays}
use Rattle.journal_records.proofs.RecordLaws.{same_record}
use Rattle.journal_records.proofs.StopLaws.{loses-kept}

-- ---- a new journal

holds-none : (old new : DiskState) → Writes 0 (0 ∷ []) old new → Holds [] new.contents
holds-none old new w =
    let e : take 1 new.contents ≡ 0 ∷ [] = w.there in
    record {
      each = All-nil IsEntry;
      gate = 0;
      closed = λ same. absurd (omega (arith, same));
      behind = drop 1 new.contents;
      are = sym (take-append-drop 1 new.contents) ∙ ap (λ (l : List ℕ). l ++ drop 1 new.contents) e;
    }

empty : (t0 t1 : Option DiskState) → BothTold (Writes 0 (0 ∷ [])) t0 t1 → EndsAt [] 0 (option_map keeps t1)
empty (Some s0) (Some s1) w = record { gate = refl; disk = record { holds = holds-none s0 s1 w; kept = (s1.past, refl) } }
empty (Some s0) None w = record { gate = refl; disk = tt }
empty None (Some s1) w = absurd w
empty None None w = record { gate = refl; disk = tt }

pub create-empty : (t0 t1 : Option DiskState) → BothTold (Writes 0 (0 ∷ [])) t0 t1
    → (result : Result (Unit {0}) Failed) (t2 : Option DiskState) → OnOk result (t2 ≡ option_map keeps t1) → OnOk result (EndsAt [] 0 t2)
create-empty t0 t1 w (Ok x) t2 kept = subst (EndsAt [] 0) (sym kept) (empty t0 t1 w)
create-empty t0 t1 w (Err x) t2 kept = tt

-- ---- an old one

pub what-is_kept-stays : WhatIsKeptStays
what-is_kept-stays entries entry s (inl holds) = inl (record { holds = holds; kept = (s.past, refl) })
what-is_kept-stays entries entry s (inr holds) = inr (record { holds = holds; kept = (s.past, refl) })

settles : (entries : List (List ℕ)) (t0 : Option DiskState) → OnTold (λ s. Holds entries s.contents) t0
    → OnTold (HoldsForGood entries) (option_map keeps t0)
settles entries (Some s) holds = record { holds = holds; kept = (s.past, refl) }
settles entries None holds = tt

pub open-settles : (result : Result (Unit {0}) Failed) (entries : List (List ℕ)) (t0 t1 : Option DiskState)
    → OnTold (λ s. Holds entries s.contents) t0 → OnOk result (t1 ≡ option_map keeps t0)
    → OnOk result (OnTold (HoldsForGood entries) t1)
open-settles (Ok x) entries t0 t1 holds kept = subst (OnTold (HoldsForGood entries)) (sym kept) (settles entries t0 holds)
open-settles (Err x) entries t0 t1 holds kept = tt

told-kept : (entries : List (List ℕ)) (entry : List ℕ) (then_past : List Change) (t0 : Option DiskState)
    → OnTold (LosesNone entries entry then_past) t0 → OnTold (LosesNone entries entry then_past) (option_map keeps t0)
told-kept entries entry then_past (Some s) loses = loses-kept entries entry then_past s loses
told-kept entries entry then_past None loses = tt

pub open-loses_none : (result : Result (Unit {0}) Failed) (entries : List (List ℕ)) (entry : List ℕ) (then_past : List Change)
    (t0 t1 : Option DiskState) → OnTold (LosesNone entries entry then_past) t0 → OnOk result (t1 ≡ option_map keeps t0)
    → OnErr result (t1 ≡ t0) → OnTold (LosesNone entries entry then_past) t1
open-loses_none (Ok x) entries entry then_past t0 t1 loses kept same =
    subst (OnTold (LosesNone entries entry then_past)) (sym kept) (told-kept entries entry then_past t0 loses)
open-loses_none (Err x) entries entry then_past t0 t1 loses kept same =
    subst (OnTold (LosesNone entries entry then_past)) (sym same) loses

-- ---- bytes hold one list of records

same-list : (entries others : List (List ℕ)) (g h : ℕ) (x y : List ℕ) → All IsEntry entries
    → All IsEntry others → (g ≡ 1 → ⊥) → (h ≡ 1 → ⊥)
    → flat_map opened entries ++ g ∷ x ≡ flat_map opened others ++ h ∷ y → entries ≡ others
same-list [] [] g h x y each each' closed closed' e = refl
same-list [] (b ∷ others) g h x y each each' closed closed' e = absurd (closed (ap (λ (l : List ℕ). get_or l 0 0) e))
same-list (a ∷ entries) [] g h x y each each' closed closed' e =
    absurd (closed' (sym (ap (λ (l : List ℕ). get_or l 0 0) e)))
same-list (a ∷ entries) (b ∷ others) g h x y each each' closed closed' e =
    let e' : (record_of a ++ flat_map opened entries) ++ g ∷ x ≡ (record_of b ++ flat_map opened others) ++ h ∷ y = ap (drop 1) e in
    let regrouped : record_of a ++ (flat_map opened entries ++ g ∷ x) ≡ record_of b ++ (flat_map opened others ++ h ∷ y) =
    sym (append_assoc (record_of a) (flat_map opened entries) (g ∷ x))
    ∙ e'
    ∙ append_assoc (record_of b) (flat_map opened others) (h ∷ y) in
    let heads = same_record a b _ _ (All-head IsEntry a entries each) (All-head IsEntry b others each') regrouped in
    let rest : entries ≡ others =
    same-list entries others g h x y (All-tail IsEntry a entries each) (All-tail IsEntry b others each') closed closed' heads.1 in
    λ i. heads.0 i ∷ rest i

pub records-unique : RecordsAreUnique
records-unique entries others bytes a b =
    same-list entries others a.gate b.gate a.behind b.behind a.each b.each a.closed b.closed (sym a.are ∙ b.are)
