-- What the steps of an append leave.
use Rattle.std.proofs.Common.{◌≡◌, ◌≢◌, ℕ, ◌+◌, ◌-◌, ◌≤◌, ◌<◌, ◌⊎◌, List, [], ◌∷◌}
use Rattle.std.proofs.Common.{◌++◌, length, take, drop, get_or, refl, sym, ap, subst, ◌∙◌, inl, inr}
use Rattle.std.proofs.Common.{Option, Some, None, Result, Ok, Err, length-append, arith}
use Rattle.std.specs.Prelude.{OnOk, OnErr, option_map}
use Rattle.std.specs.List.{flat_map}
use Rattle.std.proofs.lemmas.List.{take-append-drop, get_or-take, get_or-drop}
use Rattle.basil_types.specs.declared.source.Failed.{Failed}
use Rattle.journal_disk.specs.Disk.{Change, Wrote, DiskState, IsOutside, Writes, Tears, BothTold, OnTold, keeps}
use Rattle.journal_records.specs.Journal.{EndsAt, Holds, HoldsForGood, IsEntry, LosesNone, last_gate, opened}
use Rattle.journal_records.specs.Steps.{Awaits, IsPrepared, closed_record}
use Rattle.journal_records.proofs.RecordLaws.{awaits-either, awaits-opened, awaits-same, holds-same, holds-up_to, last_gate-push}
use Rattle.journal_records.proofs.StopLaws.{loses-kept, loses-more, loses-none, torn-since}

-- a write is one that may have been torn
written-torn : (at : ℕ) (bytes : List ℕ) (old new : DiskState) → Writes at bytes old new → Tears at (length bytes) old new
written-torn at bytes old new w = record { past = w.past; elsewhere = w.elsewhere }

-- one more record stands behind the last gate, and no stop lost any
pub record Drafted (entries : List (List ℕ)) (entry : List ℕ) (then_past : List Change) (s : DiskState) : Type 0 where
  pub awaits : Awaits entries entry s.contents
  pub loses_none : LosesNone entries entry then_past s

module _ (entries : List (List ℕ)) (entry : List ℕ) (end : ℕ) (ends : end ≡ last_gate entries) where
  -- ---- a write behind the last gate

  pub behind-same : (count : ℕ) (bytes left : List ℕ) → Holds entries bytes → length bytes ≤ length left
      → ((i : ℕ) → i < length bytes → IsOutside (end + 1) count i → get_or left i 0 ≡ get_or bytes i 0)
      → (i : ℕ) → i < last_gate entries + 1 → get_or left i 0 ≡ get_or bytes i 0
  behind-same count bytes left h long same i below =
      let size = ap length h.are ∙ length-append (flat_map opened entries) (h.gate ∷ h.behind) in
      same i (omega (arith, size, below)) (inl (omega (arith, ends, below)))

  torn-behind : (count : ℕ) (old new : DiskState) → HoldsForGood entries old → Tears (end + 1) count old new
      → LosesNone entries entry old.past new
  torn-behind count old new h t =
      loses-more entries entry old.past old new (Wrote (end + 1) count) (loses-none entries entry old h) t.past
      (inl (holds-same entries old.contents new.contents h.holds t.elsewhere.as_long
      (behind-same count old.contents new.contents h.holds t.elsewhere.as_long t.elsewhere.same)))
      (λ left torn. let t = torn-since (end + 1) count old left h.kept torn in
      inl (holds-same entries old.contents left h.holds t.0 (behind-same count old.contents left h.holds t.0 t.1)))

  written-behind : (old new : DiskState) → IsEntry entry → HoldsForGood entries old
      → Writes (end + 1) (closed_record entry) old new → Drafted entries entry old.past new
  written-behind old new fits h w =
      let n = length (closed_record entry) in
      let long = w.elsewhere.as_long in
      let up_to = holds-up_to entries old.contents new.contents h.holds long
      (behind-same n old.contents new.contents h.holds long w.elsewhere.same) in
      let rest : List ℕ = drop (last_gate entries + 1) new.contents in
      let there : take n rest ≡ closed_record entry =
      let e : take (end + 1 + n - (end + 1)) (drop (end + 1) new.contents) ≡ closed_record entry = w.there in
      let width : end + 1 + n - (end + 1) ≡ n = omega arith in
      ap (λ (k : ℕ). take k rest) (sym width)
      ∙ ap (λ (k : ℕ). take (end + 1 + n - (end + 1)) (drop (k + 1) new.contents)) (sym ends)
      ∙ e in
      let parts : rest ≡ closed_record entry ++ drop n rest =
      sym (take-append-drop n rest) ∙ ap (λ (l : List ℕ). l ++ drop n rest) there in
      record {
        awaits = record {
          each = h.holds.each;
          fits = fits;
          gate = h.holds.gate;
          behind = drop n rest;
          are = up_to ∙ ap (λ (l : List ℕ). flat_map opened entries ++ h.holds.gate ∷ l) parts;
        };
        loses_none = torn-behind n old new h (written-torn (end + 1) (closed_record entry) old new w);
      }

  -- ---- a write of the gate

  pub gate-same : (bytes left : List ℕ)
      → ((i : ℕ) → i < length bytes → IsOutside end 1 i → get_or left i 0 ≡ get_or bytes i 0)
      → (i : ℕ) → i < length bytes → i ≢ last_gate entries → get_or left i 0 ≡ get_or bytes i 0
  gate-same bytes left same i below other =
      let outside : IsOutside end 1 i = grind arith in
      same i below outside

  torn-gate : (then_past : List Change) (old new : DiskState) → IsPrepared entries entry then_past old → Tears end 1 old new
      → LosesNone entries entry then_past new
  torn-gate then_past old new p t =
      loses-more entries entry then_past old new (Wrote end 1) p.loses_none t.past
      (awaits-either entries entry new.contents (awaits-same entries entry old.contents new.contents p.awaits t.elsewhere.as_long
      (gate-same old.contents new.contents t.elsewhere.same)).0)
      (λ left torn. let t = torn-since end 1 old left p.kept torn in
      awaits-either entries entry left (awaits-same entries entry old.contents left p.awaits t.0 (gate-same old.contents left t.1)).0)

  written-gate : (then_past : List Change) (old new : DiskState) → IsPrepared entries entry then_past old
      → Writes end (1 ∷ []) old new → Holds (entries ++ entry ∷ []) new.contents
  written-gate then_past old new p w =
      let a = awaits-same entries entry old.contents new.contents p.awaits w.elsewhere.as_long
      (gate-same old.contents new.contents w.elsewhere.same) in
      let e : take (end + 1 - end) (drop end new.contents) ≡ 1 ∷ [] = w.there in
      let there : get_or new.contents end 0 ≡ 1 =
      let some : 0 < end + 1 - end = omega arith in
      sym (get_or-drop end new.contents 0 0 ∙ ap (λ (k : ℕ). get_or new.contents k 0) (omega arith))
      ∙ sym (get_or-take (end + 1 - end) (drop end new.contents) 0 0 some)
      ∙ ap (λ (l : List ℕ). get_or l 0 0) e in
      awaits-opened entries entry new.contents a.0 (a.1 ∙ ap (λ (k : ℕ). get_or new.contents k 0) (sym ends) ∙ there)

-- ---- where the disk tells

module _ (entries : List (List ℕ)) (entry : List ℕ) (end : ℕ) where
  same-told : (t0 : Option DiskState) → EndsAt entries end t0 → BothTold (λ old new. LosesNone entries entry old.past new) t0 t0
  same-told (Some s) at = loses-none entries entry s at.disk
  same-told None at = tt

  pub prepare-torn : (count : ℕ) (t0 t1 : Option DiskState) → EndsAt entries end t0
      → (t1 ≡ t0) ⊎ BothTold (Tears (end + 1) count) t0 t1
      → BothTold (λ old new. LosesNone entries entry old.past new) t0 t1
  prepare-torn count t0 t1 at (inl e) = subst (BothTold (λ old new. LosesNone entries entry old.past new) t0) (sym e) (same-told t0 at)
  prepare-torn count (Some s0) (Some s1) at (inr t) = torn-behind entries entry end at.gate count s0 s1 at.disk t
  prepare-torn count (Some s0) None at (inr t) = t
  prepare-torn count None (Some s1) at (inr t) = t
  prepare-torn count None None at (inr t) = t

  pub prepare-written : (t0 t1 : Option DiskState) → IsEntry entry → EndsAt entries end t0
      → BothTold (Writes (end + 1) (closed_record entry)) t0 t1
      → BothTold (λ old new. Drafted entries entry old.past new) t0 t1
  prepare-written (Some s0) (Some s1) fits at w = written-behind entries entry end at.gate s0 s1 fits at.disk w
  prepare-written (Some s0) None fits at w = w
  prepare-written None (Some s1) fits at w = w
  prepare-written None None fits at w = w

  pub drafted-loses : (t0 t1 : Option DiskState) → BothTold (λ old new. Drafted entries entry old.past new) t0 t1
      → BothTold (λ old new. LosesNone entries entry old.past new) t0 t1
  drafted-loses (Some s0) (Some s1) d = d.loses_none
  drafted-loses (Some s0) None d = d
  drafted-loses None (Some s1) d = d
  drafted-loses None None d = d

  pub drafted-kept : (t0 t1 : Option DiskState) → BothTold (λ old new. Drafted entries entry old.past new) t0 t1
      → BothTold (λ old new. IsPrepared entries entry old.past new) t0 (option_map keeps t1)
  drafted-kept (Some s0) (Some s1) d =
      record { awaits = d.awaits; kept = (s1.past, refl); loses_none = loses-kept entries entry s0.past s1 d.loses_none }
  drafted-kept (Some s0) None d = d
  drafted-kept None (Some s1) d = d
  drafted-kept None None d = d

  pub prepared-loses : (t0 t1 : Option DiskState) → BothTold (λ old new. IsPrepared entries entry old.past new) t0 t1
      → BothTold (λ old new. LosesNone entries entry old.past new) t0 t1
  prepared-loses (Some s0) (Some s1) d = d.loses_none
  prepared-loses (Some s0) None d = d
  prepared-loses None (Some s1) d = d
  prepared-loses None None d = d

  written-kept : (t0 t1 : Option DiskState) (bytes : List ℕ) → IsEntry entry → bytes ≡ closed_record entry → EndsAt entries end t0
      → BothTold (Writes (end + 1) bytes) t0 t1 → BothTold (λ old new. Drafted entries entry old.past new) t0 t1
  written-kept t0 t1 bytes fits e at w =
      prepare-written t0 t1 fits at (subst (λ (b : List ℕ). BothTold (Writes (end + 1) b) t0 t1) e w)

  -- a preparation that ends in the keeping
  module _ (t0 t1 : Option DiskState) (bytes : List ℕ) (fits : IsEntry entry) (spelled : bytes ≡ closed_record entry)
      (at : EndsAt entries end t0) (w : BothTold (Writes (end + 1) bytes) t0 t1) where
    pub prepare-kept : (result : Result (Unit {0}) Failed) (t2 : Option DiskState) → OnOk result (t2 ≡ option_map keeps t1)
        → OnOk result (BothTold (λ old new. IsPrepared entries entry old.past new) t0 t2)
    prepare-kept (Ok x) t2 kept =
        subst (BothTold (λ old new. IsPrepared entries entry old.past new) t0) (sym kept)
        (drafted-kept t0 t1 (written-kept t0 t1 bytes fits spelled at w))
    prepare-kept (Err x) t2 kept = tt

    pub prepare-loses : (result : Result (Unit {0}) Failed) (t2 : Option DiskState) → OnOk result (t2 ≡ option_map keeps t1)
        → OnErr result (t2 ≡ t1) → BothTold (λ old new. LosesNone entries entry old.past new) t0 t2
    prepare-loses (Ok x) t2 kept same =
        prepared-loses t0 t2 (subst (BothTold (λ old new. IsPrepared entries entry old.past new) t0) (sym kept)
        (drafted-kept t0 t1 (written-kept t0 t1 bytes fits spelled at w)))
    prepare-loses (Err x) t2 kept same =
        subst (BothTold (λ old new. LosesNone entries entry old.past new) t0) (sym same)
        (drafted-loses t0 t1 (written-kept t0 t1 bytes fits spelled at w))

module _ (entries : List (List ℕ)) (entry : List ℕ) (end : ℕ) (ends : end ≡ last_gate entries) (then_past : List Change) where
  still-told : (t0 : Option DiskState) → OnTold (IsPrepared entries entry then_past) t0
      → BothTold (λ old new. LosesNone entries entry then_past new) t0 t0
  still-told (Some s) p = p.loses_none
  still-told None p = tt

  pub open-torn : (t0 t1 : Option DiskState) → OnTold (IsPrepared entries entry then_past) t0
      → (t1 ≡ t0) ⊎ BothTold (Tears end 1) t0 t1
      → BothTold (λ old new. LosesNone entries entry then_past new) t0 t1
  open-torn t0 t1 p (inl e) = subst (BothTold (λ old new. LosesNone entries entry then_past new) t0) (sym e) (still-told t0 p)
  open-torn (Some s0) (Some s1) p (inr t) = torn-gate entries entry end ends then_past s0 s1 p t
  open-torn (Some s0) None p (inr t) = t
  open-torn None (Some s1) p (inr t) = t
  open-torn None None p (inr t) = t

  kept-holds : (t0 t1 : Option DiskState) → OnTold (IsPrepared entries entry then_past) t0 → BothTold (Writes end (1 ∷ [])) t0 t1
      → OnTold (HoldsForGood (entries ++ entry ∷ [])) (option_map keeps t1)
  kept-holds (Some s0) (Some s1) p w = record { holds = written-gate entries entry end ends then_past s0 s1 p w; kept = (s1.past, refl) }
  kept-holds (Some s0) None p w = tt
  kept-holds None (Some s1) p w = absurd w
  kept-holds None None p w = tt

  written-loses : (t0 t1 : Option DiskState) → OnTold (IsPrepared entries entry then_past) t0 → BothTold (Writes end (1 ∷ [])) t0 t1
      → BothTold (λ old new. LosesNone entries entry then_past new) t0 t1
  written-loses (Some s0) (Some s1) p w = torn-gate entries entry end ends then_past s0 s1 p (written-torn end (1 ∷ []) s0 s1 w)
  written-loses (Some s0) None p w = w
  written-loses None (Some s1) p w = w
  written-loses None None p w = w

  kept-loses : (t0 t1 : Option DiskState) → BothTold (λ old new. LosesNone entries entry then_past new) t0 t1
      → BothTold (λ old new. LosesNone entries entry then_past new) t0 (option_map keeps t1)
  kept-loses (Some s0) (Some s1) l = loses-kept entries entry then_past s1 l
  kept-loses (Some s0) None l = l
  kept-loses None (Some s1) l = l
  kept-loses None None l = l

  -- an opening of the gate that ends in the keeping
  module _ (t0 t1 : Option DiskState) (p : OnTold (IsPrepared entries entry then_past) t0) (w : BothTold (Writes end (1 ∷ [])) t0 t1) where
    pub open-kept : (result : Result (Unit {0}) Failed) (t2 : Option DiskState) → OnOk result (t2 ≡ option_map keeps t1)
        → OnOk result (OnTold (HoldsForGood (entries ++ entry ∷ [])) t2)
    open-kept (Ok x) t2 kept = subst (OnTold (HoldsForGood (entries ++ entry ∷ []))) (sym kept) (kept-holds t0 t1 p w)
    open-kept (Err x) t2 kept = tt

    pub open-loses : (result : Result (Unit {0}) Failed) (t2 : Option DiskState) → OnOk result (t2 ≡ option_map keeps t1)
        → OnErr result (t2 ≡ t1) → BothTold (λ old new. LosesNone entries entry then_past new) t0 t2
    open-loses (Ok x) t2 kept same =
        subst (BothTold (λ old new. LosesNone entries entry then_past new) t0) (sym kept) (kept-loses t0 t1 (written-loses t0 t1 p w))
    open-loses (Err x) t2 kept same =
        subst (BothTold (λ old new. LosesNone entries entry then_past new) t0) (sym same) (written-loses t0 t1 p w)

-- ---- both steps

module _ (entries : List (List ℕ)) (entry : List ℕ) where
  pub both-lose : (t0 t1 t2 : Option DiskState) → BothTold (λ old new. IsPrepared entries entry old.past new) t0 t1
      → ((then_past : List Change) → OnTold (IsPrepared entries entry then_past) t1
      → BothTold (λ old new. LosesNone entries entry then_past new) t1 t2)
      → BothTold (λ old new. LosesNone entries entry old.past new) t0 t2
  both-lose (Some s0) (Some s1) (Some s2) p next = next s0.past p
  both-lose (Some s0) (Some s1) None p next = next s0.past p
  both-lose (Some s0) None t2 p next = absurd p
  both-lose None (Some s1) t2 p next = absurd p
  both-lose None None (Some s2) p next = next [] tt
  both-lose None None None p next = tt

  pub both-hold : (t0 t1 t2 : Option DiskState) → BothTold (λ old new. IsPrepared entries entry old.past new) t0 t1
      → ((then_past : List Change) → OnTold (IsPrepared entries entry then_past) t1 → OnTold (HoldsForGood (entries ++ entry ∷ [])) t2)
      → OnTold (HoldsForGood (entries ++ entry ∷ [])) t2
  both-hold (Some s0) (Some s1) t2 p next = next s0.past p
  both-hold (Some s0) None t2 p next = absurd p
  both-hold None (Some s1) t2 p next = absurd p
  both-hold None None t2 p next = next [] tt

  pub both-end : (end : ℕ) (t0 t1 t2 : Option DiskState) (bytes : List ℕ) → bytes ≡ closed_record entry → EndsAt entries end t0
      → BothTold (λ old new. IsPrepared entries entry old.past new) t0 t1
      → ((then_past : List Change) → OnTold (IsPrepared entries entry then_past) t1 → OnTold (HoldsForGood (entries ++ entry ∷ [])) t2)
      → EndsAt (entries ++ entry ∷ []) (end + length bytes) t2
  both-end end t0 t1 t2 bytes spelled at p next =
      record {
        gate = omega (arith, at.gate, ap length spelled, last_gate-push entries entry);
        disk = both-hold t0 t1 t2 p next;
      }
