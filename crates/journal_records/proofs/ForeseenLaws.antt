-- What an append leaves where a stop is foreseen within it.
use native.Mathlib.Nat.{zero-mod}
use Rattle.std.proofs.Common.{◌≡◌, ◌≢◌, ℕ, ◌+◌, ◌-◌, ◌<◌, List, [], ◌∷◌, ◌++◌, length, take, drop, get_or, sym, ap, subst, ◌∙◌}
use Rattle.std.proofs.Common.{inl, inr, Bool, false, ◌&&◌, ◌==◌, Option, Some, None, Result, Ok, Err, OnErr, arith}
use Rattle.std.specs.Prelude.{slice_index}
use Rattle.std.proofs.lemmas.Bool.{cases_eq, ne_eqb}
use Rattle.std.proofs.lemmas.List.{get_or-take, get_or-drop}
use Rattle.journal_disk.specs.Contents.{repeated}
use Rattle.journal_disk.specs.Disk.{BothTold, Change, DiskState, OnTold, Writes}
use Rattle.journal_disk.specs.declared.disk.Stop.{Stop}
use Rattle.journal_disk.specs.Foreseen.{Foreseen, HasNotCome, MayHappen, OnStopped, Passes, StopState, came, is_next, nearer}
use Rattle.journal_records.specs.Journal.{EndsAt, Holds, last_gate}
use Rattle.journal_records.specs.Steps.{Awaits, IsPrepared, closed_record}
use Rattle.journal_records.specs.Stopping.{IsNear, after_stop, and_if, leaves_open}
use Rattle.journal_records.proofs.AppendLaws.{behind-same, gate-same}
use Rattle.journal_records.proofs.RecordLaws.{awaits-opened, awaits-same, holds-same}

-- ---- where none awaits, none comes

none-awaits : {foreseen : Foreseen} → None ≡ Some foreseen → ⊥
none-awaits e = cc

one-awaits : (one other : Foreseen) → Some one ≡ Some other → one ≡ other
one-awaits one other e = cc

abbrev with_awaits : StopState → Option Foreseen → StopState
with_awaits stops awaits = record stops { awaits = awaits }

pub passes-none : (s0 s1 : StopState) → Passes s0 s1 → s0.awaits ≡ None → s1 ≡ s0
passes-none s0 s1 p e =
    p.now
    ∙ ap (λ (a : Option Foreseen). with_awaits s0 (nearer a)) e
    ∙ ap (with_awaits s0) (sym e)

pub fails-none : (at count : ℕ) (s0 s1 : StopState) (t0 t1 : Option DiskState) → MayHappen at count s0 s1 t0 t1 → s0.awaits ≡ None → s1 ≡ s0
fails-none at count s0 s1 t0 t1 (inl h) e = absurd (none-awaits (sym e ∙ h.awaited))
fails-none at count s0 s1 t0 t1 (inr same) e = same.stops

-- ---- a write that passes

module _ (stop : Foreseen) (s0 s1 : StopState) (e : s0.awaits ≡ Some stop) (p : Passes s0 s1) where
  pub passes-awaits : s1.awaits ≡ Some (record stop { left = stop.left - 1 })
  passes-awaits = ap (λ (s : StopState). s.awaits) p.now ∙ ap nearer e

  pub passes-not_last : stop.left ≢ 1
  passes-not_last one =
      let not_next : (stop.left == 1) ≡ false = subst (λ (a : Option Foreseen). is_next a ≡ false) e p.not_next in
      let is_last : (1 == 1) ≡ false = subst (λ (n : ℕ). (n == 1) ≡ false) one not_next in
      absurd cc

  -- after it the stop still awaits
  pub passes-still : HasNotCome stop.stop s0 s1
  passes-still =
      record { left = stop.left - 1; stops = p.now ∙ ap (λ (a : Option Foreseen). with_awaits s0 (nearer a)) e }

-- what comes after it comes after what was before it
pub passes-later : (Holding : List ℕ → Type 0) (stop : Stop) (s0 s1 s2 : StopState) (t : Option DiskState) → Passes s0 s1 →
    OnStopped Holding stop s1 s2 t → OnStopped Holding stop s0 s2 t
passes-later Holding stop s0 s1 s2 t p (inl h) =
    inl (record {
      stops = h.stops ∙ ap (λ (s : StopState). came stop s) p.now;
      leaves = h.leaves;
    })
passes-later Holding stop s0 s1 s2 t p (inr n) =
    inr (record {
      left = n.left;
      stops = n.stops ∙ ap (λ (s : StopState). with_awaits s (Some (record { stop = stop; left = n.left }))) p.now;
    })

-- a sync that fails behind it
pub passes-fails : {T E : Type 0} (result : Result T E) (Holding : List ℕ → Type 0) (stop : Foreseen) (s0 s1 s2 : StopState)
    (t : Option DiskState) → s0.awaits ≡ Some stop → Passes s0 s1 → s2 ≡ s1 → OnErr result (OnStopped Holding stop.stop s0 s2 t)
passes-fails (Ok done) Holding stop s0 s1 s2 t e p same = tt
passes-fails (Err failed) Holding stop s0 s1 s2 t e p same =
    inr (subst (HasNotCome stop.stop s0) (sym same) (passes-still stop s0 s1 e p))

-- ---- a write that fails

-- what it leaves, if what a stop of its bytes leaves is so
failed : (Holding : List ℕ → Type 0) (at count : ℕ) (stop : Foreseen) (s0 s1 : StopState) (t0 t1 : Option DiskState) →
    s0.awaits ≡ Some stop → MayHappen at count s0 s1 t0 t1 →
    (stop.left ≡ 1 → BothTold (Writes at (repeated count stop.stop.bytes)) t0 t1 → OnTold (λ s. Holding s.contents) t1) →
    OnStopped Holding stop.stop s0 s1 t1
failed Holding at count stop s0 s1 t0 t1 e (inl h) leaves =
    let same : h.foreseen ≡ stop = one-awaits h.foreseen stop (sym h.awaited ∙ e) in
    let last : stop.left ≡ 1 = subst (λ (f : Foreseen). f.left ≡ 1) same h.last in
    inl (record {
      stops = subst (λ (f : Foreseen). s1 ≡ came f.stop s0) same h.stops;
      leaves = leaves last (subst (λ (f : Foreseen). BothTold (Writes at (repeated count f.stop.bytes)) t0 t1) same h.leaves);
    })
failed Holding at count stop s0 s1 t0 t1 e (inr same) leaves =
    inr (record { left = stop.left; stops = same.stops ∙ ap (with_awaits s0) e })

-- ---- in the write of the record

module _ (entries : List (List ℕ)) (end : ℕ) (stop : Foreseen) where
  behind-told : (bytes : List ℕ) (t0 t1 : Option DiskState) → EndsAt entries end t0 → stop.left ≡ 1 →
      BothTold (Writes (end + 1) bytes) t0 t1 → OnTold (λ s. (stop.left ≡ 1) × Holds entries s.contents) t1
  behind-told bytes (Some s0) (Some s1) at one w = (
    one,
    holds-same entries s0.contents s1.contents at.disk.holds w.elsewhere.as_long
        (behind-same entries [] end at.gate (length bytes) s0.contents s1.contents at.disk.holds w.elsewhere.as_long w.elsewhere.same),
  )
  behind-told bytes (Some s0) None at one w = tt
  behind-told bytes None (Some s1) at one w = absurd w
  behind-told bytes None None at one w = tt

  pub prepare-fails : (count : ℕ) (s0 s1 : StopState) (t0 t1 : Option DiskState) → EndsAt entries end t0 → s0.awaits ≡ Some stop →
      MayHappen (end + 1) count s0 s1 t0 t1 → OnStopped (λ bytes. (stop.left ≡ 1) × Holds entries bytes) stop.stop s0 s1 t1
  prepare-fails count s0 s1 t0 t1 at e may =
      failed (λ bytes. (stop.left ≡ 1) × Holds entries bytes) (end + 1) count stop s0 s1 t0 t1 e may
      (behind-told (repeated count stop.stop.bytes) t0 t1 at)

-- ---- in the write of the gate

module _ (entries : List (List ℕ)) (entry : List ℕ) (end : ℕ) (ends : end ≡ last_gate entries) (then_past : List Change) where
  gate-by : (gate : ℕ) (bytes : List ℕ) → (a : Awaits entries entry bytes) → a.gate ≡ gate →
      Holds (and_if (gate == 1) entries entry) bytes
  gate-by gate bytes a is =
      elim (cases_eq gate 1) as (λ _. Holds (and_if (gate == 1) entries entry) bytes) [
        | inl one ↦ subst (λ (n : ℕ). Holds (and_if (n == 1) entries entry) bytes) (sym one)
            (awaits-opened entries entry bytes a (is ∙ one))
        | inr other ↦ subst (λ (b : Bool). Holds (and_if b entries entry) bytes) (sym (ne_eqb gate 1 other))
            (record {
              each = a.each;
              gate = a.gate;
              closed = λ one. other (sym is ∙ one);
              behind = closed_record entry ++ a.behind;
              are = a.are;
            })
      ]

  gate-holds : (gate : ℕ) (old new : DiskState) → IsPrepared entries entry then_past old → Writes end (gate ∷ []) old new →
      Holds (and_if (gate == 1) entries entry) new.contents
  gate-holds gate old new p w =
      let a = awaits-same entries entry old.contents new.contents p.awaits w.elsewhere.as_long
      (gate-same entries entry end ends old.contents new.contents w.elsewhere.same) in
      let e : take (end + 1 - end) (drop end new.contents) ≡ gate ∷ [] = w.there in
      let there : get_or new.contents end 0 ≡ gate =
      let some : 0 < end + 1 - end = omega arith in
      sym (get_or-drop end new.contents 0 0 ∙ ap (λ (k : ℕ). get_or new.contents k 0) (omega arith))
      ∙ sym (get_or-take (end + 1 - end) (drop end new.contents) 0 0 some)
      ∙ ap (λ (l : List ℕ). get_or l 0 0) e in
      gate-by gate new.contents a.0 (a.1 ∙ ap (λ (k : ℕ). get_or new.contents k 0) (sym ends) ∙ there)

  gate-told : (gate : ℕ) (t0 t1 : Option DiskState) → OnTold (IsPrepared entries entry then_past) t0 →
      BothTold (Writes end (gate ∷ [])) t0 t1 → OnTold (λ s. Holds (and_if (gate == 1) entries entry) s.contents) t1
  gate-told gate (Some s0) (Some s1) p w = gate-holds gate s0 s1 p w
  gate-told gate (Some s0) None p w = tt
  gate-told gate None (Some s1) p w = absurd w
  gate-told gate None None p w = tt

  one-byte : (bytes : List ℕ) → repeated 1 bytes ≡ slice_index bytes 0 ∷ []
  one-byte bytes = ap (λ (n : ℕ). slice_index bytes n ∷ []) (zero-mod (length bytes))

  pub gate-fails : (stop : Foreseen) (s0 s1 : StopState) (t0 t1 : Option DiskState) → OnTold (IsPrepared entries entry then_past) t0 →
      s0.awaits ≡ Some stop → MayHappen end 1 s0 s1 t0 t1 →
      OnStopped (Holds (and_if (leaves_open stop) entries entry)) stop.stop s0 s1 t1
  gate-fails stop s0 s1 t0 t1 p e may =
      failed (Holds (and_if (leaves_open stop) entries entry)) end 1 stop s0 s1 t0 t1 e may
      (λ one w. gate-told (slice_index stop.stop.bytes 0) t0 t1 p
      (subst (λ (bytes : List ℕ). BothTold (Writes end bytes) t0 t1) (one-byte stop.stop.bytes) w))

-- ---- both

module _ (entries : List (List ℕ)) (entry : List ℕ) (stop : Foreseen) where
  first-told : (t1 : Option DiskState) → OnTold (λ s. (stop.left ≡ 1) × Holds entries s.contents) t1 →
      OnTold (λ s. Holds (after_stop stop entries entry) s.contents) t1
  first-told (Some s) h =
      subst (λ (n : ℕ). Holds (and_if ((n == 2) && leaves_open stop) entries entry) s.contents) (sym h.0) h.1
  first-told None h = tt

  pub append-fails-first : (s0 s1 : StopState) (t1 : Option DiskState) →
      OnStopped (λ bytes. (stop.left ≡ 1) × Holds entries bytes) stop.stop s0 s1 t1 →
      OnStopped (Holds (after_stop stop entries entry)) stop.stop s0 s1 t1
  append-fails-first s0 s1 t1 (inl h) = inl (record { stops = h.stops; leaves = first-told t1 h.leaves })
  append-fails-first s0 s1 t1 (inr n) = inr n

  prepared-told : (t0 t1 : Option DiskState) → BothTold (λ old new. IsPrepared entries entry old.past new) t0 t1 →
      (X : Type 0) → ((then_past : List Change) → OnTold (IsPrepared entries entry then_past) t1 → X) → X
  prepared-told (Some s0) (Some s1) p X next = next s0.past p
  prepared-told (Some s0) None p X next = absurd p
  prepared-told None (Some s1) p X next = absurd p
  prepared-told None None p X next = next [] tt

  -- the second write is reached where it comes in that
  second : IsNear stop → stop.left ≢ 1 → stop.left ≡ 2
  second (inl one) other = absurd (other one)
  second (inr two) other = two

  pub append-fails-second : (Q : Bool → Type 0) (s0 s1 : StopState) (t0 t1 : Option DiskState) →
      IsNear stop → s0.awaits ≡ Some stop → Passes s0 s1 →
      BothTold (λ old new. IsPrepared entries entry old.past new) t0 t1 →
      ((then_past : List Change) → OnTold (IsPrepared entries entry then_past) t1 →
      s1.awaits ≡ Some (record stop { left = stop.left - 1 }) → stop.left - 1 ≡ 1 → Q (leaves_open stop)) →
      Q ((stop.left == 2) && leaves_open stop)
  append-fails-second Q s0 s1 t0 t1 near e passed p next =
      let two = second near (passes-not_last stop s0 s1 e passed) in
      subst (λ (n : ℕ). Q ((n == 2) && leaves_open stop)) (sym two)
      (prepared-told t0 t1 p (Q (leaves_open stop))
      (λ then_past q. next then_past q (passes-awaits stop s0 s1 e passed) (omega (arith, two))))
