-- What is read at a gate is what stands there.
use Rattle.std.proofs.Common.{◌≡◌, ℕ, ◌+◌, ◌-◌, ◌^◌, ◌≤◌, ◌<◌, ◌⊎◌, min, List}
use Rattle.std.proofs.Common.{◌∷◌, ◌++◌, length, take, drop, get_or, refl, sym, ap, subst, ◌∙◌}
use Rattle.std.proofs.Common.{inl, inr, true, false, Option, Some, None, append_assoc, length-append, arith}
use Rattle.std.specs.Prelude.{IfSome, IfNone, IsSome}
use Rattle.std.specs.Int.{to_be_bytes, from_be_bytes, w32}
use Rattle.std.specs.List.{flat_map}
use Rattle.std.proofs.lemmas.List.{drop-drop, drop_at, length-drop, length-take, length-take-le, take_all, take_at, take-append-drop}
use Rattle.std.proofs.lemmas.List.Concat.{flat_map-append}
use Rattle.std.proofs.lemmas.List.Elements.{All-drop, All-head, All-same}
use Rattle.std.proofs.lemmas.Nat.{from_be_bytes-to_be_bytes_4}
use Rattle.journal_disk.specs.Disk.{DiskState, OnTold, Reads}
use Rattle.journal_records.specs.declared.found.Found.{Found}
use Rattle.journal_records.specs.declared.found.Found.TheVariants.{Closed, Record, Broken}
use Rattle.journal_records.specs.Journal.{IsCount, IsEntry, last_gate, opened, record_of}
use Rattle.journal_records.specs.Found.{BeginsBroken, BeginsClosed, BeginsWith, FitsBuffer, IsOpen, Tells, TellsBytes, TellsCount}
use Rattle.journal_records.specs.Laws.{IsFound, JournalIsFound}
use Rattle.journal_records.proofs.RecordLaws.{length-record_of, same_record}

-- what was read is what stands there
read-is : (at count : ℕ) (given : List ℕ) (s : DiskState) → Reads at count given s → take count given ≡ take count (drop at s.contents)
read-is at count given s r =
    let width : at + count - at ≡ count = omega arith in
    r.bytes ∙ ap (λ (n : ℕ). take n (drop at s.contents)) width

read-all : (at count : ℕ) (given : List ℕ) (s : DiskState) → Reads at count given s
    → count ≡ min (length given) (length (drop at s.contents))
read-all at count given s r = r.all ∙ ap (λ (n : ℕ). min (length given) n) (sym (length-drop at s.contents))

-- ---- the number

number-of : (entry behind : List ℕ) → IsEntry entry → from_be_bytes w32 (take 4 (record_of entry ++ behind)) ≡ length entry
unfolding record_of
number-of entry behind fits =
    let small : length entry < 2 ^ 32 = omega (arith, fits) in
    let number : List ℕ = to_be_bytes w32 (length entry) in
    ap (λ (l : List ℕ). from_be_bytes w32 (take 4 l)) (append_assoc number entry behind)
    ∙ ap (from_be_bytes w32) (take_at number (entry ++ behind) 4 refl)
    ∙ from_be_bytes-to_be_bytes_4 (length entry) small

no-count : (bytes given : List ℕ) (read : ℕ) → length given ≡ 4 → read ≡ min (length given) (length bytes)
    → take read given ≡ take read bytes → (read < 4) ⊎ (IsCount (from_be_bytes w32 given) → ⊥)
    → (entry behind : List ℕ) → IsEntry entry → bytes ≡ record_of entry ++ behind → ⊥
no-count bytes given read long all same (inl short) entry behind fits e =
    omega (arith, ap length e, length-append (record_of entry) behind, length-record_of entry)
no-count bytes given read long all same (inr odd) entry behind fits e =
    let four : read ≡ 4 = omega (arith, ap length e, length-append (record_of entry) behind, length-record_of entry) in
    let is : given ≡ take 4 (record_of entry ++ behind) =
    sym (take_all 4 given (omega arith)) ∙ subst (λ (n : ℕ). take n given ≡ take n bytes) four same ∙ ap (take 4) e in
    odd (subst IsCount (sym (ap (from_be_bytes w32) is ∙ number-of entry behind fits)) fits)

pub tells-no_count : (at read : ℕ) (given : List ℕ) (told : Option DiskState) → length given ≡ 4 → OnTold (Reads at read given) told
    → (read < 4) ⊎ (IsCount (from_be_bytes w32 given) → ⊥) → OnTold (λ s. TellsCount None (drop at s.contents)) told
tells-no_count at read given (Some s) long r odd =
    no-count (drop at s.contents) given read long (read-all at read given s r) (read-is at read given s r) odd
tells-no_count at read given None long r odd = tt

tells-count : (at read count : ℕ) (given : List ℕ) (told : Option DiskState) → length given ≡ 4 → to_be_bytes w32 count ≡ given
    → OnTold (Reads at read given) told → 4 ≤ read → OnTold (λ s. TellsCount (Some count) (drop at s.contents)) told
tells-count at read count given (Some s) long spelled r enough =
    let four : read ≡ 4 = omega (arith, read-all at read given s r) in
    let same : take 4 given ≡ take 4 (drop at s.contents) =
    subst (λ (n : ℕ). take n given ≡ take n (drop at s.contents)) four (read-is at read given s r) in
    let is : to_be_bytes w32 count ≡ take 4 (drop at s.contents) = spelled ∙ sym (take_all 4 given (omega arith)) ∙ same in (
      drop 4 (drop at s.contents),
      sym (take-append-drop 4 (drop at s.contents)) ∙ ap (λ (l : List ℕ). l ++ drop 4 (drop at s.contents)) (sym is),
    )
tells-count at read count given None long spelled r enough = tt

pub told-count : (at read : ℕ) (given : List ℕ) (told : Option DiskState) (found : Option ℕ) → length given ≡ 4
    → OnTold (Reads at read given) told → (IsSome found → 4 ≤ read) → IfSome found (λ count. to_be_bytes w32 count ≡ given)
    → IfNone found ((read < 4) ⊎ (IsCount (from_be_bytes w32 given) → ⊥))
    → OnTold (λ s. TellsCount found (drop at s.contents)) told
told-count at read given told (Some count) long r whole number none = tells-count at read count given told long number r (whole refl)
told-count at read given told None long r whole number none = tells-no_count at read given told long r none

-- ---- behind an open gate

-- a gate that is open is not closed
open-not_closed : (behind : List ℕ) → BeginsClosed (1 ∷ behind) → ⊥
open-not_closed behind b = b.closed (sym (ap (λ (l : List ℕ). get_or l 0 0) b.are))

open-broken : (behind : List ℕ) → ((entry after : List ℕ) → IsEntry entry → behind ≡ record_of entry ++ after → ⊥)
    → BeginsBroken (1 ∷ behind)
open-broken behind none =
    record { not_closed = open-not_closed behind; no_record = λ entry b. none entry b.behind b.fits (ap (drop 1) b.are) }

-- what stands behind an open gate
behind-open : (at : ℕ) (contents behind : List ℕ) → drop at contents ≡ 1 ∷ behind → drop (at + 1) contents ≡ behind
behind-open at contents behind e = sym (drop-drop 1 at contents) ∙ ap (drop 1) e

pub behind-no_count : (at : ℕ) (told : Option DiskState) → OnTold (λ s. TellsCount None (drop (at + 1) s.contents)) told
    → OnTold (λ s. IsOpen (drop at s.contents) → BeginsBroken (drop at s.contents)) told
behind-no_count at (Some s) none =
    λ o. subst BeginsBroken (sym o.1)
    (open-broken o.0 (λ entry after fits e. none entry after fits (behind-open at s.contents o.0 o.1 ∙ e)))
behind-no_count at None none = tt

module _ (at count : ℕ) (buffer : List ℕ) where
  -- the entry stands behind its number
  behind-number : (contents behind after : List ℕ) → drop at contents ≡ 1 ∷ behind
      → drop (at + 1) contents ≡ to_be_bytes w32 count ++ after
      → (behind ≡ to_be_bytes w32 count ++ after) × (drop (at + 5) contents ≡ after)
  behind-number contents behind after e number =
      let is : behind ≡ to_be_bytes w32 count ++ after = sym (behind-open at contents behind e) ∙ number in
      let place : at + 1 + 4 ≡ at + 5 = omega arith in
      let rest : drop (at + 5) contents ≡ after =
      ap (λ (n : ℕ). drop n contents) (sym place)
      ∙ sym (drop-drop 4 (at + 1) contents)
      ∙ ap (drop 4) number
      ∙ drop_at (to_be_bytes w32 count) after 4 refl in
      (is, rest)

  pub behind-cut : (told : Option DiskState) → IsCount count → OnTold (λ s. TellsCount (Some count) (drop (at + 1) s.contents)) told
      → OnTold (λ s. TellsBytes false count buffer (drop (at + 5) s.contents)) told
      → OnTold (λ s. IsOpen (drop at s.contents) → BeginsBroken (drop at s.contents)) told
  behind-cut (Some s) counts number cut = λ o.
      let b = behind-number s.contents o.0 number.0 o.1 number.1 in
      let short : length number.0 < count = subst (λ (l : List ℕ). length l < count) b.1 cut in
      let small : count < 2 ^ 32 = omega (arith, counts) in
      subst BeginsBroken (sym o.1)
      (open-broken o.0 (λ entry after fits e.
      let same : count ≡ length entry =
      sym (from_be_bytes-to_be_bytes_4 count small)
      ∙ ap (from_be_bytes w32) (sym (take_at (to_be_bytes w32 count) number.0 4 refl))
      ∙ ap (λ (l : List ℕ). from_be_bytes w32 (take 4 l)) (sym b.0 ∙ e)
      ∙ number-of entry after fits in
      let long = ap length (sym b.0 ∙ e) in
      omega (
        arith,
        short,
        same,
        long,
        length-append (to_be_bytes w32 count) number.0,
        length-append (record_of entry) after,
        length-record_of entry,
      )))
  behind-cut None counts number cut = tt

  pub behind-whole : (told : Option DiskState) → IsCount count → OnTold (λ s. TellsCount (Some count) (drop (at + 1) s.contents)) told
      → OnTold (λ s. TellsBytes true count buffer (drop (at + 5) s.contents)) told
      → OnTold (λ s. IsOpen (drop at s.contents) → BeginsWith (take count buffer) (drop at s.contents)) told
  unfolding record_of
  behind-whole (Some s) counts number whole = λ o.
      let b = behind-number s.contents o.0 number.0 o.1 number.1 in
      let entry : List ℕ = take count buffer in
      let is : entry ≡ take count number.0 = whole.1 ∙ ap (take count) b.1 in
      let enough : count ≤ length number.0 = subst (λ (l : List ℕ). count ≤ length l) b.1 whole.0 in
      let long : length entry ≡ count = ap length is ∙ length-take count number.0 ∙ omega arith in
      let parts : number.0 ≡ entry ++ drop count number.0 =
      sym (take-append-drop count number.0) ∙ ap (λ (l : List ℕ). l ++ drop count number.0) (sym is) in
      let are : o.0 ≡ record_of entry ++ drop count number.0 =
      b.0
      ∙ ap (λ (l : List ℕ). to_be_bytes w32 count ++ l) parts
      ∙ sym (append_assoc (to_be_bytes w32 count) entry (drop count number.0))
      ∙ ap (λ (n : ℕ). (to_be_bytes w32 n ++ entry) ++ drop count number.0) (sym long) in
      record {
        fits = subst IsCount (sym long) counts;
        behind = drop count number.0;
        are = o.1 ∙ ap (λ (l : List ℕ). 1 ∷ l) are;
      }
  behind-whole None counts number whole = tt

-- ---- a journal's gates

-- what begins with a record begins with no other, and no closed gate
begins-entry : (entry behind : List ℕ) (found : Found) (buffer : List ℕ) → IsEntry entry → FitsBuffer found buffer
    → Tells found buffer (opened entry ++ behind) → IsFound entry found buffer
begins-entry entry behind Closed buffer fits within b = absurd (open-not_closed (record_of entry ++ behind) b)
begins-entry entry behind (Record count) buffer fits within b =
    let same : entry ≡ take count buffer = (same_record entry (take count buffer) behind b.behind fits b.fits (ap (drop 1) b.are)).0 in
    let long : length entry ≡ count = ap length same ∙ length-take-le count buffer within.1 in
    record { is = ap Record (sym long); bytes = ap (λ (n : ℕ). take n buffer) long ∙ sym same }
begins-entry entry behind Broken buffer fits within b =
    absurd (b.no_record entry (record { fits = fits; behind = behind; are = refl }))

begins-closed : (gate : ℕ) (behind : List ℕ) (found : Found) (buffer : List ℕ) → (gate ≡ 1 → ⊥)
    → Tells found buffer (gate ∷ behind) → found ≡ Closed
begins-closed gate behind Closed buffer closed b = refl
begins-closed gate behind (Record count) buffer closed b = absurd (closed (ap (λ (l : List ℕ). get_or l 0 0) b.are))
begins-closed gate behind Broken buffer closed b =
    absurd (b.not_closed (record { gate = gate; closed = closed; behind = behind; are = refl }))

-- behind the records stand the others and the last gate
from-gate : (before after : List (List ℕ)) (bytes rest : List ℕ) → bytes ≡ flat_map opened (before ++ after) ++ rest
    → drop (last_gate before) bytes ≡ flat_map opened after ++ rest
from-gate before after bytes rest are =
    let all = flat_map opened before in
    let regrouped : bytes ≡ all ++ (flat_map opened after ++ rest) =
    are ∙ ap (λ (l : List ℕ). l ++ rest) (flat_map-append opened before after) ∙ append_assoc all (flat_map opened after) rest in
    ap (drop (last_gate before)) regrouped ∙ drop_at all (flat_map opened after ++ rest) (last_gate before) refl

pub journal-found : JournalIsFound
journal-found =
    record {
      records = λ before entry after bytes found buffer h within tells.
          let rest : List ℕ = flat_map opened after ++ h.gate ∷ h.behind in
          let there : drop (last_gate before) bytes ≡ opened entry ++ rest =
          from-gate before (entry ∷ after) bytes (h.gate ∷ h.behind) h.are
          ∙ append_assoc (opened entry) (flat_map opened after) (h.gate ∷ h.behind) in
          let fits : IsEntry entry =
          All-head IsEntry entry after (All-same IsEntry (entry ∷ after) (drop (length before) (before ++ entry ∷ after))
          (sym (drop_at before (entry ∷ after) (length before) refl))
          (All-drop IsEntry (length before) (before ++ entry ∷ after) h.each)) in
          begins-entry entry rest found buffer fits within (subst (Tells found buffer) there tells);
      last = λ entries bytes found buffer h tells.
          let there : drop (last_gate entries) bytes ≡ h.gate ∷ h.behind =
          ap (drop (last_gate entries)) h.are ∙ drop_at (flat_map opened entries) (h.gate ∷ h.behind) (last_gate entries) refl in
          begins-closed h.gate h.behind found buffer h.closed (subst (Tells found buffer) there tells);
    }
