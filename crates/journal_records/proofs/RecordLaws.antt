-- The bytes that hold records.
use Rattle.std.proofs.Common.{◌≡◌, ◌≢◌, ℕ, ◌+◌, ◌-◌, ◌^◌, ◌≤◌, ◌<◌, List, [], ◌∷◌, ◌++◌, length, take, drop, set, get_or, refl, sym, ap}
use Rattle.std.proofs.Common.{subst, ◌∙◌, inl, inr, append_assoc, length-append, arith}
use Rattle.std.specs.Int.{to_be_bytes, from_be_bytes, w32}
use Rattle.std.specs.List.{flat_map}
use Rattle.std.proofs.lemmas.Bool.{cases_eq}
use Rattle.std.proofs.lemmas.List.{append-nil, get_or_append_left, get_or-set_same, get_or-set_other, length-set, set_at}
use Rattle.std.proofs.lemmas.List.{take_at, drop_at}
use Rattle.std.proofs.lemmas.List.Concat.{flat_map-append}
use Rattle.std.proofs.lemmas.List.Elements.{All-push}
use Rattle.std.proofs.lemmas.List.Prefix.{front_from_reads}
use Rattle.std.proofs.lemmas.Nat.{from_be_bytes-to_be_bytes_4}
use Rattle.journal_records.specs.Journal.{IsEntry, Holds, HoldsEither, last_gate, opened, record_of}
use Rattle.journal_records.specs.Steps.{Awaits, IsSpelled, closed_record, entry_in}

-- ---- a record

pub length-record_of : (entry : List ℕ) → length (record_of entry) ≡ 4 + length entry
unfolding record_of
length-record_of entry = length-append (to_be_bytes w32 (length entry)) entry

pub length-closed_record : (entry : List ℕ) → length (closed_record entry) ≡ 5 + length entry
length-closed_record entry = omega (arith, length-append (record_of entry) (0 ∷ []), length-record_of entry)

-- two texts of one length, each before another text
pub same_front : (a b x y : List ℕ) → length a ≡ length b → a ++ x ≡ b ++ y → (a ≡ b) × (x ≡ y)
same_front a b x y len e =
    let front : a ≡ b = sym (take_at a x (length a) refl) ∙ ap (take (length a)) e ∙ take_at b y (length a) (sym len) in
    let rest : x ≡ y = sym (drop_at a x (length a) refl) ∙ ap (drop (length a)) e ∙ drop_at b y (length a) (sym len) in
    (front, rest)

-- two records, each before another text
pub same_record : (a b x y : List ℕ) → IsEntry a → IsEntry b → record_of a ++ x ≡ record_of b ++ y → (a ≡ b) × (x ≡ y)
unfolding record_of
same_record a b x y fits-a fits-b e =
    let number : List ℕ → List ℕ = λ entry. to_be_bytes w32 (length entry) in
    let e' : number a ++ (a ++ x) ≡ number b ++ (b ++ y) = sym (append_assoc (number a) a x) ∙ e ∙ append_assoc (number b) b y in
    let heads = same_front (number a) (number b) (a ++ x) (b ++ y) refl e' in
    let small-a : length a < 2 ^ 32 = omega (arith, fits-a) in
    let small-b : length b < 2 ^ 32 = omega (arith, fits-b) in
    let long : length a ≡ length b =
    sym (from_be_bytes-to_be_bytes_4 (length a) small-a)
    ∙ ap (from_be_bytes w32) heads.0
    ∙ from_be_bytes-to_be_bytes_4 (length b) small-b in
    same_front a b x y long heads.1

-- the records and one more
pub opened-push : (entries : List (List ℕ)) (entry : List ℕ)
    → flat_map opened (entries ++ entry ∷ []) ≡ flat_map opened entries ++ opened entry
opened-push entries entry =
    flat_map-append opened entries (entry ∷ []) ∙ ap (λ (l : List ℕ). flat_map opened entries ++ l) (append-nil (opened entry))

pub last_gate-push : (entries : List (List ℕ)) (entry : List ℕ) →
    last_gate (entries ++ entry ∷ []) ≡ last_gate entries + length (closed_record entry)
last_gate-push entries entry =
    let long = ap length (opened-push entries entry) ∙ length-append (flat_map opened entries) (opened entry) in
    omega (arith, long, length-closed_record entry, length-record_of entry)

-- ---- what holds records holds them whatever changes behind their last gate

-- what begins as another does, up to a length, has that beginning
begins : (front rest left : List ℕ) → length (front ++ rest) ≤ length left
    → ((i : ℕ) → i < length front → get_or left i 0 ≡ get_or (front ++ rest) i 0) → left ≡ front ++ drop (length front) left
begins front rest left long same =
    let enough : length front ≤ length left = omega (arith, length-append front rest) in
    front_from_reads 0 left front enough (λ i below. same i below ∙ get_or_append_left front rest 0 i below)

module _ (entries : List (List ℕ)) (bytes left : List ℕ) where
  pub holds-up_to : (h : Holds entries bytes) → length bytes ≤ length left
      → ((i : ℕ) → i < last_gate entries + 1 → get_or left i 0 ≡ get_or bytes i 0)
      → left ≡ flat_map opened entries ++ h.gate ∷ drop (last_gate entries + 1) left
  holds-up_to h long same =
      let front : List ℕ = flat_map opened entries ++ h.gate ∷ [] in
      let are : bytes ≡ front ++ h.behind = h.are ∙ sym (append_assoc (flat_map opened entries) (h.gate ∷ []) h.behind) in
      let size : length front ≡ last_gate entries + 1 = length-append (flat_map opened entries) (h.gate ∷ []) in
      let long' : length (front ++ h.behind) ≤ length left = subst (λ (b : List ℕ). length b ≤ length left) are long in
      let is : left ≡ front ++ drop (length front) left =
      begins front h.behind left long'
      (λ i below. same i (omega (arith, size, below)) ∙ ap (λ (b : List ℕ). get_or b i 0) are) in
      is ∙ append_assoc (flat_map opened entries) (h.gate ∷ []) (drop (length front) left)
      ∙ ap (λ (n : ℕ). flat_map opened entries ++ h.gate ∷ drop n left) size

  pub holds-same : Holds entries bytes → length bytes ≤ length left
      → ((i : ℕ) → i < last_gate entries + 1 → get_or left i 0 ≡ get_or bytes i 0) → Holds entries left
  holds-same h long same =
      record {
        each = h.each;
        gate = h.gate;
        closed = h.closed;
        behind = drop (last_gate entries + 1) left;
        are = holds-up_to h long same;
      }

-- ---- one more record behind a gate

module _ (entries : List (List ℕ)) (entry bytes : List ℕ) where
  pub awaits-opened : (a : Awaits entries entry bytes) → a.gate ≡ 1 → Holds (entries ++ entry ∷ []) bytes
  awaits-opened a is_open =
      let all = flat_map opened entries in
      let regrouped : all ++ 1 ∷ ((record_of entry ++ 0 ∷ []) ++ a.behind) ≡ (all ++ opened entry) ++ 0 ∷ a.behind =
      ap (λ (l : List ℕ). all ++ 1 ∷ l) (append_assoc (record_of entry) (0 ∷ []) a.behind)
      ∙ sym (append_assoc all (opened entry) (0 ∷ a.behind)) in
      record {
        each = All-push IsEntry entries entry a.each a.fits;
        gate = 0;
        closed = λ e. absurd (omega (arith, e));
        behind = a.behind;
        are =
            a.are
            ∙ ap (λ (g : ℕ). all ++ g ∷ (closed_record entry ++ a.behind)) is_open
            ∙ regrouped
            ∙ ap (λ (l : List ℕ). l ++ 0 ∷ a.behind) (sym (opened-push entries entry));
      }

  -- the gate decides whether it counts
  pub awaits-either : Awaits entries entry bytes → HoldsEither entries entry bytes
  awaits-either a =
      elim (cases_eq a.gate 1) as (λ _. HoldsEither entries entry bytes) [
        | inl is_open ↦ inr (awaits-opened a is_open)
        | inr is_closed ↦ inl
            (record { each = a.each; gate = a.gate; closed = is_closed; behind = closed_record entry ++ a.behind; are = a.are })
      ]

  -- it waits there whatever becomes of the gate
  pub awaits-same : (left : List ℕ) → Awaits entries entry bytes → length bytes ≤ length left
      → ((i : ℕ) → i < length bytes → i ≢ last_gate entries → get_or left i 0 ≡ get_or bytes i 0)
      → (a : Awaits entries entry left) × (a.gate ≡ get_or left (last_gate entries) 0)
  awaits-same left a long same =
      let all = flat_map opened entries in
      let at = last_gate entries in
      let gate = get_or left at 0 in
      let changed : List ℕ = set bytes at gate in
      let there : at < length bytes =
      omega (arith, ap length a.are, length-append all (a.gate ∷ (closed_record entry ++ a.behind))) in
      let reads : (i : ℕ) → i < length changed → get_or left i 0 ≡ get_or changed i 0 =
      λ i below. elim (cases_eq i at) as (λ _. get_or left i 0 ≡ get_or changed i 0) [
        | inl e ↦ subst (λ (k : ℕ). get_or left k 0 ≡ get_or changed k 0) (sym e) (sym (get_or-set_same bytes at gate 0 there))
        | inr ne ↦ same i (omega (arith, length-set bytes at gate, below)) ne ∙ sym (get_or-set_other bytes at i gate 0 ne)
      ] in
      let enough : length changed ≤ length left = omega (arith, length-set bytes at gate) in
      let rest : List ℕ = drop (length changed) left in
      let is : changed ≡ all ++ gate ∷ (closed_record entry ++ a.behind) =
      ap (λ (b : List ℕ). set b at gate) a.are ∙ set_at all a.gate (closed_record entry ++ a.behind) gate at refl in
      let are : left ≡ all ++ gate ∷ (closed_record entry ++ (a.behind ++ rest)) =
      front_from_reads 0 left changed enough reads
      ∙ ap (λ (b : List ℕ). b ++ rest) is
      ∙ append_assoc all (gate ∷ (closed_record entry ++ a.behind)) rest
      ∙ ap (λ (l : List ℕ). all ++ gate ∷ l) (append_assoc (closed_record entry) a.behind rest) in
      (record { each = a.each; fits = a.fits; gate = gate; behind = a.behind ++ rest; are = are }, refl)

-- ---- a record as it is spelled

pub entry_in-closed : (entry : List ℕ) → entry_in (closed_record entry) ≡ entry
unfolding record_of
entry_in-closed entry =
    let number : List ℕ = to_be_bytes w32 (length entry) in
    let bytes : List ℕ = closed_record entry in
    let width : length bytes - 1 - 4 ≡ length entry = omega (arith, length-closed_record entry) in
    let e : drop 4 bytes ≡ entry ++ 0 ∷ [] = ap (drop 4) (append_assoc number entry (0 ∷ [])) ∙ drop_at number (entry ++ 0 ∷ []) 4 refl in
    ap (λ (n : ℕ). take n (drop 4 bytes)) width ∙ ap (take (length entry)) e ∙ take_at entry (0 ∷ []) (length entry) refl

pub spelled-closed : (entry bytes : List ℕ) → IsEntry entry → bytes ≡ closed_record entry → IsSpelled bytes
spelled-closed entry bytes fits e =
    let is : entry_in bytes ≡ entry = ap entry_in e ∙ entry_in-closed entry in
    record { fits = subst IsEntry (sym is) fits; are = e ∙ ap closed_record (sym is) }

pub spelled-of : (front rest number bytes : List ℕ) → IsEntry (front ++ rest)
    → number ≡ to_be_bytes w32 (length front + length rest) → bytes ≡ ((number ++ front) ++ rest) ++ 0 ∷ [] → IsSpelled bytes
unfolding record_of
spelled-of front rest number bytes fits e are =
    let counted : number ≡ to_be_bytes w32 (length (front ++ rest)) = e ∙ ap (to_be_bytes w32) (sym (length-append front rest)) in
    let regrouped : (number ++ front) ++ rest ≡ to_be_bytes w32 (length (front ++ rest)) ++ (front ++ rest) =
    append_assoc number front rest ∙ ap (λ (n : List ℕ). n ++ (front ++ rest)) counted in
    spelled-closed (front ++ rest) bytes fits (are ∙ ap (λ (l : List ℕ). l ++ 0 ∷ []) regrouped)
