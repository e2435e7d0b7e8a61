-- How long a journal is with one record more.
use Rattle.std.proofs.Common.{◌≡◌, ◌<◌, ◌≤◌, ◌+◌, ◌-◌, ℕ, List, [], ◌∷◌, ◌++◌, Bool, true, false, length, sym, ap, ◌∙◌, refl, arith}
use Rattle.std.proofs.Common.{length-append}
use Rattle.std.proofs.lemmas.Bool.{ltb-false, ltb-true}
use Rattle.std.proofs.lemmas.List.{append-nil, map-append}
use Rattle.std.specs.Int.{to_be_bytes, w32}
use Rattle.std.specs.List.{flat_map}
use Rattle.std.specs.Prelude.{nat_lt}
use Rattle.basil_types.specs.declared.party.Party.{Party}
use Rattle.basil_types.specs.declared.party.Party.TheVariants.{Replica, Client}
use Rattle.journal_records.specs.Journal.{last_gate, opened, record_of}
use Rattle.node_journal.specs.declared.limits.TheConstants.{JOURNAL_BYTES}
use Rattle.node_journal.specs.Entries.{entry_of, front_of}
use Rattle.node_journal.specs.Journals.{entries_of, journal_bytes}
use Rattle.replica_laws.specs.Steps.{Handed}
use Rattle.run_journals.specs.Journals.{JournalValue, is_full_for}

front-length : (now : ℕ) (from : Party) → length (front_of now from) ≡ 11
unfolding front_of
front-length now (Replica shard index) = refl
front-length now (Client number) = refl

record-length : (entry : List ℕ) → length (record_of entry) ≡ 4 + length entry
unfolding record_of
record-length entry =
    let e : length (to_be_bytes w32 (length entry)) ≡ 4 = refl in
    omega (arith, e, length-append (to_be_bytes w32 (length entry)) entry)

opened-length : (h : Handed) → length (opened (entry_of h)) ≡ 16 + length h.frame
opened-length h =
    omega (arith, record-length (entry_of h), length-append (front_of h.now h.from) h.frame, front-length h.now h.from)

gate-more : (entries : List (List ℕ)) (entry : List ℕ) → last_gate (entries ++ entry ∷ []) ≡ last_gate entries + length (opened entry)
gate-more [] entry = omega (arith, ap length (append-nil (opened entry)))
gate-more (x ∷ xs) entry =
    omega (
      arith,
      length-append (opened x) (flat_map opened (xs ++ entry ∷ [])),
      length-append (opened x) (flat_map opened xs),
      gate-more xs entry,
    )

bytes-more : (hs : List Handed) (h : Handed) → journal_bytes (hs ++ h ∷ []) ≡ journal_bytes hs + (16 + length h.frame)
bytes-more hs h =
    omega (arith, ap last_gate (map-append entry_of hs (h ∷ [])), gate-more (entries_of hs) (entry_of h), opened-length h)

-- ---- whether it is too long

lt-same : (a b c d : ℕ) → (a < b → c < d) → (c < d → a < b) → nat_lt a b ≡ nat_lt c d
lt-same a b c d f g = by (nat_lt a b) (nat_lt c d) refl refl
  where
    by : (x y : Bool) → nat_lt a b ≡ x → nat_lt c d ≡ y → x ≡ y
    by true true p q = refl
    by true false p q =
        let less = f (ltb-true a b p) in
        let not = ltb-false c d q in
        absurd (omega (arith, less, not))
    by false true p q =
        let less = g (ltb-true c d q) in
        let not = ltb-false a b p in
        absurd (omega (arith, less, not))
    by false false p q = refl

no-room : (limit bytes room count total : ℕ) → room ≡ limit - bytes → total ≡ bytes + (16 + count) → room < 16 →
    nat_lt room 16 ≡ nat_lt limit total
no-room limit bytes room count total r t few =
    lt-same room 16 limit total (λ less. omega (arith, r, t, few)) (λ less. few)

some-room : (limit bytes room count total : ℕ) → room ≡ limit - bytes → total ≡ bytes + (16 + count) → 16 ≤ room →
    nat_lt (room - 16) count ≡ nat_lt limit total
some-room limit bytes room count total r t more =
    lt-same (room - 16) count limit total (λ less. omega (arith, r, t, more, less)) (λ less. omega (arith, r, t, more, less))

pub full-at-once : (x : JournalValue) (h : Handed) (bytes room : ℕ) → bytes ≡ journal_bytes x.taken → room ≡ JOURNAL_BYTES - bytes →
    room < 16 → nat_lt room 16 ≡ is_full_for x h
full-at-once x h bytes room b r few =
    no-room JOURNAL_BYTES bytes room (length h.frame) (journal_bytes (x.taken ++ h ∷ [])) r
    (bytes-more x.taken h ∙ ap (λ (n : ℕ). n + (16 + length h.frame)) (sym b)) few

pub full-by : (x : JournalValue) (h : Handed) (bytes room count : ℕ) → bytes ≡ journal_bytes x.taken → room ≡ JOURNAL_BYTES - bytes →
    count ≡ length h.frame → 16 ≤ room → nat_lt (room - 16) count ≡ is_full_for x h
full-by x h bytes room count b r n more =
    some-room JOURNAL_BYTES bytes room count (journal_bytes (x.taken ++ h ∷ [])) r
    (bytes-more x.taken h ∙ ap (λ (k : ℕ). k + (16 + length h.frame)) (sym b) ∙ ap (λ (k : ℕ). bytes + (16 + k)) (sym n)) more
