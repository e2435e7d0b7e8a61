-- A transaction that is read is the one that was written, and what was written is read again.
use Rattle.std.proofs.Common.{◌≡◌, ℕ, ◌+◌, ◌≤◌, ◌<◌, ◌-◌, ◌^◌, true, List, [], ◌∷◌, ◌++◌, length, take}
use Rattle.std.proofs.Common.{Result, Ok, Err, refl, sym, ap, subst, ◌∙◌, append_assoc, length-append, arith}
use Rattle.std.specs.List.{flat_map}
use Rattle.std.specs.Int.{w64, to_be_bytes}
use Rattle.std.proofs.lemmas.Bool.{eqb-true}
use Rattle.std.proofs.lemmas.List.{append-nil, nil_from_length, take_at}
use Rattle.basil_types.specs.declared.reading.Fault.{Fault}
use Rattle.basil_types.specs.declared.transaction.parts.ReadPart.{ReadPart}
use Rattle.basil_types.specs.declared.transaction.parts.WritePart.{WritePart}
use Rattle.basil_types.specs.Steps.{◌>>=◌}
use Rattle.basil_types.specs.Lists.{items_at, AreItems, list_of, is_read, is_whole}
use Rattle.basil_types.specs.Texts.{IsBytes}
use Rattle.basil_types.specs.Transaction.{TransactionValue, IsTransaction, canonical, read_bytes}
use Rattle.basil_types.specs.Transaction.{write_bytes, FitsRead, FitsWrite, key_of_read, key_of_write}
use Rattle.basil_types.specs.Reading.{number_at, between}
use Rattle.basil_types.specs.Parsed.{Head, head_at, read_at, write_at, reads_at, writes_at, before_writes_at}
use Rattle.basil_types.specs.Parsed.{transaction_at, read_value, transaction_in, spells_transaction}
use Rattle.basil_types.proofs.Fields.{bind_ok, ok_is, moved, Takes, Takes-then, between_takes}
use Rattle.basil_types.proofs.Fields.{between_again, number_takes, number_again, wide64}
use Rattle.basil_types.proofs.ListLaws.{reads-take, reads-again}
use Rattle.basil_types.proofs.PartLaws.{reads_reads, writes_reads}

-- ---- the numbers before the lists

abbrev head_bytes : Head → List ℕ
head_bytes h = h.format ∷ to_be_bytes w64 h.time ++ h.client ∷ []

pub record IsHead (h : Head) : Type 0 where
  pub known : 1 ≤ h.format
  pub format : h.format ≤ 2
  pub time : h.time < 2 ^ 64
  pub someone : 1 ≤ h.client
  pub client : h.client ≤ 16

head_takes : (bytes : List ℕ) (x : Head × List ℕ) → IsBytes bytes → head_at bytes ≡ Ok x → Takes bytes (head_bytes x.0) x.1 × IsHead x.0
unfolding head_at
head_takes bytes x fits e =
    let a = bind_ok (between 1 3 bytes)
    (λ format. number_at w64 format.1 >>= λ time. between 1 17 time.1 >>= λ client. Ok
    (record { format = format.0; time = time.0; client = client.0 }, client.1)) x e in
    let b = bind_ok (number_at w64 a.0.1)
    (λ time. between 1 17 time.1 >>= λ client. Ok (record { format = a.0.0; time = time.0; client = client.0 }, client.1)) x a.2 in
    let d = bind_ok (between 1 17 b.0.1) (λ client. Ok (record { format = a.0.0; time = b.0.0; client = client.0 }, client.1)) x b.2 in
    let t0 = between_takes 1 3 bytes a.0 fits a.1 in
    let t1 = number_takes w64 (2 ^ 64) wide64 a.0.1 b.0.0 b.0.1 t0.0.rest_fits b.1 in
    let t2 = between_takes 1 17 b.0.1 d.0 t1.0.rest_fits d.1 in
    let left = Takes-then bytes (a.0.0 ∷ []) a.0.1 (to_be_bytes w64 b.0.0) b.0.1 t0.0 t1.0 in
    let both = Takes-then bytes (a.0.0 ∷ to_be_bytes w64 b.0.0) b.0.1 (d.0.0 ∷ []) d.0.1 left t2.0 in
    let made : Head × List ℕ = (record { format = a.0.0; time = b.0.0; client = d.0.0 }, d.0.1) in
    let is : IsHead made.0 =
    record { known = t0.1; format = omega (arith, t0.2); time = t1.1; someone = t2.1; client = omega (arith, t2.2) } in
    moved (λ (y : Head × List ℕ). Takes bytes (head_bytes y.0) y.1 × IsHead y.0) made x d.2 (both, is)

head_again : (h : Head) (rest : List ℕ) → IsHead h → head_at (head_bytes h ++ rest) ≡ Ok (h, rest)
unfolding head_at
head_again h rest is =
    let regrouped : head_bytes h ++ rest ≡ h.format ∷ (to_be_bytes w64 h.time ++ (h.client ∷ rest)) =
    ap (λ (t : List ℕ). h.format ∷ t) (append_assoc (to_be_bytes w64 h.time) (h.client ∷ []) rest) in
    ap head_at regrouped
    ∙ rw (
      between_again 1 3 h.format (to_be_bytes w64 h.time ++ (h.client ∷ rest)) is.known (omega (arith, is.format)),
      number_again w64
          (2 ^ 64) wide64 h.time (h.client ∷ rest) is.time,
      between_again 1 17 h.client rest is.someone (omega (arith, is.client)),
    ) refl

-- ---- the lists behind their numbers

reads_take : (bytes : List ℕ) (x : List ReadPart × List ℕ) → IsBytes bytes → reads_at bytes ≡ Ok x → Takes bytes
    (length x.0 ∷ flat_map read_bytes x.0) x.1 × (length x.0 ≤ 32) × AreItems FitsRead key_of_read [] x.0
unfolding reads_at
reads_take bytes x fits e =
    let a = bind_ok (between 0 33 bytes) (λ count. items_at read_at key_of_read count.0 [] count.1) x e in
    let t0 = between_takes 0 33 bytes a.0 fits a.1 in
    let t1 = reads-take read_at key_of_read read_at read_bytes FitsRead reads_reads a.0.0 [] a.0.1 x t0.0.rest_fits a.2 in
    let both = Takes-then bytes (a.0.0 ∷ []) a.0.1 (flat_map read_bytes x.0) x.1 t0.0 t1.0 in
    (subst (λ (k : ℕ). Takes bytes (k ∷ flat_map read_bytes x.0) x.1) (sym t1.1) both, omega (arith, t1.1, t0.2), t1.2)

reads_again : (xs : List ReadPart) (rest : List ℕ) → length xs ≤ 32 → AreItems FitsRead key_of_read [] xs → reads_at
    ((length xs ∷ flat_map read_bytes xs) ++ rest) ≡ Ok (xs, rest)
unfolding reads_at
reads_again xs rest few fits =
    rw (between_again 0 33 (length xs) (flat_map read_bytes xs ++ rest) (omega arith) (omega arith))
    (reads-again read_at key_of_read read_at read_bytes FitsRead reads_reads [] xs rest fits)

writes_take : (format : ℕ) (bytes : List ℕ) (x : List WritePart × List ℕ) → IsBytes bytes → writes_at format bytes ≡ Ok x → Takes bytes
    (length x.0 ∷ flat_map (write_bytes format) x.0) x.1 × (length x.0 ≤ 32) × AreItems (FitsWrite format) key_of_write [] x.0
unfolding writes_at
writes_take format bytes x fits e =
    let a = bind_ok (between 0 33 bytes) (λ count. items_at (write_at format) key_of_write count.0 [] count.1) x e in
    let t0 = between_takes 0 33 bytes a.0 fits a.1 in
    let t1 = reads-take (write_at format) key_of_write (write_at format) (write_bytes format) (FitsWrite format)
    (writes_reads format) a.0.0 [] a.0.1 x t0.0.rest_fits a.2 in
    let both = Takes-then bytes (a.0.0 ∷ []) a.0.1 (flat_map (write_bytes format) x.0) x.1 t0.0 t1.0 in
    (subst (λ (k : ℕ). Takes bytes (k ∷ flat_map (write_bytes format) x.0) x.1) (sym t1.1) both, omega (arith, t1.1, t0.2), t1.2)

writes_again : (format : ℕ) (xs : List WritePart) (rest : List ℕ) → length xs ≤ 32 → AreItems (FitsWrite format) key_of_write [] xs →
    writes_at format ((length xs ∷ flat_map (write_bytes format) xs) ++ rest) ≡ Ok (xs, rest)
unfolding writes_at
writes_again format xs rest few fits =
    rw (between_again 0 33 (length xs) (flat_map (write_bytes format) xs ++ rest) (omega arith) (omega arith))
    (reads-again (write_at format) key_of_write (write_at format) (write_bytes format) (FitsWrite format)
    (writes_reads format) [] xs rest fits)

-- ---- transactions

abbrev pub head_in : TransactionValue → Head
head_in t = record { format = t.format; time = t.time; client = t.client }

abbrev pub with_head : Head → List ReadPart → List WritePart → TransactionValue
with_head h reads writes = record { format = h.format; time = h.time; client = h.client; reads = reads; writes = writes }

-- the parts that were read one after the other
pub record Steps (bytes : List ℕ) (t : TransactionValue) (rest : List ℕ) : Type 0 where
  pub after_head : List ℕ
  pub after_reads : List ℕ
  pub head : head_at bytes ≡ Ok (head_in t, after_head)
  pub reads : reads_at after_head ≡ Ok (t.reads, after_reads)
  pub writes : writes_at t.format after_reads ≡ Ok (t.writes, rest)

pub steps_of : (bytes : List ℕ) (x : TransactionValue × List ℕ) → transaction_at bytes ≡ Ok x → Steps bytes x.0 x.1
unfolding transaction_at
steps_of bytes x e =
    let a = bind_ok (head_at bytes)
    (λ head. reads_at head.1 >>= λ reads. writes_at head.0.format reads.1 >>= λ writes. Ok
    (with_head head.0 reads.0 writes.0, writes.1)) x e in
    let b = bind_ok (reads_at a.0.1)
    (λ reads. writes_at a.0.0.format reads.1 >>= λ writes. Ok (with_head a.0.0 reads.0 writes.0, writes.1)) x a.2 in
    let d = bind_ok (writes_at a.0.0.format b.0.1) (λ writes. Ok (with_head a.0.0 b.0.0 writes.0, writes.1)) x b.2 in
    let made : TransactionValue × List ℕ = (with_head a.0.0 b.0.0 d.0.0, d.0.1) in
    let steps : Steps bytes made.0 made.1 = record { after_head = a.0.1; after_reads = b.0.1; head = a.1; reads = b.1; writes = d.1 } in
    moved (λ (y : TransactionValue × List ℕ). Steps bytes y.0 y.1) made x d.2 steps

pub transaction_takes : (bytes : List ℕ) (x : TransactionValue × List ℕ) → IsBytes bytes → transaction_at bytes ≡ Ok x → Takes bytes
    (canonical x.0) x.1 × IsTransaction x.0
transaction_takes bytes x fits e =
    let s = steps_of bytes x e in
    let t0 = head_takes bytes (head_in x.0, s.after_head) fits s.head in
    let t1 = reads_take s.after_head (x.0.reads, s.after_reads) t0.0.rest_fits s.reads in
    let t2 = writes_take x.0.format s.after_reads (x.0.writes, x.1) t1.0.rest_fits s.writes in
    let reads_text : List ℕ = length x.0.reads ∷ flat_map read_bytes x.0.reads in
    let writes_text : List ℕ = length x.0.writes ∷ flat_map (write_bytes x.0.format) x.0.writes in
    let lists = Takes-then s.after_head reads_text s.after_reads writes_text x.1 t1.0 t2.0 in
    let all : Takes bytes (canonical x.0) x.1 =
    Takes-then bytes (head_bytes (head_in x.0)) s.after_head (reads_text ++ writes_text) x.1 t0.0 lists in (
      all,
      record {
        known = t0.1.known;
        format = t0.1.format;
        time = t0.1.time;
        someone = t0.1.someone;
        client = t0.1.client;
        few_reads = t1.1;
        reads = t1.2;
        few_writes = t2.1;
        writes = t2.2;
      },
    )

pub transaction_again : (t : TransactionValue) (rest : List ℕ) → IsTransaction t → transaction_at (canonical t ++ rest) ≡ Ok (t, rest)
unfolding transaction_at
transaction_again t rest is =
    let reads_text : List ℕ = length t.reads ∷ flat_map read_bytes t.reads in
    let writes_text : List ℕ = length t.writes ∷ flat_map (write_bytes t.format) t.writes in
    let regrouped : canonical t ++ rest ≡ head_bytes (head_in t) ++ (reads_text ++ (writes_text ++ rest)) =
    append_assoc (head_bytes (head_in t)) (reads_text ++ writes_text) rest ∙ ap (λ (z : List ℕ). head_bytes (head_in t) ++ z)
    (append_assoc reads_text writes_text rest) in
    let head : IsHead (head_in t) =
    record { known = is.known; format = is.format; time = is.time; someone = is.someone; client = is.client } in
    ap transaction_at regrouped
    ∙ rw (
      head_again (head_in t) (reads_text ++ (writes_text ++ rest)) head,
      reads_again t.reads
          (writes_text ++ rest) is.few_reads is.reads,
      writes_again t.format t.writes rest is.few_writes is.writes,
    ) refl

pub canonical-is : (t u : TransactionValue) → IsTransaction t → IsTransaction u → canonical t ≡ canonical u → t ≡ u
canonical-is t u a b e =
    let done : TransactionValue → Result (TransactionValue × List ℕ) Fault = λ v. Ok (v, []) in
    let same : done t ≡ done u =
    sym (transaction_again t [] a) ∙ ap (λ (z : List ℕ). transaction_at (z ++ [])) e ∙ transaction_again u [] b in
    ap (λ (p : TransactionValue × List ℕ). p.0) (ok_is (t, []) (u, []) same)

-- ---- bytes that spell a transaction

pub spells-is : (bytes : List ℕ) → spells_transaction bytes ≡ true → transaction_at bytes ≡ Ok (transaction_in bytes, [])
spells-is bytes e = by (transaction_at bytes) e
  where
    by : (r : Result (TransactionValue × List ℕ) Fault) → is_whole r ≡ true → r ≡ Ok (read_value r, [])
    by (Ok x) whole = ap (λ (t : List ℕ). Ok (x.0, t)) (nil_from_length x.1 (eqb-true _ _ whole))
    by (Err f) whole = absurd cc

pub spells-canonical : (bytes : List ℕ) → IsBytes bytes → spells_transaction bytes ≡ true → (bytes ≡ canonical (transaction_in bytes))
    × IsTransaction (transaction_in bytes)
spells-canonical bytes fits e =
    let t = transaction_takes bytes (transaction_in bytes, []) fits (spells-is bytes e) in
    (t.0.parts ∙ append-nil (canonical (transaction_in bytes)), t.1)

pub again-whole : (t : TransactionValue) → IsTransaction t → transaction_at (canonical t) ≡ Ok (t, [])
again-whole t is = ap transaction_at (sym (append-nil (canonical t))) ∙ transaction_again t [] is

pub again-spells : (t : TransactionValue) → IsTransaction t → (spells_transaction (canonical t) ≡ true) × (transaction_in (canonical t) ≡ t)
again-spells t is = (ap is_whole (again-whole t is), ap read_value (again-whole t is))

-- what was taken spells the transaction, whatever followed it
pub cut-is : (bytes : List ℕ) (x : TransactionValue × List ℕ) → IsBytes bytes → transaction_at bytes ≡ Ok x
    → (length x.1 ≤ length bytes) × (take (length bytes - length x.1) bytes ≡ canonical x.0) × IsTransaction x.0
cut-is bytes x fits e =
    let t = transaction_takes bytes x fits e in
    let total : length bytes ≡ length (canonical x.0) + length x.1 = ap length t.0.parts ∙ length-append (canonical x.0) x.1 in
    let len : length bytes - length x.1 ≡ length (canonical x.0) = omega arith in
    (omega arith, rw (len, t.0.parts) (take_at (canonical x.0) x.1 (length (canonical x.0)) refl), t.1)

pub cut-spells : (bytes : List ℕ) (x : TransactionValue × List ℕ) → IsBytes bytes → transaction_at bytes ≡ Ok x
    → (spells_transaction (take (length bytes - length x.1) bytes) ≡ true) × (transaction_in (take (length bytes - length x.1) bytes) ≡ x.0)
cut-spells bytes x fits e =
    let c = cut-is bytes x fits e in
    let a = again-spells x.0 c.2 in
    (ap spells_transaction c.1 ∙ a.0, ap transaction_in c.1 ∙ a.1)

-- ---- the parts of bytes that spell a transaction

whole-steps : (bytes : List ℕ) → spells_transaction bytes ≡ true → Steps bytes (transaction_in bytes) []
whole-steps bytes e = steps_of bytes (transaction_in bytes, []) (spells-is bytes e)

pub head-never : (bytes : List ℕ) (f : Fault) → spells_transaction bytes ≡ true → head_at bytes ≡ Err f → ⊥
head-never bytes f e h =
    let s = (whole-steps bytes e).head in
    cc

pub head-is : (bytes : List ℕ) (x : Head × List ℕ) → spells_transaction bytes ≡ true → head_at bytes ≡ Ok x → x.0 ≡ head_in
    (transaction_in bytes)
head-is bytes x e h =
    let s = whole-steps bytes e in
    ap (λ (p : Head × List ℕ). p.0) (ok_is x (head_in (transaction_in bytes), s.after_head) (sym h ∙ s.head))

-- the reads behind the head
behind-head : (bytes : List ℕ) (x : Head × List ℕ) → spells_transaction bytes ≡ true → head_at bytes ≡ Ok x → (rest : List ℕ) ×
    (reads_at x.1 ≡ Ok ((transaction_in bytes).reads, rest))
behind-head bytes x e h =
    let s = whole-steps bytes e in
    let same : x.1 ≡ s.after_head =
    ap (λ (p : Head × List ℕ). p.1) (ok_is x (head_in (transaction_in bytes), s.after_head) (sym h ∙ s.head)) in
    (s.after_reads, ap reads_at same ∙ s.reads)

pub reads-never : (bytes : List ℕ) (x : Head × List ℕ) (f : Fault) → spells_transaction bytes ≡ true → head_at bytes ≡ Ok x →
    between 0 33 x.1 ≡ Err f → ⊥
unfolding reads_at
reads-never bytes x f e h none =
    let b = behind-head bytes x e h in
    let bad : reads_at x.1 ≡ Err f = rw none refl in
    let some = b.1 in
    cc

pub record Found {A : Type 0} (read : Result (List A × List ℕ) Fault) (items : List A) : Type 0 where
  pub is : is_read read ≡ true
  pub shows : list_of read ≡ items

pub reads-found : (bytes : List ℕ) (x : Head × List ℕ) (n : ℕ × List ℕ) → spells_transaction bytes ≡ true → head_at bytes ≡ Ok x →
    between 0 33 x.1 ≡ Ok n
    → Found (items_at read_at key_of_read n.0 [] n.1) (transaction_in bytes).reads
unfolding reads_at
reads-found bytes x n e h some =
    let b = behind-head bytes x e h in
    let step : reads_at x.1 ≡ items_at read_at key_of_read n.0 [] n.1 = rw some refl in
    let read = sym step ∙ b.1 in
    record { is = ap is_read read; shows = ap list_of read }

before-is : (bytes : List ℕ) (x : ℕ × List ℕ) → spells_transaction bytes ≡ true → before_writes_at bytes ≡ Ok x → writes_at x.0 x.1 ≡ Ok
    ((transaction_in bytes).writes, [])
unfolding before_writes_at
before-is bytes x e h =
    let s = whole-steps bytes e in
    let made : ℕ × List ℕ = ((transaction_in bytes).format, s.after_reads) in
    let step : before_writes_at bytes ≡ Ok made = rw (s.head, s.reads) refl in
    let same : x ≡ made = ok_is x made (sym h ∙ step) in
    ap (λ (p : ℕ × List ℕ). writes_at p.0 p.1) same ∙ s.writes

pub before-never : (bytes : List ℕ) (f : Fault) → spells_transaction bytes ≡ true → before_writes_at bytes ≡ Err f → ⊥
unfolding before_writes_at
before-never bytes f e h =
    let s = whole-steps bytes e in
    let made : ℕ × List ℕ = ((transaction_in bytes).format, s.after_reads) in
    let step : before_writes_at bytes ≡ Ok made = rw (s.head, s.reads) refl in
    cc

pub writes-never : (bytes : List ℕ) (x : ℕ × List ℕ) (f : Fault) → spells_transaction bytes ≡ true → before_writes_at bytes ≡ Ok x →
    between 0 33 x.1 ≡ Err f → ⊥
unfolding writes_at
writes-never bytes x f e h none =
    let b = before-is bytes x e h in
    let bad : writes_at x.0 x.1 ≡ Err f = rw none refl in
    cc

pub writes-found : (bytes : List ℕ) (x n : ℕ × List ℕ) → spells_transaction bytes ≡ true → before_writes_at bytes ≡ Ok x → between 0 33 x.1
    ≡ Ok n
    → Found (items_at (write_at x.0) key_of_write n.0 [] n.1) (transaction_in bytes).writes
unfolding writes_at
writes-found bytes x n e h some =
    let step : writes_at x.0 x.1 ≡ items_at (write_at x.0) key_of_write n.0 [] n.1 = rw some refl in
    let read = sym step ∙ before-is bytes x e h in
    record { is = ap is_read read; shows = ap list_of read }
