-- The first stage of a transaction is spelled in bytes, and fits a frame.
use Rattle.cluster_run.proofs.Members.{in_cases, in_head, in_rest}
use Rattle.std.proofs.Common.{◌≡◌, ℕ, zero, suc, ◌+◌, ◌*◌, ◌<◌, ◌≤◌, ◌==◌, Bool, true, false, cond, List, [], ◌∷◌, ◌++◌, length, refl, sym}
use Rattle.std.proofs.Common.{ap, subst, ◌∙◌, inl, inr, arith, length-append}
use Rattle.std.specs.Prelude.{Contains, nat_lt, slice_index, Ok}
use Rattle.std.specs.Int.{to_be_bytes, bytes_high_first, byte_at, w64, w16, w32}
use Rattle.std.specs.List.{flat_map}
use Rattle.std.proofs.lemmas.Bool.{and_from, lt-ltb}
use Rattle.sha2.specs.Sha256.{sha256, digest_bytes, final_hash, initial_hash_256}
use Rattle.basil_types.specs.declared.transaction.parts.ReadPart.{ReadPart}
use Rattle.basil_types.specs.declared.transaction.parts.WritePart.{WritePart}
use Rattle.basil_types.specs.declared.version.Version.{Version}
use Rattle.basil_types.specs.Lists.{AreItems}
use Rattle.basil_types.specs.Texts.{IsBytes, IsKey, IsValue, IsVersion}
use Rattle.basil_types.specs.Transaction.{TransactionValue, IsTransaction, FitsRead, FitsWrite, key_of_read, key_of_write, id, version_of}
use Rattle.basil_types.specs.Transaction.{short_text, long_text, version_bytes, read_bytes, written_bytes, write_bytes, canonical}
use Rattle.frame_views.specs.Fitting.{IsSignature, bounds_of}
use Rattle.frame_views.specs.Frames.{frame_in}
use Rattle.frame_views.specs.Spelling.{spelling}
use Rattle.frame_views.specs.Values.{St1}
use Rattle.frame_views.proofs.FrameLaws.{frame_again}
use Rattle.cluster_run.specs.Parts.{are_bytes, read_frame}
use Rattle.cluster_run.specs.States.{Setup}
use Rattle.cluster_run.proofs.Decides.{length_id}
use Rattle.cluster_run.proofs.Marking.{none_in}
use Rattle.cluster_run.proofs.Parting.{bytes_are}
use Rattle.cluster_run.proofs.SignedBytes.{byte-small}

-- ---- bytes

abbrev B : List ℕ → Type 0
B xs = are_bytes xs ≡ true

one_byte : (n : ℕ) (xs : List ℕ) → n < 256 → B xs → B (n ∷ xs)
one_byte n xs l b = and_from (nat_lt n 256) (are_bytes xs) (lt-ltb n 256 l) b

both_bytes : (xs ys : List ℕ) → B xs → B ys → B (xs ++ ys)
both_bytes [] ys a b = b
both_bytes (x ∷ xs) ys a b =
    and_from (nat_lt x 256) (are_bytes (xs ++ ys)) (Rattle.std.proofs.lemmas.Bool.and_parts (nat_lt x 256) (are_bytes xs) a).0
    (both_bytes xs ys (Rattle.std.proofs.lemmas.Bool.and_parts (nat_lt x 256) (are_bytes xs) a).1 b)

bytes_from : (xs : List ℕ) → IsBytes xs → B xs
bytes_from [] h = refl
bytes_from (x ∷ xs) h = one_byte x xs (h 0) (bytes_from xs (λ i. h (suc i)))

high_bytes : (k n : ℕ) → B (bytes_high_first k n)
high_bytes zero n = refl
high_bytes (suc k) n = one_byte (byte_at k n) (bytes_high_first k n) (byte-small k n) (high_bytes k n)

digest_is : (h : List ℕ) (n : ℕ) → B (digest_bytes h n)
unfolding digest_bytes
digest_is h zero = refl
digest_is h (suc n) = both_bytes (digest_bytes h n) (to_be_bytes w32 (slice_index h n)) (digest_is h n) (high_bytes 4 (slice_index h n))

sha_bytes : (m : List ℕ) → B (sha256 m)
unfolding sha256
sha_bytes m = digest_is (final_hash initial_hash_256 m) 8

pub version_fits : (t : TransactionValue) → IsTransaction t → IsVersion (version_of t)
version_fits t is = record {
  time = is.time;
  client = (let c = is.client in omega (arith, c));
  id = length_id t;
  bytes = bytes_are (id t)
      (sha_bytes (canonical t));
}

-- ---- lists

flat_bytes : {X : Type 0} (f : X → List ℕ) (xs : List X) → ((x : X) → Contains xs x → B (f x)) → B (flat_map f xs)
flat_bytes f [] h = refl
flat_bytes f (x ∷ xs) h = both_bytes (f x) (flat_map f xs) (h x (in_head x xs)) (flat_bytes f xs (λ y i. h y (in_rest x y xs i)))

flat_short : {X : Type 0} (f : X → List ℕ) (k : ℕ) (xs : List X) → ((x : X) → Contains xs x → length (f x) ≤ k) →
    length (flat_map f xs) ≤ length xs * k
flat_short f k [] h = omega arith
flat_short f k (x ∷ xs) h =
    let a = h x (in_head x xs) in
    let b = flat_short f k xs (λ y i. h y (in_rest x y xs i)) in
    let e : suc (length xs) * k ≡ length xs * k + k = Rattle.std.proofs.Common.suc-mul (length xs) k in
    let l = length-append (f x) (flat_map f xs) in
    subst (λ (n : ℕ). length (flat_map f (x ∷ xs)) ≤ n) (sym e) (omega (arith, a, b, l))

record Each {F V : Type 0} (Fit : F → V → Type 0) (v : V) : Type 0 where
  floor : F
  fits : Fit floor v

each : {F V : Type 0} (Fit : F → V → Type 0) (next : V → F) (floor : F) (vs : List V) → AreItems Fit next floor vs → (v : V) →
    Contains vs v → Each Fit v
each Fit next floor [] a v i = absurd (none_in v i)
each Fit next floor (x ∷ xs) a v i =
    elim (in_cases v x xs i) [
      | inl e ↦ subst (Each Fit) e (record { floor = floor; fits = a.0 })
      | inr j ↦ each Fit next (next x) xs a.1 v j
    ]

-- ---- the parts of a transaction

short_is : (key : List ℕ) → IsKey key → B (short_text key)
short_is key k = (let s = k.short in one_byte (length key) key (omega (arith, s)) (bytes_from key k.bytes))

long_is : (text : List ℕ) → IsBytes text → B (long_text text)
long_is text h = both_bytes (to_be_bytes w16 (length text)) text (high_bytes 2 (length text)) (bytes_from text h)

version_is : (v : Version) → IsVersion v → B (version_bytes v)
version_is v k =
    both_bytes (to_be_bytes w64 v.time) (v.client ∷ v.id) (high_bytes 8 v.time) (one_byte v.client v.id k.client (bytes_from v.id k.bytes))

read_is : (r : ReadPart) → IsKey r.key → IsVersion r.version → B (read_bytes r)
read_is r k v =
    both_bytes (short_text r.key ++ version_bytes r.version) ((cond r.dependency 1 0) ∷ [])
    (both_bytes (short_text r.key) (version_bytes r.version) (short_is r.key k) (version_is r.version v))
    (one_byte (cond r.dependency 1 0) [] (flag r.dependency) refl)
  where
    flag : (b : Bool) → cond b 1 0 < 256
    flag true = omega arith
    flag false = omega arith

read_short : (r : ReadPart) → IsKey r.key → IsVersion r.version → length (read_bytes r) ≤ 107
read_short r k v =
    let a = length-append (short_text r.key ++ version_bytes r.version) ((cond r.dependency 1 0) ∷ []) in
    let b = length-append (short_text r.key) (version_bytes r.version) in
    let c = length-append (to_be_bytes w64 r.version.time) (r.version.client ∷ r.version.id) in
    let d : length (to_be_bytes w64 r.version.time) ≡ 8 = refl in
    let s = k.short in
    let i = v.id in
    omega (arith, a, b, c, d, s, i)

written_is : (format : ℕ) (w : WritePart) → IsValue w.value → B (written_bytes format w)
written_is format w v = by (format == 1) w.deletes
  where
    by : (a d : Bool) → B (cond a (long_text w.value) (cond d (0 ∷ []) (1 ∷ long_text w.value)))
    by true d = long_is w.value v.bytes
    by false true = refl
    by false false = one_byte 1 (long_text w.value) (omega arith) (long_is w.value v.bytes)

written_short : (format : ℕ) (w : WritePart) → IsValue w.value → length (written_bytes format w) ≤ 259
written_short format w v = by (format == 1) w.deletes
  where
    long : length (long_text w.value) ≤ 258
    long =
        let a = length-append (to_be_bytes w16 (length w.value)) w.value in
        let d : length (to_be_bytes w16 (length w.value)) ≡ 2 = refl in
        let s = v.short in
        omega (arith, a, d, s)

    by : (a d : Bool) → length (cond a (long_text w.value) (cond d (0 ∷ []) (1 ∷ long_text w.value))) ≤ 259
    by true d = (let l = long in omega (arith, l))
    by false true = omega arith
    by false false = (let l = long in omega (arith, l))

write_is : (format : ℕ) (w : WritePart) → IsKey w.key → IsValue w.value → B (write_bytes format w)
write_is format w k v = both_bytes (short_text w.key) (written_bytes format w) (short_is w.key k) (written_is format w v)

write_short : (format : ℕ) (w : WritePart) → IsKey w.key → IsValue w.value → length (write_bytes format w) ≤ 324
write_short format w k v =
    (let a = length-append (short_text w.key) (written_bytes format w) in let l = written_short format w v in let s = k.short in omega
    (arith, a, l, s))

module _ (t : TransactionValue) (is : IsTransaction t) where
  abbrev Reads : List ℕ
  Reads = flat_map read_bytes t.reads

  abbrev Writes : List ℕ
  Writes = flat_map (write_bytes t.format) t.writes

  reads_are : B Reads
  reads_are =
      flat_bytes read_bytes t.reads (λ r i. let e = each FitsRead key_of_read [] t.reads is.reads r i in read_is r (e.fits).key
      (e.fits).version)

  writes_are : B Writes
  writes_are =
      flat_bytes (write_bytes t.format) t.writes (λ w i. let e = each
      (FitsWrite t.format) key_of_write [] t.writes is.writes w i in write_is t.format w (e.fits).key (e.fits).value)

  reads_short : length Reads ≤ length t.reads * 107
  reads_short =
      flat_short read_bytes 107 t.reads (λ r i. let e = each FitsRead key_of_read [] t.reads is.reads r i in read_short r (e.fits).key
      (e.fits).version)

  writes_short : length Writes ≤ length t.writes * 324
  writes_short =
      flat_short (write_bytes t.format) 324 t.writes (λ w i. let e = each
      (FitsWrite t.format) key_of_write [] t.writes is.writes w i in write_short t.format w (e.fits).key (e.fits).value)

  canonical_is : B (canonical t)
  canonical_is =
      let f = is.format in
      let c = is.client in
      let r = is.few_reads in
      let w = is.few_writes in
      one_byte t.format (to_be_bytes w64 t.time ++ t.client ∷ length t.reads ∷ (Reads ++ length t.writes ∷ Writes)) (omega (arith, f))
      (both_bytes (to_be_bytes w64 t.time) (t.client ∷ length t.reads ∷ (Reads ++ length t.writes ∷ Writes)) (high_bytes 8 t.time)
      (one_byte t.client (length t.reads ∷ (Reads ++ length t.writes ∷ Writes)) (omega (arith, c))
      (one_byte (length t.reads) (Reads ++ length t.writes ∷ Writes) (omega (arith, r))
      (both_bytes Reads (length t.writes ∷ Writes) reads_are (one_byte (length t.writes) Writes (omega (arith, w)) writes_are)))))

  canonical_short : length (canonical t) ≤ 20000
  canonical_short =
      let r = is.few_reads in
      let w = is.few_writes in
      let a = length-append (to_be_bytes w64 t.time) (t.client ∷ length t.reads ∷ (Reads ++ length t.writes ∷ Writes)) in
      let b = length-append Reads (length t.writes ∷ Writes) in
      let d : length (to_be_bytes w64 t.time) ≡ 8 = refl in
      let x = reads_short in
      let y = writes_short in
      omega (arith, r, w, a, b, d, x, y)

  -- it is read as itself
  pub first_read : (s : Setup) (signature : List ℕ) → IsSignature signature → IsBytes signature →
      read_frame s (spelling (St1 (record { transaction = t; signature = signature })))
      ≡ Ok (St1 (record { transaction = t; signature = signature }))
  first_read s signature sig bytes =
      let m = St1 (record { transaction = t; signature = signature }) in
      let all : B (spelling m) =
      one_byte 3 (canonical t ++ long_text signature) (omega arith)
      (both_bytes (canonical t) (long_text signature) canonical_is (long_is signature bytes)) in
      let a = length-append (canonical t) (long_text signature) in
      let b = length-append (to_be_bytes w16 (length signature)) signature in
      let d : length (to_be_bytes w16 (length signature)) ≡ 2 = refl in
      let c = canonical_short in
      let e = sig.short in
      ap (λ g. cond g (frame_in (bounds_of s.cluster) (spelling m))
      (Rattle.std.specs.Prelude.Err Rattle.frame_views.specs.declared.fault.BadFrame.TheVariants.Kind)) all
      ∙ frame_again s.cluster (spelling m) m (record {
        short = omega
            (arith, a, b, c, d, e);
        fits = record { transaction = is; signature = sig };
        spelled = refl;
      })
