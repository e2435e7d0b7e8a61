-- A key, value, version, read or write that is read is the one that was written, and what was written is read again.
use Rattle.std.proofs.Common.{◌≡◌, ℕ, ◌≤◌, ◌<◌, ◌^◌, Bool, true, false, cond, leb, ltb, eqb, List, [], ◌∷◌, ◌++◌}
use Rattle.std.proofs.Common.{length, Ok, Err, refl, sym, ap, subst, ◌∙◌, append_assoc, length-append, arith}
use Rattle.std.specs.Prelude.{not}
use Rattle.std.specs.Int.{w16, w64, to_be_bytes}
use Rattle.std.proofs.lemmas.Bool.{le-ltb, leb-true, le-leb, eqb-true}
use Rattle.std.proofs.Common.{eq-eqb}
use Rattle.basil_types.specs.declared.reading.Fault.TheVariants.{Short, Range, Order}
use Rattle.basil_types.specs.declared.version.Version.{Version}
use Rattle.basil_types.specs.declared.transaction.parts.ReadPart.{ReadPart}
use Rattle.basil_types.specs.declared.transaction.parts.WritePart.{WritePart}
use Rattle.basil_types.specs.Steps.{◌>>=◌}
use Rattle.basil_types.specs.Texts.{IsBytes, IsKey, IsValue, IsVersion, key_below}
use Rattle.basil_types.specs.Transaction.{short_text, long_text, version_bytes, read_bytes, written_bytes, write_bytes, FitsRead, FitsWrite}
use Rattle.basil_types.specs.Reading.{byte_at, number_at, run_at, between, flag_at, key_at}
use Rattle.basil_types.specs.Reading.{next_key_at, value_at, version_parts_at, version_at}
use Rattle.basil_types.specs.Parsed.{read_at, gives_at, given_at, write_at}
use Rattle.basil_types.proofs.Fields.{bind_ok, pass_ok, ok_is, moved, Takes, Takes-then, byte_takes, between_takes, between_again}
use Rattle.basil_types.proofs.Fields.{flag_takes, flag_again, number_takes, number_again, wide16, wide64, run_takes, run_again}
use Rattle.basil_types.proofs.ListLaws.{Reads}

-- ---- keys

pub key_takes : (bytes : List ℕ) (x : List ℕ × List ℕ) → IsBytes bytes → key_at bytes ≡ Ok x → Takes bytes (short_text x.0) x.1 × IsKey x.0
unfolding key_at
key_takes bytes x fits e =
    let n = bind_ok (between 1 65 bytes) (λ n. run_at n.0 n.1) x e in
    let t0 = between_takes 1 65 bytes n.0 fits n.1 in
    let t1 = run_takes n.0.0 n.0.1 x t0.0.rest_fits n.2 in
    let both = Takes-then bytes (n.0.0 ∷ []) n.0.1 x.0 x.1 t0.0 t1.0 in (
      subst (λ (k : ℕ). Takes bytes (k ∷ x.0) x.1) (sym t1.1) both,
      record { some = omega (arith, t1.1, t0.1); short = omega (arith, t1.1, t0.2); bytes = t1.2 },
    )

pub key_again : (key rest : List ℕ) → IsKey key → key_at (short_text key ++ rest) ≡ Ok (key, rest)
unfolding key_at
key_again key rest fits = rw (between_again 1 65 (length key) (key ++ rest) fits.some (omega (arith, fits.short))) (run_again key rest)

pub next_key_takes : (before bytes : List ℕ) (x : List ℕ × List ℕ) → IsBytes bytes → next_key_at before bytes ≡ Ok x → Takes bytes
    (short_text x.0) x.1 × IsKey x.0 × (key_below before x.0 ≡ true)
unfolding next_key_at
next_key_takes before bytes x fits e =
    let k = bind_ok (key_at bytes) (λ key. cond (key_below before key.0) (Ok key) (Err (Order (length bytes)))) x e in
    let g = pass_ok (key_below before k.0.0) (Order (length bytes)) (Ok k.0) x k.2 in
    let t = key_takes bytes k.0 fits k.1 in
    moved (λ (y : List ℕ × List ℕ). Takes bytes (short_text y.0) y.1 × IsKey y.0 × (key_below before y.0 ≡ true)) k.0 x g.1 (t.0, t.1, g.0)

pub next_key_again : (before key rest : List ℕ) → IsKey key → key_below before key ≡ true → next_key_at before (short_text key ++ rest) ≡ Ok
    (key, rest)
unfolding next_key_at
next_key_again before key rest fits above = rw (key_again key rest fits, above) refl

-- ---- values

pub value_takes : (bytes : List ℕ) (x : List ℕ × List ℕ) → IsBytes bytes → value_at bytes ≡ Ok x → Takes bytes (long_text x.0) x.1
    × IsValue x.0
unfolding value_at
value_takes bytes x fits e =
    let b = bind_ok (number_at w16 bytes) (λ n. cond (leb n.0 256) (run_at n.0 n.1) (Err (Range (length bytes)))) x e in
    let n = b.0 in
    let g = pass_ok (leb n.0 256) (Range (length bytes)) (run_at n.0 n.1) x b.2 in
    let first = number_takes w16 (2 ^ 16) wide16 bytes n.0 n.1 fits b.1 in
    let second = run_takes n.0 n.1 x first.0.rest_fits g.1 in
    let both = Takes-then bytes (to_be_bytes w16 n.0) n.1 x.0 x.1 first.0 second.0 in
    let high : n.0 ≤ 256 = leb-true _ _ g.0 in (
      subst (λ (k : ℕ). Takes bytes (to_be_bytes w16 k ++ x.0) x.1) (sym second.1) both,
      record { short = omega (arith, second.1); bytes = second.2 },
    )

pub value_again : (text rest : List ℕ) → IsValue text → value_at (long_text text ++ rest) ≡ Ok (text, rest)
unfolding value_at
value_again text rest fits =
    let short = fits.short in
    let len : length text < 2 ^ 16 = omega arith in
    let regrouped : long_text text ++ rest ≡ to_be_bytes w16 (length text) ++ (text ++ rest) =
    append_assoc (to_be_bytes w16 (length text)) text rest in
    ap value_at regrouped ∙ rw (number_again w16 (2 ^ 16) wide16 (length text) (text ++ rest) len, le-leb (length text) 256 short)
    (run_again text rest)

-- ---- versions

parts_take : (bytes : List ℕ) (x : Version × List ℕ) → IsBytes bytes → version_parts_at bytes ≡ Ok x → Takes bytes (version_bytes x.0) x.1
    × IsVersion x.0
unfolding version_parts_at
parts_take bytes x fits e =
    let a = bind_ok (number_at w64 bytes)
    (λ time. byte_at time.1 >>= λ client. run_at 32 client.1 >>= λ id. Ok
    (record { time = time.0; client = client.0; id = id.0 }, id.1)) x e in
    let b = bind_ok (byte_at a.0.1)
    (λ client. run_at 32 client.1 >>= λ id. Ok (record { time = a.0.0; client = client.0; id = id.0 }, id.1)) x a.2 in
    let d = bind_ok (run_at 32 b.0.1) (λ id. Ok (record { time = a.0.0; client = b.0.0; id = id.0 }, id.1)) x b.2 in
    let t0 = number_takes w64 (2 ^ 64) wide64 bytes a.0.0 a.0.1 fits a.1 in
    let t1 = byte_takes a.0.1 b.0 t0.0.rest_fits b.1 in
    let t2 = run_takes 32 b.0.1 d.0 t1.0.rest_fits d.1 in
    let inner = Takes-then a.0.1 (b.0.0 ∷ []) b.0.1 d.0.0 d.0.1 t1.0 t2.0 in
    let both = Takes-then bytes (to_be_bytes w64 a.0.0) a.0.1 (b.0.0 ∷ d.0.0) d.0.1 t0.0 inner in
    let made : Version × List ℕ = (record { time = a.0.0; client = b.0.0; id = d.0.0 }, d.0.1) in
    moved (λ (y : Version × List ℕ). Takes bytes (version_bytes y.0) y.1 × IsVersion y.0) made x d.2
    (both, record { time = t0.1; client = t1.1; id = t2.1; bytes = t2.2 })

parts_again : (v : Version) (rest : List ℕ) → IsVersion v → version_parts_at (version_bytes v ++ rest) ≡ Ok (v, rest)
unfolding version_parts_at
parts_again v rest fits =
    let regrouped : version_bytes v ++ rest ≡ to_be_bytes w64 v.time ++ (v.client ∷ (v.id ++ rest)) =
    append_assoc (to_be_bytes w64 v.time) (v.client ∷ v.id) rest in
    let id : run_at 32 (v.id ++ rest) ≡ Ok (v.id, rest) =
    subst (λ (k : ℕ). run_at k (v.id ++ rest) ≡ Ok (v.id, rest)) fits.id (run_again v.id rest) in
    ap version_parts_at regrouped ∙ rw (number_again w64 (2 ^ 64) wide64 v.time (v.client ∷ (v.id ++ rest)) fits.time, id) refl

pub version_takes : (bytes : List ℕ) (x : Version × List ℕ) → IsBytes bytes → version_at bytes ≡ Ok x → Takes bytes (version_bytes x.0) x.1
    × IsVersion x.0
unfolding version_at
version_takes bytes x fits e = parts_take bytes x fits (long (ltb (length bytes) 41) e)
  where
    long : (b : Bool) → cond b (Err (Short (length bytes))) (version_parts_at bytes) ≡ Ok x → version_parts_at bytes ≡ Ok x
    long true h = absurd cc
    long false h = h

pub version_again : (v : Version) (rest : List ℕ) → IsVersion v → version_at (version_bytes v ++ rest) ≡ Ok (v, rest)
unfolding version_at
version_again v rest fits =
    let id = fits.id in
    let len : 41 ≤ length (version_bytes v ++ rest) = omega (arith, length-append v.id rest) in
    let long : ltb (length (version_bytes v ++ rest)) 41 ≡ false = le-ltb _ _ len in
    rw long (parts_again v rest fits)

-- ---- reads

read_takes : (before bytes : List ℕ) (x : ReadPart × List ℕ) → IsBytes bytes → read_at before bytes ≡ Ok x → Takes bytes
    (read_bytes x.0) x.1 × FitsRead before x.0
unfolding read_at
read_takes before bytes x fits e =
    let a = bind_ok (next_key_at before bytes)
    (λ key. version_at key.1 >>= λ version. flag_at version.1 >>= λ flag. Ok
    (record { key = key.0; version = version.0; dependency = flag.0 }, flag.1)) x e in
    let b = bind_ok (version_at a.0.1)
    (λ version. flag_at version.1 >>= λ flag. Ok (record { key = a.0.0; version = version.0; dependency = flag.0 }, flag.1)) x a.2 in
    let d = bind_ok (flag_at b.0.1) (λ flag. Ok (record { key = a.0.0; version = b.0.0; dependency = flag.0 }, flag.1)) x b.2 in
    let t0 = next_key_takes before bytes a.0 fits a.1 in
    let t1 = version_takes a.0.1 b.0 t0.0.rest_fits b.1 in
    let last = flag_takes b.0.1 d.0 t1.0.rest_fits d.1 in
    let left = Takes-then bytes (short_text a.0.0) a.0.1 (version_bytes b.0.0) b.0.1 t0.0 t1.0 in
    let both = Takes-then bytes (short_text a.0.0 ++ version_bytes b.0.0) b.0.1 (cond d.0.0 1 0 ∷ []) d.0.1 left last in
    let made : ReadPart × List ℕ = (record { key = a.0.0; version = b.0.0; dependency = d.0.0 }, d.0.1) in
    moved (λ (y : ReadPart × List ℕ). Takes bytes (read_bytes y.0) y.1 × FitsRead before y.0) made x d.2
    (both, record { key = t0.1; above = t0.2; version = t1.1 })

read_again : (before : List ℕ) (r : ReadPart) (rest : List ℕ) → FitsRead before r → read_at before (read_bytes r ++ rest) ≡ Ok (r, rest)
unfolding read_at
read_again before r rest fits =
    let flag = cond r.dependency 1 0 in
    let regrouped : read_bytes r ++ rest ≡ short_text r.key ++ (version_bytes r.version ++ (flag ∷ rest)) =
    append_assoc (short_text r.key ++ version_bytes r.version) (flag ∷ []) rest ∙ append_assoc (short_text r.key)
    (version_bytes r.version) (flag ∷ rest) in
    ap (read_at before) regrouped ∙ rw (
      next_key_again before r.key (version_bytes r.version ++ (flag ∷ rest)) fits.key fits.above,
      version_again r.version
          (flag ∷ rest) fits.version,
      flag_again r.dependency rest,
    ) refl

pub reads_reads : Reads read_at read_at read_bytes FitsRead
reads_reads = record {
  takes = λ before bytes x fits e. read_takes before bytes x fits e;
  again = λ before r rest fits. read_again before r rest fits;
}

-- ---- writes

abbrev spelled : Bool → Bool → List ℕ → List ℕ
spelled plain deletes value = cond plain (long_text value) (cond deletes (0 ∷ []) (1 ∷ long_text value))

pub record Written (format : ℕ) (bytes : List ℕ) (gives : Bool) (value rest : List ℕ) : Type 0 where
  pub taken : Takes bytes (written_bytes format (record { key = []; value = value; deletes = not gives })) rest
  pub fits : IsValue value
  pub plain : eqb format 1 ≡ true → not gives ≡ false
  pub deletes : not gives ≡ true → value ≡ []

nothing_fits : IsValue []
nothing_fits = record { short = omega arith; bytes = λ i. omega arith }

given_takes : (gives : Bool) (bytes : List ℕ) (v : List ℕ × List ℕ) → IsBytes bytes → given_at gives bytes ≡ Ok v → Takes bytes
    (cond gives (long_text v.0) []) v.1 × IsValue v.0 × (not gives ≡ true → v.0 ≡ [])
unfolding given_at
given_takes true bytes v fits e =
    let t = value_takes bytes v fits e in
    (t.0, t.1, λ h. absurd cc)
given_takes false bytes v fits e =
    subst (λ (y : List ℕ × List ℕ). Takes bytes [] y.1 × IsValue y.0 × (true ≡ true → y.0 ≡ [])) (ok_is ([], bytes) v e)
    (record { parts = refl; rest_fits = fits }, nothing_fits, λ h. refl)

spelled_false : (gives : Bool) (value : List ℕ) → (cond gives 1 0 ∷ []) ++ cond gives (long_text value) [] ≡ spelled false (not gives) value
spelled_false true value = refl
spelled_false false value = refl

written_takes : (format : ℕ) (bytes : List ℕ) (g : Bool × List ℕ) (v : List ℕ × List ℕ) → IsBytes bytes → gives_at format bytes ≡ Ok g →
    given_at g.0 g.1 ≡ Ok v → Written format bytes g.0 v.0 v.1
unfolding gives_at
written_takes format bytes g v fits e given =
    let t = by (eqb format 1) e in
    record { taken = t.0; fits = t.1; plain = t.2; deletes = t.3 }
  where
    by : (b : Bool) → cond b (Ok (true, bytes)) (flag_at bytes) ≡ Ok g → Takes bytes (spelled b (not g.0) v.0) v.1 × IsValue v.0 ×
        (b ≡ true → not g.0 ≡ false) × (not g.0 ≡ true → v.0 ≡ [])
    by true h =
        let made : Bool × List ℕ = (true, bytes) in
        let same : made ≡ g = ok_is made g h in
        let here : given_at true bytes ≡ Ok v = ap (λ (p : Bool × List ℕ). given_at p.0 p.1) same ∙ given in
        let t = given_takes true bytes v fits here in
        let gives : not g.0 ≡ false = ap (λ (p : Bool × List ℕ). not p.0) (sym same) in
        (t.0, t.1, (λ h. gives), λ h. absurd cc)
    by false h =
        let first = flag_takes bytes g fits h in
        let second = given_takes g.0 g.1 v first.rest_fits given in
        let both = Takes-then bytes (cond g.0 1 0 ∷ []) g.1 (cond g.0 (long_text v.0) []) v.1 first second.0 in
        (subst (λ (text : List ℕ). Takes bytes text v.1) (spelled_false g.0 v.0) both, second.1, (λ h. absurd cc), second.2)

write_takes : (format : ℕ) (before bytes : List ℕ) (x : WritePart × List ℕ) → IsBytes bytes → write_at format before bytes ≡ Ok x →
    Takes bytes (write_bytes format x.0) x.1 × FitsWrite format before x.0
unfolding write_at
write_takes format before bytes x fits e =
    let a = bind_ok (next_key_at before bytes)
    (λ key. gives_at format key.1 >>= λ gives. given_at gives.0 gives.1 >>= λ value. Ok
    (record { key = key.0; value = value.0; deletes = not gives.0 }, value.1)) x e in
    let b = bind_ok (gives_at format a.0.1)
    (λ gives. given_at gives.0 gives.1 >>= λ value. Ok
    (record { key = a.0.0; value = value.0; deletes = not gives.0 }, value.1)) x a.2 in
    let d = bind_ok (given_at b.0.0 b.0.1) (λ value. Ok (record { key = a.0.0; value = value.0; deletes = not b.0.0 }, value.1)) x b.2 in
    let t0 = next_key_takes before bytes a.0 fits a.1 in
    let t1 = written_takes format a.0.1 b.0 d.0 t0.0.rest_fits b.1 d.1 in
    let made : WritePart × List ℕ = (record { key = a.0.0; value = d.0.0; deletes = not b.0.0 }, d.0.1) in
    let both : Takes bytes (write_bytes format made.0) made.1 =
    Takes-then bytes (short_text a.0.0) a.0.1 (written_bytes format made.0) d.0.1 t0.0 t1.taken in
    moved (λ (y : WritePart × List ℕ). Takes bytes (write_bytes format y.0) y.1 × FitsWrite format before y.0) made x d.2
    (both, record { key = t0.1; above = t0.2; value = t1.fits; gives = λ h. t1.plain (eq-eqb _ _ h); deletes = t1.deletes })

not-not : (b : Bool) → not (not b) ≡ b
not-not true = refl
not-not false = refl

-- what stands behind the flag
abbrev behind : Bool → List ℕ → List ℕ → List ℕ
behind deletes value rest = cond deletes rest (long_text value ++ rest)

gives_again : (plain deletes : Bool) (value rest : List ℕ) → (plain ≡ true → deletes ≡ false) → cond plain
    (Ok (true, spelled plain deletes value ++ rest)) (flag_at (spelled plain deletes value ++ rest)) ≡ Ok
    (not deletes, behind deletes value rest)
gives_again true true value rest h = absurd (let no : true ≡ false = h refl in cc)
gives_again true false value rest h = refl
gives_again false true value rest h = flag_again false rest
gives_again false false value rest h = flag_again true (long_text value ++ rest)

given_again : (deletes : Bool) (value rest : List ℕ) → IsValue value → (deletes ≡ true → value ≡ []) → given_at (not deletes)
    (behind deletes value rest) ≡ Ok (value, rest)
unfolding given_at
given_again true value rest fits h = ap (λ (v : List ℕ). Ok (v, rest)) (sym (h refl))
given_again false value rest fits h = value_again value rest fits

written_again : (format : ℕ) (w : WritePart) (rest : List ℕ) → (format ≡ 1 → w.deletes ≡ false) → gives_at format
    (written_bytes format w ++ rest) ≡ Ok (not w.deletes, behind w.deletes w.value rest)
unfolding gives_at
written_again format w rest h = gives_again (eqb format 1) w.deletes w.value rest (λ t. h (eqb-true _ _ t))

write_again : (format : ℕ) (before : List ℕ) (w : WritePart) (rest : List ℕ) → FitsWrite format before w → write_at format before
    (write_bytes format w ++ rest) ≡ Ok (w, rest)
unfolding write_at
write_again format before w rest fits =
    let regrouped : write_bytes format w ++ rest ≡ short_text w.key ++ (written_bytes format w ++ rest) =
    append_assoc (short_text w.key) (written_bytes format w) rest in
    let made : Bool → WritePart × List ℕ = λ d. (record { key = w.key; value = w.value; deletes = d }, rest) in
    ap (write_at format before) regrouped
    ∙ rw (
      next_key_again before w.key (written_bytes format w ++ rest) fits.key fits.above,
      written_again format w rest fits.gives,
      given_again w.deletes w.value rest fits.value fits.deletes,
    ) (ap (λ (d : Bool). Ok (made d)) (not-not w.deletes))

pub writes_reads : (format : ℕ) → Reads (write_at format) (write_at format) (write_bytes format) (FitsWrite format)
writes_reads format = record {
  takes = λ before bytes x fits e. write_takes format before bytes x fits e;
  again = λ before w rest fits. write_again format before w rest fits;
}
