-- A part of an envelope that is read, or that ends the connection, does so whatever follows; and it has bytes.
use Rattle.std.proofs.Common.{◌≡◌, ◌≢◌, ℕ, suc, ◌+◌, ◌-◌, ◌<◌, ◌≤◌, Bool, true, false, cond, ltb, leb, eqb, List, [], ◌∷◌, ◌++◌, length}
use Rattle.std.proofs.Common.{take, drop, Option, Some, None, Ok, Err, IfOk, refl, ap, ◌∙◌, arith}
use Rattle.std.proofs.lemmas.Bool.{ltb-false, le-ltb}
use Rattle.std.proofs.lemmas.List.{take-append-le, drop-append-le, drop-drop, length-append, length-drop}
use Rattle.std.specs.Int.{w32, from_be_bytes}
use Rattle.basil_types.specs.declared.party.Party.{Party}
use Rattle.basil_types.specs.Setting.{Setting}
use Rattle.basil_types.specs.Steps.{◌>>=◌}
use Rattle.node_link.specs.declared.cause.EndCause.TheVariants as causes
use Rattle.node_link.specs.Envelopes.{Field, party_named, named, party_at, allowed, length_at, frame_at, envelope_at}

-- the same with more bytes behind
abbrev pub extended : {A : Type 0} → List ℕ → Field A → Field A
extended more (Ok x) = Ok (x.0, x.1 ++ more)
extended more (Err cause) = Err cause

-- bytes are missing
abbrev missing : {A : Type 0} → Field A
missing = Err None

named_more : (rest more : List ℕ) (party : Option Party) → named (rest ++ more) party ≡ extended more (named rest party)
named_more rest more (Some party) = refl
named_more rest more None = refl

party_more : (cluster : Setting) (bytes more : List ℕ) → party_at cluster bytes ≢ missing →
    party_at cluster (bytes ++ more) ≡ extended more (party_at cluster bytes)
unfolding party_at
party_more cluster [] more h = absurd (h refl)
party_more cluster (a ∷ []) more h = absurd (h refl)
party_more cluster (a ∷ b ∷ []) more h = absurd (h refl)
party_more cluster (a ∷ b ∷ d ∷ rest) more h = named_more rest more (party_named cluster a b d)

cond_more : (b : Bool) (more : List ℕ) (x y x' y' : Field ℕ) → x' ≡ extended more x → y' ≡ extended more y →
    cond b x' y' ≡ extended more (cond b x y)
cond_more true more x y x' y' p q = p
cond_more false more x y x' y' p q = q

allowed_more : (count : ℕ) (rest more : List ℕ) → allowed count (rest ++ more) ≡ extended more (allowed count rest)
allowed_more count rest more = cond_more (eqb count 0) more _ _ _ _ refl (cond_more (leb count 1048576) more _ _ _ _ refl refl)

length_more : (bytes more : List ℕ) → length_at bytes ≢ missing → length_at (bytes ++ more) ≡ extended more (length_at bytes)
unfolding length_at
length_more bytes more h =
    by (ltb (length bytes) 4) refl h where
      by : (b : Bool) → ltb (length bytes) 4 ≡ b →
          cond b missing (allowed (from_be_bytes w32 (take 4 bytes)) (drop 4 bytes)) ≢ missing →
          cond (ltb (length (bytes ++ more)) 4) missing
          (allowed (from_be_bytes w32 (take 4 (bytes ++ more))) (drop 4 (bytes ++ more))) ≡
          extended more (cond b missing (allowed (from_be_bytes w32 (take 4 bytes)) (drop 4 bytes)))
      by true e h = absurd (h refl)
      by false e h =
          let long : 4 ≤ length bytes = ltb-false _ _ e in
          let longer : ltb (length (bytes ++ more)) 4 ≡ false = le-ltb _ _ (omega (arith, length-append bytes more)) in
          rw (longer, take-append-le 4 bytes more long, drop-append-le 4 bytes more long)
          (allowed_more (from_be_bytes w32 (take 4 bytes)) (drop 4 bytes) more)

frame_more : (count : ℕ) (bytes more : List ℕ) → frame_at count bytes ≢ missing →
    frame_at count (bytes ++ more) ≡ extended more (frame_at count bytes)
unfolding frame_at
frame_more count bytes more h =
    by (ltb (length bytes) count) refl h where
      by : (b : Bool) → ltb (length bytes) count ≡ b → cond b missing (Ok (take count bytes, drop count bytes)) ≢ missing →
          cond (ltb (length (bytes ++ more)) count) missing (Ok (take count (bytes ++ more), drop count (bytes ++ more))) ≡
          extended more (cond b missing (Ok (take count bytes, drop count bytes)))
      by true e h = absurd (h refl)
      by false e h =
          let long : count ≤ length bytes = ltb-false _ _ e in
          let longer : ltb (length (bytes ++ more)) count ≡ false = le-ltb _ _ (omega (arith, length-append bytes more)) in
          rw (longer, take-append-le count bytes more long, drop-append-le count bytes more long) refl

bind_more : {A B : Type 0} (more : List ℕ) (r r' : Field A) (f : A × List ℕ → Field B) →
    (r ≢ missing → r' ≡ extended more r) →
    ((x : A × List ℕ) → f x ≢ missing → f (x.0, x.1 ++ more) ≡ extended more (f x)) →
    (r >>= f) ≢ missing → (r' >>= f) ≡ extended more (r >>= f)
bind_more more (Ok x) r' f first then h = rw (first (λ e. absurd cc)) (then x h)
bind_more more (Err None) r' f first then h = absurd (h refl)
bind_more more (Err (Some cause)) r' f first then h = rw (first (λ e. absurd cc)) refl

pub envelope_more : (cluster : Setting) (bytes more : List ℕ) → envelope_at cluster bytes ≢ missing →
    envelope_at cluster (bytes ++ more) ≡ extended more (envelope_at cluster bytes)
unfolding envelope_at
envelope_more cluster bytes more =
    bind_more more (party_at cluster bytes) (party_at cluster (bytes ++ more)) _ (party_more cluster bytes more) (λ party.
    bind_more more (length_at party.1) (length_at (party.1 ++ more)) _ (length_more party.1 more) (λ count.
    bind_more more (frame_at count.0 count.1) (frame_at count.0 (count.1 ++ more)) _ (frame_more count.0 count.1 more)
    (λ frame _. refl)))

-- ---- a whole envelope has bytes

party_behind : (cluster : Setting) (bytes : List ℕ) → IfOk (party_at cluster bytes) (λ x. length x.1 < length bytes)
unfolding party_at
party_behind cluster [] = tt
party_behind cluster (a ∷ []) = tt
party_behind cluster (a ∷ b ∷ []) = tt
party_behind cluster (a ∷ b ∷ d ∷ rest) =
    by (party_named cluster a b d) where
      by : (party : Option Party) → IfOk (named rest party) (λ x. length x.1 < suc (suc (suc (length rest))))
      by (Some party) = omega arith
      by None = tt

length_behind : (bytes : List ℕ) → IfOk (length_at bytes) (λ x. length x.1 ≤ length bytes)
unfolding length_at
length_behind bytes =
    by (ltb (length bytes) 4) (eqb (from_be_bytes w32 (take 4 bytes)) 0) (leb (from_be_bytes w32 (take 4 bytes)) 1048576) where
      by : (a b d : Bool) → IfOk (cond a missing (cond b (Err (Some causes.Empty))
          (cond d (Ok (from_be_bytes w32 (take 4 bytes), drop 4 bytes)) (Err (Some (causes.TooLong (from_be_bytes w32 (take 4 bytes))))))))
          (λ x. length x.1 ≤ length bytes)
      by true b d = tt
      by false true d = tt
      by false false true = omega (arith, length-drop 4 bytes)
      by false false false = tt

frame_behind : (count : ℕ) (bytes : List ℕ) → IfOk (frame_at count bytes) (λ x. length x.1 ≤ length bytes)
unfolding frame_at
frame_behind count bytes =
    by (ltb (length bytes) count) where
      by : (b : Bool) → IfOk (cond b missing (Ok (take count bytes, drop count bytes))) (λ x. length x.1 ≤ length bytes)
      by true = tt
      by false = omega (arith, length-drop count bytes)

bind_behind : {A B : Type 0} (P : List ℕ → Type 0) (Q : List ℕ → Type 0) (r : Field A) (f : A × List ℕ → Field B) →
    IfOk r (λ x. P x.1) → ((x : A × List ℕ) → P x.1 → IfOk (f x) (λ y. Q y.1)) → IfOk (r >>= f) (λ y. Q y.1)
bind_behind P Q (Ok x) f first then = then x first
bind_behind P Q (Err cause) f first then = tt

pub envelope_behind : (cluster : Setting) (bytes : List ℕ) → IfOk (envelope_at cluster bytes) (λ x. length x.1 < length bytes)
unfolding envelope_at
envelope_behind cluster bytes =
    let Q : List ℕ → Type 0 = λ rest. length rest < length bytes in
    bind_behind Q Q (party_at cluster bytes) _ (party_behind cluster bytes) (λ party short.
    bind_behind Q Q (length_at party.1) _ (weaker (length_at party.1) (length party.1) short (length_behind party.1)) (λ count shorter.
    bind_behind Q Q (frame_at count.0 count.1) _
    (weaker (frame_at count.0 count.1) (length count.1) shorter (frame_behind count.0 count.1)) (λ frame shortest.
    shortest))) where
      weaker : {A : Type 0} (r : Field A) (most : ℕ) → most < length bytes → IfOk r (λ x. length x.1 ≤ most) →
          IfOk r (λ x. length x.1 < length bytes)
      weaker (Ok x) most short h = omega arith
      weaker (Err cause) most short h = tt

-- ---- what is behind it is the end of the bytes

pub record Drops (bytes rest : List ℕ) : Type 0 where
  pub count : ℕ
  pub within : count ≤ length bytes
  pub is : rest ≡ drop count bytes

Drops-then : (a b d : List ℕ) → Drops a b → Drops b d → Drops a d
Drops-then a b d p q =
    let len : length b ≡ length a - p.count = ap length p.is ∙ length-drop p.count a in
    record {
      count = p.count + q.count;
      within = omega (arith, p.within, q.within);
      is = q.is ∙ ap (drop q.count) p.is ∙ drop-drop q.count p.count a;
    }

party_drops : (cluster : Setting) (bytes : List ℕ) → IfOk (party_at cluster bytes) (λ x. Drops bytes x.1)
unfolding party_at
party_drops cluster [] = tt
party_drops cluster (a ∷ []) = tt
party_drops cluster (a ∷ b ∷ []) = tt
party_drops cluster (a ∷ b ∷ d ∷ rest) =
    by (party_named cluster a b d) where
      by : (party : Option Party) → IfOk (named rest party) (λ x. Drops (a ∷ b ∷ d ∷ rest) x.1)
      by (Some party) = record { count = 3; within = omega arith; is = refl }
      by None = tt

length_drops : (bytes : List ℕ) → IfOk (length_at bytes) (λ x. Drops bytes x.1)
unfolding length_at
length_drops bytes =
    by (ltb (length bytes) 4) refl (eqb (from_be_bytes w32 (take 4 bytes)) 0) (leb (from_be_bytes w32 (take 4 bytes)) 1048576) where
      by : (a : Bool) → ltb (length bytes) 4 ≡ a → (b d : Bool) → IfOk (cond a missing (cond b (Err (Some causes.Empty))
          (cond d (Ok (from_be_bytes w32 (take 4 bytes), drop 4 bytes)) (Err (Some (causes.TooLong (from_be_bytes w32 (take 4 bytes))))))))
          (λ x. Drops bytes x.1)
      by true e b d = tt
      by false e true d = tt
      by false e false true = record { count = 4; within = ltb-false _ _ e; is = refl }
      by false e false false = tt

frame_drops : (count : ℕ) (bytes : List ℕ) → IfOk (frame_at count bytes) (λ x. Drops bytes x.1)
unfolding frame_at
frame_drops count bytes =
    by (ltb (length bytes) count) refl where
      by : (b : Bool) → ltb (length bytes) count ≡ b →
          IfOk (cond b missing (Ok (take count bytes, drop count bytes))) (λ x. Drops bytes x.1)
      by true e = tt
      by false e = record { count = count; within = ltb-false _ _ e; is = refl }

pub envelope_drops : (cluster : Setting) (bytes : List ℕ) → IfOk (envelope_at cluster bytes) (λ x. Drops bytes x.1)
unfolding envelope_at
envelope_drops cluster bytes =
    let Q : List ℕ → Type 0 = λ rest. Drops bytes rest in
    bind_behind Q Q (party_at cluster bytes) _ (party_drops cluster bytes) (λ party p.
    bind_behind Q Q (length_at party.1) _ (later (length_at party.1) party.1 p (length_drops party.1)) (λ count q.
    bind_behind Q Q (frame_at count.0 count.1) _ (later (frame_at count.0 count.1) count.1 q (frame_drops count.0 count.1))
    (λ frame s. s))) where
      later : {A : Type 0} (r : Field A) (middle : List ℕ) → Drops bytes middle → IfOk r (λ x. Drops middle x.1) →
          IfOk r (λ x. Drops bytes x.1)
      later (Ok x) middle p q = Drops-then bytes middle x.1 p q
      later (Err cause) middle p q = tt
