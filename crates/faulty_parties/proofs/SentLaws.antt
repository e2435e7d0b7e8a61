-- Frames that are sent, once they have their signature.
use Rattle.std.proofs.Common.{◌≡◌, ◌∙◌, ℕ, zero, suc, ◌+◌, ◌≤◌, Bool, true, false, cond, List}
use Rattle.std.proofs.Common.{[], ◌∷◌, ◌++◌, length, map, take, refl, sym, ap, add-one, arith}
use Rattle.std.specs.Prelude.{Option, Some, None, slice_get}
use Rattle.std.specs.List.{flat_map}
use Rattle.std.proofs.lemmas.Grind.{flat_map-append}
use Rattle.std.proofs.lemmas.List.{map-append, append-nil}
use Rattle.std.proofs.lemmas.Option.{same_Some}
use Rattle.basil_types.specs.declared.outbox.Envelope.{Envelope}
use Rattle.basil_types.specs.declared.party.Party.{Party}
use Rattle.basil_types.specs.Setting.{Setting}
use Rattle.basil_types.specs.Transaction.{TransactionValue, long_text}
use Rattle.frame_views.specs.Spelling.{spelling}
use Rattle.frame_views.specs.Values.{MessageValue}
use Rattle.node_steps.specs.declared.pending.Pending.{Pending}
use Rattle.node_steps.specs.declared.pending.Unsigned.{Unsigned}
use Rattle.node_steps.specs.Framed.{framed}
use Rattle.node_steps.specs.Pendings.{bytes_in, bytes_sent, front_of, seal_front, sealed, sealed_all}
use Rattle.client_recover.specs.Counting.{all_replicas}
use Rattle.client_recover.specs.Pursuits.{to_shard, to_involved}
use Rattle.txn_meta.specs.Places.{members_from, marks_of, involved}
use Rattle.faulty_parties.specs.Fronts.{front_to, fronts_at, fronts_in, fronts_of, fronts_to}

-- ---- frames and what they lack

pub sealed_fronts : (signature : List ℕ) (us : List Unsigned) → map (sealed signature) us ≡ map (seal_front signature) (map front_of us)
sealed_fronts signature [] = refl
sealed_fronts signature (u ∷ us) = ap (λ l. sealed signature u ∷ l) (sealed_fronts signature us)

-- one frame for one party
pub sent_one : (signature frame : List ℕ) (to : Party) (m : MessageValue) (p : Pending) →
    map front_of p.frames.items ≡ record { to = to; bytes = frame } ∷ [] → spelling m ≡ frame ++ long_text signature →
    sealed_all signature p ≡ map framed (record { to = to; message = m } ∷ [])
sent_one signature frame to m p f e =
    sealed_fronts signature p.frames.items ∙ ap (map (seal_front signature)) f
    ∙ ap (λ (b : List ℕ). let x : Envelope = record { to = to; frame = b } in x ∷ []) (sym e)

module _ (signature frame : List ℕ) (m : MessageValue) (spelled : spelling m ≡ frame ++ long_text signature) where
  each_sent : (f : ℕ → Party) (rs : List ℕ) →
      map (seal_front signature) (map (λ r. record { to = f r; bytes = frame }) rs)
      ≡ map framed (map (λ r. record { to = f r; message = m }) rs)
  each_sent f [] = refl
  each_sent f (r ∷ rs) =
      ap (λ (b : List ℕ). let x : Envelope = record { to = f r; frame = b } in
      x ∷ map (seal_front signature) (map (λ r. record { to = f r; bytes = frame }) rs)) (sym spelled)
      ∙ ap (λ (l : List Envelope). framed (record { to = f r; message = m }) ∷ l) (each_sent f rs)

  all_sent : (c : Setting) (shards : List ℕ) →
      map (seal_front signature) (fronts_of c frame shards) ≡ map framed (flat_map (to_shard c m) shards)
  all_sent c [] = refl
  all_sent c (s ∷ ss) =
      map-append (seal_front signature) (fronts_to c frame s) (fronts_of c frame ss)
      ∙ ap (λ l. l ++ map (seal_front signature) (fronts_of c frame ss)) (each_sent (λ r. (front_to frame s r).to) (all_replicas c))
      ∙ ap (λ l. map framed (to_shard c m s) ++ l) (all_sent c ss)
      ∙ sym (map-append framed (to_shard c m s) (flat_map (to_shard c m) ss))

  pub sent_involved : (c : Setting) (t : TransactionValue) (p : Pending) → map front_of p.frames.items ≡ fronts_in c frame t →
      sealed_all signature p ≡ map framed (to_involved c t m)
  sent_involved c t p f =
      sealed_fronts signature p.frames.items ∙ ap (map (seal_front signature)) f ∙ all_sent c (involved c t)

-- ---- their number and their bytes

length_behind : {A : Type 0} (xs ys : List A) → length (xs ++ ys) ≡ length xs + length ys
length_behind [] ys = omega arith
length_behind (x ∷ xs) ys = let i = length_behind xs ys in omega (arith, i)

pub sealed_bytes : (signature : List ℕ) (us : List Unsigned) → bytes_sent (map (sealed signature) us) ≡ bytes_in (length signature) us
sealed_bytes signature [] = refl
sealed_bytes signature (u ∷ us) =
    let i = sealed_bytes signature us in
    let l = length_behind u.frame.items (long_text signature) in
    omega (arith, i, l)

pub length_sealed : (signature : List ℕ) (us : List Unsigned) → length (map (sealed signature) us) ≡ length us
length_sealed signature [] = refl
length_sealed signature (u ∷ us) = ap suc (length_sealed signature us)

-- ---- places of a list

pub take_found : {A : Type 0} (xs : List A) (i : ℕ) (x : A) → Some x ≡ slice_get xs i → take (suc i) xs ≡ take i xs ++ x ∷ []
take_found [] i x h = absurd cc
take_found (y ∷ ys) zero x h = ap (λ z. z ∷ []) (sym (same_Some x y h))
take_found (y ∷ ys) (suc i) x h = ap (λ l. y ∷ l) (take_found ys i x h)

pub take_past : {A : Type 0} (xs : List A) (i : ℕ) → None ≡ slice_get xs i → take (suc i) xs ≡ take i xs
take_past [] zero h = refl
take_past [] (suc i) h = refl
take_past (y ∷ ys) zero h = absurd cc
take_past (y ∷ ys) (suc i) h = ap (λ l. y ∷ l) (take_past ys i h)

pub take_whole : {A : Type 0} (xs : List A) (i : ℕ) → length xs ≤ i → take i xs ≡ xs
take_whole [] zero h = refl
take_whole [] (suc i) h = refl
take_whole (y ∷ ys) zero h = absurd (omega arith)
take_whole (y ∷ ys) (suc i) h = ap (λ l. y ∷ l) (take_whole ys i (omega arith))

few : (shard : ℕ) (marks : List Bool) → length (members_from shard marks) ≤ length marks
few shard [] = omega arith
few shard (m ∷ ms) = by (few (shard + 1) ms) m
  where
    by : length (members_from (shard + 1) ms) ≤ length ms → (b : Bool)
        → length (cond b (shard ∷ members_from (shard + 1) ms) (members_from (shard + 1) ms)) ≤ suc (length ms)
    by later true = omega arith
    by later false = omega arith

pub involved_few : (c : Setting) (t : TransactionValue) → length (involved c t) ≤ 8
involved_few c t = few 0 (marks_of c t)

pub next_involved : (c : Setting) (frame : List ℕ) (xs : List ℕ) (place : ℕ) →
    fronts_of c frame (take (place + 1) xs) ≡ fronts_of c frame (take place xs) ++ fronts_at c frame (slice_get xs place)
next_involved c frame xs place = by (slice_get xs place) refl
  where
    by : (o : Option ℕ) → o ≡ slice_get xs place →
        fronts_of c frame (take (place + 1) xs) ≡ fronts_of c frame (take place xs) ++ fronts_at c frame (slice_get xs place)
    by None h =
        ap (λ n. fronts_of c frame (take n xs)) (add-one place)
        ∙ ap (fronts_of c frame) (take_past xs place h)
        ∙ sym (append-nil (fronts_of c frame (take place xs)))
        ∙ ap (λ o. fronts_of c frame (take place xs) ++ fronts_at c frame o) h
    by (Some shard) h =
        ap (λ n. fronts_of c frame (take n xs)) (add-one place)
        ∙ ap (fronts_of c frame) (take_found xs place shard h)
        ∙ flat_map-append (fronts_to c frame) (take place xs) (shard ∷ [])
        ∙ ap (λ l. fronts_of c frame (take place xs) ++ l) (append-nil (fronts_to c frame shard))
        ∙ ap (λ o. fronts_of c frame (take place xs) ++ fronts_at c frame o) h
