-- To whom a client sends, and what is sent to them.
use Rattle.std.proofs.Common.{◌≡◌, ◌∙◌, ℕ, zero, suc, ◌+◌, ◌≤◌, Bool, true, false, cond, List, [], ◌∷◌, ◌++◌, length, map}
use Rattle.std.proofs.Common.{take, refl, sym, ap, add-one, arith}
use Rattle.std.specs.Prelude.{Option, Some, None, slice_get}
use Rattle.std.specs.List.{flat_map}
use Rattle.std.proofs.lemmas.Grind.{flat_map-append}
use Rattle.std.proofs.lemmas.List.{map-append, append-nil}
use Rattle.std.proofs.lemmas.Option.{same_Some}
use Rattle.basil_types.specs.Setting.{Setting}
use Rattle.basil_types.specs.Transaction.{TransactionValue}
use Rattle.basil_types.specs.declared.party.Party.{Party}
use Rattle.basil_types.specs.declared.party.Party.TheVariants.{Replica}
use Rattle.frame_views.specs.Spelling.{spelling}
use Rattle.frame_views.specs.Values.{MessageValue}
use Rattle.client_steps.specs.Addressing.{parties_at, parties_of, parties_in, enveloped}
use Rattle.client_recover.specs.Counting.{all_replicas}
use Rattle.client_recover.specs.Pursuits.{to_shard, to_involved}
use Rattle.node_steps.specs.Framed.{framed}
use Rattle.txn_meta.specs.Places.{members_from, marks_of, involved}

-- ---- places of a list

pub take_found : {A : Type 0} (xs : List A) (i : ℕ) (x : A) → Some x ≡ slice_get xs i → take (suc i) xs ≡ take i xs ++ x ∷ []
take_found [] i x h = absurd cc
take_found (y ∷ ys) zero x h = ap (λ z. z ∷ []) (sym (same_Some x y h))
take_found (y ∷ ys) (suc i) x h = ap (λ l. y ∷ l) (take_found ys i x h)

pub take_past : {A : Type 0} (xs : List A) (i : ℕ) → None ≡ slice_get xs i → take (suc i) xs ≡ take i xs
take_past [] zero h = refl
take_past [] (suc i) h = refl
take_past (y ∷ ys) zero h = absurd cc
take_past (y ∷ ys) (suc i) h = ap (λ l. y ∷ l) (take_past ys i h)

pub take_whole : {A : Type 0} (xs : List A) (i : ℕ) → length xs ≤ i → take i xs ≡ xs
take_whole [] zero h = refl
take_whole [] (suc i) h = refl
take_whole (y ∷ ys) zero h = absurd (omega arith)
take_whole (y ∷ ys) (suc i) h = ap (λ l. y ∷ l) (take_whole ys i (omega arith))

few : (shard : ℕ) (marks : List Bool) → length (members_from shard marks) ≤ length marks
few shard [] = omega arith
few shard (m ∷ ms) = by (few (shard + 1) ms) m
  where
    by : length (members_from (shard + 1) ms) ≤ length ms → (b : Bool)
        → length (cond b (shard ∷ members_from (shard + 1) ms) (members_from (shard + 1) ms)) ≤ suc (length ms)
    by later true = omega arith
    by later false = omega arith

pub involved_few : (c : Setting) (t : TransactionValue) → length (involved c t) ≤ 8
involved_few c t = few 0 (marks_of c t)

pub next_involved : (c : Setting) (xs : List ℕ) (place : ℕ)
    → flat_map (parties_of c) (take (place + 1) xs) ≡ flat_map (parties_of c) (take place xs) ++ parties_at c (slice_get xs place)
next_involved c xs place = by (slice_get xs place) refl
  where
    by : (o : Option ℕ) → o ≡ slice_get xs place
        → flat_map (parties_of c) (take (place + 1) xs) ≡ flat_map (parties_of c) (take place xs) ++ parties_at c (slice_get xs place)
    by None h =
        ap (λ n. flat_map (parties_of c) (take n xs)) (add-one place)
        ∙ ap (flat_map (parties_of c)) (take_past xs place h)
        ∙ sym (append-nil (flat_map (parties_of c) (take place xs)))
        ∙ ap (λ o. flat_map (parties_of c) (take place xs) ++ parties_at c o) h
    by (Some shard) h =
        ap (λ n. flat_map (parties_of c) (take n xs)) (add-one place)
        ∙ ap (flat_map (parties_of c)) (take_found xs place shard h)
        ∙ flat_map-append (parties_of c) (take place xs) (shard ∷ [])
        ∙ ap (λ l. flat_map (parties_of c) (take place xs) ++ l) (append-nil (parties_of c shard))
        ∙ ap (λ o. flat_map (parties_of c) (take place xs) ++ parties_at c o) h

-- ---- frames

each_framed : (m : MessageValue) (f : ℕ → Party) (rs : List ℕ)
    → map framed (map (λ r. record { to = f r; message = m }) rs) ≡ map (enveloped (spelling m)) (map f rs)
each_framed m f [] = refl
each_framed m f (r ∷ rs) = ap (λ l. enveloped (spelling m) (f r) ∷ l) (each_framed m f rs)

pub shard_framed : (c : Setting) (m : MessageValue) (shard : ℕ)
    → map framed (to_shard c m shard) ≡ map (enveloped (spelling m)) (parties_of c shard)
shard_framed c m shard = each_framed m (λ r. Replica shard r) (all_replicas c)

all_framed : (c : Setting) (m : MessageValue) (shards : List ℕ)
    → map framed (flat_map (to_shard c m) shards) ≡ map (enveloped (spelling m)) (flat_map (parties_of c) shards)
all_framed c m [] = refl
all_framed c m (s ∷ ss) =
    map-append framed (to_shard c m s) (flat_map (to_shard c m) ss)
    ∙ ap (λ l. l ++ map framed (flat_map (to_shard c m) ss)) (shard_framed c m s)
    ∙ ap (λ l. map (enveloped (spelling m)) (parties_of c s) ++ l) (all_framed c m ss)
    ∙ sym (map-append (enveloped (spelling m)) (parties_of c s) (flat_map (parties_of c) ss))

pub involved_framed : (c : Setting) (t : TransactionValue) (m : MessageValue)
    → map framed (to_involved c t m) ≡ map (enveloped (spelling m)) (parties_in c t)
involved_framed c t m = all_framed c m (involved c t)
