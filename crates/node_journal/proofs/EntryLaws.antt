-- An entry is read as what it was written for.
use Rattle.std.proofs.Common.{◌≡◌, ℕ, ◌+◌, ◌^◌, ◌<◌, List, [], ◌∷◌, ◌++◌, length, Some, refl, ap, ◌∙◌, arith}
use Rattle.std.specs.Int.{w64, to_be_bytes}
use Rattle.std.proofs.Common.{length-append, slice_index_or}
use Rattle.std.proofs.lemmas.Nat.{from_be_bytes-to_be_bytes_8}
use Rattle.basil_types.specs.Parties.{party_bytes}
use Rattle.basil_types.specs.declared.party.Party.{Party}
use Rattle.basil_types.specs.declared.party.Party.TheVariants.{Replica, Client}
use Rattle.replica_laws.specs.Steps.{Handed}
use Rattle.node_journal.specs.Entries.{entry_of, front_of, handed_in}
use Rattle.node_journal.specs.Laws.{EntriesAreRead}

pub length-front_of : (now : ℕ) (from : Party) → length (front_of now from) ≡ 11
unfolding front_of
length-front_of now (Replica shard index) = refl
length-front_of now (Client number) = refl

pub length-entry_of : (h : Handed) → length (entry_of h) ≡ 11 + length h.frame
length-entry_of h = omega (arith, length-append (front_of h.now h.from) h.frame, length-front_of h.now h.from)

read-again : (now : ℕ) (from : Party) (frame : List ℕ) → now < 2 ^ 64 →
    handed_in (front_of now from ++ frame) ≡ Some (record { now = now; from = from; frame = frame })
unfolding front_of handed_in
read-again now (Replica shard index) frame small =
    ap (λ (n : ℕ). Some (record { now = n; from = Replica shard index; frame = frame })) (from_be_bytes-to_be_bytes_8 now small)
read-again now (Client number) frame small =
    ap (λ (n : ℕ). Some (record { now = n; from = Client number; frame = frame })) (from_be_bytes-to_be_bytes_8 now small)

pub entries-read : EntriesAreRead
entries-read h small = read-again h.now h.from h.frame small

-- the bytes one by one
bytes-of : (moment party : List ℕ) → List ℕ
bytes-of moment party =
    slice_index_or moment 0 0 ∷ slice_index_or moment 1 0 ∷ slice_index_or moment 2 0 ∷ slice_index_or moment 3 0
    ∷ slice_index_or moment 4 0 ∷ slice_index_or moment 5 0 ∷ slice_index_or moment 6 0 ∷ slice_index_or moment 7 0
    ∷ slice_index_or party 0 0 ∷ slice_index_or party 1 0 ∷ slice_index_or party 2 0 ∷ []

front-by : (now : ℕ) (from : Party) → bytes-of (to_be_bytes w64 now) (party_bytes from) ≡ front_of now from
unfolding bytes-of front_of
front-by now (Replica shard index) = refl
front-by now (Client number) = refl

pub front-is : (now : ℕ) (from : Party) (moment party : List ℕ) → moment ≡ to_be_bytes w64 now → party ≡ party_bytes from →
    slice_index_or moment 0 0 ∷ slice_index_or moment 1 0 ∷ slice_index_or moment 2 0 ∷ slice_index_or moment 3 0
    ∷ slice_index_or moment 4 0 ∷ slice_index_or moment 5 0 ∷ slice_index_or moment 6 0 ∷ slice_index_or moment 7 0
    ∷ slice_index_or party 0 0 ∷ slice_index_or party 1 0 ∷ slice_index_or party 2 0 ∷ [] ≡ front_of now from
unfolding bytes-of
front-is now from moment party m p =
    ap (λ (a : List ℕ). bytes-of a party) m ∙ ap (bytes-of (to_be_bytes w64 now)) p ∙ front-by now from
