-- A file whose parties are placed, and whose keys are read, gives a listing.
use Rattle.std.proofs.Common.{◌≡◌, ℕ, suc, List, [], ◌∷◌, ◌++◌, length, map, take, Bool, true, false, nat_eq}
use Rattle.std.proofs.Common.{nat_lt, ◌&&◌, ◌||◌, is_some, Option, Some, None, option_map, refl, sym, ap, ◌∙◌, inl, inr}
use Rattle.std.specs.List.{zip, list_all, list_any}
use Rattle.std.proofs.lemmas.Bool.{and_parts, cases_Bool, or_from, or_cases, eqb-true, ltb-true}
use Rattle.std.proofs.lemmas.List.{map-append}
use Rattle.std.proofs.lemmas.List.Folds.{list_any-append, list_all-append}
use Rattle.quorum_laws.specs.Numbers as numbers
use Rattle.basil_types.specs.Setting.{Setting}
use Rattle.basil_types.specs.declared.party.Party.{Party}
use Rattle.basil_types.specs.declared.party.Party.TheVariants.{Replica, Client}
use Rattle.keyring_lms.specs.Keys.{is_same}
use Rattle.keyring_lms.specs.Replay.{is_party_of, is_listed}
use Rattle.lms_sign.specs.declared.sets.LmsSet.{LmsSet}
use Rattle.cluster_file.specs.Values.{ReplicaValue, ClientValue, FileValue}
use Rattle.cluster_file.specs.Grammar.{each, cons_option}
use Rattle.cluster_file.specs.Seats.{SeatValue, replica_seat, client_seat, seats_of, parties_of, are_distinct, are_whole, is_whole_shard}
use Rattle.cluster_file.specs.Faults.{public_of, key_in, are_seated}
use Rattle.cluster_file.specs.Listing.{listing_made, addresses_of, parties_in, address_beside, is_replica_of, IsListing}
use Rattle.cluster_file.proofs.BelowLaws.{each_passes}

-- ---- the parties are those of the seats

record Split {B : Type 0} (first : Option B) (rest : Option (List B)) (all : List B) : Type 0 where
  x : B
  xs : List B
  first_is : first ≡ Some x
  rest_is : rest ≡ Some xs
  all_is : all ≡ x ∷ xs

split : {B : Type 0} (first : Option B) (rest : Option (List B)) (all : List B) → cons_option first rest ≡ Some all → Split first rest all
split None rest all e = absurd cc
split (Some x) None all e = absurd cc
split (Some x) (Some xs) all e = record { x = x; xs = xs; first_is = refl; rest_is = refl; all_is = cc }

party-kept : (party : Party) (key : Option (List ℕ)) (public : Party × List ℕ) → option_map (λ (k : List ℕ). (party, k)) key ≡ Some public
    → public.0 ≡ party
party-kept party None public e = absurd cc
party-kept party (Some k) public e = let same : (party, k) ≡ public = cc in ap (λ (p : Party × List ℕ). p.0) (sym same)

parties-kept : (seats : List SeatValue) (publics : List (Party × List ℕ)) → each public_of seats ≡ Some publics
    → parties_in publics ≡ parties_of seats
parties-kept [] publics e = let none : [] ≡ publics = cc in ap parties_in (sym none)
parties-kept (s ∷ ss) publics e =
    let parts = split (public_of s) (each public_of ss) publics e in
    ap parties_in parts.all_is
    ∙ ap (λ (p : Party). p ∷ parties_in parts.xs) (party-kept s.party (key_in s.public) parts.x parts.first_is)
    ∙ ap (λ (ps : List Party). s.party ∷ ps) (parties-kept ss parts.xs parts.rest_is)

-- ---- who has an address

abbrev Pair : Type 0
Pair = (Party × List ℕ) × List ℕ

some-beside : (pairs : List Pair) (party : Party) → is_some (address_beside pairs party) ≡ list_any (λ (p : Pair). is_same p.0.0 party)
    pairs
some-beside [] party = refl
some-beside (p ∷ ps) party = elim (cases_Bool (is_same p.0.0 party)) [
  | inl same ↦ rw same refl
  | inr other ↦ rw other (some-beside ps party)
]

any-zip : (publics : List (Party × List ℕ)) (addresses : List (List ℕ)) (party : Party)
    → list_any (λ (p : Pair). is_same p.0.0 party) (zip publics addresses) ≡ is_listed (take (length addresses) (parties_in publics)) party
any-zip [] [] party = refl
any-zip [] (a ∷ rest) party = refl
any-zip (p ∷ ps) [] party = refl
any-zip (p ∷ ps) (a ∷ rest) party = ap (λ (b : Bool). is_same p.0 party || b) (any-zip ps rest party)

take-front : (xs ys : List Party) → take (length xs) (xs ++ ys) ≡ xs
take-front [] ys = refl
take-front (x ∷ xs) ys = ap (λ (zs : List Party). x ∷ zs) (take-front xs ys)

-- ---- replicas and clients

abbrev replicas_in : List ReplicaValue → List Party
replicas_in rs = parties_of (map replica_seat rs)

abbrev clients_in : List ClientValue → List Party
clients_in cs = parties_of (map client_seat cs)

parties-split : (rs : List ReplicaValue) (cs : List ClientValue)
    → parties_of (map replica_seat rs ++ map client_seat cs) ≡ replicas_in rs ++ clients_in cs
parties-split rs cs = map-append (λ (s : SeatValue). s.party) (map replica_seat rs) (map client_seat cs)

no_client : (rs : List ReplicaValue) (number : ℕ) → is_listed (replicas_in rs) (Client number) ≡ false
no_client [] number = refl
no_client (r ∷ rs) number = no_client rs number

no_replica : (cs : List ClientValue) (shard index : ℕ) → is_listed (clients_in cs) (Replica shard index) ≡ false
no_replica [] shard index = refl
no_replica (c ∷ cs) shard index = no_replica cs shard index

same-is : (p q : Party) → is_same p q ≡ true → p ≡ q
same-is (Replica a b) (Replica s i) e =
    let parts = and_parts (nat_eq a s) (nat_eq b i) e in
    ap (λ (n : ℕ). Replica n b) (eqb-true a s parts.0) ∙ ap (λ (n : ℕ). Replica s n) (eqb-true b i parts.1)
same-is (Replica a b) (Client n) e = absurd cc
same-is (Client m) (Replica s i) e = absurd cc
same-is (Client m) (Client n) e = ap (λ (k : ℕ). Client k) (eqb-true m n e)

-- one that doesn't pass isn't among those that do
outside : (q : Party → Bool) (ps : List Party) (p : Party) → list_all q ps ≡ true → q p ≡ false → is_listed ps p ≡ false
outside q [] p all fails = refl
outside q (x ∷ xs) p all fails =
    let parts = and_parts (q x) (list_all q xs) all in
    or_from (is_same x p) (is_listed xs p) (elim (cases_Bool (is_same x p)) [
      | inl same ↦ let equal : q x ≡ q p = ap q (same-is x p same) in absurd cc
      | inr differs ↦ differs
    ]) (outside q xs p parts.1 fails)

inside : (c : Setting) (ps : List Party) (shard index : ℕ) → are_whole c ps ≡ true → is_party_of c (Replica shard index) ≡ true
    → is_listed ps (Replica shard index) ≡ true
inside c ps shard index whole known =
    let parts = and_parts (nat_lt shard c.shards) (nat_lt index (numbers.replicas c.f)) known in
    each_passes (λ (n : ℕ). is_listed ps (Replica shard n)) (numbers.replicas c.f) index
    (each_passes (is_whole_shard c ps) c.shards shard whole (ltb-true shard c.shards parts.0))
    (ltb-true index (numbers.replicas c.f) parts.1)

-- the listed replicas are the cluster's
listed : (c : Setting) (rs : List ReplicaValue) (cs : List ClientValue) (party : Party)
    → list_all (is_party_of c) (replicas_in rs ++ clients_in cs) ≡ true → are_whole c (replicas_in rs ++ clients_in cs) ≡ true
    → is_listed (replicas_in rs) party ≡ is_replica_of c party
listed c rs cs (Client number) known whole = no_client rs number
listed c rs cs (Replica shard index) known whole = elim (cases_Bool (is_party_of c (Replica shard index))) [
  | inl there ↦
      let among = sym (list_any-append (λ (p : Party). is_same p (Replica shard index)) (replicas_in rs) (clients_in cs))
      ∙ inside c (replicas_in rs ++ clients_in cs) shard index whole there in
      elim (or_cases (is_listed (replicas_in rs) (Replica shard index)) (is_listed (clients_in cs) (Replica shard index)) among) [
        | inl first ↦ first ∙ sym there
        | inr second ↦ let never = no_replica cs shard index in absurd cc
      ]
  | inr missing ↦
      outside (is_party_of c) (replicas_in rs) (Replica shard index)
      (and_parts (list_all (is_party_of c) (replicas_in rs)) (list_all (is_party_of c) (clients_in cs))
      (sym (list_all-append (is_party_of c) (replicas_in rs) (clients_in cs)) ∙ known)).0
      missing ∙ sym missing
]

same-length : (rs : List ReplicaValue) → length (addresses_of rs) ≡ length (replicas_in rs)
same-length [] = refl
same-length (r ∷ rs) = ap suc (same-length rs)

front : (rs : List ReplicaValue) (cs : List ClientValue) (parties : List Party) → parties ≡ replicas_in rs ++ clients_in cs
    → take (length (addresses_of rs)) parties ≡ replicas_in rs
front rs cs parties is =
    ap (λ (ps : List Party). take (length (addresses_of rs)) ps) is
    ∙ ap (λ (n : ℕ). take n (replicas_in rs ++ clients_in cs)) (same-length rs) ∙ take-front (replicas_in rs) (clients_in cs)

pub made : (v : FileValue) (c : Setting) (set : LmsSet) (publics : List (Party × List ℕ)) (addresses : List (List ℕ))
    → are_seated c (seats_of v) ≡ true → each public_of (seats_of v) ≡ Some publics → addresses ≡ addresses_of v.replicas
    → IsListing (listing_made c set publics addresses)
made v c set publics addresses seated read texts =
    let parties = parties_of (seats_of v) in
    let ends = and_parts (list_all (is_party_of c) parties && are_distinct parties) (are_whole c parties) seated in
    let begins = and_parts (list_all (is_party_of c) parties) (are_distinct parties) ends.0 in
    let known = begins.0 in
    let once = begins.1 in
    let whole = ends.1 in
    let kept = parties-kept (seats_of v) publics read in
    let parts = parties-split v.replicas v.clients in
    record {
      known = ap (list_all (is_party_of c)) kept ∙ known;
      once = ap are_distinct kept ∙ once;
      addressed = λ party.
          some-beside (zip publics addresses) party ∙ any-zip publics addresses party
          ∙ ap (λ (bytes : List (List ℕ)). is_listed (take (length bytes) (parties_in publics)) party) texts
          ∙ ap (λ (ps : List Party). is_listed ps party) (front v.replicas v.clients (parties_in publics) (kept ∙ parts))
          ∙ listed c v.replicas v.clients party (ap (list_all (is_party_of c)) (sym parts) ∙ known) (ap (are_whole c) (sym parts) ∙ whole);
    }
