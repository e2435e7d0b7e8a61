-- Which entry of a list is the first of a party.
use Rattle.std.proofs.Common.{◌≡◌, ℕ, ◌+◌, ◌*◌, ◌==◌, ◌&&◌, ◌||◌, Bool, true, false, List}
use Rattle.std.proofs.Common.{[], ◌∷◌, map, Some, None, if◌then◌else◌, refl, ap, ◌∙◌}
use Rattle.std.specs.Prelude.{nat_lt}
use Rattle.std.proofs.Math.Path.{fun_ext}
use Rattle.std.proofs.lemmas.Bool.{eqb-true}
use Rattle.std.proofs.lemmas.List.Folds.{list_any-append}
use Rattle.std.specs.List.{list_any, flat_map, range_with_len}
use Rattle.basil_types.specs.Setting.{Setting}
use Rattle.basil_types.specs.declared.party.Party.{Party}
use Rattle.basil_types.specs.declared.party.Party.TheVariants.{Replica, Client}
use Rattle.lms_sign.specs.declared.sets.LmsSet.{LmsSet}
use Rattle.lms_sign.specs.Tree.{public_of}
use Rattle.keyring_lms.specs.Keys.{is_same, public_in, is_valid_under, lms_accepts}
use Rattle.keyring_lms.specs.Replay.{tree_in_replay, entry_of, replicas_of, clients}
use Rattle.keyring_lms.specs.Replay.{parties_of, is_party_of, public_in_replay, replay_accepts}
use Rattle.keyring_lms.proofs.Parties.{any-map, any-flat_map, any-same, any-none, any-guarded, any-guarding, any-below, any-client}

both : (a b : Bool) → (a && b) ≡ true → (a ≡ true) × (b ≡ true)
both true true h = (refl, refl)
both true false h = absurd (cc)
both false b h = absurd (cc)

-- parties are the same where the test says so
pub same-true : (p q : Party) → is_same p q ≡ true → p ≡ q
same-true (Replica s i) (Replica t j) h =
    let parts = both (s == t) (i == j) h in
    let shards = eqb-true s t parts.0 in
    let places = eqb-true i j parts.1 in
    rw (shards, places) refl
same-true (Replica s i) (Client n) h = absurd (cc)
same-true (Client n) (Replica s i) h = absurd (cc)
same-true (Client n) (Client m) h = ap (λ k. Client k) (eqb-true n m h)

-- among the parties of a replay with their keys, a party that is there has its key
if-first : (set : LmsSet) (q p : Party) (later : List Party) (b : Bool) → is_same q p ≡ b
    → public_in (map (entry_of set) later) p ≡ (if list_any (λ q. is_same q p) later then Some (public_of (tree_in_replay set p)) else None)
    → public_in (map (entry_of set) (q ∷ later)) p
    ≡ (if is_same q p || list_any (λ q. is_same q p) later then Some (public_of (tree_in_replay set p)) else None)
if-first set q p later true e h = rw e (ap (λ (own : Party). Some (public_of (tree_in_replay set own))) (same-true q p e))
if-first set q p later false e h = rw e h

pub public-in_replay : (set : LmsSet) (parties : List Party) (p : Party)
    → public_in (map (entry_of set) parties) p
    ≡ (if list_any (λ q. is_same q p) parties then Some (public_of (tree_in_replay set p)) else None)
public-in_replay set [] p = refl
public-in_replay set (q ∷ later) p = if-first set q p later (is_same q p) refl (public-in_replay set later p)

-- whether a party is among the replicas of each shard, and among the clients
replica-in_shard : (n s i shard : ℕ) → list_any (λ q. is_same q (Replica s i)) (replicas_of n shard) ≡ (shard == s && nat_lt i n)
replica-in_shard n s i shard =
    any-map (λ q. is_same q (Replica s i)) (λ index. Replica shard index) (range_with_len 0 n)
    ∙ any-guarded (shard == s) (λ index. index == i) (range_with_len 0 n)
    ∙ ap (λ b. shard == s && b) (any-below i n)

replica-there : (n shards s i : ℕ) → list_any (λ q. is_same q (Replica s i)) (flat_map (replicas_of n) (range_with_len 0 shards))
    ≡ (nat_lt s shards && nat_lt i n)
replica-there n shards s i =
    any-flat_map (λ q. is_same q (Replica s i)) (replicas_of n) (range_with_len 0 shards)
    ∙ any-same (λ shard. list_any (λ q. is_same q (Replica s i)) (replicas_of n shard))
    (λ shard. shard == s && nat_lt i n) (range_with_len 0 shards) (replica-in_shard n s i)
    ∙ any-guarding (nat_lt i n) (λ shard. shard == s) (range_with_len 0 shards)
    ∙ ap (λ b. b && nat_lt i n) (any-below s shards)

client-no_replica_in : (n c shard : ℕ) → list_any (λ q. is_same q (Client c)) (replicas_of n shard) ≡ false
client-no_replica_in n c shard =
    any-map (λ q. is_same q (Client c)) (λ index. Replica shard index) (range_with_len 0 n) ∙ any-none (range_with_len 0 n)

client-no_replica : (n shards c : ℕ) → list_any (λ q. is_same q (Client c)) (flat_map (replicas_of n) (range_with_len 0 shards)) ≡ false
client-no_replica n shards c =
    any-flat_map (λ q. is_same q (Client c)) (replicas_of n) (range_with_len 0 shards)
    ∙ any-same (λ shard. list_any (λ q. is_same q (Client c)) (replicas_of n shard))
    (λ _. false) (range_with_len 0 shards) (client-no_replica_in n c)
    ∙ any-none (range_with_len 0 shards)

or-none : (b : Bool) → (b || false) ≡ b
or-none true = refl
or-none false = refl

-- the list of a cluster's parties has just these
pub party-there : (cluster : Setting) (p : Party) → list_any (λ q. is_same q p) (parties_of cluster) ≡ is_party_of cluster p
party-there cluster (Replica s i) =
    list_any-append (λ q. is_same q (Replica s i)) (flat_map (replicas_of (5 * cluster.f + 1)) (range_with_len 0 cluster.shards)) clients
    ∙ rw (replica-there (5 * cluster.f + 1) cluster.shards s i) (or-none (nat_lt s cluster.shards && nat_lt i (5 * cluster.f + 1)))
party-there cluster (Client c) =
    list_any-append (λ q. is_same q (Client c)) (flat_map (replicas_of (5 * cluster.f + 1)) (range_with_len 0 cluster.shards)) clients
    ∙ rw (client-no_replica (5 * cluster.f + 1) cluster.shards c)
    (any-map (λ q. is_same q (Client c)) (λ number. Client number) (range_with_len 1 16) ∙ any-client c)

keys-same : (cluster : Setting) (set : LmsSet) (p : Party) →
    public_in (map (entry_of set) (parties_of cluster)) p ≡ public_in_replay cluster set p
keys-same cluster set p =
    public-in_replay set (parties_of cluster) p
    ∙ ap (λ b. if b then Some (public_of (tree_in_replay set p)) else None) (party-there cluster p)

-- so the keyring of these parties accepts what that of a replay does
pub accepts-same : (cluster : Setting) (set : LmsSet) → lms_accepts (map (entry_of set) (parties_of cluster)) ≡ replay_accepts cluster set
accepts-same cluster set =
    fun_ext (λ p. fun_ext (λ words. fun_ext (λ signature. ap (λ o. is_valid_under o words signature) (keys-same cluster set p))))
