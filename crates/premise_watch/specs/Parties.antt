-- The parties that may do anything: at most f replicas of each shard.
use Rattle.std.specs.Prelude.{ℕ, ◌≤◌, List, [], ◌∷◌, ◌++◌, Bool, false, not, ◌||◌, ◌==◌, nat_le, if◌then◌else◌}
use Rattle.std.specs.List.{count_by, list_any}
use Rattle.basil_types.specs.Setting.{Setting}
use Rattle.basil_types.specs.declared.party.Party.{Party}
use Rattle.basil_types.specs.declared.party.Party.TheVariants.{Replica, Client}
use Rattle.quorum_laws.specs.Numbers.{replicas}
use Rattle.quorum_laws.specs.Sets.{size}
use Rattle.txn_table.specs.Entries.{same_party}

abbrev pub is_among : List Party → Party → Bool
is_among parties p = list_any (same_party p) parties

abbrev pub is_of_shard : ℕ → Party → Bool
is_of_shard shard (Replica s index) = s == shard
is_of_shard shard (Client number) = false

-- how many are replicas of this shard
abbrev pub count_of_shard : ℕ → List Party → ℕ
count_of_shard shard parties = count_by (is_of_shard shard) parties

-- whether with this party there would be more than f replicas of its shard
abbrev pub is_too_many : ℕ → List Party → Party → Bool
is_too_many f parties (Replica shard index) = nat_le f (count_of_shard shard parties)
is_too_many f parties (Client number) = false

abbrev pub can_join : ℕ → List Party → Party → Bool
can_join f parties p = not (is_among parties p || is_too_many f parties p)

-- the parties with one more, if it may be one of them
abbrev pub joined : ℕ → List Party → Party → List Party
joined f parties p = if can_join f parties p then parties ++ p ∷ [] else parties

-- at most f replicas of each shard of this cluster
abbrev pub AreFew : Setting → List Party → Type 0
AreFew c parties = (shard : ℕ) → size (λ r. is_among parties (Replica shard r)) (replicas c.f) ≤ c.f

-- at most f replicas of each shard, counted
abbrev pub AreCounted : ℕ → List Party → Type 0
AreCounted f parties = (shard : ℕ) → count_of_shard shard parties ≤ f
