-- Room for every party.
use Rattle.std.specs.Prelude.{◌≡◌, ℕ, ◌≤◌, ◌<◌, List, false, take, All}
use Rattle.std.specs.List.{count_by}
use Rattle.basil_types.specs.declared.party.Party.{Party}
use Rattle.basil_types.specs.declared.party.Party.TheVariants.{Replica, Client}
use Rattle.txn_table.specs.Entries.{same_party}
use Rattle.premise_watch.specs.Parties.{AreCounted, is_among, is_too_many}

-- a byte numbers its client or its shard
abbrev pub IsNumbered : Party → Type 0
IsNumbered (Replica shard index) = shard < 256
IsNumbered (Client number) = number < 256

-- nobody is there twice, and at most six are of one shard
pub record AreRoomy (parties : List Party) : Type 0 where
  pub numbered : All IsNumbered parties
  pub once : (p : Party) → count_by (same_party p) parties ≤ 1
  pub counted : AreCounted 6 parties

-- none of them, and not the seventh replica of its shard
pub record CanCome (parties : List Party) (p : Party) : Type 0 where
  pub numbered : IsNumbered p
  pub absent : is_among parties p ≡ false
  pub few : is_too_many 6 parties p ≡ false

pub record HasRoom (parties : List Party) (len : ℕ) : Type 0 where
  pub within : len ≤ 1792
  pub fits : AreRoomy (take len parties)
