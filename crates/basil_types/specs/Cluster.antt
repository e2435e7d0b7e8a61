-- Which numbers are a cluster, and which fault comes first.
use Rattle.std.specs.Prelude.{ℕ, Option, Some, None, nat_le, ◌&&◌, if◌then◌else◌}
use Rattle.quorum_laws.specs.Numbers.{one_correct, correct_ones}
use Rattle.basil_types.specs.Setting.{Setting, IsSetting}
use Rattle.basil_types.specs.declared.cluster.ClusterFault.{ClusterFault}
use Rattle.basil_types.specs.declared.cluster.ClusterFault.TheVariants.{FOutOfRange, ShardsOutOfRange, ReadsOutOfRange}

abbrev pub IsCluster : Setting → Type 0
IsCluster c = IsSetting c

abbrev pub cluster_fault : ℕ → ℕ → ℕ → Option ClusterFault
cluster_fault f shards reads =
    if nat_le f 6 then
    (if nat_le 1 shards && nat_le shards 8 then
    (if nat_le (one_correct f) reads && nat_le reads (correct_ones f) then None else Some ReadsOutOfRange)
    else Some ShardsOutOfRange)
    else Some FOutOfRange
