-- The kits of a replay, as values.
use Rattle.std.specs.Prelude.{◌-◌, ◌^◌, Bool, true}
use Rattle.basil_types.specs.Setting.{Setting}
use Rattle.basil_types.specs.declared.party.Party.{Party}
use Rattle.batch_sign.specs.Signatures.{batch_signing, in_batch}
use Rattle.keyring.specs.Plain.{plain_accepts, plain_signing}
use Rattle.keyring_lms.specs.Replay.{is_party_of, replay_accepts, tree_in_replay}
use Rattle.lms_sign.specs.Sets.{leaves_of}
use Rattle.lms_sign.specs.declared.sets.LmsSet.{LmsSet}
use Rattle.node_steps.specs.Pens.{PenValue, pen_value}
use Rattle.cluster_run.specs.Kits.{lms_kit, plain_kit}
use Rattle.cluster_run.specs.Safety.{AreSigned}
use Rattle.cluster_run.specs.States.{KitValue}
use Rattle.replay_kit.specs.declared.kind.KitKind.{KitKind}
use Rattle.replay_kit.specs.declared.kind.KitKind.TheVariants.{Plain, Lms, Batch}

-- a plain pen has so many signatures, and an LMS pen one for each leaf, from leaf 0 on
abbrev pub plain_place : PenValue
plain_place = pen_value 0 (2 ^ 64 - 1)

abbrev pub lms_place : LmsSet → PenValue
lms_place set = pen_value 0 (leaves_of set)

-- plain keys
abbrev pub plain_value : KitValue
plain_value = plain_kit (λ _. plain_place)

-- keys of LMS: the keyrings know the parties of the cluster, and each pen has the whole tree over its party's seed
abbrev pub lms_value : Setting → LmsSet → KitValue
lms_value cluster set = lms_kit (replay_accepts cluster set) (tree_in_replay set) (λ _. 0) (λ _. lms_place set)

-- plain keys, and pens each of whose signatures is a batch of one
abbrev pub batch_value : KitValue
batch_value =
    record {
      accepts = in_batch plain_accepts;
      signing = λ party. batch_signing (plain_signing party);
      pen = λ _. plain_place;
    }

-- what the clients' pens of batches give fits a frame
abbrev pub BatchKitsSign : Type 0
BatchKitsSign = AreSigned batch_value

-- the kit of a replay over a cluster
abbrev pub replay_value : Setting → KitKind → KitValue
replay_value cluster Plain = plain_value
replay_value cluster (Lms set) = lms_value cluster set
replay_value cluster Batch = batch_value

-- the parties that its keyrings know: with LMS those of the cluster, and else each
abbrev pub replay_knows : Setting → KitKind → Party → Bool
replay_knows cluster Plain party = true
replay_knows cluster (Lms set) party = is_party_of cluster party
replay_knows cluster Batch party = true
