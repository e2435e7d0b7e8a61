-- What a kit has made, as the kit that it stands for.
use Rattle.std.specs.Prelude.{Bool, true}
use Rattle.basil_types.specs.declared.party.Party.{Party}
use Rattle.keyring_lms.specs.Replay.{is_party_of}
use Rattle.cluster_run.specs.States.{KitValue}
use Rattle.replay_kit.specs.Values.{batch_value, lms_value, plain_value}
use Rattle.replay_kit.specs.declared.kit.ReplayKit.{ReplayKit}
use Rattle.replay_kit.specs.declared.made.Made.{Made}
use Rattle.replay_kit.specs.declared.made.Made.TheVariants.{Plain, Lms, Batch}

abbrev pub made_value : Made → KitValue
made_value Plain = plain_value
made_value (Lms keys) = lms_value keys.cluster keys.set
made_value Batch = batch_value

abbrev pub made_knows : Made → Party → Bool
made_knows Plain party = true
made_knows (Lms keys) party = is_party_of keys.cluster party
made_knows Batch party = true

-- the kit that a replay's kit stands for
abbrev pub kit_value : ReplayKit → KitValue
kit_value kit = made_value kit.made
