-- The laws of kits, of what a kit has made.
use Rattle.std.proofs.Common.{◌≡◌, true, refl}
use Rattle.node_steps.specs.Pens.{GivesItsSize}
use Rattle.basil_types.specs.declared.party.Party.{Party}
use Rattle.keyring.specs.Signing.{AcceptsSigner}
use Rattle.cluster_run.specs.Safety.{AreSigned}
use Rattle.replay_kit.specs.Made.{made_knows, made_value}
use Rattle.replay_kit.specs.declared.made.Made.{Made}
use Rattle.replay_kit.specs.declared.made.Made.TheVariants.{Plain, Lms, Batch}
use Rattle.replay_kit.specs.ValueLaws.{plain-accepted, plain-sized, plain-signed, lms-accepted, lms-sized, lms-signed}
use Rattle.replay_kit.specs.ValueLaws.{batch-accepted, batch-sized, batch-signed}

pub made-owner : (made : Made) (party : Party) → ((made_value made).signing party).party ≡ party
made-owner Plain party = refl
made-owner (Lms keys) party = refl
made-owner Batch party = refl

pub made-accepted : (made : Made) (party : Party) → made_knows made party ≡ true
    → AcceptsSigner (made_value made).accepts ((made_value made).signing party)
made-accepted Plain party known = plain-accepted party
made-accepted (Lms keys) party known = lms-accepted keys.cluster keys.set party known
made-accepted Batch party known = batch-accepted party

pub made-sized : (made : Made) (party : Party)
    → GivesItsSize ((made_value made).signing party) ((made_value made).pen party)
made-sized Plain party = plain-sized party
made-sized (Lms keys) party = lms-sized keys.cluster keys.set party
made-sized Batch party = batch-sized party

pub made-signed : (made : Made) → AreSigned (made_value made)
made-signed Plain = plain-signed
made-signed (Lms keys) = lms-signed keys.cluster keys.set
made-signed Batch = batch-signed
