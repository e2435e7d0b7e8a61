-- The laws of kits, of the kits of a replay as values.
use Rattle.std.proofs.Common.{◌≡◌, ℕ, zero, suc, List, ◌∷◌, true, length, arith, sym, ◌∙◌}
use Rattle.basil_types.specs.Setting.{Setting}
use Rattle.basil_types.specs.Texts.{IsBytes}
use Rattle.basil_types.specs.declared.party.Party.{Party}
use Rattle.keyring.specs.Signing.{AcceptsSigner}
use Rattle.keyring_lms.specs.Replay.{is_party_of, replay_accepts, tree_in_replay}
use Rattle.keyring_lms.proofs.PenLaws.{replay-agrees}
use Rattle.lms_sign.specs.declared.sets.LmsSet.{LmsSet}
use Rattle.lms_sign.specs.Laws.{HasItsSize}
use Rattle.lms_sign.proofs.PartLaws.{length-made, length-public, length-ident}
use Rattle.sha2.proofs.Facts256.{length-sha256}
use Rattle.node_steps.specs.Pens.{GivesItsSize}
use Rattle.cluster_run.specs.Safety.{AreSigned, IsSigned}
use Rattle.cluster_run.proofs.KitLaws as kits
use Rattle.replay_kit.specs.Values.{plain_place, lms_place, batch_value, plain_value, lms_value}

pub plain-accepted : (party : Party) → AcceptsSigner plain_value.accepts (plain_value.signing party)
plain-accepted party words signature holds = holds

pub plain-sized : (party : Party) → GivesItsSize (plain_value.signing party) (plain_value.pen party)
plain-sized party place words under = length-sha256 _

pub plain-signed : AreSigned plain_value
plain-signed = kits.plain_kits_sign (λ _. plain_place)

-- a pen's relation is its party's part of the keyring's, where the party is one of the cluster
pub lms-accepted : (cluster : Setting) (set : LmsSet) (party : Party) → is_party_of cluster party ≡ true
    → AcceptsSigner (lms_value cluster set).accepts ((lms_value cluster set).signing party)
lms-accepted cluster set party there words signature holds =
    sym (replay-agrees cluster set party words signature there) ∙ holds

pub lms-sized : (cluster : Setting) (set : LmsSet) (party : Party)
    → GivesItsSize ((lms_value cluster set).signing party) ((lms_value cluster set).pen party)
lms-sized cluster set party place words under = length-made _ _ words

pub lms-signed : (cluster : Setting) (set : LmsSet) → AreSigned (lms_value cluster set)
lms-signed cluster set =
    let sizes : HasItsSize = record { signature = length-made; public = length-public; ident = length-ident } in
    kits.lms_kits_sign sizes (replay_accepts cluster set) (tree_in_replay set) (λ _. 0) (λ _. lms_place set)

-- ---- batches of one

pub batch-accepted : (party : Party) → AcceptsSigner batch_value.accepts (batch_value.signing party)
batch-accepted party words signature holds = holds

two-longer : (signature : List ℕ) → length signature ≡ 32 → length (0 ∷ 0 ∷ signature) ≡ 34
two-longer signature long = omega (arith, long)

pub batch-sized : (party : Party) → GivesItsSize (batch_value.signing party) (batch_value.pen party)
batch-sized party place words under = two-longer _ (length-sha256 _)

two-bytes : (signature : List ℕ) → IsBytes signature → IsBytes (0 ∷ 0 ∷ signature)
two-bytes signature bytes zero = omega arith
two-bytes signature bytes (suc zero) = omega arith
two-bytes signature bytes (suc (suc i)) = bytes i

alone-signed : (signature : List ℕ) → length signature ≡ 32 → IsSigned signature → IsSigned (0 ∷ 0 ∷ signature)
alone-signed signature long s = record {
  fits = record { some = omega (arith, two-longer signature long); short = omega (arith, two-longer signature long) };
  bytes = two-bytes signature s.bytes;
}

pub batch-signed : AreSigned batch_value
batch-signed n place words under =
    alone-signed _ (length-sha256 _) (kits.plain_kits_sign (λ _. plain_place) n place _ under)
