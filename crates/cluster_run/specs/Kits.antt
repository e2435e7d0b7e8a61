-- The kits of a run.
use Rattle.std.specs.Prelude.{ℕ}
use Rattle.basil_types.specs.declared.party.Party.{Party}
use Rattle.certificates.specs.Accepted.{Accepted}
use Rattle.keyring.specs.Plain.{plain_accepts, plain_signing}
use Rattle.keyring_lms.specs.Pens.{lms_signing}
use Rattle.lms_sign.specs.Tree.{Tree}
use Rattle.node_steps.specs.Pens.{PenValue}
use Rattle.cluster_run.specs.Safety.{AreSigned}
use Rattle.cluster_run.specs.States.{KitValue}

-- the place of each party's pen
abbrev pub Places : Type 0
Places = Party → PenValue

-- plain keys and pens
abbrev pub plain_kit : Places → KitValue
plain_kit places = record { accepts = plain_accepts; signing = plain_signing; pen = places }

-- what the clients' plain pens give fits a frame
abbrev pub PlainKitsSign : Type 0
PlainKitsSign = (places : Places) → AreSigned (plain_kit places)

-- each party's pen signs with the leaves of its tree, from the first on that it may use
abbrev pub lms_kit : Accepted → (tree : Party → Tree) → (first : Party → ℕ) → Places → KitValue
lms_kit accepts tree first places =
    record {
      accepts = accepts;
      signing = λ party. lms_signing party (tree party) (first party);
      pen = places;
    }

-- what the clients' LMS pens give fits a frame, whichever keyring stands beside them
abbrev pub LmsKitsSign : Type 0
LmsKitsSign =
    (accepts : Accepted) (tree : Party → Tree) (first : Party → ℕ) (places : Places) →
    AreSigned (lms_kit accepts tree first places)
