-- The signers over keys.
use Rattle.std.specs.Prelude.{ℕ, ◌+◌, List, Bool, ◌&&◌}
use Rattle.basil_types.specs.declared.party.Party.{Party}
use Rattle.keyring.specs.Signing.{Signing}
use Rattle.lms_sign.specs.Sets.{size_of}
use Rattle.lms_sign.specs.Tree.{Tree, public_of}
use Rattle.lms_sign.specs.Signing.{Key, signature_of}
use Rattle.lms_sign.specs.Verifying.{is_valid}
use Rattle.keyring_lms.specs.Keys.{is_same}

-- a pen: whose it is, its key, and how many leaves it has signed with
pub record Pen : Type 0 where
  pub party : Party
  pub key : Key
  pub given : ℕ

-- what is valid under the key of a tree, for its own party alone
abbrev pub tree_holds : Party → Tree → Party → List ℕ → List ℕ → Bool
tree_holds owner tree party words signature = is_same owner party && is_valid (public_of tree) words signature

-- the fixed part of a party's pen that signs with the leaves of a tree from the first on
abbrev pub lms_signing : Party → Tree → ℕ → Signing
lms_signing party tree first = record {
  party = party;
  size = size_of tree.set;
  gives = λ place words. signature_of tree (first + place) words;
  holds = tree_holds party tree;
}
