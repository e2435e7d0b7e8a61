use Rattle.std.proofs.Common.{◌≡◌, true, List, ap, sym, ◌∙◌, subst, option_map}
use Rattle.lms_sign.specs.Tree.{Tree}
use Rattle.lms_sign.specs.Signing.{first_key}
use Rattle.basil_types.specs.declared.party.Party.{Party}
use Rattle.keyring_lms.specs.Replay.{Replay, tree_in_replay, tree_found, is_party_of}
use Rattle.keyring_lms.proofs.ListedLaws.{key-there, some-same}
use Rattle.keyring_lms.proofs.replay_keys.ReplayKeys.key_there.Goals as goal

pub unreachable-requires : goal.unreachable-requires
unreachable-requires c =
    let party = c.args.party in
    let keys = c.self.inside in
    let there : is_party_of keys.cluster party ≡ true =
    subst (λ (k : Replay). is_party_of k.cluster party ≡ true) (sym c.self.view_is) c.requires in
    let trees = c.as_slice.ensures.value ∙ c.self.invariant in
    let found = c.in_ok-key.ensures
    ∙ ap (λ (t : List (Party × Tree)). option_map first_key (tree_found t party)) trees
    ∙ key-there keys.cluster keys.set party there in
    let none = c.in-None.is in
    cc

pub returns : goal.returns
returns c =
    let party = c.args.party in
    let keys = c.self.inside in
    let there : is_party_of keys.cluster party ≡ true =
    subst (λ (k : Replay). is_party_of k.cluster party ≡ true) (sym c.self.view_is) c.requires in
    let trees = c.as_slice.ensures.value ∙ c.self.invariant in
    let found = c.in_ok-key.ensures
    ∙ ap (λ (t : List (Party × Tree)). option_map first_key (tree_found t party)) trees
    ∙ key-there keys.cluster keys.set party there in
    let own : c.in-Some.key ≡ first_key (tree_in_replay keys.set party) = some-same _ _ (sym c.in-Some.is ∙ found) in
    subst (λ (k : Replay). c.in-Some.key ≡ first_key (tree_in_replay k.set party)) c.self.view_is own
