use Rattle.keyring_lms.proofs.ListedLaws.{keys-there}
use Rattle.keyring_lms.proofs.replay_keys.ReplayKeys.ring.Goals as goal

pub returns : goal.returns
returns c =
    let keys = c.self.inside in
    rw (c.in_ok-publics.ensures, c.as_slice.ensures.value, c.self.invariant, ← c.self.view_is) (keys-there keys.cluster keys.set)
