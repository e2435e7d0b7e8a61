use Rattle.keyring_lms.proofs.Entries.{accepts-same}
use Rattle.keyring_lms.proofs.keys.LmsKeys.replay.Goals as goal

pub returns : goal.returns
returns c = rw (c.in_ok-publics.ensures, c.deref.ensures.value, c.in_ok-parties.ensures) (accepts-same c.args.cluster.now c.args.set)
