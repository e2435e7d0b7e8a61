use Rattle.keyring_lms.proofs.ListedLaws.{accepts-listed}
use Rattle.keyring_lms.proofs.keys.LmsKeys.replay_of.Goals as goal

pub returns : goal.returns
returns c =
    rw (c.in_ok-publics.ensures, c.deref.ensures.value)
    (accepts-listed c.args.cluster.now c.args.set c.args.listed.now c.in_ok-parties.parties.items c.in_ok-parties.ensures)
