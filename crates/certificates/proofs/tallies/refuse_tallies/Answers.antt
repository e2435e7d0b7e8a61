use Rattle.std.proofs.Common.{◌<◌, ◌^◌, length, subst, sym, List}
use Rattle.basil_types.specs.Shown.{transaction_of}
use Rattle.basil_types.specs.Transaction.{id}
use Rattle.frame_views.specs.Items.{tallies_of}
use Rattle.frame_views.specs.Signed.{SignedBy}
use Rattle.certificates.proofs.DecideLaws.{few_tally_signatures}
use Rattle.certificates.proofs.tallies.refuse_tallies.Goals as goal

pub all_accepted-requires : goal.all_accepted-requires
all_accepted-requires g c =
    subst (λ (s : List SignedBy). length s < 2 ^ 64) (sym c.signatures_of.ensures)
    (few_tally_signatures c.args.cluster.now (id (transaction_of c.args.t)) c.args.decision (tallies_of c.args.tallies.now) c.requires.fits)
