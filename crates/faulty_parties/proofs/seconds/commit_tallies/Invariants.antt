use Rattle.std.proofs.Common.{◌≡◌, All, map, take}
use Rattle.basil_types.specs.declared.party.Decision.TheVariants.{Commit}
use Rattle.basil_types.specs.Shown.{transaction_of}
use Rattle.basil_types.specs.Transaction.{id}
use Rattle.frame_values.specs.Owned.{tally_value}
use Rattle.frame_views.specs.Fitting.{FitsVotes, widest}
use Rattle.frame_views.specs.Values.{TallyValue}
use Rattle.quorum_laws.specs.Numbers.{commit_tally}
use Rattle.txn_meta.specs.Places.{involved}
use Rattle.faulty_parties.specs.Tallies.{tally_in}
use Rattle.faulty_parties.proofs.seconds.commit_tallies.Given as goal

abbrev pub invariant-loop-place : goal.invariant-loop-place
invariant-loop-place g l =
    record {
      tallies : map tally_value l.list.items
          ≡ map (tally_in (g.V.Verifier.accepted l.keys) l.cluster l.pool.posts (id (transaction_of l.fn.t)) Commit
          (commit_tally l.cluster.f)) (take l.place (involved l.cluster (transaction_of l.fn.t)));
      fits : All (λ (t : TallyValue). FitsVotes widest t.votes) (map tally_value l.list.items);
    }
