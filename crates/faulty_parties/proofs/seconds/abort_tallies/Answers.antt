use Rattle.std.proofs.Common.{◌∙◌, ap, sym}
use Rattle.basil_types.specs.declared.party.Decision.TheVariants.{Abort}
use Rattle.basil_types.specs.Shown.{transaction_of}
use Rattle.basil_types.specs.Transaction.{id}
use Rattle.quorum_laws.specs.Numbers.{abort_tally}
use Rattle.faulty_parties.specs.Tallies.{shard_in, tally_in}
use Rattle.faulty_parties.proofs.TallyLaws.{no_shard, one_shard}
use Rattle.faulty_parties.proofs.seconds.abort_tallies.Goals as goal
use Rattle.faulty_parties.proofs.seconds.abort_tallies.Goals.{in-Some+in_ok-tally-in-Some+in_ok-push-in-Some, in-None}

pub returns-clause-tallies : goal.returns-clause-tallies
returns-clause-tallies g c =
    let accepts = g.V.Verifier.accepted c.args.keys.now in
    let cl = c.args.cluster.now in
    let posts = c.args.pool.now.posts in
    let t = transaction_of c.args.t in
    let f = tally_in accepts cl posts (id t) Abort (abort_tally cl.f) in
    elim c.match-branch-2.branch [
      | in-Some+in_ok-tally-in-Some+in_ok-push-in-Some w ↦
          one_shard f (shard_in accepts cl posts t) w.in-Some.shard c.new-list.result.items c.match-branch-2.list.items
          w.in_ok-tally-in-Some.field-0 (sym w.in-Some.is ∙ c.in_ok-shard.ensures) c.new-list.ensures.items
          (ap (λ v. v.items) w.list-is ∙ w.in_ok-push-in-Some.ensures.items)
          (w.in_ok-tally-in-Some.ensures.tally
          ∙ ap (λ i. tally_in accepts cl posts i Abort c.abort_tally.result w.in-Some.shard) c.requires
          ∙ ap (λ n. tally_in accepts cl posts (id t) Abort n w.in-Some.shard) c.abort_tally.ensures)
      | in-None w ↦
          no_shard f (shard_in accepts cl posts t) c.new-list.result.items c.match-branch-2.list.items
          (sym w.in-None.is ∙ c.in_ok-shard.ensures) c.new-list.ensures.items (ap (λ v. v.items) w.list-is)
    ]
