use Rattle.std.proofs.Common.{◌∙◌, ap, map, refl, sym, arith}
use Rattle.std.specs.Prelude.{slice_get}
use Rattle.basil_types.specs.declared.party.Decision.TheVariants.{Commit}
use Rattle.basil_types.specs.Shown.{transaction_of}
use Rattle.basil_types.specs.Transaction.{id}
use Rattle.frame_values.specs.Owned.{tally_value}
use Rattle.quorum_laws.specs.Numbers.{commit_tally}
use Rattle.txn_meta.specs.Places.{involved, members}
use Rattle.faulty_parties.specs.Tallies.{tally_in}
use Rattle.faulty_parties.proofs.SentLaws.{involved_few, take_whole}
use Rattle.faulty_parties.proofs.TallyLaws.{all_kept, fits_more, next_tally, no_tally, tallies_fit}
use Rattle.faulty_parties.proofs.seconds.commit_tallies.Goals as goal
use Rattle.faulty_parties.proofs.seconds.commit_tallies.Goals.{in-Some+in_ok-tally-in-Some+in_ok-push-in-Some, in-None}

pub loop-place-preserved : goal.loop-place-preserved
loop-place-preserved g c =
    let accepts = g.V.Verifier.accepted c.args.keys.now in
    let cl = c.args.cluster.now in
    let posts = c.args.pool.now.posts in
    let t = transaction_of c.args.t in
    let f = tally_in accepts cl posts (id t) Commit (commit_tally cl.f) in
    let place = c.loop-place.place in
    let list = c.loop-place.list.items in
    let before = c.loop-place.invariant in
    let shards = ap (λ m. slice_get (members m) place) c.involved-shards.ensures in
    elim c.match-nth.branch [
      | in-Some+in_ok-tally-in-Some+in_ok-push-in-Some w ↦
          let new = ap (λ v. v.items) w.list-is ∙ w.in_ok-push-in-Some.ensures.items in
          record {
            tallies = next_tally f (involved cl t) place w.in-Some.shard list c.match-nth.list.items w.in_ok-tally-in-Some.field-0
                (sym (w.in-Some.ensures ∙ shards)) new
                (w.in_ok-tally-in-Some.ensures.tally
                ∙ ap (λ i. tally_in accepts cl posts i Commit c.commit_tally.result w.in-Some.shard) c.requires
                ∙ ap (λ n. tally_in accepts cl posts (id t) Commit n w.in-Some.shard) c.commit_tally.ensures)
                before.tallies;
            fits = fits_more list c.match-nth.list.items w.in_ok-tally-in-Some.field-0 new before.fits w.in_ok-tally-in-Some.ensures.fits;
          }
      | in-None w ↦
          let same = ap (λ v. v.items) w.list-is in
          record {
            tallies = ap (map tally_value) same
                ∙ no_tally f (involved cl t) place (map tally_value list) (sym (w.in-None.ensures ∙ shards)) before.tallies;
            fits = all_kept list c.match-nth.list.items same before.fits;
          }
    ]

pub returns-clause-fits : goal.returns-clause-fits
returns-clause-fits g c =
    let accepts = g.V.Verifier.accepted c.args.keys.now in
    let cl = c.args.cluster.now in
    let t = transaction_of c.args.t in
    let f = tally_in accepts cl c.args.pool.now.posts (id t) Commit (commit_tally cl.f) in
    let few = involved_few cl t in
    tallies_fit cl t f (λ s. refl) (map tally_value c.loop-place.list.items)
    (c.loop-place.invariant.tallies
    ∙ ap (map f) (take_whole (involved cl t) c.loop-place.place (omega (arith, few, c.loop-place-test.false))))
    c.loop-place.invariant.fits
