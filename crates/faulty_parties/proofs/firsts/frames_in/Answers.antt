use Rattle.std.proofs.Common.{rules, ◌∙◌, List, ◌++◌, map, take, sym, ap}
use Rattle.std.specs.Prelude.{slice_get}
use Rattle.basil_types.specs.Shown.{transaction_of}
use Rattle.node_steps.specs.Pendings.{Front, front_of}
use Rattle.txn_meta.specs.Places.{involved, members}
use Rattle.faulty_parties.specs.Fronts.{fronts_at, fronts_of}
use Rattle.faulty_parties.proofs.SentLaws.{next_involved}
use Rattle.faulty_parties.proofs.firsts.frames_in.Goals as goal

pub loop-place-preserved : goal.loop-place-preserved
loop-place-preserved c =
    let cl = c.args.cluster.now in
    let bytes = c.args.front.now.bytes.now in
    let xs = involved cl (transaction_of c.args.t) in
    record {
      fronts = c.in_ok-add_at.ensures.fronts
          ∙ ap (λ o. map front_of c.loop-place.frames.items ++ fronts_at cl bytes o) c.nth.ensures
          ∙ ap (λ (l : List Front). l ++ fronts_at cl bytes (slice_get (members c.involved-shards.result) c.loop-place.place))
          c.loop-place.invariant.fronts
          ∙ ap (λ m. fronts_of cl bytes (take c.loop-place.place xs) ++ fronts_at cl bytes (slice_get (members m) c.loop-place.place))
          c.involved-shards.ensures
          ∙ sym (next_involved cl bytes xs c.loop-place.place);
      rooms = c.in_ok-add_at.ensures.rooms;
    }

pub returns-clause-fronts : goal.returns-clause-fronts
returns-clause-fronts c = search rules
