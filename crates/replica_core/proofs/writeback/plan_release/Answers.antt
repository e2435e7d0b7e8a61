use Rattle.std.proofs.Common.{◌≡◌, List, ℕ, map, refl, ap, ◌∙◌}
use Rattle.basil_types.specs.Transaction.{id}
use Rattle.basil_types.specs.Words.{words_of}
use Rattle.node_steps.specs.Pendings.{front_of}
use Rattle.txn_table.specs.Shown.{entry_of}
use Rattle.replica_core.specs.Fronts.{vote_said}
use Rattle.replica_core.specs.Releases.{release_front}
use Rattle.replica_core.proofs.writeback.plan_release.Goals as goal

pub returns : goal.returns
returns c =
    let e = entry_of c.entry-entry.result.now in
    let named : c.id-id.result ≡ id e.transaction = c.id-id.ensures ∙ ap id c.view.ensures in
    record {
      entry = e;
      at = c.entry-entry.ensures.entry;
      place = refl;
      decision = refl;
      words = c.in_ok-pending.ensures.words ∙ c.vote-words.ensures
          ∙ ap (λ (x : List ℕ). words_of (vote_said c.args.seat.now x c.args.decision)) named;
      fronts = ap (λ v. map front_of v.items) c.in_ok-pending.ensures.frames ∙ c.in_ok-frames.ensures.fronts
          ∙ ap (λ (x : List ℕ). map (release_front c.args.seat.now x c.args.decision) c.askers.result.now) named
          ∙ ap (map (release_front c.args.seat.now (id e.transaction) c.args.decision)) c.askers.ensures;
      ready = c.in_ok-pending.ensures.ready;
    }
