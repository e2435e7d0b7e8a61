use Rattle.std.proofs.Common.{◌∙◌, List, ℕ, ◌++◌, sym, ap}
use Rattle.frame_views.specs.Spelling.{spelling}
use Rattle.frame_views.specs.Values.{Read}
use Rattle.txn_meta.specs.Places.{shard_of}
use Rattle.client_steps.specs.Addressing.{parties_of}
use Rattle.client_core.proofs.PlanLaws.{sent_to_these}
use Rattle.client_core.proofs.reading.ask_frames.Goals as goal

pub returns-clause-messages : goal.returns-clause-messages
returns-clause-messages c =
    let cl = c.args.seat.now.cluster in
    let m = Read (record { key = c.args.key.now; time = c.args.time; client = c.args.seat.now.number }) in
    let shard = shard_of cl c.args.key.now in
    sent_to_these _ _ (spelling m) _ (parties_of cl shard) c.in_ok-out.ensures.messages
    (c.as_slice-2.ensures.value ∙ c.in_ok-put_read.ensures.appends ∙ ap (λ (l : List ℕ). l ++ spelling m) c.new-frame.ensures.items)
    (c.as_slice.ensures.value ∙ c.in_ok-parties.ensures ∙ ap (parties_of cl) c.shard_of-shard.ensures.value)
    ∙ sym (c.frames_reach_shards.ensures.shard cl m shard)
