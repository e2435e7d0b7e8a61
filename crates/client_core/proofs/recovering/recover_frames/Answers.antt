use Rattle.std.proofs.Common.{◌∙◌, List, ℕ, ◌++◌, sym, ap}
use Rattle.basil_types.specs.Shown.{transaction_of}
use Rattle.basil_types.specs.Transaction.{TransactionValue}
use Rattle.frame_views.specs.Spelling.{spelling}
use Rattle.frame_views.specs.Values.{MessageValue, Recover}
use Rattle.client_steps.specs.Addressing.{parties_in}
use Rattle.client_core.proofs.PlanLaws.{sent_to_these}
use Rattle.client_core.proofs.recovering.recover_frames.Goals as goal

pub returns-clause-messages : goal.returns-clause-messages
returns-clause-messages c =
    let cl = c.args.seat.now.cluster in
    let question = λ (t : TransactionValue).
    let m : MessageValue = Recover (record { transaction = t; signature = c.args.signature.now }) in m in
    sent_to_these _ _ (spelling (question c.args.t.now)) _ (parties_in cl c.args.t.now) c.in_ok-out.ensures.messages
    (c.as_slice-2.ensures.value ∙ c.in_ok-put_recover.ensures.appends
    ∙ ap (λ (l : List ℕ). l ++ spelling (question (transaction_of c.view.result))) c.new-frame.ensures.items
    ∙ ap (λ t. spelling (question t)) c.view.ensures.value)
    (c.as_slice.ensures.value ∙ c.in_ok-parties.ensures ∙ ap (parties_in cl) c.view-2.ensures.value)
    ∙ sym (c.frames_reach_shards.ensures.involved cl c.args.t.now (question c.args.t.now))
