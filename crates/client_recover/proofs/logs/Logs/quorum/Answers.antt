use Rattle.std.proofs.Common.{◌∷◌, [], ◌++◌, ap, sym, ◌∙◌, arith}
use Rattle.std.specs.Option.{option_copied}
use Rattle.frame_values.specs.declared.owned.parts.LogPart.{LogPart}
use Rattle.client_recover.specs.Replies.{earliest_at}
use Rattle.client_recover.proofs.Walks.{keeps_one, keeps_none, keeps_no_more}
use Rattle.client_recover.proofs.logs.Logs.quorum.Goals as goal
use Rattle.client_recover.proofs.logs.Logs.quorum.Goals.{then-len-needed+in-Some+in_ok-copy_of_part-in-Some+in_ok-push-in-Some}
use Rattle.client_recover.proofs.logs.Logs.quorum.Goals.{then-len-needed+in-None, else-len-needed}

pub loop-replica-preserved : goal.loop-replica-preserved
loop-replica-preserved c =
    let n = c.loop-replica.replica in
    let got = c.loop-replica.parts.items in
    let needed = c.from-needed.result in
    let given = earliest_at c.args.self.now c.args.decision c.args.decided in
    elim c.if-len-needed.branch [
      | then-len-needed+in-Some+in_ok-copy_of_part-in-Some+in_ok-push-in-Some w ↦
          ap (λ p. p.items) w.parts-is ∙ w.in_ok-push-in-Some.ensures.items
          ∙ ap (λ (p : LogPart). got ++ p ∷ []) w.in_ok-copy_of_part-in-Some.ensures
          ∙ keeps_one given needed n w.in-Some.part.now got (omega (arith, w.if-len-needed.true, c.len.ensures, c.loop-replica.parts.ok.0))
          (sym w.earliest.ensures ∙ ap option_copied w.in-Some.is) c.loop-replica.invariant
      | then-len-needed+in-None w ↦
          ap (λ p. p.items) w.parts-is
          ∙ keeps_none given needed n got (sym w.earliest.ensures ∙ ap option_copied w.in-None.is) c.loop-replica.invariant
      | else-len-needed w ↦
          ap (λ p. p.items) w.parts-is
          ∙ keeps_no_more given needed n got
          (omega (arith, w.if-len-needed.false, c.len.ensures, c.loop-replica.parts.ok.0)) c.loop-replica.invariant
    ]
