use Rattle.std.proofs.Common.{◌∷◌, [], ◌++◌, ap, sym, ◌∙◌}
use Rattle.std.specs.Option.{option_copied}
use Rattle.frame_values.specs.declared.owned.parts.InvokePart.{InvokePart}
use Rattle.client_recover.specs.Replies.{latest_at}
use Rattle.client_recover.proofs.Walks.{all_one, all_none}
use Rattle.client_recover.proofs.logs.Logs.latest_of_each.Goals as goal
use Rattle.client_recover.proofs.logs.Logs.latest_of_each.Goals.{in-Some+in_ok-copy_of_latest-in-Some+in_ok-push-in-Some, in-None}

pub loop-replica-preserved : goal.loop-replica-preserved
loop-replica-preserved c =
    let n = c.loop-replica.replica in
    let got = c.loop-replica.parts.items in
    let given = latest_at c.args.self.now in
    elim c.match-latest.branch [
      | in-Some+in_ok-copy_of_latest-in-Some+in_ok-push-in-Some w ↦
          ap (λ p. p.items) w.parts-is ∙ w.in_ok-push-in-Some.ensures.items
          ∙ ap (λ (p : InvokePart). got ++ p ∷ []) w.in_ok-copy_of_latest-in-Some.ensures
          ∙ all_one given n w.in-Some.part.now got (sym c.latest.ensures ∙ ap option_copied w.in-Some.is) c.loop-replica.invariant
      | in-None w ↦
          ap (λ p. p.items) w.parts-is
          ∙ all_none given n got (sym c.latest.ensures ∙ ap option_copied w.in-None.is) c.loop-replica.invariant
    ]
