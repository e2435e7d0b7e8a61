use Rattle.std.proofs.Common.{rules, sym, ap, ◌∙◌}
use Rattle.frame_views.specs.Shown.{log_reply_of}
use Rattle.client_recover.specs.Faults.{log_fault}
use Rattle.client_recover.specs.Taken.{TakenLog}
use Rattle.client_recover.proofs.RefuseLaws.{refused_of, takes_of}
use Rattle.client_recover.proofs.pursuit.Pursuit.add_one_log.Goals as goal

pub returns-in-Err-clause-refused : goal.returns-in-Err-clause-refused
returns-in-Err-clause-refused g c ne =
    let v = log_reply_of c.args.reply.now in
    let u = c.args.self.now in
    let A = g.V.Verifier.accepted c.args.keys.now in
    refused_of (v.id) u.transaction (log_fault A u.cluster u.transaction v) (TakenLog v) _ (search rules)
    (ap (λ t. log_fault A u.cluster t v) (sym c.view.ensures.value) ∙ c.in-Err.ensures)

pub returns-in_ok-take_log-in-Ok-clause-taken : goal.returns-in_ok-take_log-in-Ok-clause-taken
returns-in_ok-take_log-in-Ok-clause-taken g c =
    let v = log_reply_of c.args.reply.now in
    let u = c.args.self.now in
    let A = g.V.Verifier.accepted c.args.keys.now in
    takes_of (v.id) u.transaction (log_fault A u.cluster u.transaction v) (TakenLog v) u _ (search rules)
    (ap (λ t. log_fault A u.cluster t v) (sym c.view.ensures.value) ∙ c.in-Ok.ensures) (search rules)
