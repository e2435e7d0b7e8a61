use Rattle.std.proofs.Common.{rules, sym, ap, ◌∙◌}
use Rattle.frame_views.specs.Shown.{voted_of}
use Rattle.client_recover.specs.Faults.{vote_fault}
use Rattle.client_recover.specs.Taken.{TakenVote}
use Rattle.client_recover.proofs.RefuseLaws.{refused_of, takes_of}
use Rattle.client_recover.proofs.pursuit.Pursuit.add_one_vote.Goals as goal

pub returns-in-Err-clause-refused : goal.returns-in-Err-clause-refused
returns-in-Err-clause-refused g c ne =
    let v = voted_of c.args.vote.now in
    let u = c.args.self.now in
    let A = g.V.Verifier.accepted c.args.keys.now in
    refused_of (v.id) u.transaction (vote_fault A u.cluster u.transaction v) (TakenVote v) _ (search rules)
    (ap (λ t. vote_fault A u.cluster t v) (sym c.view.ensures.value) ∙ c.in-Err.ensures)

pub returns-in_ok-take_vote-in-Ok-clause-taken : goal.returns-in_ok-take_vote-in-Ok-clause-taken
returns-in_ok-take_vote-in-Ok-clause-taken g c =
    let v = voted_of c.args.vote.now in
    let u = c.args.self.now in
    let A = g.V.Verifier.accepted c.args.keys.now in
    takes_of (v.id) u.transaction (vote_fault A u.cluster u.transaction v) (TakenVote v) u _ (search rules)
    (ap (λ t. vote_fault A u.cluster t v) (sym c.view.ensures.value) ∙ c.in-Ok.ensures) (search rules)
