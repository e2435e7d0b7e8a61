use Rattle.std.proofs.Common.{◌∙◌, List, ℕ, sym, ap, subst}
use Rattle.node_steps.specs.Pens.{PenValue, after_one}
use Rattle.client_core.specs.Clients.{ClientValue}
use Rattle.client_core.specs.Works.{Changes, Leaves, pursues}
use Rattle.client_core.proofs.commit.perform.Goals as goal

pub returns-in-Ask-clause-held : goal.returns-in-Ask-clause-held
returns-in-Ask-clause-held g c = λ v after pen leaves.
    let l = subst (λ w. Leaves (g.S.Signer.fixed c.args.pen.now) c.args.held.now v w after) c.in-Ask.is leaves in
    c.ask.ensures.shown v after l.0 l.1

pub returns-in-Pursue-clause-held : goal.returns-in-Pursue-clause-held
returns-in-Pursue-clause-held g c = λ v after pen leaves.
    let signing = g.S.Signer.fixed c.args.pen.now in
    let l = subst (λ w. Leaves signing c.args.held.now v w after) c.in-Pursue.is leaves in
    let signed =
    ap (λ (p : PenValue). signing.gives p.spent c.in-Pursue.pending.words) pen ∙ sym c.sign.ensures.signature
    ∙ sym c.from_vec-signature.ensures in
    let before : ClientValue = record v { pen = after_one v.pen } in
    c.pursue.ensures.shown before after (record { last = (l.0).last; slots = (l.0).slots })
    (subst (λ (s : List ℕ). Changes before c.in-Pursue.slot (pursues c.in-Pursue.formed s) after) signed l.1)

pub returns-in-Start-clause-held : goal.returns-in-Start-clause-held
returns-in-Start-clause-held g c = λ v after pen leaves.
    let l = subst (λ w. Leaves (g.S.Signer.fixed c.args.pen.now) c.args.held.now v w after) c.in-Start.is leaves in
    c.start.ensures.shown v after l.0 l.1

pub returns-in-Hold-clause-held : goal.returns-in-Hold-clause-held
returns-in-Hold-clause-held g c = λ v after pen leaves.
    let l = subst (λ w. Leaves (g.S.Signer.fixed c.args.pen.now) c.args.held.now v w after) c.in-Hold.is leaves in
    c.hold.ensures.shown v after l.0 l.1

pub returns-in-Reply-clause-held : goal.returns-in-Reply-clause-held
returns-in-Reply-clause-held g c = λ v after pen leaves.
    let l = subst (λ w. Leaves (g.S.Signer.fixed c.args.pen.now) c.args.held.now v w after) c.in-Reply.is leaves in
    c.reply.ensures.shown v after l.0 l.1

pub returns-in-Take-clause-held : goal.returns-in-Take-clause-held
returns-in-Take-clause-held g c = λ v after pen leaves.
    let l = subst (λ w. Leaves (g.S.Signer.fixed c.args.pen.now) c.args.held.now v w after) c.in-Take.is leaves in
    c.take.ensures.shown v after l.0 l.1
