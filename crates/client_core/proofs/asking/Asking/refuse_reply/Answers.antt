use Rattle.std.proofs.Common.{◌∙◌, List, ℕ, length, sym, ap, subst}
use Rattle.std.specs.Prelude.{nat_le}
use Rattle.basil_types.specs.Refusals.{Refuses}
use Rattle.client_reads.specs.Replies.{reply_fault}
use Rattle.frame_views.specs.Shown.{read_reply_of}
use Rattle.client_core.specs.Kept.{KeptRead}
use Rattle.client_core.proofs.KeepingLaws.{chosen_law}
use Rattle.client_core.proofs.ReplyingLaws.{chosen_fault, open_fault}
use Rattle.client_core.proofs.asking.Asking.refuse_reply.Goals as goal

pub returns-then-is_chosen : goal.returns-then-is_chosen
returns-then-is_chosen g c = λ r same.
    let k = c.args.seat.now.cluster in
    chosen_fault (g.V.Verifier.accepted c.args.keys.now) k c.args.seat.now.number c.args.time (read_reply_of c.args.reply.now) r
    (sym (chosen_law k r) ∙ sym (ap (λ (j : KeptRead). nat_le k.reads (length j.versions)) same)
    ∙ sym c.is_chosen.ensures ∙ c.if-is_chosen.true)

pub returns : goal.returns
returns g c = λ r same.
    let k = c.args.seat.now.cluster in
    let A = g.V.Verifier.accepted c.args.keys.now in
    let m = read_reply_of c.args.reply.now in
    let unchosen = sym (chosen_law k r) ∙ sym (ap (λ (j : KeptRead). nat_le k.reads (length j.versions)) same)
    ∙ sym c.is_chosen.ensures ∙ c.if-is_chosen.false in
    subst (Refuses c.check_reply.result)
    (ap (λ (key : List ℕ). reply_fault A k (record { key = key; time = c.args.time; client = c.args.seat.now.number }) m)
    (c.as_slice.ensures ∙ ap (λ (j : KeptRead). j.key) same)
    ∙ sym (open_fault A k c.args.seat.now.number c.args.time m r unchosen))
    c.check_reply.ensures.exact
