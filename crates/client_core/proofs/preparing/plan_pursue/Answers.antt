use Rattle.std.proofs.Common.{rules, ◌≡◌, ◌≤◌, ◌∙◌, List, ℕ, [], ◌∷◌, ◌++◌, length, ap, sym, map, refl, subst}
use Rattle.basil_types.specs.Setting.{Setting}
use Rattle.basil_types.specs.declared.outbox.Envelope.{Envelope}
use Rattle.frame_views.specs.Values.{St1}
use Rattle.node_steps.specs.Framed.{framed}
use Rattle.node_steps.specs.Pendings.{sealed_all}
use Rattle.client_recover.specs.Pursuits.{to_involved}
use Rattle.client_core.specs.declared.work.Work.TheVariants.{Pursue}
use Rattle.client_core.specs.Preparing.{pursue_done}
use Rattle.client_core.proofs.PlanLaws.{does_so, ready_at}
use Rattle.client_core.proofs.PreparingLaws.{pursue_changes, pursue_sends}
use Rattle.client_core.proofs.preparing.plan_pursue.Goals as goal

pub returns-clause-planned : goal.returns-clause-planned
returns-clause-planned c = λ me held v s h at cluster.
    let t = c.args.formed in
    let p = c.in_ok-pending.pending in
    let out = c.make_room.new.out in
    let words = c.in_ok-pending.ensures.words in
    let signature = me.signing.gives v.pen.spent p.words in
    let none : out.messages.items ≡ [] = c.in_ok-make_room.ensures.messages ∙ c.outbox-out.ensures.messages in
    let first = λ (w : List ℕ). St1 (record { transaction = t; signature = w }) in
    does_so c.args.size (Pursue c.args.slot t p) out c.in_ok-plan.plan c.in_ok-plan.ensures.plan me.signing held v
    (pursue_done me v c.args.slot s t)
    (h, pursue_changes me v c.args.slot s t p.words at words)
    (ap (λ (w : List ℕ). w ∷ []) words)
    (ap (λ (l : List Envelope). l ++ sealed_all signature p) none
    ∙ pursue_sends c.args.seat.now.cluster t signature p.frames.items
    (c.signatures_end_frames.ensures.first_stages (record { transaction = t; signature = signature })) c.in_ok-pending.ensures.fronts
    (c.frames_reach_shards.ensures.involved c.args.seat.now.cluster t (first signature))
    ∙ ap (λ (k : Setting). map framed (to_involved k t (first signature))) (sym cluster)
    ∙ ap (λ (w : List ℕ). map framed (to_involved me.cluster t (first (me.signing.gives v.pen.spent w)))) words)

pub returns-clause-ready : goal.returns-clause-ready
returns-clause-ready c = λ left held some within.
    let p = c.in_ok-pending.pending in
    let out = c.make_room.new.out in
    let count : c.len.result ≡ length p.frames.items = search rules in
    ready_at c.args.size (Pursue c.args.slot c.args.formed p) out c.in_ok-plan.plan c.in_ok-plan.ensures.plan c.args.size left held refl (
      within,
      c.requires.good,
      record {
        left = some;
        ready = c.in_ok-pending.ensures.ready;
        messages = subst (λ (n : ℕ). n ≤ out.messages.room) count c.in_ok-make_room.ensures.message_room;
        signed = c.in_ok-make_room.ensures.word_room;
      },
    )
    (c.in_ok-make_room.ensures.signed ∙ c.outbox-out.ensures.signed)
