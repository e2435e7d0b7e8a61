use Rattle.std.proofs.Common.{◌∙◌, sym, ap, subst}
use Rattle.basil_types.specs.Setting.{Setting}
use Rattle.frame_views.specs.Shown.{message_of}
use Rattle.client_recover.specs.Pursuits.{outcome, take_frame}
use Rattle.client_recover.specs.Standing.{StandsFor}
use Rattle.std.specs.Prelude.{is_some}
use Rattle.client_core.specs.Showing.{StandsNow}
use Rattle.client_core.specs.Taking.{taken_of}
use Rattle.frame_views.specs.Fitting.{FitsMessage, bounds_of}
use Rattle.client_core.proofs.TakingLaws.{sent_ready, sent_taken}
use Rattle.client_core.proofs.taking.plan_formed.Goals as goal

pub hold_back-requires-clause-fits : goal.hold_back-requires-clause-fits
hold_back-requires-clause-fits g c =
    subst (λ (k : Setting). FitsMessage (bounds_of k) (message_of c.args.m.now))
    (sym (c.let_go.ensures.cluster ∙ c.requires.cluster)) c.requires.fits

pub returns-in-Ok-send_taken-clause-planned : goal.returns-in-Ok-send_taken-clause-planned
returns-in-Ok-send_taken-clause-planned g c = λ p h.
    let before = c.let_go.new.self in
    let now = c.hold_back.new.self in
    let h_before = c.let_go.ensures.shown p h in
    let stands : StandsFor before.pursuit p = subst (λ b. StandsNow b before.pursuit p) c.let_go.ensures.none h_before.stands in
    let taken = c.in-Ok.ensures.taken p h_before in
    let x = taken.0 in
    let same = c.in-Ok.ensures.cluster in
    let decided = c.is_decided-decided.ensures p stands ∙ ap (λ (k : Setting). is_some (outcome k p)) (sym same) in
    let sends = c.in-Ok-send_taken.ensures.sends p x decided (c.in-Ok.ensures.second ∙ h_before.second)
    (subst (λ (k : Setting). StandsFor now.pursuit (take_frame k p x).pursuit) (sym same) taken.2) in
    sent_taken (g.V.Verifier.accepted c.args.keys.now) c.args.seat.now.cluster before.pursuit.cluster now.pursuit.cluster p
    (message_of c.args.m.now) x now c.args.slot
    c.in-Ok-send_taken.sent c.plan_sent.result c.plan_sent.ensures.plan c.plan_sent.ensures.wanting
    (c.let_go.ensures.cluster ∙ c.requires.cluster) same taken.1 taken.2 sends

pub returns-in-Ok-send_taken-clause-ready : goal.returns-in-Ok-send_taken-clause-ready
returns-in-Ok-send_taken-clause-ready g c = λ size left held within.
    sent_ready size left c.args.slot held
    c.in-Ok-send_taken.sent c.plan_sent.result c.plan_sent.ensures.plan within c.in-Ok-send_taken.ensures.signed

pub returns-in-Err-clause-planned : goal.returns-in-Err-clause-planned
returns-in-Err-clause-planned g c = λ p h wanting.
    ap (λ (k : Setting). taken_of (g.V.Verifier.accepted c.args.keys.now) k p.transaction (message_of c.args.m.now))
    (sym (c.let_go.ensures.cluster ∙ c.requires.cluster))
    ∙ c.in-Err.ensures.refused p (c.let_go.ensures.shown p h) wanting
