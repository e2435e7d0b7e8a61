use Rattle.std.proofs.Common.{◌∙◌, refl, ◌<◌, ℕ, length, sym, subst}
use Rattle.std.specs.Prelude.{Some, None}
use Rattle.client_recover.specs.Pursuits.{settle}
use Rattle.client_core.specs.Calls.{pursuit_done}
use Rattle.client_core.specs.Seats.{self_at}
use Rattle.client_core.proofs.HeldLaws.{got}
use Rattle.client_core.proofs.SettleLaws.{settle_answer}
use Rattle.client_core.proofs.ShowingLaws.{slot_open, slot_pursued}
use Rattle.client_core.proofs.settling.plan_settle.Goals as goal

pub plan_second-requires-clause-cluster : goal.plan_second-requires-clause-cluster
plan_second-requires-clause-cluster c =
    let held = c.let_go.new.self in
    let x = c.index-place.result.now in
    let within : c.args.slot < length held.slots.items = subst (λ (n : ℕ). c.args.slot < n) (sym c.let_go.ensures.count) c.requires.held in
    held.clusters c.args.slot x (got held.slots.items c.args.slot x within c.index-place.ensures)
    c.in-Some.formed c.in-Some.is ∙ c.let_go.ensures.cluster ∙ c.requires.cluster

pub returns-in-Ok-clause-answer : goal.returns-in-Ok-clause-answer
returns-in-Ok-clause-answer c = λ signing accepts v before.
    let h = c.let_go.ensures.shown v before in
    let me = self_at c.args.seat.now accepts signing in
    let held = c.let_go.new.self in
    let slot = c.args.slot in
    let x = c.index-place.result.now in
    let within : c.args.slot < length held.slots.items = subst (λ (n : ℕ). c.args.slot < n) (sym c.let_go.ensures.count) c.requires.held in
    let a = slot_pursued held v slot x h (got held.slots.items slot x within c.index-place.ensures)
    c.in-Some.formed c.in-Some.is in (
      pursuit_done v slot a.0 (settle me.cluster a.1),
      settle_answer me v slot a.0 (Some a.1) a.2 a.3,
      c.in-Ok.ensures.planned me held v a.0 a.1 h a.2 a.3 a.4 refl,
    )

pub returns-in-None-clause-answer : goal.returns-in-None-clause-answer
returns-in-None-clause-answer c = λ signing accepts v before wanting.
    let h = c.let_go.ensures.shown v before in
    let me = self_at c.args.seat.now accepts signing in
    let held = c.let_go.new.self in
    let slot = c.args.slot in
    let x = c.index-place.result.now in
    let within : c.args.slot < length held.slots.items = subst (λ (n : ℕ). c.args.slot < n) (sym c.let_go.ensures.count) c.requires.held in
    let a = slot_open held v slot x h (got held.slots.items slot x within c.index-place.ensures) c.in-None.is in
    settle_answer me v slot a.0 None a.1 a.2

pub plan_second-requires-clause-none : goal.plan_second-requires-clause-none
plan_second-requires-clause-none c =
    let held = c.let_go.new.self in
    let x = c.index-place.result.now in
    let within : c.args.slot < length held.slots.items = subst (λ (n : ℕ). c.args.slot < n) (sym c.let_go.ensures.count) c.requires.held in
    c.let_go.ensures.none x (got held.slots.items c.args.slot x within c.index-place.ensures) c.in-Some.formed c.in-Some.is
