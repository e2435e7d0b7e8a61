use Rattle.std.proofs.Common.{◌∙◌, refl, subst, sym, ◌<◌, ℕ, length}
use Rattle.std.specs.Prelude.{Some, None}
use Rattle.client_core.specs.Seats.{self_at}
use Rattle.client_core.proofs.HeldLaws.{got}
use Rattle.client_core.proofs.InvokeLaws.{invoke_answer}
use Rattle.client_core.proofs.ShowingLaws.{slot_open, slot_pursued}
use Rattle.client_core.proofs.invoking.plan_invoke.Goals as goal

pub plan_fallback-requires-clause-cluster : goal.plan_fallback-requires-clause-cluster
plan_fallback-requires-clause-cluster c =
    let held = c.let_go.new.self in
    let x = c.index-place.result.now in
    let within : c.args.slot < length held.slots.items = subst (λ (n : ℕ). c.args.slot < n) (sym c.let_go.ensures.count) c.requires.held in
    held.clusters c.args.slot x (got held.slots.items c.args.slot x within c.index-place.ensures)
    c.in-Some.formed c.in-Some.is ∙ c.let_go.ensures.cluster ∙ c.requires.cluster

pub returns-in-Ok-clause-answer : goal.returns-in-Ok-clause-answer
returns-in-Ok-clause-answer c = λ signing accepts v before.
    let h = c.let_go.ensures.shown v before in
    let me = self_at c.args.seat.now accepts signing in
    let held = c.let_go.new.self in
    let slot = c.args.slot in
    let x = c.index-place.result.now in
    let within : c.args.slot < length held.slots.items = subst (λ (n : ℕ). c.args.slot < n) (sym c.let_go.ensures.count) c.requires.held in
    let a = slot_pursued held v slot x h (got held.slots.items slot x within c.index-place.ensures)
    c.in-Some.formed c.in-Some.is in
    let b = c.in-Ok.ensures.answer me held v a.1 h a.4 refl in
    (b.0, invoke_answer me v slot a.0 (Some a.1) a.2 a.3 ∙ b.1, b.2)

pub returns-in-Err-clause-answer : goal.returns-in-Err-clause-answer
returns-in-Err-clause-answer c = λ signing accepts v before wanting.
    let h = c.let_go.ensures.shown v before in
    let me = self_at c.args.seat.now accepts signing in
    let held = c.let_go.new.self in
    let slot = c.args.slot in
    let x = c.index-place.result.now in
    let within : c.args.slot < length held.slots.items = subst (λ (n : ℕ). c.args.slot < n) (sym c.let_go.ensures.count) c.requires.held in
    let a = slot_pursued held v slot x h (got held.slots.items slot x within c.index-place.ensures)
    c.in-Some.formed c.in-Some.is in
    invoke_answer me v slot a.0 (Some a.1) a.2 a.3 ∙ c.in-Err.ensures.answer me held v a.1 h a.4 refl wanting

pub returns-in-None-clause-answer : goal.returns-in-None-clause-answer
returns-in-None-clause-answer c = λ signing accepts v before wanting.
    let h = c.let_go.ensures.shown v before in
    let me = self_at c.args.seat.now accepts signing in
    let held = c.let_go.new.self in
    let slot = c.args.slot in
    let x = c.index-place.result.now in
    let within : c.args.slot < length held.slots.items = subst (λ (n : ℕ). c.args.slot < n) (sym c.let_go.ensures.count) c.requires.held in
    let a = slot_open held v slot x h (got held.slots.items slot x within c.index-place.ensures) c.in-None.is in
    invoke_answer me v slot a.0 None a.1 a.2

pub returns-in-Ok-clause-ready : goal.returns-in-Ok-clause-ready
returns-in-Ok-clause-ready c = λ size left. c.in-Ok.ensures.ready size left c.let_go.new.self

pub plan_fallback-requires-clause-none : goal.plan_fallback-requires-clause-none
plan_fallback-requires-clause-none c =
    let held = c.let_go.new.self in
    let x = c.index-place.result.now in
    let within : c.args.slot < length held.slots.items = subst (λ (n : ℕ). c.args.slot < n) (sym c.let_go.ensures.count) c.requires.held in
    c.let_go.ensures.none x (got held.slots.items c.args.slot x within c.index-place.ensures) c.in-Some.formed c.in-Some.is
