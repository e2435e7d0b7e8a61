use Rattle.std.proofs.Common.{arith, ap, length}
use Rattle.basil_types.proofs.ListLaws.{none_left, steps, never_fails}
use Rattle.frame_views.specs.Fitting.{after_log, widest}
use Rattle.frame_views.specs.Grammar.{log_at}
use Rattle.frame_views.specs.Items.{log_of}
use Rattle.frame_views.proofs.items.logs.LogsIterIterator.next.Goals as goal

pub returns-then-self-eq0-clause-steps : goal.returns-then-self-eq0-clause-steps
returns-then-self-eq0-clause-steps c =
    let none = none_left
    (log_at widest 0) after_log c.args.self.now.left c.args.self.now.floor c.args.self.now.rest.now c.if-self-eq0.true in
    (none, none)

pub invariant_of-self : goal.invariant_of-self
invariant_of-self c =
    record {
      whole = (steps (log_at widest 0) after_log c.args.self.now.left c.args.self.now.floor c.args.self.now.rest.now
          (log_of c.in-Ok.item) c.in-Ok.after.now c.if-self-eq0.false c.in-Ok.ensures c.args.self.now.whole).0;
    }

pub unreachable-requires : goal.unreachable-requires
unreachable-requires c =
    never_fails (log_at widest 0) after_log c.args.self.now.left c.args.self.now.floor c.args.self.now.rest.now c.in-Err.field-0
    c.if-self-eq0.false c.in-Err.ensures c.args.self.now.whole

pub returns-clause-steps : goal.returns-clause-steps
returns-clause-steps c =
    (steps (log_at widest 0) after_log c.args.self.now.left c.args.self.now.floor c.args.self.now.rest.now
    (log_of c.in-Ok.item) c.in-Ok.after.now c.if-self-eq0.false c.in-Ok.ensures c.args.self.now.whole).1

pub returns-clause-goes : goal.returns-clause-goes
returns-clause-goes c =
    let s = (steps (log_at widest 0) after_log c.args.self.now.left c.args.self.now.floor c.args.self.now.rest.now
    (log_of c.in-Ok.item) c.in-Ok.after.now c.if-self-eq0.false c.in-Ok.ensures c.args.self.now.whole).1 in
    record { on = λ _. (tt, tt, omega (arith, ap length s)); keeps = tt; rests = λ _. tt }
