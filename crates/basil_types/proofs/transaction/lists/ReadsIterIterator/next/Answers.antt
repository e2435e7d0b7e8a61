use Rattle.std.proofs.Common.{arith, ap, length}
use Rattle.basil_types.specs.Items.{read_of}
use Rattle.basil_types.specs.Parsed.{read_at}
use Rattle.basil_types.specs.Transaction.{key_of_read}
use Rattle.basil_types.proofs.ListLaws.{none_left, steps_on, goes_wrong}
use Rattle.basil_types.proofs.transaction.lists.ReadsIterIterator.next.Goals as goal

pub returns-then-self-eq0-clause-steps : goal.returns-then-self-eq0-clause-steps
returns-then-self-eq0-clause-steps c =
    let none = none_left read_at key_of_read c.args.self.now.left c.args.self.now.before.now c.args.self.now.rest.now c.if-self-eq0.true in
    (none, none)

pub invariant_of-self : goal.invariant_of-self
invariant_of-self c =
    record {
      begins =
          (steps_on read_at key_of_read c.args.self.now.left c.args.self.now.before.now c.args.self.now.rest.now
          (read_of c.in-Ok.item) c.in-Ok.after.now c.if-self-eq0.false c.in-Ok.ensures c.args.self.now.begins).0;
    }

pub unreachable-requires : goal.unreachable-requires
unreachable-requires c =
    goes_wrong read_at key_of_read c.args.self.now.left
    c.args.self.now.before.now c.args.self.now.rest.now c.in-Err.field-0 c.if-self-eq0.false c.in-Err.ensures c.args.self.now.begins

pub returns-clause-steps : goal.returns-clause-steps
returns-clause-steps c =
    (steps_on read_at key_of_read c.args.self.now.left c.args.self.now.before.now c.args.self.now.rest.now
    (read_of c.in-Ok.item) c.in-Ok.after.now c.if-self-eq0.false c.in-Ok.ensures c.args.self.now.begins).1

pub returns-clause-goes : goal.returns-clause-goes
returns-clause-goes c =
    let s = (steps_on read_at key_of_read c.args.self.now.left c.args.self.now.before.now c.args.self.now.rest.now
    (read_of c.in-Ok.item) c.in-Ok.after.now c.if-self-eq0.false c.in-Ok.ensures c.args.self.now.begins).1 in
    record { on = λ _. (tt, tt, omega (arith, ap length s)); keeps = tt; rests = λ _. tt }
