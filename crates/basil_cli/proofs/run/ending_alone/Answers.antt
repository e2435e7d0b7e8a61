use Rattle.std.proofs.Common.{rules, ◌≡◌, false, true}
use Rattle.std.specs.Prelude.{IfSome}
use Rattle.command_input.specs.Commands.{reads}
use Rattle.command_ends.specs.Endings.{outcome_is}
use Rattle.command_input.specs.Inputs.{IsWhole}
use Rattle.command_input.specs.declared.input.Whole.TheVariants as whole
use Rattle.basil_cli.proofs.Arguments.{long_as, unread_all, untaken_all}
use Rattle.basil_cli.proofs.Wholes.{long_ended}
use Rattle.basil_cli.proofs.run.ending_alone.Goals as goal

pub returns-in_err-ending_of-clause-soon : goal.returns-in_err-ending_of-clause-soon
returns-in_err-ending_of-clause-soon g c = untaken_all c.args.command.now (g.S.Source.left c.args.source.now)

pub returns-then-not-has_input-clause-soon : goal.returns-then-not-has_input-clause-soon
returns-then-not-has_input-clause-soon g c = untaken_all c.args.command.now (g.S.Source.left c.args.source.now)

pub returns-then-not-has_input-clause-outcome : goal.returns-then-not-has_input-clause-outcome
returns-then-not-has_input-clause-outcome g c =
    let none : reads c.args.command.now ≡ false = search rules in
    unread_all c.args.command.now none (g.S.Source.left c.args.source.now) (outcome_is c.in_ok-ending_of.field-0) c.in_ok-ending_of.ensures

pub returns-in-TooLong-clause-outcome : goal.returns-in-TooLong-clause-outcome
returns-in-TooLong-clause-outcome g c =
    let left = g.S.Source.left c.args.source.now in
    let read : reads c.args.command.now ≡ true = search rules in
    let long : IfSome left (λ bytes. IsWhole whole.TooLong bytes) = search rules in
    long_ended c.args.command.now (long_as c.args.command.now c.requires.other read) left long
