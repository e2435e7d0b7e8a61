use Rattle.std.proofs.Common.{rules, ◌≡◌, Option, Some, map, string_bytes, subst, sym}
use Rattle.std.specs.Prelude.{IfSome}
use Rattle.command_ends.specs.Answers.{Answers, IsTold, counted}
use Rattle.command_input.specs.Commands.{command_of}
use Rattle.basil_cli.specs.Linked.{ByArguments}
use Rattle.command_input.specs.Reading.{OfBytes}
use Rattle.basil_cli.specs.Output.{outcome_with}
use Rattle.basil_cli.specs.Reading.{IsReadFor, StopsSoonFor}
use Rattle.command_input.specs.declared.command.Command.{Command}
use Rattle.basil_cli.proofs.Ends.{broken_ends, load_breaks, load_ends, load_in_part, safe_ends, safe_in_part}
use Rattle.basil_cli.proofs.Arguments.{untaken_arguments}
use Rattle.basil_cli.proofs.BatchEnds.{unbatch_ends}
use Rattle.basil_cli.proofs.run.run_alone.Goals as goal

pub returns-in-Ok-Some-clause-answers : goal.returns-in-Ok-Some-clause-answers
returns-in-Ok-Some-clause-answers g c =
    let said : command_of (map string_bytes c.args.arguments.now) ≡ Some c.in-Ok-Some.command = search rules in
    let counts = counted (g.S.Source.faults c.args.source.now) (g.S.Source.faults c.run_command.new.source)
    (g.L.Links.faults c.args.links.now) (g.L.Links.faults c.run_command.new.links) in
    subst
    (λ (o : Option Command). OfBytes (g.S.Source.left c.args.source.now) (λ bytes. ByArguments o (g.L.Links.told c.args.links.now)
    (g.L.Links.told c.run_command.new.links) (λ coming. Answers c.run_command.result (outcome_with o coming bytes) counts
    (g.K.Sink.taken c.args.sink.now) (g.K.Sink.taken c.run_command.new.sink)))) (sym said) c.run_command.ensures.answers

pub returns-in-Ok-Some-clause-safe : goal.returns-in-Ok-Some-clause-safe
returns-in-Ok-Some-clause-safe g c = λ carried e f.
    let said : command_of (map string_bytes c.args.arguments.now) ≡ Some c.in-Ok-Some.command = search rules in
    safe_ends c.run_command.result _ c.in-Ok-Some.command _ _ _ _ _ (g.S.Source.left c.args.source.now) said c.run_command.ensures.answers
    c.reports_are_safe.ensures carried e f

pub returns-in-Ok-Some-clause-safe_in_part : goal.returns-in-Ok-Some-clause-safe_in_part
returns-in-Ok-Some-clause-safe_in_part g c = λ carried e f.
    let said : command_of (map string_bytes c.args.arguments.now) ≡ Some c.in-Ok-Some.command = search rules in
    safe_in_part c.run_command.result _ c.in-Ok-Some.command _ _ _ _ _ (g.S.Source.left c.args.source.now) said
    c.run_command.ensures.answers c.reports_are_safe.ensures carried e f

pub returns-in-Ok-Some-clause-broken : goal.returns-in-Ok-Some-clause-broken
returns-in-Ok-Some-clause-broken g c = λ carried e f.
    let said : command_of (map string_bytes c.args.arguments.now) ≡ Some c.in-Ok-Some.command = search rules in
    broken_ends c.run_command.result _ c.in-Ok-Some.command _ _ _ _ _ (g.S.Source.left c.args.source.now) said
    c.run_command.ensures.answers c.breaks_are_real.ensures carried e f

pub returns-in-Ok-Some-clause-load_safe : goal.returns-in-Ok-Some-clause-load_safe
returns-in-Ok-Some-clause-load_safe g c = λ size e f.
    let said : command_of (map string_bytes c.args.arguments.now) ≡ Some c.in-Ok-Some.command = search rules in
    load_ends c.run_command.result _ c.in-Ok-Some.command _ _ _ said c.run_command.ensures.alone c.reports_are_safe.ensures size e f

pub returns-in-Ok-Some-clause-load_safe_in_part : goal.returns-in-Ok-Some-clause-load_safe_in_part
returns-in-Ok-Some-clause-load_safe_in_part g c = λ size e f.
    let said : command_of (map string_bytes c.args.arguments.now) ≡ Some c.in-Ok-Some.command = search rules in
    load_in_part c.run_command.result _ c.in-Ok-Some.command _ _ _ said c.run_command.ensures.alone c.reports_are_safe.ensures size e f

pub returns-in-Ok-Some-clause-load_broken : goal.returns-in-Ok-Some-clause-load_broken
returns-in-Ok-Some-clause-load_broken g c = λ size e f.
    let said : command_of (map string_bytes c.args.arguments.now) ≡ Some c.in-Ok-Some.command = search rules in
    load_breaks c.run_command.result _ c.in-Ok-Some.command _ _ _ said c.run_command.ensures.alone c.breaks_are_real.ensures size e f

pub returns-in-Ok-Some-clause-unbatched : goal.returns-in-Ok-Some-clause-unbatched
returns-in-Ok-Some-clause-unbatched g c = λ claim e f.
    let said : command_of (map string_bytes c.args.arguments.now) ≡ Some c.in-Ok-Some.command = search rules in
    unbatch_ends c.run_command.result _ c.in-Ok-Some.command _ _ _ _ _ (g.S.Source.left c.args.source.now) said
    c.run_command.ensures.answers c.findings_are_real.ensures claim e f

pub returns-in-Ok-Some-clause-complete : goal.returns-in-Ok-Some-clause-complete
returns-in-Ok-Some-clause-complete g c = λ read write link.
    let said : command_of (map string_bytes c.args.arguments.now) ≡ Some c.in-Ok-Some.command = search rules in
    subst
    (λ (o : Option Command). OfBytes (g.S.Source.left c.args.source.now) (λ bytes. ByArguments o (g.L.Links.told c.args.links.now)
    (g.L.Links.told c.run_command.new.links) (λ coming. IsTold c.run_command.result (outcome_with o coming bytes)))) (sym said)
    (c.run_command.ensures.complete read write link)

pub returns-in-Ok-Some-clause-through : goal.returns-in-Ok-Some-clause-through
returns-in-Ok-Some-clause-through g c = λ reads ended.
    let said : command_of (map string_bytes c.args.arguments.now) ≡ Some c.in-Ok-Some.command = search rules in
    subst
    (λ (o : Option Command). IfSome (g.S.Source.left c.args.source.now) (λ bytes. ByArguments o (g.L.Links.told c.args.links.now)
    (g.L.Links.told c.run_command.new.links) (λ coming. IsReadFor o coming bytes (g.S.Source.left c.run_command.new.source)))) (sym said)
    (c.run_command.ensures.through (search rules) ended)

pub returns-in-Ok-Some-clause-soon : goal.returns-in-Ok-Some-clause-soon
returns-in-Ok-Some-clause-soon g c =
    let said : command_of (map string_bytes c.args.arguments.now) ≡ Some c.in-Ok-Some.command = search rules in
    subst
    (λ (o : Option Command). IfSome (g.S.Source.left c.args.source.now) (λ bytes. ByArguments o (g.L.Links.told c.args.links.now)
    (g.L.Links.told c.run_command.new.links) (λ coming. StopsSoonFor o coming bytes (g.S.Source.left c.run_command.new.source))))
    (sym said) c.run_command.ensures.soon

pub returns-in-Err-clause-soon : goal.returns-in-Err-clause-soon
returns-in-Err-clause-soon g c =
    untaken_arguments (command_of (map string_bytes c.args.arguments.now))
    (g.L.Links.told c.args.links.now) (g.S.Source.left c.args.source.now)
