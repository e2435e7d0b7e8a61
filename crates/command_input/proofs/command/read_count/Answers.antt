use Rattle.std.proofs.Common.{rules, ◌≤◌, sym, ◌∙◌, arith}
use Rattle.command_input.proofs.Counts.{in_bound}
use Rattle.command_input.proofs.command.read_count.Goals as goal

pub overflow_cast-result : goal.overflow_cast-result
overflow_cast-result c =
    let small : c.in-Ok.count ≤ 2000 =
    in_bound _ 2000 c.as_bytes.result.now c.in-Ok.count (sym c.read_number_in.ensures ∙ c.in-Ok.is) in
    omega (arith, small)

pub returns-in-Ok : goal.returns-in-Ok
returns-in-Ok c = search rules

pub returns-in-Err : goal.returns-in-Err
returns-in-Err c = search rules
