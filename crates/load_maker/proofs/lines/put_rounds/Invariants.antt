use Rattle.std.proofs.Common.{◌≡◌, ◌++◌}
use Rattle.load_maker.specs.Loads.{text_of, rounds}
use Rattle.load_maker.proofs.lines.put_rounds.Given as goal

abbrev pub invariant-loop : goal.invariant-loop
invariant-loop l = l.out.items ≡ l.fn.out.items ++ text_of (rounds l.counter)
