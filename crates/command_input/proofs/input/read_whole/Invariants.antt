use Rattle.std.proofs.Common.{◌≡◌, ◌≤◌, length}
use Rattle.std.specs.Io.KnownBytes.{Consumes}
use Rattle.command_ends.specs.Outcome.{longest_input}
use Rattle.command_input.proofs.input.read_whole.Given as goal

abbrev pub invariant-turns : goal.invariant-turns
invariant-turns g l = record {
  consumed : Consumes (g.S.Source.left l.fn.source) (g.S.Source.left l.source) l.all.items;
  faults : g.S.Source.faults l.source ≡ g.S.Source.faults l.fn.source;
  short : length l.all.items ≤ longest_input;
}
