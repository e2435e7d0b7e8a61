use Rattle.std.proofs.Common.{◌≡◌, ◌++◌, ◌*◌}
use Rattle.load_maker.specs.Draws.{stream_at}
use Rattle.load_maker.specs.Loads.{header, line_text, text_of, transactions, settles}
use Rattle.load_maker.proofs.load.schedule_of.Given as goal

abbrev pub invariant-loop-before : goal.invariant-loop-before
invariant-loop-before l = record {
  text : l.text.items ≡ line_text header ++ text_of (transactions l.seed l.before);
  settled : l.settles.items ≡ text_of (settles l.seed l.before);
  stream : l.stream ≡ stream_at l.seed (4 * l.before);
}
