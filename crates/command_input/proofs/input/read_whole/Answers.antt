use Rattle.std.proofs.Common.{rules, ◌≡◌, ◌++◌, ◌<◌, ◌≤◌, length, take}
use Rattle.command_ends.specs.Outcome.{is_too_long, longest_input}
use Rattle.command_input.specs.Reading.{longest_piece}
use Rattle.command_input.proofs.Stopping.{consumes-more, enough_through, short, stops_behind, stops_failed, stops_there, too-long}
use Rattle.command_input.proofs.input.read_whole.Goals as goal

pub returns-then-len-gt-LONGEST_INPUT-clause-through :
    goal.returns-then-len-gt-LONGEST_INPUT-clause-through
returns-then-len-gt-LONGEST_INPUT-clause-through g c =
    let piece = take c.in-Ok.count c.read.new.buf in
    let more : c.extend_from_slice.new.self.items ≡ c.turns.all.items ++ piece = search rules in
    let long : longest_input < length c.extend_from_slice.new.self.items = search rules in
    enough_through
    is_too_long
    (g.S.Source.left c.args.source.now)
    (g.S.Source.left c.read.new.self)
    c.extend_from_slice.new.self.items
    (consumes-more (g.S.Source.left c.args.source.now) (g.S.Source.left c.turns.source) (g.S.Source.left c.read.new.self)
    c.turns.all.items piece c.extend_from_slice.new.self.items more c.turns.invariant.consumed c.in-Ok.ensures.bytes.0)
    (too-long c.extend_from_slice.new.self.items long)

pub returns-in-Ok-eq0-clause-soon : goal.returns-in-Ok-eq0-clause-soon
returns-in-Ok-eq0-clause-soon g c =
    let fits : length c.read.new.buf ≤ longest_piece = search rules in
    stops_behind is_too_long (g.S.Source.left c.args.source.now) (g.S.Source.left c.turns.source) (g.S.Source.left c.read.new.self)
    c.turns.all.items c.read.new.buf c.in-Ok-eq0.field-0
    (short c.turns.all.items c.turns.invariant.short) fits c.turns.invariant.consumed c.in-Ok-eq0.ensures.bytes.0

pub returns-in-Err-clause-soon : goal.returns-in-Err-clause-soon
returns-in-Err-clause-soon g c =
    stops_failed is_too_long (g.S.Source.left c.args.source.now) (g.S.Source.left c.turns.source) (g.S.Source.left c.read.new.self)
    c.turns.all.items (short c.turns.all.items c.turns.invariant.short) c.turns.invariant.consumed c.in-Err.ensures.bytes

pub returns-then-is_err-clause-soon : goal.returns-then-is_err-clause-soon
returns-then-is_err-clause-soon g c =
    let fits : length c.read.new.buf ≤ longest_piece = search rules in
    stops_behind is_too_long (g.S.Source.left c.args.source.now) (g.S.Source.left c.turns.source) (g.S.Source.left c.read.new.self)
    c.turns.all.items c.read.new.buf c.in-Ok.count
    (short c.turns.all.items c.turns.invariant.short) fits c.turns.invariant.consumed c.in-Ok.ensures.bytes.0

pub returns-then-len-gt-LONGEST_INPUT-clause-soon :
    goal.returns-then-len-gt-LONGEST_INPUT-clause-soon
returns-then-len-gt-LONGEST_INPUT-clause-soon g c =
    let fits : length c.read.new.buf ≤ longest_piece = search rules in
    stops_behind is_too_long (g.S.Source.left c.args.source.now) (g.S.Source.left c.turns.source) (g.S.Source.left c.read.new.self)
    c.turns.all.items c.read.new.buf c.in-Ok.count
    (short c.turns.all.items c.turns.invariant.short) fits c.turns.invariant.consumed c.in-Ok.ensures.bytes.0

pub returns-clause-soon : goal.returns-clause-soon
returns-clause-soon g c =
    stops_there is_too_long (g.S.Source.left c.args.source.now) (g.S.Source.left c.turns.source) c.turns.all.items
    (short c.turns.all.items c.turns.invariant.short) c.turns.invariant.consumed
